-- Records by place, as the store has them, and by field name, as COOL's heaps have them.
use Rattle.std.specs.Prelude.{false, List, [], ◌∷◌, pos, Some, None, Option}
use Rattle.std.specs.Option.{option_map}
use Rattle.book.specs.declared.node.Type.{«Type» as BType}
use Rattle.book.specs.declared.node.Type.TheVariants as T
use Rattle.store.specs.declared.Value.{Value}
use Rattle.store.specs.declared.Value.TheVariants.{Int, Boolean, Null}
use Rattle.store.specs.Meaning.{Rec, Store}
use Rattle.cool.specs.Syntax.{Name}
use Rattle.cool.specs.Dynamic.{Record, Object, object, Heap}
use Rattle.cool.specs.Book.{Part, Book}
-- The place of a field, counted from 0, stands with the book.
pub use Rattle.cool.specs.Book.{place}

-- A field's first value: 0, false or null.
abbrev pub first_value : BType → Value
first_value T.Int = Int (pos 0)
first_value T.Boolean = Boolean false
first_value (T.Class c) = Null

abbrev pub first_values : List (Name × BType) → List Value
first_values [] = []
first_values (x ∷ fs) = first_value x.1 ∷ first_values fs

-- Values in order, each with its field's name.
abbrev pub named : List (Name × BType) → List Value → Record
named [] vs = []
named (x ∷ fs) [] = []
named (x ∷ fs) (v ∷ vs) = (x.0, v) ∷ named fs vs

-- A record as an object: its class by name, its values by field names.
abbrev pub object_of : Part → List Value → Object
object_of p vs = object p.called (named p.fields vs)

abbrev pub by_names : Book → Option Rec → Option Object
by_names B None = None
by_names B (Some x) = option_map (λ p. object_of p x.values) (B.class x.class)

-- The heap of a store: the handles are its locations.
abbrev pub heap_of : Book → Store → Heap
heap_of B S = λ l. by_names B (S.look l)
