-- Tables of a book's entries, and the book that they mean.
use Rattle.std.specs.Prelude.{◌≡◌, ℕ, ◌<◌, ◌≤◌, List, map, length, take, drop, None, Option}
use Rattle.std.specs.Option.{option_map}
use Rattle.std.specs.List.{slice_get}
use Rattle.book.specs.declared.entry.Class.{Class}
use Rattle.book.specs.declared.entry.Field.{Field}
use Rattle.book.specs.declared.node.Node.{Node}
use Rattle.book.specs.declared.node.«Type».{«Type» as BType}
use Rattle.book.specs.Layout.{class_count}
use Rattle.book.specs.Strips.{method_at}
use Rattle.cool.specs.Syntax.{Name}
use Rattle.cool.specs.Book.{Meth, Part, Book}
use Rattle.cool.specs.View.{root_of, view}
use Rattle.checked.specs.declared.table.Method.{Method}

-- A table holds what there is: at each number the entry with that number, and none where there is none.
abbrev pub Tabled : {A : Type 0} → (ℕ → Option A) → List A → Type 0
Tabled get table = (i : ℕ) → slice_get table i ≡ get i

-- A table with room for n entries holds those that are given, up to the first that is not there.
abbrev pub FilledBy : {A : Type 0} → (ℕ → Option A → Type 0) → ℕ → List A → Type 0
FilledBy gives n table = (length table ≤ n) × ((i : ℕ) → i < length table → gives i (slice_get table i)) × (length table < n → gives (length table) None)

-- Method m, with the roots of its strips.
abbrev pub decoded_method : List ℕ → ℕ → Option Method
decoded_method bs m =
    option_map (λ q. record { name = q.name; takes = q.parameter; gives = q.result; body = root_of q.command; result = root_of q.returned }) (method_at bs m)

-- A field and a method with their names.
abbrev pub named_field : Field → Name × BType
named_field f = (f.name, f.typed)

abbrev pub meth : Method → Meth
meth q = record { takes = q.takes; gives = q.gives; body = q.body; result = q.result }

abbrev pub named_method : Method → Name × Meth
named_method q = (q.name, meth q)

-- A class, with its own fields and methods among all.
abbrev pub part_in : List Field → List Method → Class → Part
part_in fields methods k = record {
  called = k.name;
  fields = map named_field (take k.fields (drop k.first_field fields));
  methods = map named_method (take k.methods (drop k.first_method methods));
}

-- Nodes, classes and the top root are as in the tables; the number of classes, holders and names are the file's.
abbrev pub book_in : List ℕ → List Class → List Field → List Method → List Node → ℕ → Book
book_in bs classes fields methods nodes root = record {
  node = slice_get nodes;
  class = λ c. option_map (part_in fields methods) (slice_get classes c);
  classes = class_count bs;
  root = root;
  holder = (view bs).holder;
  text = (view bs).text;
}
