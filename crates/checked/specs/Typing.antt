-- Where nodes are typed.
use Rattle.std.specs.Prelude.{◌≡◌, ℕ, suc, true, Result}
use Rattle.book.specs.declared.node.Node.{Node}
use Rattle.book.specs.declared.node.«Type».{«Type» as BType}
use Rattle.cool.specs.Book.{Book}
use Rattle.cool.specs.Nodes.{Where}
use Rattle.checker.specs.declared.fault.TypeFault.{TypeFault}
use Rattle.checker.specs.Checking.{before, type_by, com_by, type_in, com_in}
use Rattle.checker.specs.Place.{where_of}
use Rattle.checked.specs.declared.types.Typing.{Typing}
use Rattle.checked.specs.Checked.{decoded_book}

abbrev pub book_typed : Typing → Book
book_typed t = decoded_book t.book.now

abbrev pub place_typed : Typing → Where
place_typed t = where_of t.place

-- The type of node k, and whether it is a well typed command.
unfoldable pub type_at : Typing → ℕ → Result BType TypeFault
type_at t k = type_in (suc k) (book_typed t) (place_typed t) k

unfoldable pub command_at : Typing → ℕ → Result (Unit {0}) TypeFault
command_at t k = com_in (suc k) (book_typed t) (place_typed t) k

-- Node k is n, and its parts lie before it: its type, and whether it is a well typed command, follow from theirs.
pub record NodeAt (t : Typing) (k : ℕ) (n : Node) : Type 0 where
  pub early : before k n ≡ true
  pub type_by_parts : type_at t k ≡ type_by (book_typed t) (place_typed t) k (type_at t) n
  pub command_by_parts : command_at t k ≡ com_by (book_typed t) (place_typed t) k (type_at t) (command_at t) n
