-- What checking answers.
use Rattle.std.specs.Prelude.{◌≡◌, ℕ, List, Ok, Err, Result}
use Rattle.cool.specs.View.{view}
use Rattle.checker.specs.declared.fault.TypeFault.{TypeFault}
use Rattle.checked.specs.declared.base.CheckedBook.{CheckedBook}
use Rattle.checked.specs.Checked.{checked_bytes, book_of, top_type}
use Rattle.checked.specs.Holding.{Holds}
use Rattle.checked.specs.Accepting.{HasType, HasNoType}

-- Of the book that the bytes bs of a file are: it is accepted where it has a type, and then the checked book means it and
-- tells that type; it is refused where it has none, for a cause that holds. Which of the causes that hold is left open.
abbrev pub Checks : List ℕ → Result CheckedBook TypeFault → Type 0
Checks bs (Ok b) = (checked_bytes b ≡ bs) × (book_of b ≡ view bs) × HasType (view bs) (top_type b)
Checks bs (Err e) = Holds (view bs) e × HasNoType (view bs)
