-- What accepting a file answers: reading it, and checking the book.
use Rattle.std.specs.Prelude.{ℕ, List, Ok, Err, Result}
use Rattle.book.specs.declared.fault.Refusal.{Refusal}
use Rattle.book.specs.Faults.{First, Clear, refusal}
use Rattle.checked.specs.declared.base.CheckedBook.{CheckedBook}
use Rattle.checked.specs.declared.rejection.Rejection.{Rejection}
use Rattle.checked.specs.declared.rejection.Rejection.TheVariants.{File, Typing}
use Rattle.checker.specs.Causes.{refusal as typing_refusal}
use Rattle.checked.specs.Checks.{Checks}

-- The number and the place under which a file is refused.
abbrev pub rejection : Rejection → Refusal
rejection (File f) = refusal f
rejection (Typing e) = typing_refusal e

-- Accepted is a file that is clear of all faults and has a type; else it is refused with its first fault, or, where it has
-- none, with a cause why it has no type.
abbrev pub Accepts : List ℕ → Result CheckedBook Rejection → Type 0
Accepts bs (Ok b) = Clear bs × Checks bs (Ok b)
Accepts bs (Err (File f)) = First bs f
Accepts bs (Err (Typing e)) = Clear bs × Checks bs (Err e)
