-- What the program `slip` answers to an input.
use Rattle.std.specs.Prelude.{◌≡◌, ℕ, ◌<◌, ◌≤◌, true, false, List, length, ℤ}
use Rattle.book.specs.declared.fault.Fault.{Fault}
use Rattle.book.specs.declared.node.Type.{«Type» as BType}
use Rattle.book.specs.Faults.{number, place, First, Clear}
use Rattle.numbers.specs.Rules.{strict}
use Rattle.input.specs.Day.{wrong_input, book_bytes, readings}
use Rattle.listing.specs.Answer.{refused_line}
use Rattle.cool.specs.Book.{Book}
use Rattle.cool.specs.View.{view}
use Rattle.checker.specs.declared.fault.TypeFault.{TypeFault}
use Rattle.checker.specs.Causes.{number as typing_number, place as typing_place}
use Rattle.checked.specs.Holding.{Holds}
use Rattle.checked.specs.Accepting.{HasType, HasNoType}
use Rattle.machine.specs.declared.state.End.{End}
use Rattle.machine.specs.Ends.{end_number, end_node}
use Rattle.machine.specs.Machine.{State, Given, hand_of, store_of}
use Rattle.machine.specs.Runs.{Worked}
use Rattle.slips.specs.Slip.{slip}

-- The program works by the number rule Strict, with 256 row places.
abbrev pub program_given : Book → List ℤ → Given
program_given B day = record { book = B; rule = strict; day = day; places = 256 }

-- A run of the book, over a store for 256 records and 2,048 cells, was worked with an allowance of 200,000 steps, and this
-- is its slip.
pub data HasSlip (B : Book) (day : List ℤ) : List ℕ → Type 0 where
  has_slip : {s : State} {n : ℕ} (e : End) → Worked (program_given B day) 256 2048 200000 s n (end_number e) (end_node e) → HasSlip B day (slip B (store_of s) e n (hand_of s))

-- The output that answers an input. 9 at 0: the input itself is wrong. Else the first fault of the file. Else, where the
-- book has no type, a cause. Else its slip; 26 at 0 where that has more than 65,536 bytes.
pub data Answers (input : List ℕ) : List ℕ → Type 0 where
  no_input : wrong_input input ≡ true → Answers input (refused_line 9 0)
  no_book : {f : Fault} → wrong_input input ≡ false → First (book_bytes input) f → Answers input (refused_line (number f) (place f))
  no_type : {e : TypeFault} → wrong_input input ≡ false → Clear (book_bytes input) → Holds (view (book_bytes input)) e → HasNoType (view (book_bytes input))
      → Answers input (refused_line (typing_number e) (typing_place e))
  too_long : (z : BType) {text : List ℕ} → wrong_input input ≡ false → Clear (book_bytes input) → HasType (view (book_bytes input)) z → HasSlip (view (book_bytes input)) (readings input) text
      → 65536 < length text → Answers input (refused_line 26 0)
  printed : (z : BType) {text : List ℕ} → wrong_input input ≡ false → Clear (book_bytes input) → HasType (view (book_bytes input)) z → HasSlip (view (book_bytes input)) (readings input) text
      → length text ≤ 65536 → Answers input text
