-- What the listing program answers to an input.
use Rattle.std.specs.Prelude.{◌≡◌, ℕ, true, false, List, ◌++◌}
use Rattle.book.specs.declared.fault.Fault.{Fault}
use Rattle.book.specs.Faults.{number, place, First, Clear}
use Rattle.input.specs.Day.{reading_count, wrong_input, book_bytes}
use Rattle.listing.specs.Listing.{day_text}
use Rattle.listing.specs.Answer.{refused_line}
use Rattle.judge.specs.Verdict.{Verdict}

-- The output that answers an input: refused 9 at 0 where the input itself is wrong; else the first fault of the book;
-- else the number of readings, the listing, and what checking says of the book.
pub data Answers (input : List ℕ) : List ℕ → Type 0 where
  no_input : wrong_input input ≡ true → Answers input (refused_line 9 0)
  no_book : {f : Fault} → wrong_input input ≡ false → First (book_bytes input) f → Answers input (refused_line (number f) (place f))
  listed : {line : List ℕ} → wrong_input input ≡ false → Clear (book_bytes input) → Verdict (book_bytes input) line
      → Answers input (day_text (reading_count input) (book_bytes input) ++ line)
