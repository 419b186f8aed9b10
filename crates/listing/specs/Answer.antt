-- What the listing program answers to an input.
use Rattle.std.specs.Prelude.{◌≡◌, ℕ, true, false, List, ◌++◌, codes}
use Rattle.book.specs.declared.fault.Fault.{Fault}
use Rattle.book.specs.declared.fault.Refusal.{Refusal}
use Rattle.book.specs.Books.{bytes_of}
use Rattle.book.specs.Faults.{number, place, refusal, refusal_text, First, Clear}
use Rattle.input.specs.Day.{reading_count, wrong_input, book_bytes}
use Rattle.listing.specs.declared.ReadDay.{ReadDay}
use Rattle.listing.specs.Listing.{day_text}

-- The line of a refusal: its number and its place.
abbrev pub refused_line : ℕ → ℕ → List ℕ
refused_line n p = refusal_text (record { number = n; place = p }) ++ codes "\n"

-- Why an input is refused: 9 at 0 where the input itself is wrong; else the first fault of the book.
pub data IsRefused (input : List ℕ) : Refusal → Type 0 where
  wrong : wrong_input input ≡ true → IsRefused input (record { number = 9; place = 0 })
  faulty : (f : Fault) → wrong_input input ≡ false → First (book_bytes input) f → IsRefused input (refusal f)

-- The day that an input is: its readings are counted, and its book is clear of all faults.
pub record IsDay (input : List ℕ) (day : ReadDay) : Type 0 where
  pub right : wrong_input input ≡ false
  pub clear : Clear (book_bytes input)
  pub readings : day.readings ≡ reading_count input
  pub book : bytes_of day.book ≡ book_bytes input

-- The output that answers an input: refused 9 at 0 where the input itself is wrong; else the first fault of the book;
-- else the number of readings and the listing.
pub data Answers (input : List ℕ) : List ℕ → Type 0 where
  no_input : wrong_input input ≡ true → Answers input (refused_line 9 0)
  no_book : {f : Fault} → wrong_input input ≡ false → First (book_bytes input) f → Answers input (refused_line (number f) (place f))
  listed : wrong_input input ≡ false → Clear (book_bytes input) → Answers input (day_text (reading_count input) (book_bytes input))
