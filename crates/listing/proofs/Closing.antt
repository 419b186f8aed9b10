-- From a day that was read, or why there is none, to what answers an input.
use Rattle.std.proofs.Common.{ℕ, List}
use Rattle.book.specs.declared.fault.Refusal.{Refusal}
use Rattle.book.specs.Books.{bytes_of}
use Rattle.listing.specs.declared.ReadDay.{ReadDay}
use Rattle.listing.specs.Listing.{day_text}
use Rattle.listing.specs.Answer.{refused_line, IsRefused, wrong, faulty, IsDay, Answers, no_input, no_book, listed}

pub refused : (input : List ℕ) (r : Refusal) → IsRefused input r → Answers input (refused_line r.number r.place)
refused input _ (wrong e) = no_input e
refused input _ (faulty f right first) = no_book right first

pub listing_of : (input : List ℕ) (day : ReadDay) → IsDay input day → Answers input (day_text day.readings (bytes_of day.book))
listing_of input day is = rw (is.readings, is.book) (listed is.right is.clear)
