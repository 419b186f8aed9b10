-- From a day that was read and what checking says of its book, or why there is no day, to what answers an input.
use Rattle.std.proofs.Common.{◌≡◌, ℕ, List, ◌++◌, Ok, Err, subst}
use Rattle.book.specs.declared.fault.Refusal.{Refusal}
use Rattle.book.specs.Books.{bytes_of}
use Rattle.cool.specs.Book.{Book}
use Rattle.cool.specs.View.{view}
use Rattle.checked.specs.declared.base.CheckedBook.{CheckedBook}
use Rattle.checker.specs.declared.fault.TypeFault.{TypeFault}
use Rattle.checker.specs.Causes.{number, place, refusal}
use Rattle.checked.specs.Checked.{book_of, top_type}
use Rattle.checked.specs.Checks.{Checks}
use Rattle.listing.specs.declared.ReadDay.{ReadDay}
use Rattle.listing.specs.Listing.{day_text}
use Rattle.listing.specs.Answer.{refused_line, IsRefused, wrong, faulty, IsDay}
use Rattle.judge.specs.Verdict.{type_line, Verdict, has_type, refused, Judged}
use Rattle.judge.specs.Answer.{Answers, no_input, no_book, listed}

pub refused_by : (input : List ℕ) (r : Refusal) → IsRefused input r → Answers input (refused_line r.number r.place)
refused_by input _ (wrong e) = no_input e
refused_by input _ (faulty f right first) = no_book right first

-- what checking says of a book, as its last line
pub judged_refused : (bs : List ℕ) (e : TypeFault) (r : Refusal) (old new : List ℕ) → r ≡ refusal e → Checks bs (Err e) → new ≡ old ++ refused_line r.number r.place → Judged bs old new
judged_refused bs e r old new told h same =
    record {
      line = refused_line (number e) (place e);
      verdict = refused e h.0 h.1;
      added = subst (λ (s : Refusal). new ≡ old ++ refused_line s.number s.place) told same;
    }

pub judged_typed : (bs : List ℕ) (b : CheckedBook) (old new : List ℕ) → Checks bs (Ok b) → new ≡ old ++ type_line (book_of b) (top_type b) → Judged bs old new
judged_typed bs b old new h same =
    record {
      line = type_line (view bs) (top_type b);
      verdict = has_type (top_type b) h.2;
      added = subst (λ (B : Book). new ≡ old ++ type_line B (top_type b)) h.1 same;
    }

-- the readings, the listing and the last line
pub listed_by : (input : List ℕ) (day : ReadDay) (out : List ℕ) → IsDay input day → Judged (bytes_of day.book) (day_text day.readings (bytes_of day.book)) out → Answers input out
listed_by input day out is judged =
    rw judged.added (rw (is.readings, is.book) (listed is.right is.clear (subst (λ bs. Verdict bs judged.line) is.book judged.verdict)))
