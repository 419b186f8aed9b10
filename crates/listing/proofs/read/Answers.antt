use Rattle.std.proofs.Common.{◌≡◌, true, false, arith}
use Rattle.std.proofs.lemmas.Result.{err_from_is_err_and}
use Rattle.book.specs.declared.fault.Refusal.{Refusal}
use Rattle.input.specs.Day.{wrong_input, book_bytes}
use Rattle.listing.specs.Answer.{wrong, faulty}
use Rattle.listing.proofs.read.Goals as goal

pub returns-in_err-day : goal.returns-in_err-day
returns-in_err-day c =
    let p = err_from_is_err_and c.from_residual.result c.from_residual.ensures.1 in
    let told : ◌≡◌ {A = Refusal} c.in_err-day.field-0.0 (record { number = 9; place = 0 }) = grind arith in
    let unreadable : wrong_input c.args.input.now ≡ true = grind arith in
    rw (p.1, p.2, told) (wrong unreadable)

pub returns-in_err-book : goal.returns-in_err-book
returns-in_err-book c =
    let p = err_from_is_err_and c.from_residual-in_err-book.result c.from_residual-in_err-book.ensures.1 in
    let right : wrong_input c.args.input.now ≡ false = grind arith in
    let same : c.in_ok-day.day.book.now ≡ book_bytes c.args.input.now = grind arith in
    rw (p.1, p.2) (faulty c.in_err-book.field-0.0 right (rw (← same) c.in_err-book.ensures.answer))
