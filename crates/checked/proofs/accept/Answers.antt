use Rattle.std.proofs.lemmas.Result.{err_from_is_err_and}
use Rattle.checked.proofs.accept.Goals as goal

pub returns-in_err-check : goal.returns-in_err-check
returns-in_err-check c =
    let p = err_from_is_err_and c.from_residual-in_err-check.result c.from_residual-in_err-check.ensures.1 in
    let (same, clear) = c.in_ok-read.ensures.answer in
    rw (p.1, p.2, ← same) (rw same clear, c.in_err-check.ensures.answer)
