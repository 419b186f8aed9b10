use Rattle.std.proofs.Common.{Ok, Err, ap, ◌∙◌}
use Rattle.std.proofs.lemmas.Result.{err_from_is_err_and}
use Rattle.answer.specs.Worked.{not_begun, not_advanced, slipped}
use Rattle.answer.proofs.work.slip_of.Goals as goal

pub returns-in_err-run : goal.returns-in_err-run
returns-in_err-run g c =
    let e = err_from_is_err_and c.from_residual.result c.from_residual.ensures.1 in
    rw (e.1 ∙ ap Err e.2) (not_begun c.in_err-run.ensures)

pub returns-in_err-advance : goal.returns-in_err-advance
returns-in_err-advance g c =
    let e = err_from_is_err_and c.from_residual-in_err-advance.result c.from_residual-in_err-advance.ensures.1 in
    rw (e.1 ∙ ap Err e.2) (not_advanced c.in_ok-run.ensures c.in_err-advance.ensures.does (g.met.S.ObjectStore.sound c.advance.new.objects))

pub returns-in_err-slip : goal.returns-in_err-slip
returns-in_err-slip g c =
    let e = err_from_is_err_and c.from_residual-in_err-slip.result c.from_residual-in_err-slip.ensures.1 in
    rw (e.1 ∙ ap Err e.2)
    (slipped {r = Err c.in_err-slip.field-0.0} c.in_ok-run.ensures c.in_ok-advance.ensures.does (g.met.S.ObjectStore.sound c.advance.new.objects) (rw c.settle.ensures at c.in_err-slip.ensures))

pub returns : goal.returns
returns g c =
    slipped {r = Ok c.in_ok-slip.field-0} c.in_ok-run.ensures c.in_ok-advance.ensures.does (g.met.S.ObjectStore.sound c.advance.new.objects) (rw c.settle.ensures at c.in_ok-slip.ensures)
