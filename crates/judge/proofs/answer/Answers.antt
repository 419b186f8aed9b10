use Rattle.std.proofs.lemmas.Result.{IfOk-weaker}
use Rattle.judge.proofs.Closing.{refused_by, listed_by}
use Rattle.judge.proofs.answer.Goals as goal

pub returns-in-Err : goal.returns-in-Err
returns-in-Err c = IfOk-weaker c.format.result _ _ (λ out same. rw same (refused_by c.args.input.now c.in-Err.refusal c.in-Err.ensures)) c.format.ensures.ok

pub returns-in_ok-write_verdict-in-Ok : goal.returns-in_ok-write_verdict-in-Ok
returns-in_ok-write_verdict-in-Ok c =
    listed_by c.args.input.now c.in-Ok.day _ c.in-Ok.ensures (rw (← c.in_ok-out-in-Ok.ensures.ok) c.in_ok-write_verdict-in-Ok.ensures)
