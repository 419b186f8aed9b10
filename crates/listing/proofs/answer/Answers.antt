use Rattle.std.proofs.lemmas.Result.{IfOk-weaker}
use Rattle.listing.proofs.Closing.{refused, listing_of}
use Rattle.listing.proofs.answer.Goals as goal

pub returns-in-Err : goal.returns-in-Err
returns-in-Err c = IfOk-weaker c.format.result _ _ (λ out same. rw same (refused c.args.input.now c.in-Err.refusal c.in-Err.ensures)) c.format.ensures.ok

pub returns-in-Ok : goal.returns-in-Ok
returns-in-Ok c = IfOk-weaker c.to_string.result _ _ (λ out same. rw same (listing_of c.args.input.now c.in-Ok.day c.in-Ok.ensures)) c.to_string.ensures.ok
