use Rattle.std.proofs.lemmas.Result.{on_ok_weaker}
use Rattle.book.specs.Books.{bytes_of}
use Rattle.judge.proofs.Closing.{judged_refused, judged_typed}
use Rattle.judge.proofs.verdict.write_verdict.Goals as goal

pub returns-in-Err : goal.returns-in-Err
returns-in-Err c =
    on_ok_weaker c.writeln.result
    (judged_refused (bytes_of c.args.book) c.in-Err.fault c.from-refusal.result _ _ c.from-refusal.ensures c.in-Err.ensures.answer)
    c.writeln.ensures.bytes

pub returns-in-Ok : goal.returns-in-Ok
returns-in-Ok c =
    on_ok_weaker c.write_type.result (judged_typed (bytes_of c.args.book) c.in-Ok.book _ _ c.in-Ok.ensures.answer) c.write_type.ensures
