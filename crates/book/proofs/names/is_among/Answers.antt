use Rattle.std.proofs.Common.{rules}
use Rattle.book.proofs.Firsts.{any_taken}
use Rattle.book.proofs.names.is_among.Goals as goal

pub returns : goal.returns
returns c = any_taken _ _ c.args.bytes.now c.args.name.now c.args.n _ c.any.new.self c.any.result (λ x q miss. search rules) (λ x q hit. search rules) c.take.result (search rules) (search rules) c.any.ensures.ran
