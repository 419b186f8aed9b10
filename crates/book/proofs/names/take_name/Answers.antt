use Rattle.std.proofs.Common.{arith, rules, ltb-false, ltb-true, eqb-true}
use borrow.Author.Tests.{eqb-false}
use Rattle.book.specs.Names.{cut}
use Rattle.book.proofs.Firsts.{at_first}
use Rattle.book.proofs.names.take_name.Goals as goal

pub returns-then-is_spelled : goal.returns-then-is_spelled
returns-then-is_spelled c = let e = at_first cut c.args.bytes.now (omega (arith, ltb-true, ltb-false, eqb-true, eqb-false)) in search rules

pub returns-else-is_spelled : goal.returns-else-is_spelled
returns-else-is_spelled c = let e = at_first cut c.args.bytes.now (omega (arith, ltb-true, ltb-false, eqb-true, eqb-false)) in search rules
