use Rattle.std.proofs.Common.{arith, rules, ltb-false, ltb-true, eqb-true}
use borrow.Author.Tests.{eqb-false}
use Rattle.book.specs.Names.{spelled}
use Rattle.book.proofs.Firsts.{at_first}
use Rattle.book.proofs.names.is_spelled.Goals as goal

pub returns-then-is_letter : goal.returns-then-is_letter
returns-then-is_letter c = let e = at_first spelled c.args.bytes.now (omega (arith, ltb-true, ltb-false, eqb-true, eqb-false)) in search rules
