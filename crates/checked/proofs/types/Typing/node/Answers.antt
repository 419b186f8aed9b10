use Rattle.std.proofs.Common.{sym, ◌∙◌}
use Rattle.checked.proofs.Arms.{node_at}
use Rattle.checked.proofs.types.Typing.node.Goals as goal

pub returns-in-Some-clause-ok : goal.returns-in-Some-clause-ok
returns-in-Some-clause-ok c = node_at c.args.self.now c.args.k c.in-Some.node (sym c.node.ensures ∙ c.in-Some.is) (sym c.are_before.ensures ∙ c.if-are_before.true)
