use Rattle.std.proofs.Common.{sym, below_more}
use Rattle.book.proofs.nodes.check_strip.Goals as goal

pub loop-node-2-preserved : goal.loop-node-2-preserved
loop-node-2-preserved c = record {
  marked = c.loop-node-2.invariant.marked;
  right = below_more _ _ c.loop-node-2.invariant.right (λ _. sym c.if-is_wrong.ensures);
}
