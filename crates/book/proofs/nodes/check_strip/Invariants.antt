use Rattle.std.proofs.Common.{◌≡◌, ℕ, ◌<◌, ◌≤◌, false}
use Rattle.book.specs.Faults.{wrong_node}
use Rattle.book.specs.Noted.{Marked}
use Rattle.book.proofs.nodes.check_strip.Given as goal

abbrev pub invariant-loop-node : goal.invariant-loop-node
invariant-loop-node l = Marked l.bytes l.marks l.node

abbrev pub invariant-loop-node-2 : goal.invariant-loop-node-2
invariant-loop-node-2 l = record {
  marked : Marked l.bytes l.marks l.end;
  right : (k : ℕ) → k < l.node → l.first ≤ k → wrong_node l.bytes k ≡ false;
}
