use Rattle.std.proofs.Common.{◌≡◌, ℕ, ◌<◌, false}
use Rattle.book.specs.Counting.{total}
use Rattle.book.specs.Layout.{method_nodes}
use Rattle.book.specs.Faults.{wrong_node}
use Rattle.book.specs.Noted.{Marked}
use Rattle.book.proofs.nodes.check_strips.Given as goal

abbrev pub invariant-loop-m : goal.invariant-loop-m
invariant-loop-m l = record {
  first : l.first ≡ total (method_nodes l.bytes) l.m;
  marked : Marked l.bytes l.marks l.first;
  right : (k : ℕ) → k < l.first → wrong_node l.bytes k ≡ false;
}
