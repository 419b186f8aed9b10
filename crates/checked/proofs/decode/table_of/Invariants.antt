use Rattle.std.proofs.Common.{◌≡◌, ℕ, ◌<◌, length}
use Rattle.std.specs.List.{slice_get}
use Rattle.checked.proofs.decode.table_of.Given as goal

abbrev pub invariant-loop-i : goal.invariant-loop-i
invariant-loop-i g l = (length l.table.items ≡ l.i) × ((k : ℕ) → k < length l.table.items → goal.F-post g l.read k (slice_get l.table.items k))
