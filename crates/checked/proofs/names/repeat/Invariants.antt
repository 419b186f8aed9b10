use Rattle.std.proofs.Common.{◌≡◌, ℕ, ◌<◌, map, Some}
use Rattle.std.specs.List.{slice_get}
use Rattle.cool.specs.Syntax.{Name}
use Rattle.checked.proofs.names.repeat.Given as goal

abbrev pub invariant-loop-j : goal.invariant-loop-j
invariant-loop-j g l = (k i : ℕ) (n : Name) → k < l.j → i < k → slice_get (map g.T.Named.called l.entries) i ≡ Some n → slice_get (map g.T.Named.called l.entries) k ≡ Some n → ⊥
