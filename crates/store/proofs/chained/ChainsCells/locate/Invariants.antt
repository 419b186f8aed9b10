use Rattle.std.proofs.Common.{◌≡◌}
use Rattle.store.specs.Chaining.{link}
use Rattle.store.proofs.chained.ChainsCells.locate.Given as goal

abbrev pub invariant-loop : goal.invariant-loop
invariant-loop l = l.at ≡ link l.self.cells.items l.first l.counter
