use Rattle.std.proofs.Common.{arith}
use Rattle.store.proofs.Chains.{among, followed}
use Rattle.store.proofs.chained.ChainsCells.locate.Goals as goal

pub index-requires : goal.index-requires
index-requires c = let l = among _ _ _ _ _ c.requires c.loop-test.true c.loop.invariant in omega (arith, c.args.self.now.cells.ok.0)

pub loop-preserved : goal.loop-preserved
loop-preserved c = followed _ _ _ _ _ c.requires c.loop-test.true c.loop.invariant _ c.index.ensures
