use Rattle.store.proofs.Chains.{chain_appends}
use Rattle.store.proofs.chained.ChainsCells.append.Goals as goal

pub returns-clause-appends : goal.returns-clause-appends
returns-clause-appends c = chain_appends _ _ _ _ c.link_up.ensures.chain
