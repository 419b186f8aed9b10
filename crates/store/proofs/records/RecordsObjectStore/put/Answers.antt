use Rattle.store.proofs.Laid.{puts, puts_nothing}
use Rattle.store.proofs.records.RecordsObjectStore.put.Goals as goal

pub returns-in_default : goal.returns-in_default
returns-in_default g c = puts_nothing _ _ _ _ c.args.self.now.laid _ _ _ c.in_default.ensures

pub returns : goal.returns
returns g c = puts _ _ _ _ c.args.self.now.laid _ _ _ c.in-Some.ensures _ _ c.set.ensures.cells
