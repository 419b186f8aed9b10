use Rattle.std.proofs.Common.{◌<◌, length, arith}
use Rattle.std.proofs.lemmas.List.{length-map}
use Rattle.store.specs.declared.chained.Cell.{Cell}
use Rattle.store.proofs.Chains.{cell_read, chain_rewritten}
use Rattle.store.proofs.chained.ChainsCells.set.Goals as goal

pub returns-clause-cells : goal.returns-clause-cells
returns-clause-cells c =
    let cells = c.args.self.now.cells.items in
    let n = length-map cells (λ (x : Cell). x.value) in
    let l : c.args.at < length cells = omega arith in
    chain_rewritten cells c.args.at c.args.value l _ (cell_read cells c.args.at _ l c.index_mut.ensures.value)
