use Rattle.std.proofs.Common.{eqb, rules}
use borrow.Author.Tests.{tests}
use Rattle.std.proofs.lemmas.Iterator.{YieldsList-from_slice}
use Rattle.std.proofs.lemmas.Iterator.Search.{position_from_yields_List}
use Rattle.slips.proofs.Labels.{label_is}
use Rattle.slips.proofs.print.Slip.label_of.Goals as goal

pub returns : goal.returns
returns g c =
    let found = c.args.self.now.found.now in
    let place = position_from_yields_List (eqb c.args.handle) _ _ c.position.result c.position.ensures.ran (YieldsList-from_slice found c.iter.ensures.rest) (λ x b q k. search (rules, tests)) in
    label_is found c.args.handle c.unwrap_or.result c.position.result place c.unwrap_or.ensures
