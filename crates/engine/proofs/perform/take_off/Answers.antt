use Rattle.std.proofs.Common.{reverse, refl, ap, ◌∙◌}
use Rattle.pile.specs.Pile.{items}
use Rattle.engine.proofs.TopFirst.{off_is}
use Rattle.engine.proofs.perform.take_off.Goals as goal

pub returns : goal.returns
returns c = record { kept = c.pop.ensures.kept; after = ap reverse c.pop.ensures.after ∙ off_is (items c.args.rows.now) _ refl }
