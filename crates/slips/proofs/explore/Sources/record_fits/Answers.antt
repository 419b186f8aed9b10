use Rattle.std.proofs.Common.{◌∙◌}
use Rattle.cool.proofs.Base.{unlike}
use Rattle.slips.proofs.Deciding.{there_alike, no_record_fits, no_class_fits, class_fits}
use Rattle.slips.proofs.Exploring.{kept_same}
use Rattle.slips.proofs.explore.Sources.record_fits.Goals as goal

pub returns-in_default : goal.returns-in_default
returns-in_default g c = record { kept = kept_same c.args.found.now; answer = no_record_fits _ _ _ _ c.in_default.ensures; after = unlike }

pub returns-then-is_some-clause-answer : goal.returns-then-is_some-clause-answer
returns-then-is_some-clause-answer g c =
    let there = there_alike _ c.class.result c.class.ensures c.is_some.ensures ∙ c.if-is_some.true in
    c.cells_fit.ensures.answer ∙ class_fits _ _ _ _ _ c.in-Some.ensures there

pub returns-else-is_some-clause-answer : goal.returns-else-is_some-clause-answer
returns-else-is_some-clause-answer g c =
    let none = there_alike _ c.class.result c.class.ensures c.is_some.ensures ∙ c.if-is_some.false in
    c.if-is_some.false ∙ no_class_fits _ _ _ _ _ c.in-Some.ensures none
