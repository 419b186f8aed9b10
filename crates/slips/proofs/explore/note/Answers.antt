use Rattle.std.proofs.Common.{sym, ◌∙◌}
use Rattle.pile.specs.Pile.{items, size}
use Rattle.slips.proofs.Labels.{contains_is, noted_other, noted_again, noted_new}
use Rattle.slips.proofs.Exploring.{kept_same}
use Rattle.slips.proofs.explore.note.Goals as goal

pub returns-in_default : goal.returns-in_default
returns-in_default c = record {
  kept = kept_same c.args.found.now;
  after = λ _. noted_other (items c.args.found.now) c.args.value c.in_default.not-Handle;
}

pub returns-then-not-contains-clause-after : goal.returns-then-not-contains-clause-after
returns-then-not-contains-clause-after c =
    let ks = items c.args.found.now in
    let new = sym (contains_is ks c.in-Handle.handle c.contains.result c.contains.ensures) ∙ c.if-not-contains.true in
    noted_new ks (items c.push.new.self) c.args.value c.in-Handle.handle (size c.args.found.now) c.push.result c.in-Handle.is new c.push.ensures.answer c.push.ensures.after

pub returns-else-not-contains-clause-after : goal.returns-else-not-contains-clause-after
returns-else-not-contains-clause-after c =
    let ks = items c.args.found.now in
    let old = sym (contains_is ks c.in-Handle.handle c.contains.result c.contains.ensures) ∙ c.if-not-contains.false in
    λ _. noted_again ks c.args.value c.in-Handle.handle c.in-Handle.is old
