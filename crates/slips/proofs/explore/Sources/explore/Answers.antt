use Rattle.std.proofs.Common.{ap, ◌∙◌, arith}
use Rattle.store.specs.Meaning.{store}
use Rattle.checked.specs.Checked.{top_type}
use Rattle.slips.specs.Fitting.{fits}
use Rattle.slips.proofs.Cells.{few_records}
use Rattle.slips.proofs.Exploring.{kept_same, kept_both, value_fails, exploring_none, exploring_low, exploring_more, exploring_fails, exploring_all}
use Rattle.slips.proofs.explore.Sources.explore.Goals as goal

pub returns-then-not-value_fits : goal.returns-then-not-value_fits
returns-then-not-value_fits g c =
    let S = store (g.S.ObjectStore.means c.args.self.now.objects.now) in
    let unfit = c.if-not-value_fits.ensures ∙ ap (fits g.N.NumberRule.rule S c.args.value) c.top_type.ensures.value in
    record { kept = kept_same c.args.found.now; answer = value_fails (g.met.S.ObjectStore.sound c.args.self.now.objects.now) (top_type c.args.self.now.book.now) unfit }

pub loop-handle-init : goal.loop-handle-init
loop-handle-init g c = (
  kept_same c.note.new.found,
  exploring_none (g.met.S.ObjectStore.sound c.args.self.now.objects.now) c.top_type.result c.requires.empty c.if-not-value_fits.ensures c.requires.places c.note.ensures.after,
)

pub record_fits-requires : goal.record_fits-requires
record_fits-requires g c = record { there = c.loop-handle.invariant.1.there; places = omega (arith, c.requires.places, c.loop-handle.invariant.0.same_size, c.note.ensures.kept.same_size) }

pub overflow_add-i : goal.overflow_add-i
overflow_add-i g c =
    omega (arith, few_records (g.S.ObjectStore.means c.args.self.now.objects.now) (g.met.S.ObjectStore.sound c.args.self.now.objects.now), c.loop-handle.invariant.1.low)

pub loop-handle-smaller : goal.loop-handle-smaller
loop-handle-smaller g c =
    let low = exploring_low (g.met.S.ObjectStore.sound c.args.self.now.objects.now) c.top_type.result c.loop-handle.invariant.1 c.in-Some.ensures in
    omega (arith, low)

pub loop-handle-preserved : goal.loop-handle-preserved
loop-handle-preserved g c =
    let noted = c.record_fits.ensures.after c.if-not-record_fits.false in (
      kept_both c.loop-handle.invariant.0 c.record_fits.ensures.kept,
      exploring_more (g.met.S.ObjectStore.sound c.args.self.now.objects.now) c.top_type.result c.loop-handle.invariant.1 c.in-Some.ensures c.if-not-record_fits.ensures.answer noted,
    )

pub returns-then-not-record_fits : goal.returns-then-not-record_fits
returns-then-not-record_fits g c = record {
  kept = kept_both c.note.ensures.kept (kept_both c.loop-handle.invariant.0 c.record_fits.ensures.kept);
  answer = exploring_fails (g.met.S.ObjectStore.sound c.args.self.now.objects.now) (top_type c.args.self.now.book.now) c.loop-handle.invariant.1 c.in-Some.ensures c.if-not-record_fits.ensures.answer;
}

pub returns : goal.returns
returns g c =
    let S = store (g.S.ObjectStore.means c.args.self.now.objects.now) in
    let fit = c.if-not-value_fits.ensures ∙ ap (fits g.N.NumberRule.rule S c.args.value) c.top_type.ensures.value in
    record {
      kept = kept_both c.note.ensures.kept c.loop-handle.invariant.0;
      answer = exploring_all (g.met.S.ObjectStore.sound c.args.self.now.objects.now) (top_type c.args.self.now.book.now) c.loop-handle.invariant.1 fit c.in_default.ensures;
    }
