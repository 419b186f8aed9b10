use Rattle.std.proofs.Common.{◌≡◌, ◌≤◌, Some, None, not, is_some, length, ap, ◌∙◌, subst, arith}
use Rattle.std.specs.List.{slice_get}
use Rattle.book.specs.declared.node.Type.TheVariants.{Int}
use Rattle.pile.specs.Pile.{items, size}
use Rattle.store.specs.Meaning.{store}
use Rattle.cool.specs.Book.{fields_of}
use Rattle.checked.specs.Checked.{book_of}
use Rattle.slips.specs.Slip.{values_of}
use Rattle.slips.proofs.Cells.{cell_read, field_here, no_field_here}
use Rattle.slips.proofs.Exploring.{Going, kept_same, kept_both, going_none, going_more, going_fails, going_lacks, going_ends, going_all}
use Rattle.slips.proofs.explore.Sources.cells_fit.Goals as goal

pub loop-i-init : goal.loop-i-init
loop-i-init g c = (kept_same c.args.found.now, going_none (g.met.S.ObjectStore.sound c.args.self.now.objects.now) c.requires.there)

pub loop-i-preserved : goal.loop-i-preserved
loop-i-preserved g c =
    let S = store (g.S.ObjectStore.means c.args.self.now.objects.now) in
    let fs = fields_of ((book_of c.args.self.now.book.now).class c.args.class) in
    let places : S.count ≤ size c.loop-i.found = omega (arith, c.loop-i.invariant.0.same_size, c.requires.places) in
    let field = field_here c.fields-fields.result.now fs c.loop-i.i c.fields-fields.ensures.value _ c.loop-i-test.true in
    let cell = cell_read S c.args.handle c.loop-i.i (Some c.in-Some.value) c.in-Some.ensures in (
      kept_both c.loop-i.invariant.0 c.note.ensures.kept,
      going_more (g.met.S.ObjectStore.sound c.args.self.now.objects.now) c.loop-i.invariant.1 field cell c.if-not-value_fits.ensures places c.note.ensures.after,
    )

pub returns-in_default-clause-answer : goal.returns-in_default-clause-answer
returns-in_default-clause-answer g c =
    let fs = fields_of ((book_of c.args.self.now.book.now).class c.args.class) in
    let field = field_here c.fields-fields.result.now fs c.loop-i.i c.fields-fields.ensures.value (record { name = 0; typed = Int }) c.loop-i-test.true in
    let none = cell_read (store (g.S.ObjectStore.means c.args.self.now.objects.now)) c.args.handle c.loop-i.i None c.in_default.ensures in
    going_lacks (g.met.S.ObjectStore.sound c.args.self.now.objects.now) c.loop-i.invariant.1 field none

pub returns-then-not-value_fits-clause-answer : goal.returns-then-not-value_fits-clause-answer
returns-then-not-value_fits-clause-answer g c =
    let fs = fields_of ((book_of c.args.self.now.book.now).class c.args.class) in
    let field = field_here c.fields-fields.result.now fs c.loop-i.i c.fields-fields.ensures.value _ c.loop-i-test.true in
    let cell = cell_read (store (g.S.ObjectStore.means c.args.self.now.objects.now)) c.args.handle c.loop-i.i (Some c.in-Some.value) c.in-Some.ensures in
    going_fails (g.met.S.ObjectStore.sound c.args.self.now.objects.now) c.loop-i.invariant.1 field cell c.if-not-value_fits.ensures

pub returns : goal.returns
returns g c =
    let S = store (g.S.ObjectStore.means c.args.self.now.objects.now) in
    let s = g.met.S.ObjectStore.sound c.args.self.now.objects.now in
    let vs = values_of (S.look c.args.handle) in
    let fs = fields_of ((book_of c.args.self.now.book.now).class c.args.class) in
    let n = length c.fields-fields.result.now in
    let past : c.loop-i.i ≡ n = omega arith in
    let going = subst (Going g.N.NumberRule.rule S fs vs (items c.args.found.now) (items c.loop-i.found)) past c.loop-i.invariant.1 in
    let none : is_some (slice_get vs n) ≡ not c.is_none.result = ap is_some (cell_read S c.args.handle n _ c.value_at-2.ensures) ∙ c.is_none.ensures in
    record {
      kept = c.loop-i.invariant.0;
      answer = going_ends s going none (no_field_here c.fields-fields.result.now fs n c.fields-fields.ensures.value (omega arith));
      after = going_all s going none;
    }
