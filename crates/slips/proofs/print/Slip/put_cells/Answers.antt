use Rattle.std.proofs.Common.{◌≡◌, length, ap, arith}
use Rattle.std.proofs.lemmas.List.{length-map}
use Rattle.store.specs.Meaning.{store}
use Rattle.cool.specs.Book.{fields_of}
use Rattle.checked.specs.Checked.{book_of, named_field}
use Rattle.slips.proofs.Cells.{field_here}
use Rattle.slips.proofs.Lines.{cells_more, cells_skip, cells_all}
use Rattle.slips.proofs.Pieces.{each_none}
use Rattle.slips.proofs.print.Slip.put_cells.Goals as goal
use Rattle.slips.proofs.print.Slip.put_cells.Goals.{in-Some, in_default}

pub loop-i-init : goal.loop-i-init
loop-i-init g c = each_none _

pub loop-i-preserved : goal.loop-i-preserved
loop-i-preserved g c =
    let B = book_of c.args.self.now.book.now in
    let all = c.args.self.now.found.now in
    let S = store (g.S.ObjectStore.means c.args.self.now.objects.now) in
    let fs = fields_of (B.class c.args.class) in
    elim c.match-value_at.branch [
      | in-Some w ↦ rw w.w-is (cells_more B all fs S c.args.handle c.loop-i.i _ w.in-Some.value c.loop-i.invariant (field_here c.fields-field-items.result.now fs c.loop-i.i c.fields-field-items.ensures.value _ c.loop-i-test.true) w.in-Some.ensures w.put_field.ensures)
      | in_default w ↦ rw w.w-is (cells_skip B all fs S c.args.handle c.loop-i.i c.loop-i.invariant w.in_default.ensures)
    ]

pub returns : goal.returns
returns g c =
    let B = book_of c.args.self.now.book.now in
    let fs = fields_of (B.class c.args.class) in
    let all_gone : c.loop-i.i ≡ length fs = omega (arith, length-map c.fields-field-items.result.now named_field, ap length c.fields-field-items.ensures.value) in
    cells_all B c.args.self.now.found.now fs (store (g.S.ObjectStore.means c.args.self.now.objects.now)) c.args.handle c.loop-i.i all_gone c.loop-i.invariant
