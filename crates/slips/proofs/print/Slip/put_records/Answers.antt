use Rattle.std.proofs.Common.{◌≡◌, length, subst, arith}
use Rattle.std.proofs.lemmas.Option.{slice_get-get_or}
use Rattle.store.specs.Meaning.{store}
use Rattle.checked.specs.Checked.{book_of}
use Rattle.slips.specs.Text.{each}
use Rattle.slips.specs.Writing.{Puts}
use Rattle.slips.proofs.Lines.{lines, lines_more}
use Rattle.slips.proofs.Pieces.{each_none}
use Rattle.slips.proofs.print.Slip.put_records.Goals as goal

pub loop-i-init : goal.loop-i-init
loop-i-init g c = each_none _

pub loop-i-preserved : goal.loop-i-preserved
loop-i-preserved g c =
    let all = c.args.self.now.found.now in
    lines_more (book_of c.args.self.now.book.now) (store (g.S.ObjectStore.means c.args.self.now.objects.now)) all c.loop-i.i _ c.loop-i.invariant (slice_get-get_or all c.loop-i.i _ c.loop-i-test.true) c.put_record.ensures

pub returns : goal.returns
returns g c =
    let all = c.args.self.now.found.now in
    let f = lines (book_of c.args.self.now.book.now) (store (g.S.ObjectStore.means c.args.self.now.objects.now)) all in
    let past : c.loop-i.i ≡ length all = omega arith in
    subst (λ n. Puts c.args.w.now c.loop-i.w (each f n)) past c.loop-i.invariant
