use Rattle.store.specs.Meaning.{store}
use Rattle.cool.specs.Book.{fields_of}
use Rattle.checked.specs.Checked.{book_of}
use Rattle.slips.specs.Text.{each}
use Rattle.slips.specs.Writing.{Puts}
use Rattle.slips.proofs.Lines.{pieces}
use Rattle.slips.proofs.print.Slip.put_cells.Given as goal

abbrev pub invariant-loop-i : goal.invariant-loop-i
invariant-loop-i g l =
    let B = book_of l.self.book.now in
    Puts l.initial.w l.w (each (pieces B l.self.found.now (fields_of (B.class l.class)) (store (g.S.ObjectStore.means l.self.objects.now)) l.handle) l.i)
