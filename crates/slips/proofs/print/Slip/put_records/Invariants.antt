use Rattle.store.specs.Meaning.{store}
use Rattle.checked.specs.Checked.{book_of}
use Rattle.slips.specs.Text.{each}
use Rattle.slips.specs.Writing.{Puts}
use Rattle.slips.proofs.Lines.{lines}
use Rattle.slips.proofs.print.Slip.put_records.Given as goal

abbrev pub invariant-loop-i : goal.invariant-loop-i
invariant-loop-i g l =
    Puts l.initial.w l.w (each (lines (book_of l.self.book.now) (store (g.S.ObjectStore.means l.self.objects.now)) l.self.found.now) l.i)
