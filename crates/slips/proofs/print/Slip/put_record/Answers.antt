use Rattle.store.specs.Meaning.{store}
use Rattle.checked.specs.Checked.{book_of}
use Rattle.slips.proofs.Lines.{no_line, put_line}
use Rattle.slips.proofs.Pieces.{no_more, ◌▸◌}
use Rattle.slips.proofs.print.Slip.put_record.Goals as goal

pub returns-in_default : goal.returns-in_default
returns-in_default g c =
    no_line (book_of c.args.self.now.book.now) c.args.self.now.found.now c.args.label (store (g.S.ObjectStore.means c.args.self.now.objects.now)) c.args.handle c.in_default.ensures

pub returns : goal.returns
returns g c =
    let name = rw c.name_of.ensures at c.put-2.ensures in
    put_line (book_of c.args.self.now.book.now) c.args.self.now.found.now c.args.label (store (g.S.ObjectStore.means c.args.self.now.objects.now)) c.args.handle c.in-Some.class c.in-Some.ensures
    (c.put_decimal.ensures ▸ c.put.ensures ▸ name ▸ c.put_cells.ensures ▸ c.put-3.ensures ▸ no_more)
