use Rattle.std.specs.Fmt.{HasWritten, IsPlainFormatter}
use Rattle.book.specs.Books.{bytes_of}
use Rattle.listing.specs.Text.{each}
use Rattle.listing.proofs.lines.write_entries.Given as goal

abbrev pub invariant-loop-i : goal.invariant-loop-i
invariant-loop-i g l =
    IsPlainFormatter l.initial.f
    → HasWritten g.W.Write.write_str_gives l.initial.f (each (g.E.Entry.lines (bytes_of l.book)) l.first l.i) l.f
