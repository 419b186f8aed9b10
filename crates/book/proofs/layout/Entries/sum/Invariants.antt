use Rattle.std.proofs.Common.{◌≡◌, ◌+◌, ◌*◌, ◌≤◌}
use Rattle.book.specs.Counting.{total}
use Rattle.book.specs.Layout.{entry_word}
use Rattle.book.proofs.layout.Entries.sum.Given as goal

abbrev pub invariant-loop-i : goal.invariant-loop-i
invariant-loop-i l = (l.sum ≡ total (entry_word l.self.bytes.now (l.self.offset + l.place) l.self.size) l.i) × (l.sum ≤ 65535 * l.i)
