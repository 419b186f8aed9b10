use Rattle.std.proofs.Common.{◌-◌}
use Rattle.pile.specs.Pile.{items, Kept}
use Rattle.store.specs.Meaning.{store}
use Rattle.checked.specs.Checked.{book_of}
use Rattle.slips.proofs.Exploring.{Exploring}
use Rattle.slips.proofs.explore.Sources.explore.Given as goal

abbrev pub invariant-loop-handle : goal.invariant-loop-handle
invariant-loop-handle g l =
    Kept l.initial.found l.found
    × Exploring (book_of l.self.book.now) g.N.NumberRule.rule (store (g.S.ObjectStore.means l.self.objects.now)) l.value (items l.found) l.i

abbrev pub decreases-loop-handle : goal.decreases-loop-handle
decreases-loop-handle g l = (store (g.S.ObjectStore.means l.self.objects.now)).count - l.i
