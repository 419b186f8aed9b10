use Rattle.pile.specs.Pile.{items, Kept}
use Rattle.store.specs.Meaning.{store}
use Rattle.cool.specs.Book.{fields_of}
use Rattle.checked.specs.Checked.{book_of}
use Rattle.slips.specs.Slip.{values_of}
use Rattle.slips.proofs.Exploring.{Going}
use Rattle.slips.proofs.explore.Sources.cells_fit.Given as goal

abbrev pub invariant-loop-i : goal.invariant-loop-i
invariant-loop-i g l =
    let S = store (g.S.ObjectStore.means l.self.objects.now) in
    Kept l.initial.found l.found
    × Going g.N.NumberRule.rule S (fields_of ((book_of l.self.book.now).class l.class)) (values_of (S.look l.handle)) (items l.initial.found) (items l.found) l.i
