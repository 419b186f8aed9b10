use Rattle.std.proofs.Common.{sym, ap, ◌∙◌}
use Rattle.store.specs.Meaning.{store}
use Rattle.checked.specs.Checked.{book_of}
use Rattle.machine.specs.Machine.{or_misfit}
use Rattle.engine.proofs.Outcomes.{misfit_at}
use Rattle.engine.proofs.Recorded.{no_cell, a_cell}
use Rattle.engine.proofs.base.Given.cell_of.Goals as goal

pub returns-in_err-place : goal.returns-in_err-place
returns-in_err-place g c = λ f. misfit_at f c.from_residual.ensures ∙ sym (no_cell (book_of c.args.self.now.book.now) c.args.name (λ i w. f w) ((store (g.S.ObjectStore.means c.args.objects.now)).look c.args.handle) (sym c.place_of.ensures ∙ c.in_err-place.was))

pub returns : goal.returns
returns g c = λ f. ap (λ o. or_misfit o f) c.value_at.ensures ∙ sym (a_cell (book_of c.args.self.now.book.now) c.args.name (λ i w. f w) (store (g.S.ObjectStore.means c.args.objects.now)) c.args.handle c.in_ok-place.place (sym c.place_of.ensures ∙ c.in_ok-place.was))
