use Rattle.std.proofs.Common.{sym, ◌∙◌}
use Rattle.store.specs.Meaning.{store}
use Rattle.machine.specs.Machine.{null_or}
use Rattle.engine.specs.Runs.{book_in}
use Rattle.engine.proofs.Outcomes.{no_move}
use Rattle.engine.proofs.Recorded.{no_cell, a_cell, if_there}
use Rattle.engine.proofs.base.Given.write.Goals as goal

pub returns-in_err-place : goal.returns-in_err-place
unfolding null_or
returns-in_err-place g c = λ R n k ε s ρ. no_move ε _ ρ (store (g.S.ObjectStore.means c.args.objects.now)) c.from_residual.ensures ∙ sym (no_cell (book_in c.args.self.now) c.args.name _ _ (sym c.place_of.ensures ∙ c.in_err-place.was))

pub returns : goal.returns
unfolding null_or
returns g c = λ R n k ε s ρ. sym (a_cell (book_in c.args.self.now) c.args.name _ (store (g.S.ObjectStore.means c.args.objects.now)) _ c.in_ok-place.place (sym c.place_of.ensures ∙ c.in_ok-place.was) ∙ if_there _ _)
