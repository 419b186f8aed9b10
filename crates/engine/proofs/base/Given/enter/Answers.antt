use Rattle.std.proofs.Common.{sym, ap, ◌∙◌}
use Rattle.store.specs.Meaning.{store}
use Rattle.checked.specs.Checked.{meth}
use Rattle.std.specs.Option.{option_map}
use Rattle.machine.specs.Machine.{null_or}
use Rattle.engine.specs.Runs.{book_in}
use Rattle.engine.proofs.Outcomes.{no_move, misfit_at, goes_on}
use Rattle.engine.proofs.Recorded.{by_method}
use Rattle.engine.proofs.base.Given.enter.Goals as goal

pub returns-in_err-method : goal.returns-in_err-method
unfolding null_or
returns-in_err-method g c = λ R n k ε s ρ. no_move ε _ ρ (store (g.S.ObjectStore.means c.args.objects.now)) c.from_residual.ensures ∙ sym (by_method (book_in c.args.self.now) _ c.args.name _ ∙ misfit_at _ (sym c.method_of.ensures ∙ ap (option_map meth) c.in_err-method.was))

pub returns : goal.returns
unfolding null_or
returns g c = λ R n k ε s ρ. sym (by_method (book_in c.args.self.now) _ c.args.name _ ∙ goes_on _ _ (sym c.method_of.ensures ∙ ap (option_map meth) c.in_ok-method.was))
