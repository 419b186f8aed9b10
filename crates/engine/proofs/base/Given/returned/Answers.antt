use Rattle.std.proofs.Common.{sym, ap, ◌∙◌}
use Rattle.store.specs.Meaning.{store}
use Rattle.checked.specs.Checked.{book_of, meth}
use Rattle.std.specs.Option.{option_map}
use Rattle.engine.proofs.Outcomes.{no_move, misfit_at, goes_on}
use Rattle.engine.proofs.Recorded.{by_method}
use Rattle.engine.proofs.base.Given.returned.Goals as goal

pub returns-in_err-object : goal.returns-in_err-object
returns-in_err-object g c = λ R n k s ρ. no_move c.args.around _ ρ (store (g.S.ObjectStore.means c.args.objects.now)) c.from_residual.ensures ∙ sym (misfit_at _ c.in_err-object.was)

pub returns-in_err-method : goal.returns-in_err-method
returns-in_err-method g c = λ R n k s ρ. no_move c.args.around _ ρ (store (g.S.ObjectStore.means c.args.objects.now)) c.from_residual-in_err-method.ensures ∙ sym (goes_on _ _ c.in_ok-object.was ∙ by_method (book_of c.args.self.now.book.now) _ c.args.name _ ∙ misfit_at _ (sym c.method_of.ensures ∙ ap (option_map meth) c.in_err-method.was))

pub returns : goal.returns
returns g c = λ R n k s ρ. sym (goes_on _ _ c.in_ok-object.was ∙ by_method (book_of c.args.self.now.book.now) _ c.args.name _ ∙ goes_on _ _ (sym c.method_of.ensures ∙ ap (option_map meth) c.in_ok-method.was))
