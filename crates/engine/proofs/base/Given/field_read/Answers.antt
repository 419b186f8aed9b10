use Rattle.std.proofs.Common.{sym, ◌∙◌}
use Rattle.store.specs.Meaning.{store}
use Rattle.machine.specs.Machine.{ends}
use Rattle.engine.proofs.Outcomes.{no_move, misfit_at, goes_on, at_handle}
use Rattle.engine.proofs.base.Given.field_read.Goals as goal

pub returns-in_err-cell-in-Handle : goal.returns-in_err-cell-in-Handle
returns-in_err-cell-in-Handle g c = λ R n ε s ρ. no_move ε _ ρ (store (g.S.ObjectStore.means c.args.objects.now)) c.from_residual.ensures ∙ sym (at_handle _ (ends 31 c.args.k) _ c.in-Handle.is ∙ sym (c.cell_of.ensures _) ∙ misfit_at _ c.in_err-cell-in-Handle.was)

pub returns-in_ok-cell-in-Handle : goal.returns-in_ok-cell-in-Handle
returns-in_ok-cell-in-Handle g c = λ R n ε s ρ. sym (at_handle _ (ends 31 c.args.k) _ c.in-Handle.is ∙ sym (c.cell_of.ensures _) ∙ goes_on _ _ c.in_ok-cell-in-Handle.was)
