use Rattle.std.proofs.Common.{sym, ◌∙◌}
use Rattle.engine.specs.Calls.{goes_too_far, other_rows, stays, works}
use Rattle.engine.proofs.calls.advance.Goals as goal

pub returns-then-is_too_far-clause-does : goal.returns-then-is_too_far-clause-does
returns-then-is_too_far-clause-does g c = goes_too_far (sym c.is_too_far.ensures ∙ c.if-is_too_far.true)

pub returns-then-places-run-clause-does : goal.returns-then-places-run-clause-does
returns-then-places-run-clause-does g c = other_rows (sym c.is_too_far.ensures ∙ c.if-is_too_far.false) (λ e. c.if-places-run.true (c.places.ensures ∙ e))

pub returns-in-Unfinished-clause-does : goal.returns-in-Unfinished-clause-does
returns-in-Unfinished-clause-does g c =
    works (sym c.is_too_far.ensures ∙ c.if-is_too_far.false) (sym c.places.ensures ∙ c.if-places-run.false) c.in-Unfinished.is c.work.ensures.works c.work.ensures.places c.work.ensures.kept

pub returns-in_default-clause-does : goal.returns-in_default-clause-does
returns-in_default-clause-does g c = stays (sym c.is_too_far.ensures ∙ c.if-is_too_far.false) (sym c.places.ensures ∙ c.if-places-run.false) c.in_default.not-Unfinished
