use Rattle.std.proofs.Common.{◌≡◌, ℕ, Some, None, Option, Ok, Err, sym, refl, ap, ◌∙◌, arith}
use Rattle.std.proofs.lemmas.Result.{err_from_is_err_and}
use Rattle.std.specs.Option.{ok_or}
use Rattle.engine.specs.Runs.{given_by}
use Rattle.engine.specs.Calls.{no_lines}
use Rattle.engine.proofs.Working.{goes_on_so, ends_so, finishes_so, misfits_so, rests_so, stops_so}
use Rattle.engine.proofs.base.Run.work.Goals as goal

was_some : {A E : Type 0} (o : Option A) (e : E) (a : A) → Ok a ≡ ok_or o e → o ≡ Some a
was_some None e a h = cc
was_some (Some b) e a h = cc

was_none : {A E : Type 0} (o : Option A) (e f : E) → Err f ≡ ok_or o e → (o ≡ None) × (f ≡ e)
was_none None e f h = (refl, cc)
was_none (Some b) e f h = (cc, cc)

pub loop-init : goal.loop-init
loop-init g c = record { kept = record { lent = refl; same_size = refl }; places = refl; goes_on = c.requires.open; steps = omega arith; lines = no_lines refl }

pub loop-preserved : goal.loop-preserved
loop-preserved g c =
    let at = λ (n : ℕ). given_by g.N.NumberRule.rule c.args.given.now n in
    let r = c.step-stepped.new.rows in
    let m = g.S.ObjectStore.means c.step-stepped.new.objects in
    let h = rw (was_some c.step-stepped.result _ _ c.in_ok-hand.ensures.value ∙ ap Some c.in-Next.is) at c.step-stepped.ensures.does in
    goes_on_so at _ _ _ _ _ _ _ c.loop.invariant r m c.in-Next.hand c.in-Next.around c.go_on.new.self c.step-stepped.ensures.kept c.go_on.ensures h

pub returns-in_err-hand-clause-works : goal.returns-in_err-hand-clause-works
returns-in_err-hand-clause-works g c =
    let at = λ (n : ℕ). given_by g.N.NumberRule.rule c.args.given.now n in
    let r = c.step-stepped.new.rows in
    let m = g.S.ObjectStore.means c.step-stepped.new.objects in
    let none = was_none c.step-stepped.result _ _ c.in_err-hand.ensures.value in
    let h = rw none.0 at c.step-stepped.ensures.does in
    let e = err_from_is_err_and c.from_residual.result c.from_residual.ensures.1 in
    rw (e.1 ∙ ap Err (e.2 ∙ none.1)) (misfits_so at _ _ _ _ _ _ _ c.loop.invariant c.args.allowance r m c.loop-test.true h)

pub returns-in-Ends-clause-works : goal.returns-in-Ends-clause-works
returns-in-Ends-clause-works g c =
    let at = λ (n : ℕ). given_by g.N.NumberRule.rule c.args.given.now n in
    let r = c.step-stepped.new.rows in
    let m = g.S.ObjectStore.means c.step-stepped.new.objects in
    let h = rw (was_some c.step-stepped.result _ _ c.in_ok-hand.ensures.value ∙ ap Some c.in-Ends.is) at c.step-stepped.ensures.does in
    ends_so at _ _ _ _ _ _ _ c.loop.invariant c.args.allowance r m c.in-Ends.end c.end_with.new.self c.loop-test.true c.end_with.ensures h

pub returns-in-Finished-clause-works : goal.returns-in-Finished-clause-works
returns-in-Finished-clause-works g c =
    let at = λ (n : ℕ). given_by g.N.NumberRule.rule c.args.given.now n in
    let r = c.step-stepped.new.rows in
    let m = g.S.ObjectStore.means c.step-stepped.new.objects in
    let h = rw (was_some c.step-stepped.result _ _ c.in_ok-hand.ensures.value ∙ ap Some c.in-Finished.is) at c.step-stepped.ensures.does in
    finishes_so at _ _ _ _ _ _ _ c.loop.invariant c.args.allowance r m c.loop-test.true h

pub returns-then-is_finished-clause-works : goal.returns-then-is_finished-clause-works
returns-then-is_finished-clause-works g c =
    let at = λ (n : ℕ). given_by g.N.NumberRule.rule c.args.given.now n in
    rests_so at _ _ _ _ _ _ _ c.loop.invariant c.args.allowance (sym c.is_finished.ensures ∙ c.if-is_finished.true) c.loop.auto.counter-end

pub returns-else-is_finished-clause-works : goal.returns-else-is_finished-clause-works
returns-else-is_finished-clause-works g c =
    let at = λ (n : ℕ). given_by g.N.NumberRule.rule c.args.given.now n in
    stops_so at _ _ _ _ _ _ _ c.loop.invariant c.args.allowance (sym c.is_finished.ensures ∙ c.if-is_finished.false) (omega arith)
