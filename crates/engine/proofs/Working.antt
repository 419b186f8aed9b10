-- A run's lines, one by one, and how working them comes out.
use Rattle.std.proofs.Common.{◌≡◌, ℕ, ◌+◌, ◌<◌, ◌≤◌, true, false, Ok, Err, Some, None, Option, sym, ap, ◌∙◌, subst, add-one, arith}
use Rattle.pile.specs.declared.base.Pile.{Pile}
use Rattle.pile.specs.Pile.{size, Kept}
use Rattle.store.specs.Meaning.{Means, store}
use Rattle.machine.specs.declared.state.Around.{Around}
use Rattle.machine.specs.declared.state.Hand.{Hand}
use Rattle.machine.specs.declared.state.Row.{Row}
use Rattle.machine.specs.declared.state.End.{End}
use Rattle.machine.specs.declared.state.End.TheVariants.{Unfinished, Finished}
use Rattle.machine.specs.Machine.{state, Given, step, Outcome}
use Rattle.engine.specs.declared.base.Run.{Run}
use Rattle.engine.specs.declared.moves.Stepped.{Stepped}
use Rattle.engine.specs.declared.moves.Stepped.TheVariants as came
use Rattle.engine.specs.declared.refused.Refused.TheVariants.{Misfit}
use Rattle.engine.specs.Runs.{rows_of, state_of, counted, gone_on, ended_with}
use Rattle.engine.specs.Calls.{Lines, and_a_line, WorkedFrom, used_up, was_finished, was_ended, was_misfit}
use Rattle.engine.specs.Moves.{Steps, at_rest}
use Rattle.engine.proofs.Unfinished.{at_rest_finished, not_at_rest}

-- The run u₀ was worked through j lines, and is u now.
pub record HasWorked (G : Given) (u₀ : Run) (p : Pile Row) (m₀ : Means) (j : ℕ) (u : Run) (q : Pile Row) (m : Means) : Type 0 where
  pub kept : Kept p q
  pub places : u.places ≡ u₀.places
  pub goes_on : u.end ≡ Unfinished
  pub steps : u.steps ≡ u₀.steps + j
  pub lines : Lines G j (state_of u₀ p m₀) (state_of u q m)

pub kept_on : {p q r : Pile Row} → Kept p q → Kept q r → Kept p r
kept_on k l = record { lent = l.lent ∙ k.lent; same_size = l.same_size ∙ k.same_size }

-- The next step: given at are the places of the rows.
module _ (at : ℕ → Given) (u₀ : Run) (p : Pile Row) (m₀ : Means) (j : ℕ) (u : Run) (q : Pile Row) (m : Means) (w : HasWorked (at (size p)) u₀ p m₀ j u q m) where
  taken : (r : Pile Row) (m' : Means) (o : Option Stepped) → Steps (at (size q)) u.hand u.around (rows_of q) (store m) o (rows_of r) (store m')
      → Steps (at (size p)) u.hand u.around (rows_of q) (store m) o (rows_of r) (store m')
  taken r m' o h = subst (λ n. Steps (at n) u.hand u.around (rows_of q) (store m) o (rows_of r) (store m')) w.kept.same_size h

  -- nothing but the count and the end has changed
  same_state : (r : Pile Row) (m' : Means) → rows_of r ≡ rows_of q → store m' ≡ store m → state_of u q m ≡ state_of u r m'
  same_state r m' e f = ap (λ τ. state u.hand u.around τ (store m)) (sym e) ∙ ap (state u.hand u.around (rows_of r)) (sym f)

  same_lines : (r : Pile Row) (m' : Means) → rows_of r ≡ rows_of q → store m' ≡ store m → Lines (at (size p)) j (state_of u₀ p m₀) (state_of u r m')
  same_lines r m' e f = subst (Lines (at (size p)) j (state_of u₀ p m₀)) (same_state r m' e f) w.lines

  same_step : (r : Pile Row) (m' : Means) (o : Outcome) → (step (at (size p)) (state_of u q m) ≡ o) × (rows_of r ≡ rows_of q) × (store m' ≡ store m)
      → step (at (size p)) (state_of u r m') ≡ o
  same_step r m' o h = sym (ap (step (at (size p))) (same_state r m' h.1 h.2)) ∙ h.0

  pub goes_on_so : (r : Pile Row) (m' : Means) (y : Hand) (δ : Around) (v : Run) → Kept q r → v ≡ gone_on y δ (counted u)
      → Steps (at (size q)) u.hand u.around (rows_of q) (store m) (Some (came.Next y δ)) (rows_of r) (store m') → HasWorked (at (size p)) u₀ p m₀ (j + 1) v r m'
  goes_on_so r m' y δ v k e h =
      let P : Run → Type 0 = λ v. HasWorked (at (size p)) u₀ p m₀ (j + 1) v r m' in
      subst P (sym e)
      (record {
        kept = kept_on w.kept k;
        places = w.places;
        goes_on = w.goes_on;
        steps = omega (arith, w.steps);
        lines = rw add-one (and_a_line w.lines (taken r m' (Some (came.Next y δ)) h));
      })

  module _ (b : ℕ) where
    pub ends_so : (r : Pile Row) (m' : Means) (e : End) (v : Run) → j < b → v ≡ ended_with e (counted u)
        → Steps (at (size q)) u.hand u.around (rows_of q) (store m) (Some (came.Ends e)) (rows_of r) (store m')
        → WorkedFrom (at (size p)) b (state_of u₀ p m₀) u₀.steps (Ok tt) (state_of v r m') v.steps v.end
    ends_so r m' e v less c h =
        let P : Run → Type 0 = λ v. WorkedFrom (at (size p)) b (state_of u₀ p m₀) u₀.steps (Ok tt) (state_of v r m') v.steps v.end in
        let here = taken r m' (Some (came.Ends e)) h in
        subst P (sym c) (was_ended (same_lines r m' here.1 here.2) (same_step r m' _ here) less (omega (arith, w.steps)))

    pub finishes_so : (r : Pile Row) (m' : Means) → j < b → Steps (at (size q)) u.hand u.around (rows_of q) (store m) (Some came.Finished) (rows_of r) (store m')
        → WorkedFrom (at (size p)) b (state_of u₀ p m₀) u₀.steps (Ok tt) (state_of u r m') u.steps Finished
    finishes_so r m' less h =
        let here = taken r m' (Some came.Finished) h in
        was_finished (same_lines r m' here.1 here.2) (same_step r m' _ here) (omega arith) w.steps

    pub misfits_so : (r : Pile Row) (m' : Means) → j < b → Steps (at (size q)) u.hand u.around (rows_of q) (store m) None (rows_of r) (store m')
        → WorkedFrom (at (size p)) b (state_of u₀ p m₀) u₀.steps (Err Misfit) (state_of u r m') u.steps u.end
    misfits_so r m' less h =
        let P : End → Type 0 = λ e. WorkedFrom (at (size p)) b (state_of u₀ p m₀) u₀.steps (Err Misfit) (state_of u r m') u.steps e in
        let here = taken r m' None h in
        subst P (sym w.goes_on) (was_misfit (same_lines r m' here.1 here.2) (same_step r m' _ here) less w.steps)

    -- the allowance is used up
    pub rests_so : at_rest u.hand (rows_of q) ≡ true → j ≤ b → WorkedFrom (at (size p)) b (state_of u₀ p m₀) u₀.steps (Ok tt) (state_of u q m) u.steps Finished
    rests_so e few = was_finished w.lines (at_rest_finished _ _ _ _ _ e) few w.steps

    pub stops_so : at_rest u.hand (rows_of q) ≡ false → j ≡ b → WorkedFrom (at (size p)) b (state_of u₀ p m₀) u₀.steps (Ok tt) (state_of u q m) u.steps u.end
    stops_so e all =
        let L : ℕ → Type 0 = λ n. Lines (at (size p)) n (state_of u₀ p m₀) (state_of u q m) in
        let P : End → Type 0 = λ e. WorkedFrom (at (size p)) b (state_of u₀ p m₀) u₀.steps (Ok tt) (state_of u q m) u.steps e in
        subst P (sym w.goes_on) (used_up (subst L all w.lines) (not_at_rest _ _ _ _ _ e) (w.steps ∙ ap (λ n. u₀.steps + n) all))
