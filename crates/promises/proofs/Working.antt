-- Working on from a run that was worked.
use Rattle.std.proofs.Common.{◌≡◌, ℕ, suc, ◌+◌, cond, eqb, ◌⊎◌, Ok, Err, sym, refl, ap, ◌∙◌, subst, inl, inr, arith}
use Rattle.book.specs.declared.node.Type.{«Type» as BType}
use Rattle.cool.specs.Book.{Formed}
use Rattle.cool.specs.Nodes.{Well}
use Rattle.machine.specs.declared.state.End.{End}
use Rattle.machine.specs.declared.state.End.TheVariants.{Unfinished, Finished, NullTarget, NoReading, BeyondEnds, NoRoom, NoPlace}
use Rattle.machine.specs.Ends.{end_number, end_node}
use Rattle.machine.specs.Machine.{State, Given, step, finished, Reached, one_more}
use Rattle.machine.specs.Runs.{Worked, used_up, was_finished, was_ended}
use Rattle.machine.proofs.Fits.{reached_fits, no_misfit}
use Rattle.machine.proofs.Causes.{caused, cause_range}
use Rattle.engine.specs.declared.refused.Refused.TheVariants.{Misfit}
use Rattle.engine.specs.Calls.{Answer, Lines, no_lines, and_a_line, WorkedFrom}
use Rattle.engine.specs.Calls as call

-- lines from a state that was reached
pub reached_on : {G : Given} {r q n j : ℕ} {s t : State} → Reached G r q n s → Lines G j s t → Reached G r q (n + j) t
reached_on {G} {r} {q} {n} {t = t} x (no_lines e) = let z : n + 0 ≡ n = omega arith in subst (λ k. Reached G r q k t) (sym z) (subst (Reached G r q n) e x)
reached_on {G} {r} {q} {n} {t = t} x (and_a_line {n = j} y l) = let z : n + suc j ≡ suc (n + j) = omega arith in subst (λ k. Reached G r q k t) (sym z) (one_more (reached_on x y) l)

-- an end is told by its number and its node
end_from : ℕ → ℕ → End
end_from n k =
    cond (eqb n 0) Finished
    (cond (eqb n 31) (NullTarget k)
    (cond (eqb n 32) (NoReading k)
    (cond (eqb n 33) (BeyondEnds k)
    (cond (eqb n 34) (NoRoom k)
    (cond (eqb n 35) (NoPlace k) Unfinished)))))

end_is : (e : End) → end_from (end_number e) (end_node e) ≡ e
unfolding end_from
end_is Unfinished = refl
end_is Finished = refl
end_is (NullTarget k) = refl
end_is (NoReading k) = refl
end_is (BeyondEnds k) = refl
end_is (NoRoom k) = refl
end_is (NoPlace k) = refl

pub same_end : (e f : End) → end_number e ≡ end_number f → end_node e ≡ end_node f → e ≡ f
same_end e f n k = sym (end_is e) ∙ (ap (λ i. end_from i (end_node e)) n ∙ (ap (end_from (end_number f)) k ∙ end_is f))

pub unfinished : (e : End) → end_number e ≡ 1 → e ≡ Unfinished
unfinished Unfinished h = refl
unfinished Finished h = absurd (omega arith)
unfinished (NullTarget k) h = absurd (omega arith)
unfinished (NoReading k) h = absurd (omega arith)
unfinished (BeyondEnds k) h = absurd (omega arith)
unfinished (NoRoom k) h = absurd (omega arith)
unfinished (NoPlace k) h = absurd (omega arith)

-- working is accepted, or a misfit
pub answers : {G : Given} {b n k : ℕ} {s t : State} {e : End} {a : Answer} → WorkedFrom G b s n a t k e → (a ≡ Ok tt) ⊎ (a ≡ Err Misfit)
answers (call.used_up y f i) = inl refl
answers (call.was_finished y f l i) = inl refl
answers (call.was_ended y f l i) = inl refl
answers (call.was_misfit y f l i) = inr refl

module _ {G : Given} {r q : ℕ} where
  -- a run that has not ended has used its allowance up
  pub not_ended : {b n e k : ℕ} {s : State} → Worked G r q b s n e k → e ≡ 1 → Reached G r q b s × (n ≡ b)
  not_ended (used_up x f) h = (x, refl)
  not_ended (was_finished x f l) h = absurd (omega arith)
  not_ended {s = s} (was_ended x f l) h = let c = cause_range G (caused G s f) in absurd (omega arith)

  -- one that has ended stays so with any allowance more
  pub stays_ended : {b n e k : ℕ} {s : State} (more : ℕ) → Worked G r q b s n e k → (e ≡ 1 → ⊥) → Worked G r q (b + more) s n e k
  stays_ended more (used_up x f) h = absurd (h refl)
  stays_ended more (was_finished x f l) h = was_finished x f (omega arith)
  stays_ended more (was_ended x f l) h = was_ended x f (omega arith)

  -- a run that is finished
  pub was_done : {b n e k : ℕ} {s : State} → Worked G r q b s n e k → e ≡ 0 → Reached G r q n s × (step G s ≡ finished)
  was_done (used_up x f) h = absurd (omega arith)
  was_done (was_finished x f l) h = (x, f)
  was_done {s = s} (was_ended x f l) h = let c = cause_range G (caused G s f) in absurd (omega arith)

  -- every run stands in a state that was reached
  pub was_reached : {b n e k : ℕ} {s : State} → Worked G r q b s n e k → (m : ℕ) × Reached G r q m s
  was_reached {b} (used_up x f) = (b, x)
  was_reached {n = n} (was_finished x f l) = (n, x)
  was_reached (was_ended {n = n} x f l) = (n, x)

  module _ (F : Formed G.book) (z : BType) (W : Well G.book z) where
    -- no misfit
    pub misfits_nowhere : {b n k c : ℕ} {s t : State} {e : End} {a : Answer} → Reached G r q c s → WorkedFrom G b s n a t k e → a ≡ Err Misfit → ⊥
    misfits_nowhere x (call.used_up y f i) h = let d : ◌≡◌ {A = ℕ} 0 1 = cc in omega arith
    misfits_nowhere x (call.was_finished y f l i) h = let d : ◌≡◌ {A = ℕ} 0 1 = cc in omega arith
    misfits_nowhere x (call.was_ended y f l i) h = let d : ◌≡◌ {A = ℕ} 0 1 = cc in omega arith
    misfits_nowhere x (call.was_misfit y f l i) h = no_misfit G F z W (reached_fits G F z W (reached_on x y)) f

    -- working on
    pub worked_on : {b n k c : ℕ} {s t : State} {e : End} {a : Answer} → Reached G r q c s → n ≡ c → WorkedFrom G b s n a t k e → a ≡ Ok tt → Worked G r q (c + b) t k (end_number e) (end_node e)
    worked_on {b} {n} {k} {c} {t = t} x w (call.used_up y f i) h =
        let j : c + b ≡ k = omega arith in
        subst (λ m. Worked G r q (c + b) t m 1 0) j (used_up (reached_on x y) f)
    worked_on {b} {n} {k} {c} {t = t} x w (call.was_finished {j = j} y f l i) h =
        let m : c + j ≡ k = omega arith in
        subst (λ m. Worked G r q (c + b) t m 0 0) m (was_finished (reached_on x y) f (omega arith))
    worked_on {b} {n} {k} {c} {t = t} {e} x w (call.was_ended {j = j} y f l i) h =
        let m : suc (c + j) ≡ k = omega arith in
        subst (λ m. Worked G r q (c + b) t m (end_number e) (end_node e)) m (was_ended (reached_on x y) f (omega arith))
    worked_on x w (call.was_misfit y f l i) h = let d : ◌≡◌ {A = ℕ} 0 1 = cc in absurd (omega arith)
