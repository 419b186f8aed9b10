-- An array filled by calls that change nothing.
use Rattle.std.proofs.Common.{◌≡◌, ℕ, zero, suc, ◌+◌, ◌<◌, ◌≤◌, List, get_or, subst, ◌∙◌, inl, inr, arith}
use Rattle.std.proofs.lemmas.Bool.{cases_eq}
use Rattle.std.specs.Array.{IsFromFnResultFrom}
use denote.Param.Members.{Mut, Called}

-- each element is what the call at its index gives
pub filled_at : {F B : Type 0} (g : Mut F (ℕ × Unit {0}) B) (f : F) (h : ℕ → B) (ys : List B) (m : ℕ)
    → ((i : ℕ) (y : B) (q : F) → i < m → Called g f (i, tt) y q → (q ≡ f) × (y ≡ h i))
    → (n i : ℕ) (p : F) → p ≡ f → i + n ≤ m → IsFromFnResultFrom g p ys i n → (k : ℕ) (d : B) → i ≤ k → k < i + n → get_or ys k d ≡ h k
filled_at g f h ys m calls zero i p same fits each k d low high = absurd (omega arith)
filled_at g f h ys m calls (suc n) i p same fits (q, y, at, called, more) k d low high =
    let is = calls i y q (omega arith) (subst (λ w. Called g w (i, tt) y q) same called) in
    elim (cases_eq k i) [
      | inl here ↦ rw here (at.1 d ∙ is.1)
      | inr past ↦ filled_at g f h ys m calls n (i + 1) q is.0 (omega arith) more k d (omega arith) (omega arith)
    ]
