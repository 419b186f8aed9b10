-- Handles among those found, as the pile tells them.
use Rattle.std.proofs.Common.{◌≡◌, ℕ, suc, ◌+◌, ◌<◌, ◌≤◌, Bool, true, false, cond, not, ltb, eqb, ◌⊎◌, List, [], ◌∷◌, ◌++◌, length, get_or, Some, None, Option, sym, refl, ap, ◌∙◌, inl, inr, arith}
use Rattle.std.specs.List.{IsAnyAnswer, position_or_len}
use Rattle.std.specs.Option.{unwrap_or}
use Rattle.std.proofs.lemmas.List.{length_push}
use Rattle.std.proofs.lemmas.List.Recursion.{is_position_or_len}
use Rattle.std.proofs.lemmas.Option.{slice_get_within, slice_get-get_or}
use Rattle.std.proofs.lemmas.List.Sums.{prefix_len-le-length}
use Rattle.std.proofs.lemmas.Bool.{lt-ltb, le-ltb, eqb-true, eq-eqb, cases_lt}
use Rattle.cool.proofs.Base.{some_same}
use Rattle.store.specs.declared.Value.{Value}
use Rattle.store.specs.declared.Value.TheVariants.{Int, Boolean, Null, Handle}
use Rattle.slips.specs.Slip.{has, noted, label}
use Rattle.slips.proofs.Finding.{nth_has, has_nth}

pub label_is : (ks : List ℕ) (h n : ℕ) (r : Option ℕ) → r ≡ cond (ltb (position_or_len (eqb h) ks) (length ks)) (Some (position_or_len (eqb h) ks)) None → n ≡ unwrap_or r (length ks) → n ≡ label ks h
unfolding label
label_is ks h n r e q =
    let next : (n : ℕ) → suc n ≡ 1 + n = λ n. omega arith in
    let first : label ks h ≡ position_or_len (eqb h) ks = is_position_or_len (λ xs. label xs h) (eqb h) refl (λ x xs. ap (cond (eqb h x) 0) (next (label xs h))) ks in
    let most : position_or_len (eqb h) ks ≤ length ks = prefix_len-le-length (λ x. not (eqb h x)) ks in
    q ∙ (ap (λ o. unwrap_or o (length ks)) e ∙ (by (position_or_len (eqb h) ks) (cases_lt (position_or_len (eqb h) ks) (length ks)) most ∙ sym first))
  where
    by : (p : ℕ) → (p < length ks) ⊎ (length ks ≤ p) → p ≤ length ks → unwrap_or (cond (ltb p (length ks)) (Some p) None) (length ks) ≡ p
    by p (inl l) m = let t = lt-ltb p (length ks) l in rw t
    by p (inr l) m = let t = le-ltb p (length ks) l in rw t (omega arith)

pub contains_is : (ks : List ℕ) (h : ℕ) (r : Bool) → IsAnyAnswer (λ y t. t ≡ eqb y h) ks r → r ≡ has ks h
contains_is ks h true f =
    let at = slice_get-get_or ks f.0 0 f.1 in
    let same = eqb-true (get_or ks f.0 0) h (sym (f.2 0)) in
    sym (ap (has ks) (sym same) ∙ nth_has ks f.0 (get_or ks f.0 0) at)
contains_is ks h false f = by (has ks h) refl
  where
    by : (b : Bool) → has ks h ≡ b → false ≡ b
    by false q = refl
    by true q =
        let i = has_nth ks h q in
        let low = slice_get_within ks i.0 h i.1 in
        f i.0 0 (omega arith) low ∙ eq-eqb (get_or ks i.0 0) h (some_same (sym (slice_get-get_or ks i.0 0 low) ∙ i.1))

-- a value without a handle, with one that was found before, and with a new one
pub noted_other : (ks : List ℕ) (v : Value) → ((h : ℕ) → v ≡ Handle h → ⊥) → ks ≡ noted ks v
unfolding noted
noted_other ks (Int n) f = refl
noted_other ks (Boolean b) f = refl
noted_other ks Null f = refl
noted_other ks (Handle h) f = absurd (f h refl)

pub noted_again : (ks : List ℕ) (v : Value) (h : ℕ) → v ≡ Handle h → has ks h ≡ true → ks ≡ noted ks v
unfolding noted
noted_again ks v h e q = rw (e, q)

pub noted_new : (ks ls : List ℕ) (v : Value) (h n : ℕ) (r : Bool) → v ≡ Handle h → has ks h ≡ false → r ≡ ltb (length ks) n → ls ≡ cond r (ks ++ h ∷ []) ks → length (noted ks v) ≤ n → ls ≡ noted ks v
unfolding noted
noted_new ks ls v h n r e q t f l =
    let new : noted ks v ≡ ks ++ h ∷ [] = rw (e, q) in
    let long : length (noted ks v) ≡ length ks + 1 = ap length new ∙ length_push ks h in
    let room : r ≡ true = t ∙ lt-ltb (length ks) n (omega (arith, long)) in
    f ∙ (ap (λ b. cond b (ks ++ h ∷ []) ks) room ∙ sym new)
