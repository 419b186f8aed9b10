-- Every file is clear of all faults or has one first fault.
use Rattle.std.proofs.Common.{◌≡◌, ℕ, zero, suc, ◌+◌, ◌<◌, ◌≤◌, Bool, true, false, ◌&&◌, ltb, ◌⊎◌, List, [], ◌∷◌, sym, refl, ap, ◌∙◌, inl, inr, arith}
use Rattle.std.proofs.lemmas.Bool.{cases_Bool, cases_order, cases_lt, ltb-true, le-ltb, ne_eqb, both_ways, and_left, and_parts, or_from, cond-false}
use Rattle.book.specs.declared.fault.Fault.{Fault}
use Rattle.book.specs.declared.fault.Fault.TheVariants.{Version}
use Rattle.book.specs.Counting.{at_place}
use Rattle.book.specs.Layout.{class_count, field_count, method_count, node_count, name_count}
use Rattle.book.specs.Faults.{number, place, is_there, wrong_version, limits, offsets, totals, FreeBelow, First, Clear, FaultsDecide}
use Rattle.book.proofs.Counts.{none_more}
use Rattle.book.proofs.Ranks.{numbered, is_numbered, free_next, free_all, first_here, version_free, version_first}

-- the lowest number below n of which a test holds, or none
lowest_below : (t : ℕ → Bool) (n : ℕ) → ((k : ℕ) → k < n → t k ≡ false) ⊎ ((p : ℕ) × ((t p ≡ true) × ((q : ℕ) → q < p → t q ≡ false)))
lowest_below t zero = inl (λ k l. absurd (omega arith))
lowest_below t (suc n) =
    elim (lowest_below t n) [
      | inl none ↦ elim (cases_Bool (t n)) [
        | inl yes' ↦ inr (n, (yes', none))
        | inr no' ↦ inl (λ k l. none_more t n none no' k (omega arith))
      ]
      | inr found ↦ inr found
    ]

-- a table has no test from a place on
abbrev ends_below : ℕ → List (ℕ × Bool) → Bool
ends_below b [] = true
ends_below b (x ∷ xs) = ltb x.0 b && ends_below b xs

beyond : (t : List (ℕ × Bool)) (b k : ℕ) → ends_below b t ≡ true → b ≤ k → at_place t k ≡ false
beyond [] b k h l = refl
beyond (x ∷ xs) b k h l =
    let low = ltb-true x.0 b (and_parts _ _ h).0 in
    or_from _ _ (and_left _ _ (ne_eqb k x.0 (λ e. omega arith))) (beyond xs b k (and_parts _ _ h).1 l)

module _ (bs : List ℕ) where
  -- one number more is free, or has the first fault
  goes : (n b : ℕ) → FreeBelow bs n → ((p : ℕ) → number (numbered n p) ≡ n) → ((p : ℕ) → place (numbered n p) ≡ p) → ((k : ℕ) → b ≤ k → is_there bs (numbered n k) ≡ false)
      → FreeBelow bs (n + 1) ⊎ ((f : Fault) × First bs f)
  goes n b free nums places past =
      elim (lowest_below (λ k. is_there bs (numbered n k)) b) [
        | inl none ↦ inl (free_next bs n free (λ p. elim (cases_lt p b) [ inl low ↦ none p low | inr high ↦ past p high ]))
        | inr (p, low) ↦ inr (numbered n p, first_here bs n p free (nums p) (places p) low)
      ]

  -- the seven numbers one after another
  version_next : FreeBelow bs 2 ⊎ ((f : Fault) × First bs f)
  version_next =
      elim (cases_Bool (wrong_version bs)) [
        | inl wrong ↦ inr (Version, version_first bs wrong)
        | inr right ↦ inl (version_free bs right)
      ]

  then : {A B C : Type 0} → A ⊎ C → (A → B ⊎ C) → B ⊎ C
  then (inl a) k = k a
  then (inr c) k = inr c

  pub either : Clear bs ⊎ ((f : Fault) × First bs f)
  either =
      then version_next (λ f₂.
      then (goes 2 12 f₂ (λ p. refl) (λ p. refl) (λ k l. beyond (limits bs) 12 k refl l)) (λ f₃.
      then (goes 3 12 f₃ (λ p. refl) (λ p. refl) (λ k l. beyond (offsets bs) 12 k refl l)) (λ f₄.
      then (goes 4 (name_count bs + 1) f₄ (λ p. refl) (λ p. refl) (λ k l. cond-false _ _ _ (le-ltb k (name_count bs) (omega arith)) ∙ and_left _ _ (ne_eqb k (name_count bs) (λ e. omega arith)))) (λ f₅.
      then (goes 5 12 f₅ (λ p. refl) (λ p. refl) (λ k l. beyond (totals bs) 12 k refl l)) (λ f₆.
      then (goes 6 (class_count bs + field_count bs + method_count bs) f₆ (λ p. refl) (λ p. refl)
      (λ k l. cond-false _ _ _ (le-ltb k (class_count bs) (omega arith)) ∙ (cond-false _ _ _ (le-ltb k (class_count bs + field_count bs) (omega arith)) ∙ cond-false _ _ _ (le-ltb k (class_count bs + field_count bs + method_count bs) l)))) (λ f₇.
      then (goes 7 (node_count bs) f₇ (λ p. refl) (λ p. refl) (λ k l. and_left _ _ (le-ltb k (node_count bs) l))) (λ f₈. inl (free_all bs f₈))))))))

-- two first faults are one: neither comes before the other
one_first : (bs : List ℕ) (f g : Fault) → First bs f → First bs g → f ≡ g
one_first bs f g h k =
    elim (cases_order (number f) (number g)) [
      | inl same ↦ elim (cases_order (place f) (place g)) [
        | inl at ↦ is_numbered f ∙ (ap (λ n. numbered n (place f)) same ∙ (ap (λ p. numbered (number g) p) at ∙ sym (is_numbered g)))
        | inr (inl low) ↦ absurd (both_ways _ (k.none_before f (inr (same, low))) h.there)
        | inr (inr high) ↦ absurd (both_ways _ (h.none_before g (inr (sym same, high))) k.there)
      ]
      | inr (inl low) ↦ absurd (both_ways _ (k.none_before f (inl low)) h.there)
      | inr (inr high) ↦ absurd (both_ways _ (h.none_before g (inl high)) k.there)
    ]

pub faults_decide : FaultsDecide
faults_decide bs = record {
  either = either bs;
  not_both = λ f clear first. both_ways _ (clear.none f) first.there;
  one_first = one_first bs;
}
