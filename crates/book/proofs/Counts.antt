-- Sums and searches over numbers.
use Rattle.std.proofs.Common.{◌≡◌, ℕ, zero, suc, ◌+◌, ◌<◌, ◌≤◌, Bool, true, false, ◌&&◌, eqb, leb, List, [], ◌∷◌, Some, None, Option, sym, refl, ◌∙◌, subst, inl, inr, add-one, arith}
use Rattle.std.proofs.lemmas.Bool.{cases_eq, leb-true, ne_eqb, eq-eqb, or_from, or_left, or_right, and_left, and_right, and_from, and_parts}
use Rattle.book.specs.Layout.{method_nodes, command_nodes, returned_nodes}
use Rattle.book.specs.Counting.{total, any_below, at_place, first_place, Lowest}

pub total_more : (f : ℕ → ℕ) (n : ℕ) → total f (n + 1) ≡ total f n + f n
total_more f n = rw add-one

-- what a search finds
pub any_none : (t : ℕ → Bool) (n : ℕ) → ((k : ℕ) → k < n → t k ≡ false) → any_below n t ≡ false
any_none t zero h = refl
any_none t (suc n) h = or_from (any_below n t) (t n) (any_none t n (λ k l. h k (omega arith))) (h n (omega arith))

pub any_some : (t : ℕ → Bool) (n k : ℕ) → k < n → t k ≡ true → any_below n t ≡ true
any_some t zero k h e = absurd (omega arith)
any_some t (suc n) k h e =
    elim (cases_eq k n) [
      | inl same ↦ or_right (any_below n t) (t n) (subst (λ j. t j ≡ true) same e)
      | inr other ↦ or_left (any_below n t) (t n) (any_some t n k (omega arith) e)
    ]

-- a test that none below n passes passes one more
pub none_more : (t : ℕ → Bool) (n : ℕ) → ((k : ℕ) → k < n → t k ≡ false) → t n ≡ false → (k : ℕ) → k < n + 1 → t k ≡ false
none_more t n h e k l = elim (cases_eq k n) [ inl same ↦ subst (λ j. t j ≡ false) (sym same) e | inr other ↦ h k (omega arith) ]

-- the nodes of a method are those of its two strips
pub total_strips : (bs : List ℕ) (m : ℕ) → total (method_nodes bs) m ≡ total (command_nodes bs) m + total (returned_nodes bs) m
total_strips bs zero = refl
total_strips bs (suc m) = let h = total_strips bs m in omega arith

pub total_mono : (f : ℕ → ℕ) (a b : ℕ) → a ≤ b → total f a ≤ total f b
total_mono f a zero h = let e : a ≡ 0 = omega arith in rw e (omega arith)
total_mono f a (suc b) h =
    elim (cases_eq a (suc b)) [
      | inl same ↦ rw same (omega arith)
      | inr other ↦ let l = total_mono f a b (omega arith) in omega arith
    ]

-- a sum past which all is 0
pub total_stops : (f : ℕ → ℕ) (a b : ℕ) → a ≤ b → ((j : ℕ) → a ≤ j → j < b → f j ≡ 0) → total f a ≡ total f b
total_stops f a zero h none = let e : a ≡ 0 = omega arith in rw e refl
total_stops f a (suc b) h none =
    elim (cases_eq a (suc b)) [
      | inl same ↦ rw same refl
      | inr other ↦ let l = total_stops f a b (omega arith) (λ j p q. none j p (omega arith)) in let z = none b (omega arith) (omega arith) in omega arith
    ]

-- the places of a table ascend, from p on
abbrev pub ascends : ℕ → List (ℕ × Bool) → Bool
ascends p [] = true
ascends p (x ∷ xs) = leb p x.0 && ascends (suc x.0) xs

-- no test stands below the first place
below_all : (t : List (ℕ × Bool)) (p q : ℕ) → ascends p t ≡ true → q < p → at_place t q ≡ false
below_all [] p q h l = refl
below_all (x ∷ xs) p q h l =
    let low = leb-true p x.0 (and_parts _ _ h).0 in
    or_from _ _ (and_left _ _ (ne_eqb q x.0 (λ e. omega arith))) (below_all xs (suc x.0) q (and_parts _ _ h).1 (omega arith))

lowest_same : (t u : ℕ → Bool) (o : Option ℕ) → ((q : ℕ) → t q ≡ u q) → Lowest u o → Lowest t o
lowest_same t u None same h = λ q. same q ∙ h q
lowest_same t u (Some p) same h = (same p ∙ h.0, λ q l. same q ∙ h.1 q l)

-- so the first place whose test holds is the lowest
pub table_lowest : (t : List (ℕ × Bool)) (p : ℕ) → ascends p t ≡ true → Lowest (at_place t) (first_place t)
table_lowest [] p h = λ q. refl
table_lowest ((n, true) ∷ xs) p h = (
  or_left _ _ (and_from _ _ (eq-eqb n n refl) refl),
  λ q l. or_from _ _ (and_left _ _ (ne_eqb q n (λ e. omega arith))) (below_all xs (suc n) q (and_parts _ _ h).1 (omega arith)),
)
table_lowest ((n, false) ∷ xs) p h =
    lowest_same _ (at_place xs) (first_place xs) (λ q. rw (and_right (eqb q n) false refl)) (table_lowest xs (suc n) (and_parts _ _ h).1)
