-- Runs of entries, and who owns what is numbered through.
use Rattle.std.proofs.Common.{◌≡◌, ℕ, zero, suc, ◌+◌, ◌<◌, ◌≤◌, true, ltb, leb, List, [], ◌∷◌, map, Some, None, sym, refl, ap, ◌∙◌, subst, inl, inr, arith}
use Rattle.std.proofs.lemmas.Bool.{cases_eq, cases_lt, lt-ltb, le-ltb, le-leb, lt-leb, ltb-true, leb-true, and_parts, and_from, and_left, and_right, cond-true, cond-false}
use Rattle.std.specs.List.{slice_get}
use Rattle.book.specs.declared.entry.Strip.{Strip}
use Rattle.book.specs.Counting.{total}
use Rattle.book.specs.Layout.{method_count, method_nodes, command_nodes}
use Rattle.book.specs.Strips.{command_strip, returned_strip, top_strip, holds_node, strip_of}
use Rattle.book.proofs.Counts.{total_mono}
use Rattle.book.proofs.Laying.{in_command, in_returned, in_top}
use Rattle.cool.specs.View.{run, owner}
use Rattle.cool.proofs.Base.{no_some}

pub nth_map : {A C : Type 0} (f : A → C) (xs : List A) (i : ℕ) (a : A) → slice_get xs i ≡ Some a → slice_get (map f xs) i ≡ Some (f a)
nth_map f [] i a e = no_some e
nth_map f (x ∷ xs) zero a e = let q : x ≡ a = cc in ap (λ y. Some (f y)) q
nth_map f (x ∷ xs) (suc i) a e = nth_map f xs i a e

-- what stands in a run
pub nth_run : {A : Type 0} (f : ℕ → A) (j n i : ℕ) (a : A) → slice_get (run f j n) i ≡ Some a → (i < n) × (a ≡ f (j + i))
nth_run f j zero i a e = no_some e
nth_run f j (suc n) zero a e = let z : j ≡ j + 0 = omega arith in let s : f j ≡ a = cc in (omega arith, sym s ∙ ap f z)
nth_run f j (suc n) (suc i) a e =
    let r = nth_run f (j + 1) n i a e in
    let z : j + 1 + i ≡ j + suc i = omega arith in
    (omega arith, r.1 ∙ ap f z)

module _ (f : ℕ → ℕ) where
  -- the owner, none past the last thing, and some before
  pub owned : (i n k : ℕ) → i < n → total f i ≤ k → k < total f i + f i → owner f n k ≡ Some i
  owned i zero k h low high = absurd (omega arith)
  owned i (suc n) k h low high =
      elim (cases_eq i n) [
        | inl same ↦
            let l : total f n ≤ k = rw same at low in
            let u : k < total f n + f n = rw same at high in
            cond-true _ _ _ (and_from _ _ (le-leb (total f n) k l) (lt-ltb k (total f n + f n) u)) ∙ ap Some (sym same)
        | inr other ↦
            let m = total_mono f (suc i) n (omega arith) in
            cond-false _ _ _ (and_left _ _ (lt-leb (total f n) k (omega arith))) ∙ owned i n k (omega arith) low high
      ]

  -- thing i of number c is among the first n numbers' things
  pub among : (c n i : ℕ) → c < n → i < f c → total f c + i < total f n
  among c n i h l = let m = total_mono f (suc c) n (omega arith) in omega arith

  pub ownerless : (n k : ℕ) → total f n ≤ k → owner f n k ≡ None
  ownerless zero k h = refl
  ownerless (suc n) k h = cond-false _ _ _ (and_right _ _ (le-ltb k (total f n + f n) h)) ∙ ownerless n k (omega arith)

  pub has_owner : (n k : ℕ) → k < total f n → (i : ℕ) × (i < n) × (total f i ≤ k) × (k < total f i + f i)
  has_owner zero k h = absurd (omega arith)
  has_owner (suc n) k h =
      elim (cases_lt k (total f n)) [
        | inl l ↦ let r = has_owner n k l in (r.0, omega arith, r.2, r.3)
        | inr l ↦ (n, omega arith, l, h)
      ]

-- a node in the strip of node k has node k's method
pub same_owner : (bs : List ℕ) (k p : ℕ) → holds_node (strip_of bs k) p ≡ true → owner (method_nodes bs) (method_count bs) p ≡ owner (method_nodes bs) (method_count bs) k
same_owner bs k p held =
    elim (cases_lt k (total (method_nodes bs) (method_count bs))) [
      | inl l ↦ in_method (has_owner (method_nodes bs) (method_count bs) k l)
      | inr l ↦
          let h = in_strip (top_strip bs) (in_top bs k l) in
          ownerless _ _ p h.0 ∙ sym (ownerless _ _ k l)
    ]
  where
    in_strip : (s : Strip) → strip_of bs k ≡ s → (s.first ≤ p) × (p < s.first + s.nodes)
    in_strip s e =
        let h : holds_node s p ≡ true = subst (λ s. holds_node s p ≡ true) e held in
        let b = and_parts (leb s.first p) (ltb p (s.first + s.nodes)) h in
        (leb-true s.first p b.0, ltb-true p (s.first + s.nodes) b.1)

    holds : (s : Strip) → s.first ≤ k → k < s.first + s.nodes → holds_node s k ≡ true
    holds s low high = and_from (leb s.first k) (ltb k (s.first + s.nodes)) (le-leb s.first k low) (lt-ltb k (s.first + s.nodes) high)

    in_method : (m : ℕ) × (m < method_count bs) × (total (method_nodes bs) m ≤ k) × (k < total (method_nodes bs) m + method_nodes bs m)
        → owner (method_nodes bs) (method_count bs) p ≡ owner (method_nodes bs) (method_count bs) k
    in_method (m, there, low, high) =
        elim (cases_lt k (total (method_nodes bs) m + command_nodes bs m)) [
          | inl l ↦
              let h = in_strip (command_strip bs m) (in_command bs k m there (holds (command_strip bs m) low l)) in
              owned (method_nodes bs) m (method_count bs) p there h.0 (omega arith) ∙ sym (owned (method_nodes bs) m (method_count bs) k there low high)
          | inr l ↦
              let h = in_strip (returned_strip bs m) (in_returned bs k m there (holds (returned_strip bs m) l (omega arith))) in
              owned (method_nodes bs) m (method_count bs) p there (omega arith) (omega arith) ∙ sym (owned (method_nodes bs) m (method_count bs) k there low high)
        ]
