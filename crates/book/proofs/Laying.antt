-- Which strip holds a node.
use Rattle.std.proofs.Common.{◌≡◌, ℕ, zero, suc, ◌+◌, ◌-◌, ◌<◌, ◌≤◌, true, false, ltb, leb, List, sym, ◌∙◌, subst, inl, inr, arith}
use Rattle.std.proofs.lemmas.Bool.{cases_Bool, le-ltb, leb-true, ltb-true, and_parts, and_right, cond-false, cond-true}
use Rattle.book.specs.declared.entry.Strip.{Strip}
use Rattle.book.specs.Counting.{total}
use Rattle.book.specs.Layout.{method_count, node_count, method_nodes, command_nodes, top_count}
use Rattle.book.specs.Strips.{command_strip, returned_strip, top_strip, holds_node, strip_from, strip_of}
use Rattle.book.specs.Noted.{Proper}
use Rattle.book.proofs.Counts.{total_more, total_mono}

-- a strip that ends at or before k does not hold it
past : (s : Strip) (k : ℕ) → s.first + s.nodes ≤ k → holds_node s k ≡ false
past s k h = and_right (leb s.first k) (ltb k (s.first + s.nodes)) (le-ltb k (s.first + s.nodes) h)

module _ (bs : List ℕ) (k : ℕ) where
  -- the search passes a method whose nodes end at or before k
  passes : (m n : ℕ) → total (method_nodes bs) (m + 1) ≤ k → strip_from bs k m (suc n) ≡ strip_from bs k (m + 1) n
  passes m n h =
      let all = total_more (method_nodes bs) m in
      let c : holds_node (command_strip bs m) k ≡ false = past (command_strip bs m) k (omega arith) in
      let r : holds_node (returned_strip bs m) k ≡ false = past (returned_strip bs m) k (omega arith) in
      cond-false _ _ _ c ∙ cond-false _ _ _ r

  -- and so comes to the method whose nodes begin at or before k
  reaches : (j m₀ m n l : ℕ) → m ≡ m₀ + j → l ≡ n + j → total (method_nodes bs) m ≤ k → strip_from bs k m₀ l ≡ strip_from bs k m n
  reaches zero m₀ m n l e f h = let p : m₀ ≡ m = omega arith in let q : l ≡ n = omega arith in rw (p, q)
  reaches (suc j) m₀ m n zero e f h = absurd (omega arith)
  reaches (suc j) m₀ m n (suc l) e f h =
      let low = total_mono (method_nodes bs) (m₀ + 1) m (omega arith) in
      passes m₀ l (omega arith) ∙ reaches j (m₀ + 1) m n l (omega arith) (omega arith) h

  at_command : (m n : ℕ) → 0 < n → holds_node (command_strip bs m) k ≡ true → strip_from bs k m n ≡ command_strip bs m
  at_command m zero h e = absurd (omega arith)
  at_command m (suc n) h e = cond-true _ _ _ e

  at_returned : (m n : ℕ) → 0 < n → holds_node (command_strip bs m) k ≡ false → holds_node (returned_strip bs m) k ≡ true → strip_from bs k m n ≡ returned_strip bs m
  at_returned m zero h d e = absurd (omega arith)
  at_returned m (suc n) h d e = cond-false _ _ _ d ∙ cond-true _ _ _ e

  pub in_command : (m : ℕ) → m < method_count bs → holds_node (command_strip bs m) k ≡ true → strip_of bs k ≡ command_strip bs m
  unfolding strip_of
  in_command m h e =
      let low : total (method_nodes bs) m ≤ k = leb-true _ _ (and_parts _ _ e).0 in
      reaches m 0 m (method_count bs - m) (method_count bs) (omega arith) (omega arith) low ∙ at_command m (method_count bs - m) (omega arith) e

  pub in_returned : (m : ℕ) → m < method_count bs → holds_node (returned_strip bs m) k ≡ true → strip_of bs k ≡ returned_strip bs m
  unfolding strip_of
  in_returned m h e =
      let low : total (method_nodes bs) m + command_nodes bs m ≤ k = leb-true _ _ (and_parts _ _ e).0 in
      let no : holds_node (command_strip bs m) k ≡ false = past (command_strip bs m) k low in
      reaches m 0 m (method_count bs - m) (method_count bs) (omega arith) (omega arith) (omega arith) ∙ at_returned m (method_count bs - m) (omega arith) no e

  pub in_top : total (method_nodes bs) (method_count bs) ≤ k → strip_of bs k ≡ top_strip bs
  unfolding strip_of
  in_top h = reaches (method_count bs) 0 (method_count bs) 0 (method_count bs) (omega arith) (omega arith) h

-- what holds of each strip that can hold node k, and of the top-level expression's, holds of the strip of node k
module _ (bs : List ℕ) (k : ℕ) (P : Strip → Type 0)
    (command : (m : ℕ) → m < method_count bs → holds_node (command_strip bs m) k ≡ true → P (command_strip bs m))
    (returned : (m : ℕ) → m < method_count bs → holds_node (returned_strip bs m) k ≡ true → P (returned_strip bs m))
    (top : P (top_strip bs)) where
  strip_from_cases : (m n : ℕ) → m + n ≡ method_count bs → P (strip_from bs k m n)
  strip_from_cases m zero e = top
  strip_from_cases m (suc n) e =
      elim (cases_Bool (holds_node (command_strip bs m) k)) [
        | inl yes' ↦ subst P (sym (cond-true _ _ _ yes')) (command m (omega arith) yes')
        | inr no' ↦ elim (cases_Bool (holds_node (returned_strip bs m) k)) [
          | inl also ↦ subst P (sym (cond-false _ _ _ no' ∙ cond-true _ _ _ also)) (returned m (omega arith) also)
          | inr neither ↦ subst P (sym (cond-false _ _ _ no' ∙ cond-false _ _ _ neither)) (strip_from_cases (m + 1) n (omega arith))
        ]
      ]

  strip_of_cases : P (strip_of bs k)
  unfolding strip_of
  strip_of_cases = strip_from_cases 0 (method_count bs) (omega arith)

-- the strip of a node holds its nodes
pub proper_of : (bs : List ℕ) (k : ℕ) → Proper bs (strip_of bs k)
proper_of bs k =
    strip_of_cases bs k (Proper bs) (λ m l e q held. in_command bs q m l held) (λ m l e q held. in_returned bs q m l held)
    (λ q held. in_top bs q (leb-true _ _ (and_parts _ _ held).0))

-- and ends behind it
pub ends_behind : (bs : List ℕ) (k : ℕ) → total (method_nodes bs) (method_count bs) + top_count bs ≡ node_count bs → k < node_count bs → k < (strip_of bs k).first + (strip_of bs k).nodes
ends_behind bs k full l =
    strip_of_cases bs k (λ s. k < s.first + s.nodes) (λ m _ e. ltb-true _ _ (and_parts _ _ e).1) (λ m _ e. ltb-true _ _ (and_parts _ _ e).1) (omega arith)

-- the nodes of a method lie before the top-level expression's
pub method_fits : (bs : List ℕ) (m : ℕ) → m < method_count bs → total (method_nodes bs) m + method_nodes bs m ≤ total (method_nodes bs) (method_count bs)
method_fits bs m l = let more = total_more (method_nodes bs) m in let low = total_mono (method_nodes bs) (m + 1) (method_count bs) (omega arith) in omega arith

-- strips as the reader lays them
pub proper_command : (bs : List ℕ) (m : ℕ) → m < method_count bs → Proper bs (command_strip bs m)
proper_command bs m l k held = in_command bs k m l held

pub proper_returned : (bs : List ℕ) (m : ℕ) → m < method_count bs → Proper bs (returned_strip bs m)
proper_returned bs m l k held = in_returned bs k m l held

pub proper_top : (bs : List ℕ) → Proper bs (top_strip bs)
proper_top bs k held = in_top bs k (leb-true _ _ (and_parts _ _ held).0)
