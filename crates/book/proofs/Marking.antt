-- Marks of nodes: how often each is a part.
use Rattle.std.proofs.Common.{◌≡◌, ℕ, ◌+◌, ◌<◌, ◌≤◌, false, List, Some, None, Option, sym, refl, ap, ◌∙◌, subst, inl, inr, arith}
use Rattle.std.proofs.lemmas.Bool.{cases_eq, cases_Bool, ne_eqb, and_left, and_right, le-leb, lt-ltb, and_from, cond-false}
use Rattle.book.specs.declared.entry.Strip.{Strip}
use Rattle.book.specs.declared.node.Node.{Node}
use Rattle.book.specs.declared.node.Part.{Part}
use Rattle.book.specs.Counting.{total}
use Rattle.book.specs.Strips.{holds_node, strip_of}
use Rattle.book.specs.Noted.{Proper}
use Rattle.book.specs.Faults.{names_node, uses_by, uses_in, uses, lies_right}
use Rattle.book.specs.Layout.{raw_node, node_count, method_count, method_nodes, top_count}
use Rattle.book.specs.Kinds.{decoded, parts}
use Rattle.book.proofs.Counts.{total_stops}
use Rattle.book.proofs.Laying.{proper_of, ends_behind}

-- a node that is not in the strip of node j is no part of node j
module _ (bs : List ℕ) (k j : ℕ) (apart : holds_node (strip_of bs j) k ≡ false) where
  names_none : (part : Option Part) → names_node bs k j part ≡ 0
  names_none None = refl
  names_none (Some p) =
      elim (cases_eq p.node k) [
        | inl same ↦ cond-false _ _ _ (and_left _ _ (and_left _ _ (ap (holds_node (strip_of bs j)) same ∙ apart)))
        | inr other ↦ cond-false _ _ _ (and_right (lies_right bs j p.node) _ (ne_eqb _ _ other))
      ]

  uses_none : (o : Option Node) → uses_by bs k j o ≡ 0
  uses_none None = refl
  uses_none (Some n) =
      let a = names_none (parts n).a in
      let b = names_none (parts n).b in
      let d = names_none (parts n).d in
      omega arith

-- the uses of a strip's node are those in the strip and before it
pub uses_until : (bs : List ℕ) (s : Strip) (k : ℕ) → total (method_nodes bs) (method_count bs) + top_count bs ≡ node_count bs → Proper bs s → s.first + s.nodes ≤ node_count bs
    → s.first ≤ k → k < s.first + s.nodes → total (uses_in bs k) (s.first + s.nodes) ≡ uses bs k
uses_until bs s k full proper room low high =
    total_stops (uses_in bs k) (s.first + s.nodes) (node_count bs) room (λ j past there.
    uses_none bs k j
    (elim (cases_Bool (holds_node (strip_of bs j) k)) [
      | inl held ↦
          let here : strip_of bs k ≡ s = proper k (and_from _ _ (le-leb _ _ low) (lt-ltb _ _ high)) in
          let same : strip_of bs j ≡ s = sym (proper_of bs j k held) ∙ here in
          let behind = subst (λ (t : Strip). j < t.first + t.nodes) same (ends_behind bs j full there) in
          absurd (omega arith)
      | inr apart ↦ apart
    ])
    (decoded (raw_node bs j)))
