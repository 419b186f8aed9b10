-- Faults by their numbers: none below a number, and the first.
use Rattle.std.proofs.Common.{◌≡◌, ℕ, ◌+◌, ◌<◌, ◌≤◌, Bool, true, false, List, [], ◌∷◌, get_or, Some, None, refl, ap, ◌∙◌, subst, inl, inr, arith}
use Rattle.std.proofs.lemmas.Bool.{cases_eq, ltb-false, eqb-true, not-false, or_parts}
use Rattle.book.specs.declared.fault.Fault.{Fault}
use Rattle.book.specs.declared.fault.Fault.TheVariants.{Version, Limit, Offset, Name, Total, Entry, Node}
use Rattle.book.specs.Counting.{total, at_place, first_place, Lowest}
use Rattle.book.specs.Layout.{node_count, method_count, method_nodes, top_count}
use Rattle.book.specs.Faults.{number, place, is_there, wrong_version, limits, offsets, wrong_name, totals, wrong_entry, wrong_node, FreeBelow, First, Clear}
use Rattle.book.proofs.Counts.{ascends, table_lowest}

-- the fault with a number, at a place
abbrev pub numbered : ℕ → ℕ → Fault
numbered n p = get_or (Version ∷ Version ∷ Limit p ∷ Offset p ∷ Name p ∷ Total p ∷ Entry p ∷ Node p ∷ []) n Version

pub is_numbered : (f : Fault) → f ≡ numbered (number f) (place f)
is_numbered Version = refl
is_numbered (Limit p) = refl
is_numbered (Offset p) = refl
is_numbered (Name n) = refl
is_numbered (Total p) = refl
is_numbered (Entry i) = refl
is_numbered (Node k) = refl

-- numbers go from 1 to 7
in_range : (f : Fault) → (0 < number f) × (number f < 8)
in_range Version = (omega arith, omega arith)
in_range (Limit p) = (omega arith, omega arith)
in_range (Offset p) = (omega arith, omega arith)
in_range (Name n) = (omega arith, omega arith)
in_range (Total p) = (omega arith, omega arith)
in_range (Entry i) = (omega arith, omega arith)
in_range (Node k) = (omega arith, omega arith)

pub free_start : (bs : List ℕ) → FreeBelow bs 1
free_start bs = record { none = λ f l. absurd (omega (arith, in_range f)) }

pub free_next : (bs : List ℕ) (n : ℕ) → FreeBelow bs n → ((p : ℕ) → is_there bs (numbered n p) ≡ false) → FreeBelow bs (n + 1)
free_next bs n free gone = record {
  none = λ f l. elim (cases_eq (number f) n) [
    | inl same ↦ ap (is_there bs) (is_numbered f ∙ ap (λ m. numbered m (place f)) same) ∙ gone (place f)
    | inr other ↦ free.none f (omega arith)
  ];
}

pub free_all : (bs : List ℕ) → FreeBelow bs 8 → Clear bs
free_all bs free = record { none = λ f. free.none f (in_range f).1 }

pub first_here : (bs : List ℕ) (n p : ℕ) → FreeBelow bs n → number (numbered n p) ≡ n → place (numbered n p) ≡ p
    → (is_there bs (numbered n p) ≡ true) × ((q : ℕ) → q < p → is_there bs (numbered n q) ≡ false) → First bs (numbered n p)
first_here bs n p free e f low =
    record {
      there = low.0;
      none_before = λ g b. elim b [
        | inl lower ↦ free.none g (omega arith)
        | inr (same, earlier) ↦ ap (is_there bs) (is_numbered g ∙ ap (λ m. numbered m (place g)) (same ∙ e)) ∙ low.1 (place g) (omega arith)
      ];
    }

-- what a look through a table finds
table_none : (t : List (ℕ × Bool)) → ascends 0 t ≡ true → first_place t ≡ None → (p : ℕ) → at_place t p ≡ false
table_none t up e = subst (Lowest (at_place t)) e (table_lowest t 0 up)

table_some : (t : List (ℕ × Bool)) (p : ℕ) → ascends 0 t ≡ true → first_place t ≡ Some p → Lowest (at_place t) (Some p)
table_some t p up e = subst (Lowest (at_place t)) e (table_lowest t 0 up)

-- each look: where it finds none, and where it finds one
module _ (bs : List ℕ) where
  pub version_free : wrong_version bs ≡ false → FreeBelow bs 2
  version_free v = free_next bs 1 (free_start bs) (λ p. v)

  pub version_first : wrong_version bs ≡ true → First bs Version
  version_first v = record { there = v; none_before = λ g b. elim b [ inl lower ↦ (free_start bs).none g lower | inr (same, earlier) ↦ absurd (omega arith) ] }

  pub limits_free : FreeBelow bs 2 → first_place (limits bs) ≡ None → FreeBelow bs 3
  limits_free free l = free_next bs 2 free (table_none (limits bs) refl l)

  pub limit_first : (p : ℕ) → FreeBelow bs 2 → first_place (limits bs) ≡ Some p → First bs (Limit p)
  limit_first p free l = first_here bs 2 p free refl refl (table_some (limits bs) p refl l)

  pub offsets_free : FreeBelow bs 3 → first_place (offsets bs) ≡ None → FreeBelow bs 4
  offsets_free free o = free_next bs 3 free (table_none (offsets bs) refl o)

  pub offset_first : (p : ℕ) → FreeBelow bs 3 → first_place (offsets bs) ≡ Some p → First bs (Offset p)
  offset_first p free o = first_here bs 3 p free refl refl (table_some (offsets bs) p refl o)

  pub names_free : FreeBelow bs 4 → Lowest (wrong_name bs) None → FreeBelow bs 5
  names_free free n = free_next bs 4 free n

  pub name_first : (p : ℕ) → FreeBelow bs 4 → Lowest (wrong_name bs) (Some p) → First bs (Name p)
  name_first p free n = first_here bs 4 p free refl refl n

  pub totals_free : FreeBelow bs 5 → first_place (totals bs) ≡ None → FreeBelow bs 6
  totals_free free t = free_next bs 5 free (table_none (totals bs) refl t)

  pub total_first : (p : ℕ) → FreeBelow bs 5 → first_place (totals bs) ≡ Some p → First bs (Total p)
  total_first p free t = first_here bs 5 p free refl refl (table_some (totals bs) p refl t)

  pub entries_free : FreeBelow bs 6 → Lowest (wrong_entry bs) None → FreeBelow bs 7
  entries_free free e = free_next bs 6 free e

  pub entry_first : (p : ℕ) → FreeBelow bs 6 → Lowest (wrong_entry bs) (Some p) → First bs (Entry p)
  entry_first p free e = first_here bs 6 p free refl refl e

  pub nodes_free : FreeBelow bs 7 → Lowest (wrong_node bs) None → FreeBelow bs 8
  nodes_free free k = free_next bs 7 free k

  pub node_first : (p : ℕ) → FreeBelow bs 7 → Lowest (wrong_node bs) (Some p) → First bs (Node p)
  node_first p free k = first_here bs 7 p free refl refl k

  -- what the look for wrong nodes rests on
  pub few_nodes : (n : ℕ) → 3 ≤ n → FreeBelow bs n → node_count bs ≤ 4000
  few_nodes n far free = ltb-false 4000 (node_count bs) (or_parts _ _ (free.none (Limit 4) (omega arith))).0

  pub nodes_add_up : (n : ℕ) → 6 ≤ n → FreeBelow bs n → total (method_nodes bs) (method_count bs) + top_count bs ≡ node_count bs
  nodes_add_up n far free = eqb-true _ _ (not-false _ (or_parts _ _ (free.none (Total 4) (omega arith))).0)
