-- Tables filled one entry after another.
use Rattle.std.proofs.Common.{◌≡◌, ℕ, zero, suc, ◌<◌, ◌≤◌, List, [], ◌∷◌, length, Some, None, Option, sym, ◌∙◌, inl, inr, arith}
use Rattle.std.specs.List.{slice_get}
use Rattle.std.proofs.lemmas.Bool.{cases_lt}
use Rattle.std.proofs.lemmas.Option.{slice_get_past}
use Rattle.checked.specs.Tables.{Tabled, FilledBy}

-- nothing stands behind the last
get_none : {A : Type 0} (xs : List A) (i : ℕ) → slice_get xs i ≡ None → length xs ≤ i
get_none [] i h = omega arith
get_none (x ∷ xs) zero h = cc
get_none (x ∷ xs) (suc i) h = let low = get_none xs i h in omega arith

-- a table with room for all entries there are holds them all
module _ {A : Type 0} (get : ℕ → Option A) (n count : ℕ) (xs : List A) (filled : FilledBy (λ i o. o ≡ get i) n xs) (room : count ≤ n)
    (there : (i : ℕ) → i < count → (a : A) × (get i ≡ Some a)) (none : (i : ℕ) → count ≤ i → get i ≡ None) where
  whole : length xs ≡ count
  whole =
      elim (cases_lt (length xs) count) [
        | inl short ↦
            let a = there (length xs) short in
            let end = filled.2 (omega arith) in
            cc
        | inr long ↦
            elim (cases_lt count (length xs)) [
              | inl less ↦ let l = get_none xs count (filled.1 count less ∙ none count (omega arith)) in absurd (omega arith)
              | inr same ↦ omega arith
            ]
      ]

  pub tabled : Tabled get xs
  tabled i =
      elim (cases_lt i (length xs)) [
        | inl low ↦ filled.1 i low
        | inr high ↦ let l = whole in slice_get_past xs i high ∙ sym (none i (omega arith))
      ]
