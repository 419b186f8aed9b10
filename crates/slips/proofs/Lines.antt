-- Lines written cell by cell.
use Rattle.std.proofs.Common.{◌≡◌, ℕ, ◌+◌, ◌<◌, ◌≤◌, ◌⊎◌, List, [], ◌∷◌, length, Some, None, codes, decimal, Option, sym, refl, ap, ◌∙◌, subst, inl, inr, arith}
use Rattle.std.proofs.lemmas.Bool.{cases_lt}
use Rattle.std.proofs.lemmas.Option.{slice_get_past}
use Rattle.std.specs.List.{slice_get}
use Rattle.std.specs.Option.{option_map}
use Rattle.book.specs.declared.node.Type.{«Type» as BType}
use Rattle.store.specs.declared.Value.{Value}
use Rattle.store.specs.Meaning.{Rec, Store, class_at, value_at}
use Rattle.cool.specs.Syntax.{Name}
use Rattle.cool.specs.Book.{Book, fields_of}
use Rattle.cool.proofs.Base.{no_some, some_same}
use Rattle.slips.specs.declared.writer.Writer.{Writer}
use Rattle.slips.specs.Text.{each}
use Rattle.slips.specs.Slip.{values_of, cell_text, cells_text, class_name, record_line, nth_line}
use Rattle.slips.specs.Writing.{Puts}
use Rattle.slips.proofs.Cells.{cell_read}
use Rattle.slips.proofs.Pieces.{nothing, each_more, each_quiet, Pieces}

module _ (B : Book) (all : List ℕ) (fs : List (Name × BType)) (S : Store) (h : ℕ) where
  abbrev pub pieces : ℕ → List ℕ
  pieces j = cell_text B all (slice_get fs j) (slice_get (values_of (S.look h)) j)

  -- a field with its value, and without one
  pub cells_more : {w₀ w₁ w : Writer} (i : ℕ) (f : Name × BType) (v : Value) → Puts w₀ w₁ (each pieces i) → slice_get fs i ≡ Some f → Some v ≡ value_at S h i → Puts w₁ w (cell_text B all (Some f) (Some v)) → Puts w₀ w (each pieces (i + 1))
  cells_more {w₀} {w₁} {w} i f v p e r q =
      each_more pieces i p (subst (λ o. Puts w₁ w (cell_text B all o (slice_get (values_of (S.look h)) i))) (sym e) (subst (λ o. Puts w₁ w (cell_text B all (Some f) o)) (sym (cell_read S h i (Some v) r)) q))

  no_cell : (o : Option (Name × BType)) → cell_text B all o None ≡ []
  unfolding cell_text
  no_cell None = refl
  no_cell (Some f) = refl

  no_value : (j : ℕ) → slice_get (values_of (S.look h)) j ≡ None → pieces j ≡ []
  no_value j e = rw e (no_cell (slice_get fs j))

  no_field : (j : ℕ) → slice_get fs j ≡ None → pieces j ≡ []
  unfolding cell_text
  no_field j e = rw e

  pub cells_skip : {w₀ w : Writer} (i : ℕ) → Puts w₀ w (each pieces i) → None ≡ value_at S h i → Puts w₀ w (each pieces (i + 1))
  cells_skip {w₀} {w} i p e = each_more pieces i p (subst (λ t. Puts w w t) (sym (no_value i (cell_read S h i None e))) nothing)

  -- past the fields, and past the values, no piece is left
  pub cells_all : {w₀ w : Writer} (i : ℕ) → i ≡ length fs → Puts w₀ w (each pieces i) → Puts w₀ w (cells_text B all fs (values_of (S.look h)))
  cells_all {w₀} {w} i e p = subst (λ t. Puts w₀ w t) (ap (each pieces) e ∙ by (cases_lt (length fs) (length (values_of (S.look h))))) p
    where
      by : (length fs < length (values_of (S.look h))) ⊎ (length (values_of (S.look h)) ≤ length fs) → each pieces (length fs) ≡ each pieces (length (values_of (S.look h)))
      by (inl l) = sym (each_quiet pieces (length fs) (length (values_of (S.look h))) (omega arith) (λ j a. no_field j (slice_get_past fs j a)))
      by (inr l) = each_quiet pieces (length (values_of (S.look h))) (length fs) l (λ j a. no_value j (slice_get_past (values_of (S.look h)) j a))

module _ (B : Book) (all : List ℕ) (i : ℕ) (S : Store) (h : ℕ) where
  pub no_line : {w : Writer} → None ≡ class_at S h → Puts w w (record_line B all i (S.look h))
  unfolding class_at record_line
  no_line {w} = by (S.look h)
    where
      by : (o : Option Rec) → None ≡ option_map (λ (x : Rec). x.class) o → Puts w w (record_line B all i o)
      by None e = nothing
      by (Some o) e = no_some e

  pub put_line : {w₀ w : Writer} (c : ℕ) → Some c ≡ class_at S h
      → Pieces w₀ w (decimal i ∷ codes " " ∷ class_name B (B.class c) ∷ cells_text B all (fields_of (B.class c)) (values_of (S.look h)) ∷ codes "\n" ∷ []) → Puts w₀ w (record_line B all i (S.look h))
  unfolding class_at record_line
  put_line {w₀} {w} c = by (S.look h)
    where
      by : (o : Option Rec) → Some c ≡ option_map (λ (x : Rec). x.class) o
          → Pieces w₀ w (decimal i ∷ codes " " ∷ class_name B (B.class c) ∷ cells_text B all (fields_of (B.class c)) (values_of o) ∷ codes "\n" ∷ []) → Puts w₀ w (record_line B all i o)
      by None e p = no_some (sym e)
      by (Some o) e p =
          (subst (λ d. Pieces w₀ w (decimal i ∷ codes " " ∷ class_name B (B.class d) ∷ cells_text B all (fields_of (B.class d)) o.values ∷ codes "\n" ∷ [])) (some_same e) p).are

-- the lines of the records found
module _ (B : Book) (S : Store) (all : List ℕ) where
  abbrev pub lines : ℕ → List ℕ
  lines j = nth_line B S all j (slice_get all j)

  pub lines_more : {w₀ w₁ w : Writer} (i h : ℕ) → Puts w₀ w₁ (each lines i) → slice_get all i ≡ Some h → Puts w₁ w (record_line B all i (S.look h)) → Puts w₀ w (each lines (i + 1))
  lines_more {w₀} {w₁} {w} i h p e q = each_more lines i p (subst (λ o. Puts w₁ w (nth_line B S all i o)) (sym e) q)
