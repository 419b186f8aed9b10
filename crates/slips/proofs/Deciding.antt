-- The tests decide whether values and records fit.
use Rattle.std.proofs.Common.{◌≡◌, ℕ, zero, suc, ◌+◌, Bool, true, false, not, ◌&&◌, List, [], ◌∷◌, ◌++◌, take, drop, is_some, Some, None, Option, sym, refl, ap, ◌∙◌, subst, arith}
use Rattle.std.specs.List.{slice_get}
use Rattle.std.specs.Option.{option_map}
use Rattle.std.proofs.lemmas.Bool.{and_parts, and_from}
use Rattle.book.specs.declared.node.Type.{«Type» as BType}
use Rattle.book.specs.declared.node.Type.TheVariants as T
use Rattle.numbers.specs.Rule.{Rule}
use Rattle.store.specs.declared.Value.{Value}
use Rattle.store.specs.declared.Value.TheVariants.{Int, Boolean, Null, Handle}
use Rattle.store.specs.Meaning.{Rec, Store, class_at}
use Rattle.cool.specs.Syntax.{Name}
use Rattle.cool.specs.Book.{Part, Book, fields_of}
use Rattle.cool.proofs.Base.{no_some, some_same, unlike, eqb_self, eqb_eq}
use Rattle.machine.specs.Fit.{Fits, fits_int, fits_boolean, fits_null, fits_handle, Cells, no_cells, a_cell, RecordsFit}
use Rattle.slips.specs.Slip.{noted, all_noted, values_of, holds}
use Rattle.slips.specs.Reached.{Reaches, its_own, through, RecordFits, ReachedFit}
use Rattle.slips.specs.Fitting.{fits, cells_fit, fits_class, fits_book, record_fits}

-- what is told of something is there when it is
pub there_alike : {A C : Type 0} (f : A → C) (o : Option A) {p : Option C} {r : Bool} → option_map f o ≡ p → r ≡ is_some o → is_some p ≡ r
there_alike f None e q = ap is_some (sym e) ∙ sym q
there_alike f (Some a) e q = ap is_some (sym e) ∙ sym q

module _ (R : Rule) (S : Store) where
  pub fits_true : (v : Value) (t : BType) → fits R S v t ≡ true → Fits R S v t
  unfolding class_at
  fits_true (Int n) T.Int e = fits_int e
  fits_true (Int n) T.Boolean e = unlike e
  fits_true (Int n) (T.Class c) e = unlike e
  fits_true (Boolean b) T.Int e = unlike e
  fits_true (Boolean b) T.Boolean e = fits_boolean
  fits_true (Boolean b) (T.Class c) e = unlike e
  fits_true Null T.Int e = unlike e
  fits_true Null T.Boolean e = unlike e
  fits_true Null (T.Class c) e = fits_null
  fits_true (Handle h) T.Int e = unlike e
  fits_true (Handle h) T.Boolean e = unlike e
  fits_true (Handle h) (T.Class c) e = by (S.look h) refl e
    where
      by : (o : Option Rec) → S.look h ≡ o → holds (option_map (λ (x : Rec). x.class) o) c ≡ true → Fits R S (Handle h) (T.Class c)
      by None q e = unlike e
      by (Some o) q e = let z = eqb_eq c o.class e in subst (λ d. Fits R S (Handle h) (T.Class d)) (sym z) (fits_handle q)

  pub true_fits : {v : Value} {t : BType} → Fits R S v t → fits R S v t ≡ true
  unfolding class_at
  true_fits (fits_int e) = e
  true_fits fits_boolean = refl
  true_fits fits_null = refl
  true_fits (fits_handle {c = c} e) = rw e (eqb_self c)

  pub cells_true : (fs : List (Name × BType)) (vs : List Value) → cells_fit R S fs vs ≡ true → Cells R S fs vs
  unfolding cells_fit
  cells_true [] [] e = no_cells
  cells_true [] (v ∷ vs) e = unlike e
  cells_true (f ∷ fs) [] e = unlike e
  cells_true (f ∷ fs) (v ∷ vs) e = let p = and_parts (fits R S v f.1) (cells_fit R S fs vs) e in a_cell (fits_true v f.1 p.0) (cells_true fs vs p.1)

  pub true_cells : {fs : List (Name × BType)} {vs : List Value} → Cells R S fs vs → cells_fit R S fs vs ≡ true
  unfolding cells_fit
  true_cells no_cells = refl
  true_cells (a_cell f c) = and_from _ _ (true_fits f) (true_cells c)

  -- a handle that fits is there
  handle_there : {v : Value} {t : BType} → Fits R S v t → (h : ℕ) → v ≡ Handle h → (o : Rec) × (S.look h ≡ Some o)
  handle_there (fits_int e) h q = let z : ◌≡◌ {A = ℕ} 0 1 = cc in absurd (omega arith)
  handle_there fits_boolean h q = let z : ◌≡◌ {A = ℕ} 0 1 = cc in absurd (omega arith)
  handle_there fits_null h q = let z : ◌≡◌ {A = ℕ} 0 1 = cc in absurd (omega arith)
  handle_there (fits_handle {l = l} e) h q = let z : l ≡ h = cc in (_, ap S.look (sym z) ∙ e)

  pub true_there : (v : Value) (t : BType) → fits R S v t ≡ true → (h : ℕ) → v ≡ Handle h → (o : Rec) × (S.look h ≡ Some o)
  true_there v t e = handle_there (fits_true v t e)

  cells_there : {fs : List (Name × BType)} {vs : List Value} → Cells R S fs vs → (i h : ℕ) → slice_get vs i ≡ Some (Handle h) → (o : Rec) × (S.look h ≡ Some o)
  cells_there no_cells i h e = no_some e
  cells_there (a_cell f c) zero h e = handle_there f h (some_same e)
  cells_there (a_cell f c) (suc i) h e = cells_there c i h e

  module _ (B : Book) where
    pub record_true : (h : ℕ) → record_fits B R S h ≡ true → RecordFits B R S h
    unfolding record_fits
    record_true h e = by (S.look h) refl e
      where
        with_class : (o : Rec) → S.look h ≡ Some o → (p : Option Part) → B.class o.class ≡ p → fits_class R S p o.values ≡ true → RecordFits B R S h
        with_class o q None r e = unlike e
        with_class o q (Some p) r e = (o, q, p, r, cells_true p.fields o.values e)

        by : (o : Option Rec) → S.look h ≡ o → fits_book B R S o ≡ true → RecordFits B R S h
        by None q e = unlike e
        by (Some o) q e = with_class o q (B.class o.class) refl e

    pub true_record : (h : ℕ) → RecordFits B R S h → record_fits B R S h ≡ true
    unfolding record_fits
    true_record h f = let p = f.1 in let q = f.3 in rw (p, q) (true_cells f.4)

    -- the handles in the cells of a record that fits are there
    pub record_there : (h : ℕ) → record_fits B R S h ≡ true → (i k : ℕ) → slice_get (values_of (S.look h)) i ≡ Some (Handle k) → (o : Rec) × (S.look k ≡ Some o)
    record_there h e i k c = let f = record_true h e in let p = f.1 in cells_there f.4 i k (rw p at c)

module _ (R : Rule) (S : Store) (B : Book) where
  -- the class is not there; the record is not there; both are
  pub no_record_fits : (h : ℕ) → None ≡ class_at S h → false ≡ record_fits B R S h
  unfolding class_at record_fits
  no_record_fits h = by (S.look h)
    where
      by : (o : Option Rec) → None ≡ option_map (λ (x : Rec). x.class) o → false ≡ fits_book B R S o
      by None e = refl
      by (Some o) e = no_some e

  pub no_class_fits : (h c : ℕ) → Some c ≡ class_at S h → is_some (B.class c) ≡ false → false ≡ record_fits B R S h
  unfolding class_at record_fits
  no_class_fits h c = by (S.look h)
    where
      without : (p : Option Part) (vs : List Value) → is_some p ≡ false → false ≡ fits_class R S p vs
      without None vs q = refl
      without (Some p) vs q = unlike (sym q)

      by : (o : Option Rec) → Some c ≡ option_map (λ (x : Rec). x.class) o → is_some (B.class c) ≡ false → false ≡ fits_book B R S o
      by None e q = no_some (sym e)
      by (Some o) e q = let z = some_same e in without (B.class o.class) o.values (rw z at q)

  pub class_fits : (h c : ℕ) → Some c ≡ class_at S h → is_some (B.class c) ≡ true → cells_fit R S (fields_of (B.class c)) (values_of (S.look h)) ≡ record_fits B R S h
  unfolding class_at record_fits
  class_fits h c = by (S.look h)
    where
      with : (p : Option Part) (vs : List Value) → is_some p ≡ true → cells_fit R S (fields_of p) vs ≡ fits_class R S p vs
      with None vs q = unlike q
      with (Some p) vs q = refl

      by : (o : Option Rec) → Some c ≡ option_map (λ (x : Rec). x.class) o → is_some (B.class c) ≡ true → cells_fit R S (fields_of (B.class c)) (values_of o) ≡ fits_book B R S o
      by None e q = no_some (sym e)
      by (Some o) e q = with (B.class c) o.values q ∙ ap (λ d. fits_class R S (B.class d) o.values) (some_same e)

-- where all records fit, what is reached from a value that fits is there
reached_there : (B : Book) (R : Rule) (S : Store) → RecordsFit B R S → {v : Value} {t : BType} → Fits R S v t → {h : ℕ} → Reaches S v h → (o : Rec) × (S.look h ≡ Some o)
reached_there B R S rs f (its_own {h}) = handle_there R S f h refl
reached_there B R S rs f (through {h = k} {k = h} {o} r q i e) = cells_there R S (rs.each k o q).2 i h e

pub fitting_reached : (B : Book) (R : Rule) (S : Store) → RecordsFit B R S → (t : BType) (v : Value) → Fits R S v t → ReachedFit B R S t v
fitting_reached B R S rs t v f = record {
  value = f;
  records = λ h r. let o = reached_there B R S rs f r in let e = rs.each h o.0 o.1 in (o.0, o.1, e.0, e.1, e.2);
}

-- what is left of a list from a place on
drop_some : {A : Type 0} (xs : List A) (i : ℕ) (a : A) → slice_get xs i ≡ Some a → drop i xs ≡ a ∷ drop (i + 1) xs
drop_some [] i a e = no_some e
drop_some (x ∷ xs) zero a e = let q = some_same e in rw q
drop_some (x ∷ xs) (suc i) a e = let q : suc i + 1 ≡ suc (i + 1) = omega arith in rw q (drop_some xs i a e)

drop_none : {A : Type 0} (xs : List A) (i : ℕ) → slice_get xs i ≡ None → drop i xs ≡ []
drop_none [] zero e = refl
drop_none [] (suc i) e = refl
drop_none (x ∷ xs) zero e = no_some (sym e)
drop_none (x ∷ xs) (suc i) e = drop_none xs i e

take_some : {A : Type 0} (xs : List A) (i : ℕ) (a : A) → slice_get xs i ≡ Some a → take (i + 1) xs ≡ take i xs ++ a ∷ []
take_some [] i a e = no_some e
take_some (x ∷ xs) zero a e = let q = some_same e in rw q
take_some (x ∷ xs) (suc i) a e = let q : suc i + 1 ≡ suc (i + 1) = omega arith in rw q (ap (λ l. x ∷ l) (take_some xs i a e))

all_noted_last : (ks : List ℕ) (vs : List Value) (v : Value) → all_noted ks (vs ++ v ∷ []) ≡ noted (all_noted ks vs) v
unfolding all_noted
all_noted_last ks [] v = refl
all_noted_last ks (w ∷ vs) v = all_noted_last (noted ks w) vs v

pub noted_more : (ks ls : List ℕ) (vs : List Value) (i : ℕ) (v : Value) → slice_get vs i ≡ Some v → ls ≡ all_noted ks (take i vs) → noted ls v ≡ all_noted ks (take (i + 1) vs)
noted_more ks ls vs i v e q = ap (λ l. noted l v) q ∙ (sym (all_noted_last ks (take i vs) v) ∙ ap (all_noted ks) (sym (take_some vs i v e)))

module _ (R : Rule) (S : Store) (fs : List (Name × BType)) (vs : List Value) (i : ℕ) where
  -- a field with its value, and without one
  pub cell_step : (f : Name × BType) (v : Value) → slice_get fs i ≡ Some f → slice_get vs i ≡ Some v → cells_fit R S (drop i fs) (drop i vs) ≡ fits R S v f.1 && cells_fit R S (drop (i + 1) fs) (drop (i + 1) vs)
  unfolding cells_fit
  cell_step f v e q = let p = drop_some fs i f e in let l = drop_some vs i v q in rw (p, l)

  pub cell_missing : (f : Name × BType) → slice_get fs i ≡ Some f → slice_get vs i ≡ None → cells_fit R S (drop i fs) (drop i vs) ≡ false
  unfolding cells_fit
  cell_missing f e q = let p = drop_some fs i f e in let l = drop_none vs i q in rw (p, l)

  -- no field more
  pub cell_end : slice_get fs i ≡ None → cells_fit R S (drop i fs) (drop i vs) ≡ not (is_some (slice_get vs i))
  unfolding cells_fit
  cell_end e = by (slice_get vs i) refl
    where
      by : (o : Option Value) → slice_get vs i ≡ o → cells_fit R S (drop i fs) (drop i vs) ≡ not (is_some o)
      by None q = let p = drop_none fs i e in let l = drop_none vs i q in rw (p, l)
      by (Some v) q = let p = drop_none fs i e in let l = drop_some vs i v q in rw (p, l)
