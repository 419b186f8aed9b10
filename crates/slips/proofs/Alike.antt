-- Hands and stores alike by a naming show alike.
use Rattle.std.proofs.Common.{◌≡◌, ℕ, zero, suc, Bool, true, false, cond, List, [], ◌∷◌, ◌++◌, length, Some, None, codes, decimal, Option, sym, refl, ap, ◌∙◌, subst}
use Rattle.std.specs.List.{slice_get}
use Rattle.book.specs.declared.node.Type.{«Type» as BType}
use Rattle.numbers.specs.Rule.{Rule}
use Rattle.store.specs.declared.Value.{Value}
use Rattle.store.specs.declared.Value.TheVariants.{Handle}
use Rattle.store.specs.Meaning.{Rec, Store}
use Rattle.cool.specs.Syntax.{Name}
use Rattle.cool.specs.Book.{Book, fields_of}
use Rattle.cool.proofs.Base.{some_same}
use Rattle.machine.specs.declared.state.Hand.{Hand}
use Rattle.machine.specs.declared.state.End.{End}
use Rattle.machine.specs.declared.state.End.TheVariants.{Unfinished, Finished, NullTarget, NoReading, BeyondEnds, NoRoom, NoPlace}
use Rattle.machine.specs.Fit.{Fits, fits_int, fits_boolean, fits_null, fits_handle, Cells, no_cells, a_cell}
use Rattle.machine.specs.Likeness.{Naming, Pair, ◌↔◌, ◌∋◌, here, there, Exact, ◌⊨◌≈◌, ≈-int, ≈-boolean, ≈-null, ≈-handle, Lists, nil, cons, Recs, same_class, Both, neither, both, Stores, Hands, both_go, both_have, both_done}
use Rattle.machine.proofs.Alike.{same_length, look_both}
use Rattle.slips.specs.Text.{joined, each}
use Rattle.slips.specs.Slip.{has, and_last, noted, all_noted, values_of, values_at, turns, found_from, label, cell_words, cell_text, cells_text, class_name, record_line, nth_line, value_words, value_lines, first_line, shown, shown_lines, found_with, printed}
use Rattle.slips.specs.Reached.{Reaches, its_own, through, RecordFits, ReachedFit}
use Rattle.slips.specs.Answer.{Shows}
use Rattle.slips.specs.Laws.{SameSlip}

-- handles found alike
data Handles (β : Naming) : List ℕ → List ℕ → Type 0 where
  no_handle : Handles β [] []
  a_handle : {x y : ℕ} {ks ls : List ℕ} → β ∋ (x ↔ y) → Handles β ks ls → Handles β (x ∷ ks) (y ∷ ls)

each_same : (f g : ℕ → List ℕ) → ((i : ℕ) → f i ≡ g i) → (n : ℕ) → each f n ≡ each g n
unfolding each
each_same f g h zero = refl
each_same f g h (suc n) = let p = h n in let q = each_same f g h n in cc

unless_both : {β : Naming} {ks ls : List ℕ} (x y : ℕ) (p q : Bool) → p ≡ q → Handles β ks ls → Handles β (ks ++ x ∷ []) (ls ++ y ∷ []) → Handles β (and_last ks (cond p None (Some x))) (and_last ls (cond q None (Some y)))
unless_both {β} {ks} {ls} x y p q e f g = rw e (elim q as (λ z. Handles β (and_last ks (cond z None (Some x))) (and_last ls (cond z None (Some y)))) [ true ↦ f | false ↦ g ])

nth_alike : {β : Naming} {vs ws : List Value} → Lists β vs ws → (i : ℕ) → Both (λ v w. β ⊨ v ≈ w) (slice_get vs i) (slice_get ws i)
nth_alike nil i = neither
nth_alike (cons e r) zero = both e
nth_alike (cons e r) (suc i) = nth_alike r i

handle_alike : {β : Naming} {ks ls : List ℕ} → Handles β ks ls → (i : ℕ) → Both (λ x y. β ∋ (x ↔ y)) (slice_get ks i) (slice_get ls i)
handle_alike no_handle i = neither
handle_alike (a_handle m is) zero = both m
handle_alike (a_handle m is) (suc i) = handle_alike is i

handles_many : {β : Naming} {ks ls : List ℕ} → Handles β ks ls → length ks ≡ length ls
handles_many no_handle = refl
handles_many (a_handle m is) = ap suc (handles_many is)

module _ {β : Naming} (E : Exact β) where
  has_both : {ks ls : List ℕ} {x y : ℕ} → Handles β ks ls → β ∋ (x ↔ y) → has ks x ≡ has ls y
  unfolding has
  has_both no_handle m = refl
  has_both (a_handle i is) m = let p = E.exact _ _ _ _ m i in let q = has_both is m in cc

  label_both : {ks ls : List ℕ} {x y : ℕ} → Handles β ks ls → β ∋ (x ↔ y) → label ks x ≡ label ls y
  unfolding label
  label_both no_handle m = refl
  label_both (a_handle i is) m = let p = E.exact _ _ _ _ m i in let q = label_both is m in cc

  last_both : {ks ls : List ℕ} {x y : ℕ} → Handles β ks ls → β ∋ (x ↔ y) → Handles β (ks ++ x ∷ []) (ls ++ y ∷ [])
  last_both no_handle m = a_handle m no_handle
  last_both (a_handle i is) m = a_handle i (last_both is m)

  noted_both : {ks ls : List ℕ} {v w : Value} → Handles β ks ls → β ⊨ v ≈ w → Handles β (noted ks v) (noted ls w)
  unfolding noted
  noted_both is ≈-int = is
  noted_both is ≈-boolean = is
  noted_both is ≈-null = is
  noted_both {ks} {ls} is (≈-handle {x} {y} m) = unless_both x y (has ks x) (has ls y) (has_both is m) is (last_both is m)

  all_both : {vs ws : List Value} → Lists β vs ws → {ks ls : List ℕ} → Handles β ks ls → Handles β (all_noted ks vs) (all_noted ls ws)
  unfolding all_noted
  all_both nil is = is
  all_both (cons e r) is = all_both r (noted_both is e)

  values_both : {o p : Option Rec} → Both (Recs β) o p → Lists β (values_of o) (values_of p)
  values_both neither = nil
  values_both (both (same_class r)) = r

  cell_both : {all all' : List ℕ} {v w : Value} → Handles β all all' → β ⊨ v ≈ w → cell_words all v ≡ cell_words all' w
  unfolding cell_words
  cell_both is ≈-int = refl
  cell_both is ≈-boolean = refl
  cell_both is ≈-null = refl
  cell_both is (≈-handle m) = ap (λ n. joined (codes "#" ∷ decimal n ∷ [])) (label_both is m)

  field_both : {all all' : List ℕ} (B : Book) (f : Option (Name × BType)) {v w : Option Value} → Handles β all all' → Both (λ v w. β ⊨ v ≈ w) v w → cell_text B all f v ≡ cell_text B all' f w
  unfolding cell_text
  field_both B None is e = refl
  field_both B (Some f) is neither = refl
  field_both B (Some f) is (both e) = ap (λ c. joined (codes " " ∷ B.text f.0 ∷ codes "=" ∷ c ∷ [])) (cell_both is e)

  cells_both : {all all' : List ℕ} (B : Book) (fs : List (Name × BType)) {vs ws : List Value} → Handles β all all' → Lists β vs ws → cells_text B all fs vs ≡ cells_text B all' fs ws
  cells_both {all} {all'} B fs {vs} {ws} is r =
      each_same (λ i. cell_text B all (slice_get fs i) (slice_get vs i)) (λ i. cell_text B all' (slice_get fs i) (slice_get ws i)) (λ i. field_both B (slice_get fs i) is (nth_alike r i)) (length vs)
      ∙ ap (each (λ i. cell_text B all' (slice_get fs i) (slice_get ws i))) (same_length r)

  line_both : {all all' : List ℕ} (B : Book) (i : ℕ) {o p : Option Rec} → Handles β all all' → Both (Recs β) o p → record_line B all i o ≡ record_line B all' i p
  unfolding record_line
  line_both B i is neither = refl
  line_both B i is (both (same_class {c = c} r)) = ap (λ t. joined (decimal i ∷ codes " " ∷ class_name B (B.class c) ∷ t ∷ codes "\n" ∷ [])) (cells_both B (fields_of (B.class c)) is r)

  words_both : {v w : Value} → β ⊨ v ≈ w → value_words v ≡ value_words w
  unfolding value_words
  words_both ≈-int = refl
  words_both ≈-boolean = refl
  words_both ≈-null = refl
  words_both (≈-handle m) = refl

  module _ {S T : Store} (hs : Stores β S T) where
    record_both : {x y : Option ℕ} → Both (λ x y. β ∋ (x ↔ y)) x y → Lists β (values_at S x) (values_at T y)
    record_both neither = nil
    record_both (both m) = values_both (look_both hs m)

    turns_both : {v w : Value} → β ⊨ v ≈ w → (i : ℕ) → Handles β (turns S v i) (turns T w i)
    unfolding turns
    turns_both e zero = noted_both no_handle e
    turns_both e (suc i) = let is = turns_both e i in all_both (record_both (handle_alike is i)) is

    found_both : {v w : Value} → β ⊨ v ≈ w → Handles β (found_from S v) (found_from T w)
    found_both {v} {w} e = subst (λ n. Handles β (found_from S v) (turns T w n)) hs.count (turns_both e S.count)

    nth_both : {all all' : List ℕ} (B : Book) (i : ℕ) {x y : Option ℕ} → Handles β all all' → Both (λ x y. β ∋ (x ↔ y)) x y → nth_line B S all i x ≡ nth_line B T all' i y
    nth_both B i is neither = refl
    nth_both B i is (both m) = line_both B i is (look_both hs m)

    lines_both : (B : Book) {all all' : List ℕ} {v w : Value} → Handles β all all' → β ⊨ v ≈ w → value_lines B S all v ≡ value_lines B T all' w
    unfolding value_lines
    lines_both B {all} {all'} {v} {w} is e =
        let p = words_both e in
        let q = each_same (λ i. nth_line B S all i (slice_get all i)) (λ i. nth_line B T all' i (slice_get all' i)) (λ i. nth_both B i is (handle_alike is i)) (length all) in
        let r = ap (each (λ i. nth_line B T all' i (slice_get all' i))) (handles_many is) in
        ap (λ t. joined (t ∷ codes "\n" ∷ each (λ i. nth_line B S all i (slice_get all i)) (length all) ∷ [])) p ∙ ap (λ t. joined (value_words w ∷ codes "\n" ∷ t ∷ [])) (q ∙ r)

    shown_both : (B : Book) (e : End) {x y : Hand} → Hands β x y → shown_lines B S (found_with S (shown e x)) (shown e x) ≡ shown_lines B T (found_with T (shown e y)) (shown e y)
    shown_both B Finished both_go = refl
    shown_both B Finished (both_have e) = lines_both B (found_both e) e
    shown_both B Finished both_done = refl
    shown_both B Unfinished h = refl
    shown_both B (NullTarget k) h = refl
    shown_both B (NoReading k) h = refl
    shown_both B (BeyondEnds k) h = refl
    shown_both B (NoRoom k) h = refl
    shown_both B (NoPlace k) h = refl

-- fitting goes over from one store to the other
abbrev Paired : Naming → Store → Store → Type 0
Paired β S T = (x y : ℕ) → β ∋ (x ↔ y) → (o : Rec) × (p : Rec) × (S.look x ≡ Some o) × (T.look y ≡ Some p) × Recs β o p

class_same : {β : Naming} {o p : Rec} → Recs β o p → p.class ≡ o.class
class_same (same_class r) = refl

values_alike : {β : Naming} {o p : Rec} → Recs β o p → Lists β o.values p.values
values_alike (same_class r) = r

own_cell : {β : Naming} {v : Option Value} {y : ℕ} → Both (λ v w. β ⊨ v ≈ w) v (Some (Handle y)) → (x : ℕ) × (v ≡ Some (Handle x)) × (β ∋ (x ↔ y))
own_cell (both (≈-handle {x} m)) = (x, refl, m)

module _ {β : Naming} (S T : Store) (ps : Paired β S T) where
  fits_both : {R : Rule} {v w : Value} {t : BType} → Fits R S v t → β ⊨ v ≈ w → Fits R T w t
  fits_both (fits_int i) ≈-int = fits_int i
  fits_both fits_boolean ≈-boolean = fits_boolean
  fits_both fits_null ≈-null = fits_null
  fits_both {R} (fits_handle {c = c} {vs} e) (≈-handle {x} {y} m) =
      let z = ps x y m in
      let o : Rec = record { class = c; values = vs } in
      let q : z.1.class ≡ c = class_same z.4 ∙ ap (λ (r : Rec). r.class) (some_same (sym z.2 ∙ e)) in
      let f : Fits R T (Handle y) (BType.Class z.1.class) = fits_handle z.3 in
      rw q at f

  cells_fit_both : {R : Rule} {fs : List (Name × BType)} {vs ws : List Value} → Cells R S fs vs → Lists β vs ws → Cells R T fs ws
  cells_fit_both no_cells nil = no_cells
  cells_fit_both (a_cell f c) (cons e r) = a_cell (fits_both f e) (cells_fit_both c r)

  reached_both : {v w : Value} {y : ℕ} → Reaches T w y → β ⊨ v ≈ w → (x : ℕ) × Reaches S v x × (β ∋ (x ↔ y))
  reached_both its_own (≈-handle {x} m) = (x, its_own, m)
  reached_both (through {h = k} {k = y} {o} r q i e) a =
      let z = reached_both r a in
      let s = ps z.0 k z.2 in
      let same : s.1 ≡ o = some_same (sym s.3 ∙ q) in
      let cell = rw (ap (λ (p : Rec). slice_get p.values i) same ∙ e) at (nth_alike (values_alike s.4) i) in
      let c = own_cell cell in
      (c.0, through z.1 s.2 i c.1, c.2)

  records_both : (B : Book) (R : Rule) {v w : Value} → ((x : ℕ) → Reaches S v x → RecordFits B R S x) → β ⊨ v ≈ w → (y : ℕ) → Reaches T w y → RecordFits B R T y
  records_both B R f a y r =
      let z = reached_both r a in
      let s = ps z.0 y z.2 in
      let g = f z.0 z.1 in
      let same : s.0 ≡ g.0 = some_same (sym s.2 ∙ g.1) in
      let class = ap B.class (class_same s.4 ∙ ap (λ (o : Rec). o.class) same) ∙ g.3 in
      (s.1, s.3, g.2, class, cells_fit_both (subst (λ (o : Rec). Cells R S g.2.fields o.values) (sym same) g.4) (values_alike s.4))

  fit_both : (B : Book) (R : Rule) (t : BType) {v w : Value} → β ⊨ v ≈ w → ReachedFit B R S t v → ReachedFit B R T t w
  fit_both B R t a f = record { value = fits_both f.value a; records = records_both B R f.records a }

  shows_both : (B : Book) (R : Rule) (t : BType) (e : End) {x y : Hand} → Hands β x y → Shows B R S t e x → Shows B R T t e y
  shows_both B R t Finished both_go s = s
  shows_both B R t Finished (both_have a) s = fit_both B R t a s
  shows_both B R t Finished both_done s = s
  shows_both B R t Unfinished h s = s
  shows_both B R t (NullTarget k) h s = s
  shows_both B R t (NoReading k) h s = s
  shows_both B R t (BeyondEnds k) h s = s
  shows_both B R t (NoRoom k) h s = s
  shows_both B R t (NoPlace k) h s = s

-- a naming the other way round
flip : Pair → Pair
flip (x ↔ y) = y ↔ x

flipped : Naming → Naming
flipped [] = []
flipped (p ∷ β) = flip p ∷ flipped β

flip_in : {β : Naming} {x y : ℕ} → β ∋ (x ↔ y) → flipped β ∋ (y ↔ x)
unfolding flip flipped
flip_in here = here
flip_in (there m) = there (flip_in m)

flip_out : (β : Naming) {x y : ℕ} → flipped β ∋ (y ↔ x) → β ∋ (x ↔ y)
unfolding flip flipped
flip_out [] m = elim m [ ]
flip_out ((a ↔ b) ∷ β) here = here
flip_out ((a ↔ b) ∷ β) (there m) = there (flip_out β m)

flip_value : {β : Naming} {v w : Value} → β ⊨ v ≈ w → flipped β ⊨ w ≈ v
flip_value ≈-int = ≈-int
flip_value ≈-boolean = ≈-boolean
flip_value ≈-null = ≈-null
flip_value (≈-handle m) = ≈-handle (flip_in m)

flip_list : {β : Naming} {vs ws : List Value} → Lists β vs ws → Lists (flipped β) ws vs
flip_list nil = nil
flip_list (cons e r) = cons (flip_value e) (flip_list r)

flip_record : {β : Naming} {o p : Rec} → Recs β o p → Recs (flipped β) p o
flip_record (same_class r) = same_class (flip_list r)

flip_hand : {β : Naming} {x y : Hand} → Hands β x y → Hands (flipped β) y x
flip_hand both_go = both_go
flip_hand (both_have e) = both_have (flip_value e)
flip_hand both_done = both_done

flip_paired : (β : Naming) (S T : Store) → Paired β S T → Paired (flipped β) T S
flip_paired β S T f x y m = let z = f y x (flip_out β m) in (z.1, z.0, z.3, z.2, flip_record z.4)

pub same_slip : (B : Book) (R : Rule) (t : BType) (β : Naming) (S T : Store) (e : End) (n : ℕ) (x y : Hand) → Exact β → Stores β S T → Hands β x y → SameSlip B R t S T e n x y
unfolding printed
same_slip B R t β S T e n x y E hs h = record {
  bytes = ap (λ r. first_line e n ++ r) (shown_both E hs B e h);
  there = shows_both S T hs.pairs B R t e h;
  back = shows_both T S (flip_paired β S T hs.pairs) B R t e (flip_hand h);
}
