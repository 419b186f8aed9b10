-- Cells and records gone through, one after another.
use Rattle.std.proofs.Common.{◌≡◌, ℕ, suc, ◌+◌, ◌-◌, ◌<◌, ◌≤◌, Bool, true, false, not, ◌&&◌, ◌⊎◌, List, [], length, take, drop, is_some, Some, None, Option, sym, refl, ap, ◌∙◌, subst, inl, inr, add-one, arith}
use Rattle.std.proofs.lemmas.Option.{slice_get_within}
use Rattle.std.specs.List.{slice_get}
use Rattle.std.proofs.lemmas.List.{take_all}
use Rattle.std.proofs.lemmas.Bool.{cases_lt}
use Rattle.book.specs.declared.node.Type.{«Type» as BType}
use Rattle.numbers.specs.Rule.{Rule}
use Rattle.pile.specs.declared.base.Pile.{Pile}
use Rattle.pile.specs.Pile.{Kept}
use Rattle.store.specs.declared.Value.{Value}
use Rattle.store.specs.declared.Value.TheVariants.{Handle}
use Rattle.store.specs.Meaning.{Rec, Store, Means, Sound, store}
use Rattle.cool.specs.Syntax.{Name}
use Rattle.cool.specs.Book.{Book}
use Rattle.cool.proofs.Base.{some_same, unlike}
use Rattle.slips.specs.Slip.{noted, all_noted, values_of, turns}
use Rattle.slips.specs.Reached.{ReachedFit}
use Rattle.slips.specs.Fitting.{fits, cells_fit, record_fits, Found, no_record, Explores}
use Rattle.slips.proofs.Deciding.{fits_true, true_fits, true_there, record_true, true_record, record_there, noted_more, cell_step, cell_missing, cell_end}
use Rattle.slips.proofs.Finding.{nth_none, nth_has, has_nth, found_reached, found_noted, found_all, few, stays_found, at_turn, every_found}

-- places that are kept, over one call and over two
pub kept_same : (p : Pile ℕ) → Kept p p
kept_same p = record { lent = refl; same_size = refl }

pub kept_both : {p q r : Pile ℕ} → Kept p q → Kept q r → Kept p r
kept_both k l = record { lent = l.lent ∙ k.lent; same_size = l.same_size ∙ k.same_size }

-- the first i cells fit, and their handles were noted behind ks
pub record Going (R : Rule) (S : Store) (fs : List (Name × BType)) (vs : List Value) (ks ls : List ℕ) (i : ℕ) : Type 0 where
  pub notes : ls ≡ all_noted ks (take i vs)
  pub there : Found S ls
  pub left : cells_fit R S (drop i fs) (drop i vs) ≡ cells_fit R S fs vs

-- a list with a noted value has room
room_noted : (m : Means) → Sound m → (v : Value) → ((h : ℕ) → v ≡ Handle h → (o : Rec) × ((store m).look h ≡ Some o)) → {ks : List ℕ} → Found (store m) ks → (n : ℕ) → (store m).count ≤ n → length (noted ks v) ≤ n
room_noted m s v t f n l = omega (arith, few m s (found_noted (store m) v t f))

turned : (r a : Bool) → a ≡ not r → r ≡ not a
turned true a e = ap not (sym e)
turned false a e = ap not (sym e)

module _ {R : Rule} {m : Means} (s : Sound m) {fs : List (Name × BType)} {vs : List Value} {ks : List ℕ} where
  pub going_none : Found (store m) ks → Going R (store m) fs vs ks ks 0
  unfolding all_noted
  going_none f = record { notes = refl; there = f; left = refl }

  module _ {ls : List ℕ} {i : ℕ} (g : Going R (store m) fs vs ks ls i) where
    module _ {f : Name × BType} (e : slice_get fs i ≡ Some f) where
      pub going_more : {ns : List ℕ} {n : ℕ} {v : Value} → slice_get vs i ≡ Some v → true ≡ fits R (store m) v f.1
          → (store m).count ≤ n → (length (noted ls v) ≤ n → ns ≡ noted ls v) → Going R (store m) fs vs ks ns (i + 1)
      going_more {ns} {n} {v} q t l a =
          let there = true_there R (store m) v f.1 (sym t) in
          let is = a (room_noted m s v there g.there n l) in
          record {
            notes = is ∙ noted_more ks ls vs i v q g.notes;
            there = subst (Found (store m)) (sym is) (found_noted (store m) v there g.there);
            left = ap (λ b. b && cells_fit R (store m) (drop (i + 1) fs) (drop (i + 1) vs)) t ∙ (sym (cell_step R (store m) fs vs i f v e q) ∙ g.left);
          }

      pub going_fails : {v : Value} → slice_get vs i ≡ Some v → false ≡ fits R (store m) v f.1 → false ≡ cells_fit R (store m) fs vs
      going_fails {v} q t = ap (λ b. b && cells_fit R (store m) (drop (i + 1) fs) (drop (i + 1) vs)) t ∙ (sym (cell_step R (store m) fs vs i f v e q) ∙ g.left)

      pub going_lacks : slice_get vs i ≡ None → false ≡ cells_fit R (store m) fs vs
      going_lacks q = sym (cell_missing R (store m) fs vs i f e q) ∙ g.left

    -- r says that no value is left
    module _ {r : Bool} (none : is_some (slice_get vs i) ≡ not r) where
      pub going_ends : slice_get fs i ≡ None → r ≡ cells_fit R (store m) fs vs
      going_ends e = turned r (is_some (slice_get vs i)) none ∙ (sym (cell_end R (store m) fs vs i e) ∙ g.left)

      pub going_all : r ≡ true → ls ≡ all_noted ks vs
      going_all t = by (slice_get vs i) refl
        where
          by : (o : Option Value) → slice_get vs i ≡ o → ls ≡ all_noted ks vs
          by None e = g.notes ∙ ap (all_noted ks) (take_all i vs (nth_none vs i e))
          by (Some v) e = unlike (sym (sym t ∙ (turned r (is_some (slice_get vs i)) none ∙ ap (λ o. not (is_some o)) e)))

-- i records were gone through, and fit
pub record Exploring (B : Book) (R : Rule) (S : Store) (v : Value) (ks : List ℕ) (i : ℕ) : Type 0 where
  pub is : ks ≡ turns S v i
  pub there : Found S ks
  pub low : i ≤ S.count
  pub good : (j k : ℕ) → j < i → slice_get (turns S v j) j ≡ Some k → record_fits B R S k ≡ true

module _ {B : Book} {R : Rule} {m : Means} (s : Sound m) (t : BType) {v : Value} where
  pub value_fails : false ≡ fits R (store m) v t → ReachedFit B R (store m) t v → ⊥
  value_fails e f = unlike (e ∙ true_fits R (store m) f.value)

  pub exploring_none : {ks ls : List ℕ} {n : ℕ} → ks ≡ [] → true ≡ fits R (store m) v t → (store m).count ≤ n → (length (noted ks v) ≤ n → ls ≡ noted ks v) → Exploring B R (store m) v ls 0
  unfolding turns
  exploring_none {ks} {ls} {n} e q l f =
      let there = true_there R (store m) v t (sym q) in
      let none : Found (store m) ks = subst (Found (store m)) (sym e) no_record in
      let is = f (room_noted m s v there none n l) in
      record {
        is = is ∙ ap (λ x. noted x v) e;
        there = subst (Found (store m)) (sym is) (found_noted (store m) v there none);
        low = omega arith;
        good = λ j k h. absurd (omega arith);
      }

  pub exploring_low : {ks : List ℕ} {i h : ℕ} → Exploring B R (store m) v ks i → Some h ≡ slice_get ks i → i < (store m).count
  exploring_low {ks} {i} {h} x e = omega (arith, slice_get_within ks i h (sym e), few m s x.there)

  pub exploring_more : {ks ls : List ℕ} {i h : ℕ} → Exploring B R (store m) v ks i → Some h ≡ slice_get ks i → true ≡ record_fits B R (store m) h → ls ≡ all_noted ks (values_of ((store m).look h)) → Exploring B R (store m) v ls (i + 1)
  unfolding turns
  exploring_more {ks} {ls} {i} {h} x e q r =
      let S = store m in
      let at : slice_get (turns S v i) i ≡ Some h = ap (λ l. slice_get l i) (sym x.is) ∙ sym e in
      let next : ls ≡ turns S v (suc i) = r ∙ (ap (λ l. all_noted l (values_of (S.look h))) x.is ∙ (rw at)) in
      rw add-one (record {
        is = next;
        there = subst (Found S) (sym r) (found_all S (values_of (S.look h)) (record_there R S B h (sym q)) x.there);
        low = omega (arith, exploring_low x e);
        good = λ j k l a. by j k l a at (cases_lt j i);
      })
    where
      by : (j k : ℕ) → j < suc i → slice_get (turns (store m) v j) j ≡ Some k → slice_get (turns (store m) v i) i ≡ Some h → (j < i) ⊎ (i ≤ j) → record_fits B R (store m) k ≡ true
      by j k l a at (inl f) = x.good j k f a
      by j k l a at (inr f) =
          let z : j ≡ i = omega arith in
          let same : h ≡ k = some_same (sym at ∙ (ap (λ n. slice_get (turns (store m) v n) n) (sym z) ∙ a)) in
          ap (record_fits B R (store m)) (sym same) ∙ sym q

  pub exploring_fails : {ks : List ℕ} {i h : ℕ} → Exploring B R (store m) v ks i → Some h ≡ slice_get ks i → false ≡ record_fits B R (store m) h → ReachedFit B R (store m) t v → ⊥
  exploring_fails {ks} {i} {h} x e q f =
      let S = store m in
      let at : slice_get (turns S v i) i ≡ Some h = ap (λ l. slice_get l i) (sym x.is) ∙ sym e in
      unlike (q ∙ true_record R S B h (f.records h (found_reached S v i h (nth_has (turns S v i) i h at))))

  pub exploring_all : {ks : List ℕ} {i : ℕ} → Exploring B R (store m) v ks i → true ≡ fits R (store m) v t → None ≡ slice_get ks i → Explores B R (store m) t v ks (Some v)
  exploring_all {ks} {i} x q e =
      let S = store m in
      let ended : slice_get (turns S v i) i ≡ None = ap (λ l. slice_get l i) (sym x.is) ∙ sym e in (
        refl,
        record {
          value = fits_true R S v t (sym q);
          records = λ h r.
              let j = has_nth (turns S v i) h (every_found S v i ended r) in
              let a = at_turn S v i ended j.0 h j.1 in
              record_true R S B h (x.good j.0 h a.0 a.1);
        },
        x.is ∙ sym (stays_found S v (S.count - i) i S.count (omega (arith, x.low)) ended),
      )
