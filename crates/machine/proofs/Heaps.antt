-- A store's heap: records by place, and by field name.
use Rattle.std.proofs.Common.{◌≡◌, ℕ, suc, Bool, true, false, cond, eqb, ◌⊎◌, List, [], ◌∷◌, set, Some, None, Option, sym, refl, ap, ◌∙◌, inl, inr}
use Rattle.std.specs.Option.{option_map}
use Rattle.std.specs.List.{slice_get}
use Rattle.book.specs.declared.node.Type.{«Type» as BType}
use Rattle.book.specs.declared.node.Type.TheVariants as T
use Rattle.store.specs.declared.Value.{Value}
use Rattle.store.specs.Meaning.{Rec, Store, added, written, with_cell}
use Rattle.cool.specs.Syntax.{Name, Ty, int, boolean, FE, find, ◌⟨◌⟼◌⟩}
use Rattle.cool.specs.Dynamic.{Record, object, default, Default, with_field}
use Rattle.cool.specs.Book.{Part, Book, type_of, place}
use Rattle.cool.proofs.Base.{no_some, eqb_eq, same_function}
use Rattle.cool.proofs.Says.{class_type}
use Rattle.cool.proofs.Stands.{FieldsAre, f_nil, f_cons}
use Rattle.machine.specs.Fields.{first_value, first_values, named, object_of, by_names, heap_of}
use Rattle.machine.proofs.Stores.{rec, added_top, added_else, added_is, written_top, written_else, written_is}

pub find_named : (fs : List (Name × BType)) (vs : List Value) (f : Name) (i : ℕ) (v : Value) → place fs f ≡ Some i → slice_get vs i ≡ Some v → find (named fs vs) f ≡ Some v
find_named [] vs f i v p q = no_some p
find_named (x ∷ fs) [] f i v p q = no_some q
find_named (x ∷ fs) (u ∷ vs) f i v p q = by (λ k e q. find_named fs vs f k v e q) (eqb f x.0) (place fs f) refl p q
  where
    by : ((k : ℕ) → place fs f ≡ Some k → slice_get vs k ≡ Some v → find (named fs vs) f ≡ Some v) → (b : Bool) (o : Option ℕ) → place fs f ≡ o → cond b (Some 0) (option_map suc o) ≡ Some i → slice_get (u ∷ vs) i ≡ Some v
        → cond b (Some u) (find (named fs vs) f) ≡ Some v
    by more true o e p q = let z : 0 ≡ i = cc in rw (← z) at q
    by more false None e p q = no_some p
    by more false (Some k) e p q = let z : suc k ≡ i = cc in more k e (rw (← z) at q)

pub find_back : (fs : List (Name × BType)) (vs : List Value) (f : Name) (v : Value) → find (named fs vs) f ≡ Some v → (i : ℕ) × (place fs f ≡ Some i) × (slice_get vs i ≡ Some v)
find_back [] vs f v p = no_some p
find_back (x ∷ fs) [] f v p = no_some p
find_back (x ∷ fs) (u ∷ vs) f v p = by (eqb f x.0) p (λ e. find_back fs vs f v e)
  where
    by : (b : Bool) → cond b (Some u) (find (named fs vs) f) ≡ Some v → (find (named fs vs) f ≡ Some v → (i : ℕ) × (place fs f ≡ Some i) × (slice_get vs i ≡ Some v))
        → (i : ℕ) × (cond b (Some 0) (option_map suc (place fs f)) ≡ Some i) × (slice_get (u ∷ vs) i ≡ Some v)
    by true e more = (0, refl, e)
    by false e more = let m = more e in let q = m.1 in (suc m.0, rw q, m.2)

pub write_named : (fs : List (Name × BType)) (vs : List Value) (f : Name) (i : ℕ) (u v : Value) → place fs f ≡ Some i → slice_get vs i ≡ Some u → with_field (named fs vs) f v ≡ named fs (set vs i v)
write_named [] vs f i u v p q = no_some p
write_named (x ∷ fs) [] f i u v p q = no_some q
write_named (x ∷ fs) (w ∷ vs) f i u v p q = by (λ k e q. write_named fs vs f k u v e q) (eqb f x.0) (place fs f) refl p q
  where
    by : ((k : ℕ) → place fs f ≡ Some k → slice_get vs k ≡ Some u → with_field (named fs vs) f v ≡ named fs (set vs k v)) → (b : Bool) (o : Option ℕ) → place fs f ≡ o → cond b (Some 0) (option_map suc o) ≡ Some i → slice_get (w ∷ vs) i ≡ Some u
        → cond b ((x.0, v) ∷ named fs vs) ((x.0, w) ∷ with_field (named fs vs) f v) ≡ named (x ∷ fs) (set (w ∷ vs) i v)
    by more true o e p q = let z : 0 ≡ i = cc in rw (← z)
    by more false None e p q = no_some p
    by more false (Some k) e p q = let z : suc k ≡ i = cc in let m = more k e (rw (← z) at q) in rw (← z, m)

-- a field's first value is its default
first_default : (B : Book) (t : BType) (u : Ty) → type_of B t ≡ Some u → first_value t ≡ default u
first_default B T.Int u e = let q : int ≡ u = cc in rw (← q)
first_default B T.Boolean u e = let q : boolean ≡ u = cc in rw (← q)
first_default B (T.Class c) u e = let x = class_type B c (B.class c) refl e in let q = x.2 in rw q

pub first_named : {B : Book} {fs : List (Name × BType)} {fe : FE} → FieldsAre B fs fe → named fs (first_values fs) ≡ Default fe
first_named f_nil = refl
first_named {B} (f_cons {t = t} {u = u} e r) = let i = first_named r in let j = first_default B t u e in rw (i, j)

-- every record's class is there
pub record Known (B : Book) (S : Store) : Type 0 where
  pub known : (l : ℕ) (o : Rec) → S.look l ≡ Some o → (p : Part) × (B.class o.class ≡ Some p)

pub known_added : {B : Book} {S : Store} (l c : ℕ) (vs : List Value) {p : Part} → Known B S → B.class c ≡ Some p → Known B (added S l (rec c vs))
known_added {B} {S} l c vs {p} K i = record { known = λ j o e. by j o (added_is S l _ j o e) }
  where
    by : (j : ℕ) (o : Rec) → (S.look j ≡ Some o) ⊎ (o ≡ rec c vs) → (p : Part) × (B.class o.class ≡ Some p)
    by j o (inl e) = K.known j o e
    by j o (inr e) = rw e (p, i)

pub known_written : {B : Book} {S : Store} (l i : ℕ) (v : Value) (o : Rec) → Known B S → S.look l ≡ Some o → Known B (written S l i v)
known_written {B} {S} l i v o K e = record { known = λ j x f. by j x (written_is S l i v o e j x f) }
  where
    by : (j : ℕ) (x : Rec) → (S.look j ≡ Some x) ⊎ (x ≡ with_cell i v o) → (p : Part) × (B.class x.class ≡ Some p)
    by j x (inl f) = K.known j x f
    by j x (inr f) = rw f (K.known l o e)

pub record InStore (B : Book) (S : Store) (l : ℕ) (x : Name) (r : Record) : Type 0 where
  pub class : ℕ
  pub values : List Value
  pub part : Part
  pub looks : S.look l ≡ Some (rec class values)
  pub class_is : B.class class ≡ Some part
  pub name_is : part.called ≡ x
  pub record_is : r ≡ named part.fields values

module _ (B : Book) (S : Store) where
  pub heap_look : (l c : ℕ) (vs : List Value) (p : Part) → S.look l ≡ Some (rec c vs) → B.class c ≡ Some p → heap_of B S l ≡ Some (object_of p vs)
  heap_look l c vs p e i = rw (e, i)

  pub heap_none : (l : ℕ) → S.look l ≡ None → heap_of B S l ≡ None
  heap_none l e = rw e

  pub look_none : (l : ℕ) → Known B S → heap_of B S l ≡ None → S.look l ≡ None
  look_none l K = by (S.look l) refl
    where
      by : (o : Option Rec) → S.look l ≡ o → by_names B o ≡ None → o ≡ None
      by None q e = refl
      by (Some o) q e = let x = K.known l o q in let i = x.1 in no_some (sym (rw i at e))

  pub look_some : (l : ℕ) (x : Name) (r : Record) → heap_of B S l ≡ Some (object x r) → InStore B S l x r
  look_some l x r = by (S.look l) refl
    where
      by_part : (o : Rec) → S.look l ≡ Some o → (p : Option Part) → B.class o.class ≡ p → option_map (λ p. object_of p o.values) p ≡ Some (object x r) → InStore B S l x r
      by_part o q None i e = no_some e
      by_part o q (Some p) i e = record { class = o.class; values = o.values; part = p; looks = q; class_is = i; name_is = cc; record_is = cc }

      by : (o : Option Rec) → S.look l ≡ o → by_names B o ≡ Some (object x r) → InStore B S l x r
      by None q e = no_some e
      by (Some o) q e = by_part o q (B.class o.class) refl e

  pub heap_added : (l c : ℕ) (vs : List Value) (p : Part) → B.class c ≡ Some p → heap_of B (added S l (rec c vs)) ≡ heap_of B S ⟨ l ⟼ object_of p vs ⟩
  heap_added l c vs p i = same_function _ _ (λ k. by k (eqb k l) refl)
    where
      by : (k : ℕ) (b : Bool) → eqb k l ≡ b → by_names B ((added S l (rec c vs)).look k) ≡ cond (eqb k l) (Some (object_of p vs)) (heap_of B S k)
      by k true q = let z = eqb_eq k l q in let e = ap (λ j. (added S l (rec c vs)).look j) z ∙ added_top S l (rec c vs) in rw (q, e, i)
      by k false q = let e = added_else S l (rec c vs) k q in rw (q, e)

  pub heap_written : (l i : ℕ) (v : Value) (c : ℕ) (vs : List Value) (p : Part) → S.look l ≡ Some (rec c vs) → B.class c ≡ Some p → heap_of B (written S l i v) ≡ heap_of B S ⟨ l ⟼ object_of p (set vs i v) ⟩
  heap_written l i v c vs p o j = same_function _ _ (λ k. by k (eqb k l) refl)
    where
      by : (k : ℕ) (b : Bool) → eqb k l ≡ b → by_names B ((written S l i v).look k) ≡ cond (eqb k l) (Some (object_of p (set vs i v))) (heap_of B S k)
      by k true q = let z = eqb_eq k l q in let e = ap (λ n. (written S l i v).look n) z ∙ written_top S l i v (rec c vs) o in rw (q, e, j)
      by k false q = let e = written_else S l i v k q in rw (q, e)
