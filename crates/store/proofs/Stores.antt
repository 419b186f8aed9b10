-- What holds of records and of stores, whatever keeps them.
use Rattle.std.specs.Prelude.{◌≡◌, ℕ, zero, suc, ◌+◌, false, cond, List, [], ◌∷◌, ◌++◌, length, Some, None, ◌==◌, ◌≢◌, nat_eq, slice_set, refl}
use Rattle.std.proofs.Common.{sym, ap, arith, length-set}
use Rattle.std.proofs.Math.Path.{fun_ext}
use Rattle.std.proofs.lemmas.Bool.Decides.{nat_tests}
use Rattle.std.proofs.lemmas.List.{length_push}
use Rattle.std.specs.List.{slice_get}
use Rattle.std.specs.Option.{option_map}
use Rattle.store.specs.declared.Value.{Value}
use Rattle.store.specs.Numbered.{not_none, eqb_same}
use Rattle.store.specs.Meaning.{Rec, Means, Store, store, added, written, with_cell, value_at, value_in, find, cells}

abbrev pub means_of : List (ℕ × Rec) → ℕ → ℕ → Means
means_of xs r q = record { records = xs; most_records = r; most_cells = q }

nth_set : (xs : List Value) (i : ℕ) (v w : Value) → slice_get xs i ≡ Some w → slice_get (slice_set xs i v) i ≡ Some v
nth_set [] i v w e = not_none (sym e)
nth_set (x ∷ xs) zero v w e = refl
nth_set (x ∷ xs) (suc i) v w e = nth_set xs i v w e

-- one record more, at the end
find_push : (xs : List (ℕ × Rec)) (h : ℕ) (x : Rec) (q : ℕ) → find xs h ≡ None → find (xs ++ (h, x) ∷ []) q ≡ cond (q == h) (Some x) (find xs q)
find_push [] h x q e = refl
find_push (y ∷ xs) h x q e =
    let rest : find xs h ≡ None = grind (arith, nat_tests) in
    let ih = find_push xs h x q rest in
    grind (arith, nat_tests)

cells_push : (xs : List (ℕ × Rec)) (h : ℕ) (x : Rec) → cells (xs ++ (h, x) ∷ []) ≡ cells xs + length x.values
cells_push [] h x = omega arith
cells_push (y ∷ xs) h x = omega (arith, cells_push xs h x)

pub store_push : (xs : List (ℕ × Rec)) (h : ℕ) (x : Rec) (r q : ℕ) → find xs h ≡ None → store (means_of (xs ++ (h, x) ∷ []) r q) ≡ added (store (means_of xs r q)) h x
unfolding store added
store_push xs h x r q e =
    let l : find (xs ++ (h, x) ∷ []) ≡ (λ k. cond (k == h) (Some x) (find xs k)) = fun_ext (λ k. find_push xs h x k e) in
    simp (l, length_push, cells_push)

-- the records, with v at place i of the one under h
abbrev pub edited : ℕ → ℕ → Value → List (ℕ × Rec) → List (ℕ × Rec)
edited h i v [] = []
edited h i v (x ∷ xs) = (x.0, cond (h == x.0) (with_cell i v x.1) x.1) ∷ edited h i v xs

find_edited : (h i : ℕ) (v : Value) (xs : List (ℕ × Rec)) (q : ℕ) → find (edited h i v xs) q ≡ cond (q == h) (option_map (with_cell i v) (find xs q)) (find xs q)
find_edited h i v [] q = grind (arith, nat_tests)
find_edited h i v (x ∷ xs) q = let ih = find_edited h i v xs q in grind (arith, nat_tests)

length_edited : (h i : ℕ) (v : Value) (xs : List (ℕ × Rec)) → length (edited h i v xs) ≡ length xs
length_edited h i v [] = refl
length_edited h i v (x ∷ xs) = ap suc (length_edited h i v xs)

cells_edited : (h i : ℕ) (v : Value) (xs : List (ℕ × Rec)) → cells (edited h i v xs) ≡ cells xs
cells_edited h i v [] = refl
cells_edited h i v (x ∷ xs) = let ih = cells_edited h i v xs in let l = length-set x.1.values i v in grind (arith, nat_tests)

pub store_edited : (h i : ℕ) (v : Value) (xs : List (ℕ × Rec)) (r q : ℕ) → store (means_of (edited h i v xs) r q) ≡ written (store (means_of xs r q)) h i v
unfolding store written
store_edited h i v xs r q =
    let l : find (edited h i v xs) ≡ (λ k. cond (k == h) (option_map (with_cell i v) (find xs k)) (find xs k)) = fun_ext (find_edited h i v xs) in
    simp (l, length_edited, cells_edited)

-- what is read after a record was made and a cell was written
pub value_added : (S : Store) (h : ℕ) (x : Rec) (i : ℕ) → value_at (added S h x) h i ≡ slice_get x.values i
unfolding value_at added
value_added S h x i = rw (eqb_same h)

pub value_kept : (S : Store) (h : ℕ) (x : Rec) (k i : ℕ) → (k ≢ h) → value_at (added S h x) k i ≡ value_at S k i
unfolding value_at added
value_kept S h x k i n = let e : nat_eq k h ≡ false = grind (arith, nat_tests) in rw e

pub value_written : (S : Store) (h i : ℕ) (v w : Value) → value_at S h i ≡ Some w → value_at (written S h i v) h i ≡ Some v
unfolding value_at written
value_written S h i v w e =
    rw (eqb_same h)
    (elim (S.look h) as (λ o. value_in o i ≡ Some w → value_in (option_map (with_cell i v) o) i ≡ Some v) [
      | None ↦ λ e. not_none (sym e)
      | Some x ↦ λ e. nth_set x.values i v w e
    ] e)

pub value_elsewhere : (S : Store) (h i : ℕ) (v : Value) (k j : ℕ) → (k ≢ h) → value_at (written S h i v) k j ≡ value_at S k j
unfolding value_at written
value_elsewhere S h i v k j n = let e : nat_eq k h ≡ false = grind (arith, nat_tests) in rw e
