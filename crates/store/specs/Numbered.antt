-- Records under handles that count up from 0: what they mean is sound.
-- Lemmas: they stand in specs/ since the ghost member `sound` of `Records` cites them.
use Rattle.std.specs.Prelude.{◌≡◌, ℕ, zero, suc, ◌+◌, ◌<◌, ◌≤◌, true, false, cond, List, [], ◌∷◌, map, length, is_some, Some, None, Option, nat_eq, nat_lt, ◌==◌}
use Rattle.std.proofs.Math.Path.{refl, sym, ap}
use Rattle.std.proofs.Common.{◌∙◌, inl, inr, add-zero, zero-add, arith}
use Rattle.std.proofs.lemmas.Bool.Decides.{nat_tests, leb_tells}
use Rattle.std.proofs.lemmas.List.{length-map}
use Rattle.std.proofs.lemmas.Option.{slice_get_past}
use Rattle.std.specs.List.{slice_get}
use Rattle.std.specs.Option.{option_map}
use Rattle.store.specs.declared.Value.{Value}
use Rattle.store.specs.declared.records.Head.{Head}
use Rattle.store.specs.Layouts.{Layout, gathered, record_of, Laid, lens}
use Rattle.store.specs.Meaning.{Rec, EachOnce, Sound, store, handles, class_at, find, cells}
use Rattle.store.specs.Numbering.{numbered, counted, Counts}

-- a refusal's clause where nothing was refused
pub not_refused : {P : Type 0} → true ≡ false → P
not_refused e = let z : ◌≡◌ {A = ℕ} 0 1 = cc in absurd (omega arith)

pub not_none : {X P : Type 0} {x : X} → Some x ≡ None → P
not_none e = let z : ◌≡◌ {A = ℕ} 0 1 = cc in absurd (omega arith)

pub eqb_same : (h : ℕ) → (h == h) ≡ true
eqb_same h = grind (arith, nat_tests)

none_short : {X : Type 0} (xs : List X) (j : ℕ) → slice_get xs j ≡ None → j < length xs → ⊥
none_short [] j e l = omega arith
none_short (y ∷ xs) zero e l = not_none e
none_short (y ∷ xs) (suc j) e l = none_short xs j e (omega arith)

module _ {X : Type 0} (f : X → Rec) where
  pub length_numbered : (k : ℕ) (xs : List X) → length (numbered f k xs) ≡ length xs
  length_numbered k [] = refl
  length_numbered k (x ∷ xs) = ap suc (length_numbered (suc k) xs)

  find_numbered : (k j : ℕ) (xs : List X) → find (numbered f k xs) (k + j) ≡ option_map f (slice_get xs j)
  find_numbered k j [] = refl
  find_numbered k zero (x ∷ xs) = rw add-zero (rw (eqb_same k))
  find_numbered k (suc j) (x ∷ xs) =
      let ne : nat_eq (k + suc j) k ≡ false = grind (arith, nat_tests) in
      let e : suc k + j ≡ k + suc j = omega arith in
      rw ne (rw e at (find_numbered (suc k) j xs))

  nth_handles : (k n : ℕ) (xs : List X) → slice_get (map (λ x. x.0) (numbered f k xs)) n ≡ cond (nat_lt n (length xs)) (Some (k + n)) None
  nth_handles k n [] = grind (arith, nat_tests)
  nth_handles k zero (x ∷ xs) = let e = add-zero k in grind (arith, nat_tests)
  nth_handles k (suc n) (x ∷ xs) = let ih = nth_handles (suc k) n xs in let e : suc k + n ≡ k + suc n = omega arith in grind (arith, nat_tests)

classes : {X : Type 0} (f : X → Rec) (class : X → ℕ) → ((x : X) → (f x).class ≡ class x) → (o : Option X) → option_map (λ x. x.class) (option_map f o) ≡ option_map class o
classes f class same None = refl
classes f class same (Some x) = ap Some (same x)

module _ {X : Type 0} (f : X → Rec) (xs : List X) where
  -- the record under h is that of the h-th head
  pub looks : (h : ℕ) → find (numbered f 0 xs) h ≡ option_map f (slice_get xs h)
  looks h = rw zero-add at (find_numbered f 0 h xs)

  pub none_past : (h : ℕ) → length xs ≤ h → find (numbered f 0 xs) h ≡ None
  none_past h l = looks h ∙ ap (option_map f) (slice_get_past xs h l)

  there_within : (h : ℕ) → is_some (find (numbered f 0 xs) h) ≡ true → h < length xs
  there_within h e =
      elim (leb_tells (length xs) h) [
        | inl t ↦ not_refused (sym e ∙ ap is_some (none_past h t.1))
        | inr t ↦ t.1
      ]

  within_there : (h : ℕ) → h < length xs → is_some (find (numbered f 0 xs) h) ≡ true
  within_there h l =
      elim (slice_get xs h) as (λ o. slice_get xs h ≡ o → is_some (find (numbered f 0 xs) h) ≡ true) [
        | None ↦ λ e. absurd (none_short xs h e l)
        | Some x ↦ λ e. ap is_some (looks h ∙ ap (option_map f) e)
      ] refl

  low : (h : ℕ) (x : Rec) → find (numbered f 0 xs) h ≡ Some x → h < length xs
  low h x e = there_within h (ap is_some e)

module _ {X : Type 0} (f : X → Rec) (xs : List X) (r q : ℕ) where
  -- the n-th handle is n
  pub handle_is : (n : ℕ) → slice_get (handles (counted f xs r q)) n ≡ cond (nat_lt n (length xs)) (Some n) None
  unfolding handles
  handle_is n = nth_handles f 0 n xs ∙ ap (λ m. cond (nat_lt n (length xs)) (Some m) None) (zero-add n)

  handle_same : (n h : ℕ) → slice_get (handles (counted f xs r q)) n ≡ Some h → (n < length xs) × (n ≡ h)
  handle_same n h e =
      let a = handle_is n in
      elim (leb_tells (length xs) n) [
        | inl t ↦ let none : slice_get (handles (counted f xs r q)) n ≡ None = grind (arith, nat_tests) in not_none (sym e ∙ none)
        | inr t ↦ let some : slice_get (handles (counted f xs r q)) n ≡ Some n = grind (arith, nat_tests) in (t.1, cc)
      ]

  each_once : EachOnce (counted f xs r q)
  unfolding store handles
  each_once =
      record {
        many = simp length-map;
        there = λ n h e. let a = handle_same n h e in within_there f xs h (omega arith);
        listed = λ h e. (h, let l = there_within f xs h e in let a = handle_is h in grind (arith, nat_tests));
        once = λ n k h d e. let a = handle_same n h d in let b = handle_same k h e in omega arith;
      }

  -- the class in the head that was read at h
  pub class_of_head : (class : X → ℕ) → ((x : X) → (f x).class ≡ class x) → (h : ℕ) (o : Option X) → o ≡ slice_get xs h → class_at (store (counted f xs r q)) h ≡ option_map class o
  unfolding class_at store
  class_of_head class same h o e = ap (option_map (λ x. x.class)) (looks f xs h ∙ ap (option_map f) (sym e)) ∙ classes f class same o

  -- no record has the handle that is given next
  pub next_is_free : (store (counted f xs r q)).look (length xs) ≡ None
  unfolding store
  next_is_free = none_past f xs (length xs) (omega arith)

  -- where the records take u cells
  module _ (u : ℕ) (used : cells (numbered f 0 xs) ≡ u) where
    pub counts_of_cells : (n : ℕ) → n ≡ length xs → Counts (store (counted f xs r q)) n u r q
    unfolding store
    counts_of_cells n e = (length_numbered f 0 xs ∙ sym e, used, refl, refl)

    pub sound_in_bounds : length xs ≤ r → u ≤ q → r ≤ 4096 → q ≤ 65535 → Sound (counted f xs r q)
    unfolding store
    sound_in_bounds a b c d =
        let n = length_numbered f 0 xs in
        record {
          each_once = each_once;
          bounded = record {
            low_handles = λ h x e. let l = low f xs h x e in omega arith;
            few_records = omega arith;
            few_cells = omega arith;
            bounds = grind (arith, nat_tests);
          };
        }

-- records in a layout
pub length_gathered : (row : List Value) (spot : ℕ → ℕ) (n : ℕ) → length (gathered row spot n) ≡ n
length_gathered row spot zero = refl
length_gathered row spot (suc n) = ap suc (length_gathered row (λ k. spot (suc k)) n)

cells_numbered : (L : Layout) (k : ℕ) (xs : List Head) → cells (numbered (record_of L) k xs) ≡ lens xs
cells_numbered L k [] = refl
cells_numbered L k (x ∷ xs) = let ih = cells_numbered L (suc k) xs in let l = length_gathered L.row (L.lies x.first) x.len in omega arith

module _ (L : Layout) (xs : List Head) (r q : ℕ) (laid : Laid xs L) where
  pub counts_are : (n : ℕ) → n ≡ length xs → Counts (store (counted (record_of L) xs r q)) n (length L.row) r q
  counts_are = counts_of_cells (record_of L) xs r q (length L.row) (cells_numbered L 0 xs ∙ laid.total)

  pub is_sound : (n : ℕ) → n ≡ length xs → (n ≤ r) × (length L.row ≤ q) → (r ≤ 4096) × (q ≤ 65535) → Sound (counted (record_of L) xs r q)
  is_sound n e few bounds =
      sound_in_bounds (record_of L) xs r q (length L.row) (cells_numbered L 0 xs ∙ laid.total) (omega (arith, few.0)) few.1 bounds.0 bounds.1
