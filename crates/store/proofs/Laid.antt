-- What a store's records are in a layout: as they are found, after a write, and with one more.
use Rattle.std.proofs.Common.{◌≡◌, ℕ, zero, suc, ◌+◌, ◌<◌, ◌≤◌, true, false, List, [], ◌∷◌, ◌++◌, map, length, is_some, Some, None, ◌≢◌, refl, sym, ap, ◌∙◌, subst, inl, inr, add-zero, add-suc, suc-add, arith, length-set, get_or-set_same, get_or-set_other}
use Rattle.std.specs.Prelude.{slice_set}
use Rattle.std.proofs.lemmas.Bool.Decides.{eqb_tells, leb_tells}
use Rattle.std.proofs.lemmas.Option.{slice_get_past, slice_get-get_or}
use Rattle.std.specs.List.{slice_get}
use Rattle.std.specs.Option.{option_map}
use Rattle.store.specs.declared.Value.{Value}
use Rattle.store.specs.declared.Value.TheVariants.{Null}
use Rattle.store.specs.declared.records.Head.{Head}
use Rattle.store.specs.Layouts.{Layout, held, gathered, record_of, Place, cell_of, Laid, spot_in, spot_of, lying, rewritten}
use Rattle.store.specs.Meaning.{Rec, Store, Puts, store, handles, written, with_cell, class_at, value_at, value_in}
use Rattle.store.specs.Numbering.{numbered, counted}
use Rattle.store.specs.Numbered.{not_none, not_refused, length_gathered, looks, class_of_head, next_is_free}
use Rattle.store.proofs.Stores.{means_of, edited, store_edited}

pub numbered_push : {X : Type 0} (f : X → Rec) (k : ℕ) (xs : List X) (x : X) → numbered f k (xs ++ x ∷ []) ≡ numbered f k xs ++ (k + length xs, f x) ∷ []
numbered_push f k [] x = rw add-zero
numbered_push f k (y ∷ xs) x = ap (λ l. (k, f y) ∷ l) (rw add-suc (rw (← suc-add) (numbered_push f (suc k) xs x)))

module _ {X : Type 0} (f g : X → Rec) where
  pub numbered_same : (k : ℕ) (xs : List X) → ((j : ℕ) (x : X) → slice_get xs j ≡ Some x → g x ≡ f x) → numbered g k xs ≡ numbered f k xs
  numbered_same k [] same = refl
  numbered_same k (x ∷ xs) same = simp (same 0 x refl, numbered_same (suc k) xs (λ j y e. same (suc j) y e))

  -- g is f but for the value v at place i of the record of the head x, which is the only one at h
  numbered_edit : (k h i : ℕ) (v : Value) (xs : List X) → ((j : ℕ) (x : X) → slice_get xs j ≡ Some x → (k + j ≡ h → g x ≡ with_cell i v (f x)) × ((k + j ≢ h) → g x ≡ f x)) → numbered g k xs ≡ edited h i v (numbered f k xs)
  numbered_edit k h i v [] change = refl
  numbered_edit k h i v (x ∷ xs) change =
      let ih = numbered_edit (suc k) h i v xs (λ j y e. let c = change (suc j) y e in (λ p. c.0 (omega arith), λ n. c.1 (λ p. n (omega arith)))) in
      let c = change 0 x refl in
      elim (eqb_tells h k) [
        | inl t ↦ simp (t.0, c.0 (omega arith), ih)
        | inr t ↦ simp (t.0, c.1 (λ p. t.1 (omega arith)), ih)
      ]

  same_handles : (k : ℕ) (xs : List X) → map (λ x. x.0) (numbered g k xs) ≡ map (λ x. x.0) (numbered f k xs)
  same_handles k [] = refl
  same_handles k (x ∷ xs) = ap (λ l. k ∷ l) (same_handles (suc k) xs)

-- the values of some cells
pub gathered_same : (row new : List Value) (f g : ℕ → ℕ) (n : ℕ) → ((k : ℕ) → k < n → held new (g k) ≡ held row (f k)) → gathered new g n ≡ gathered row f n
gathered_same row new f g zero same = refl
gathered_same row new f g (suc n) same =
    ap (λ v. v ∷ gathered new (λ k. g (suc k)) n) (same 0 (omega arith))
    ∙ ap (λ vs. held row (f 0) ∷ vs) (gathered_same row new (λ k. f (suc k)) (λ k. g (suc k)) n (λ k l. same (suc k) (omega arith)))

pub gathered_is : (row : List Value) (f : ℕ → ℕ) (vs : List Value) → ((k : ℕ) → k < length vs → held row (f k) ≡ held vs k) → gathered row f (length vs) ≡ vs
gathered_is row f [] same = refl
gathered_is row f (v ∷ vs) same =
    ap (λ w. w ∷ gathered row (λ k. f (suc k)) (length vs)) (same 0 (omega arith))
    ∙ ap (λ ws. v ∷ ws) (gathered_is row (λ k. f (suc k)) vs (λ k l. same (suc k) (omega arith)))

nth_gathered : (row : List Value) (f : ℕ → ℕ) (n i : ℕ) → i < n → slice_get (gathered row f n) i ≡ Some (held row (f i))
nth_gathered row f zero i l = absurd (omega arith)
nth_gathered row f (suc n) zero l = refl
nth_gathered row f (suc n) (suc i) l = nth_gathered row (λ k. f (suc k)) n i (omega arith)

module _ (row : List Value) (p : ℕ) (v : Value) (l : p < length row) where
  gathered_set : (f : ℕ → ℕ) (n i : ℕ) → i < n → f i ≡ p → ((k : ℕ) → k < n → (k ≢ i) → f k ≢ p) → gathered (slice_set row p v) f n ≡ slice_set (gathered row f n) i v
  gathered_set f zero i b e other = absurd (omega arith)
  gathered_set f (suc n) zero b e other =
      ap (λ w. w ∷ gathered (slice_set row p v) (λ k. f (suc k)) n) (rw e (get_or-set_same row p v Null l))
      ∙ ap (λ vs. v ∷ vs) (gathered_same row (slice_set row p v) (λ k. f (suc k)) (λ k. f (suc k)) n (λ k m. get_or-set_other row p (f (suc k)) v Null (other (suc k) (omega arith) (λ z. omega arith))))
  gathered_set f (suc n) (suc i) b e other =
      ap (λ w. w ∷ gathered (slice_set row p v) (λ k. f (suc k)) n) (get_or-set_other row p (f 0) v Null (other 0 (omega arith) (λ z. omega arith)))
      ∙ ap (λ vs. held row (f 0) ∷ vs) (gathered_set (λ k. f (suc k)) n i (omega arith) e (λ k m z. other (suc k) (omega arith) (λ y. z (omega arith))))

-- the head of a record's place that lies at p
record Found (L : Layout) (xs : List Head) (h i p : ℕ) : Type 0 where
  head : Head
  is : slice_get xs h ≡ Some head
  there : i < head.len
  lies : L.lies head.first i ≡ p

found : (L : Layout) (xs : List Head) (h i p : ℕ) → Some p ≡ spot_of L xs h i → Found L xs h i p
found L xs h i p =
    elim (slice_get xs h) as (λ o. slice_get xs h ≡ o → Some p ≡ spot_in L o i → Found L xs h i p) [
      | None ↦ λ e f. not_none f
      | Some x ↦ λ e f. elim (leb_tells (suc i) x.len) [
        | inl t ↦ let s : Some p ≡ Some (L.lies x.first i) = rw t.0 at f in record { head = x; is = e; there = t.1; lies = cc }
        | inr t ↦ let s : Some p ≡ None = rw t.0 at f in not_none s
      ]
    ] refl

-- the cells of a record up to a place of it
pub along : (L : Layout) (xs : List Head) → Laid xs L → (h i : ℕ) (x : Head) → slice_get xs h ≡ Some x → i < x.len → (k : ℕ) → k ≤ i → L.lies x.first k < length L.row
along L xs laid h i x e l k m = laid.inside (record { handle = h; head = x; is = e; place = k; there = omega arith })

-- records in the layout L, in a store with the limits r and q
module _ (L : Layout) (xs : List Head) (r q : ℕ) where
  abbrev kept : Store
  kept = store (counted (record_of L) xs r q)

  pub class_read : (h : ℕ) → class_at kept h ≡ option_map (λ x. x.class) (slice_get xs h)
  class_read h = class_of_head (record_of L) xs r q (λ x. x.class) (λ x. refl) h (slice_get xs h) refl

  value_is : (h i : ℕ) → value_at kept h i ≡ value_in (option_map (record_of L) (slice_get xs h)) i
  unfolding value_at store
  value_is h i = ap (λ o. value_in o i) (looks (record_of L) xs h)

  pub free : kept.look (length xs) ≡ None
  free = next_is_free (record_of L) xs r q

  order_kept : (M : Layout) → handles (counted (record_of M) xs r q) ≡ handles (counted (record_of L) xs r q)
  unfolding handles
  order_kept M = same_handles (record_of L) (record_of M) 0 xs

  module _ (laid : Laid xs L) where
    pub value_read : (h i : ℕ) → value_at kept h i ≡ lying L.row (spot_of L xs h i)
    value_read h i =
        value_is h i
        ∙ elim (slice_get xs h) as (λ o. slice_get xs h ≡ o → value_in (option_map (record_of L) o) i ≡ lying L.row (spot_in L o i)) [
          | None ↦ λ e. refl
          | Some x ↦ λ e. elim (leb_tells (suc i) x.len) [
            | inl t ↦ let l = along L xs laid h i x e t.1 i (omega arith) in
                rw t.0 (nth_gathered L.row (L.lies x.first) x.len i t.1 ∙ sym (slice_get-get_or L.row (L.lies x.first i) Null l))
            | inr t ↦ rw t.0 (slice_get_past (gathered L.row (L.lies x.first) x.len) i (let n = length_gathered L.row (L.lies x.first) x.len in omega arith))
          ]
        ] refl

    module _ (h i p : ℕ) (e : Some p ≡ spot_of L xs h i) where
      abbrev spot_place : Place xs
      spot_place = let f = found L xs h i p e in record { handle = h; head = f.head; is = f.is; place = i; there = f.there }

      pub in_row : p < length L.row
      in_row = let l = laid.inside spot_place in let f = found L xs h i p e in omega (arith, f.lies)

      there : is_some (value_at kept h i) ≡ true
      there = ap is_some (value_read h i ∙ ap (lying L.row) (sym e) ∙ slice_get-get_or L.row p Null in_row)

      -- no other place has the cell p
      not_elsewhere : (a : Place xs) → (a.handle ≡ h → a.place ≢ i) → cell_of L a ≢ p
      not_elsewhere a n same =
          let f = found L xs h i p e in
          let s : cell_of L a ≡ cell_of L spot_place = same ∙ sym f.lies in
          n (laid.apart a spot_place s) (laid.once a spot_place s)

      module _ (v : Value) where
        after_write : store (counted (record_of (rewritten L p v)) xs r q) ≡ written kept h i v
        after_write =
            let f = found L xs h i p e in
            let a = numbered_edit (record_of L) (record_of (rewritten L p v)) 0 h i v xs (λ j x s. (
              λ m. let is : f.head ≡ x = (let a = f.is in let b : slice_get xs h ≡ Some x = ap (slice_get xs) (let z : h ≡ j = omega arith in z) ∙ s in cc) in
                  subst (λ (y : Head). record_of (rewritten L p v) y ≡ with_cell i v (record_of L y)) is
                  (ap (λ vs. record { class = f.head.class; values = vs })
                  (gathered_set L.row p v in_row (L.lies f.head.first) f.head.len i f.there f.lies
                  (λ k l n. not_elsewhere (record { handle = h; head = f.head; is = f.is; place = k; there = l }) (λ _. n)))),
              λ n. ap (λ vs. record { class = x.class; values = vs })
                  (gathered_same L.row (slice_set L.row p v) (L.lies x.first) (L.lies x.first) x.len
                  (λ k l. get_or-set_other L.row p (L.lies x.first k) v Null (not_elsewhere (record { handle = j; head = x; is = s; place = k; there = l }) (λ m _. n (omega arith))))),
            )) in
            ap (λ l. store (means_of l r q)) a ∙ store_edited h i v (numbered (record_of L) 0 xs) r q

        pub puts : (M : Layout) → M ≡ rewritten L p v → Puts (counted (record_of L) xs r q) h i v true (counted (record_of M) xs r q)
        puts M m =
            rw m
            record {
              answer = sym there;
              after = after_write;
              order = order_kept (rewritten L p v);
              refused = not_refused;
            }

    pub puts_nothing : (h i : ℕ) (v : Value) → None ≡ spot_of L xs h i → Puts (counted (record_of L) xs r q) h i v false (counted (record_of L) xs r q)
    puts_nothing h i v e =
        record {
          answer = ap is_some (ap (lying L.row) e ∙ sym (value_read h i));
          after = refl;
          order = refl;
          refused = λ _. refl;
        }

pub laid_written : (L : Layout) (xs : List Head) (p : ℕ) (v : Value) → Laid xs L → (M : Layout) → M ≡ rewritten L p v → Laid xs M
laid_written L xs p v laid M m =
    let n = length-set L.row p v in
    rw m
    record {
      inside = λ a. let l = laid.inside a in omega arith;
      apart = laid.apart;
      once = laid.once;
      total = laid.total ∙ sym n;
      keeps = laid.keeps;
    }
