-- Names one after another.
use Rattle.std.proofs.Common.{◌≡◌, ℕ, zero, suc, ◌+◌, ◌<◌, ◌≤◌, true, false, ltb, List, [], ◌∷◌, length, get_or, Some, None, Option, sym, ap, subst, inl, inr, add-one, arith, ◌&&◌, leb, take, drop, ◌∙◌, length-drop, refl, eqb, eq-eqb, Bool}
use Rattle.std.specs.Prelude.{MatchOption}
use Rattle.std.specs.Option.{option_map}
use Rattle.std.specs.Iterator.{Yields, YieldsThen, SkipsThenYields}
use Rattle.std.specs.List.{FoldsTo}
use Rattle.std.specs.declared.iter.Take.{Take}
use denote.Ref.{Bor}
use Rattle.book.specs.declared.names.Names.{Names}
use Rattle.std.specs.List.{between}
use Rattle.std.proofs.lemmas.Slice.{first_rest}
use Rattle.std.proofs.lemmas.Bool.{cases_Bool, cases_eq, cases_lt, lt-ltb, le-ltb, ne_eqb, and_from, and_left, and_right, cond-true, cond-false}
use Rattle.book.specs.Names.{cut, spelled, some_left, and_then, after_names, nth_name, same_name}
use Rattle.book.specs.Counting.{any_below}
use Rattle.book.specs.Faults.{wrong_name_in}
use Rattle.book.proofs.Counts.{any_none, any_some, none_more}

-- a function of a list, by the list's first element and the rest, as a slice pattern gives them
pub at_first : {Y : Type 0} (F : List ℕ → Y) (xs : List ℕ) → 0 < length xs → F xs ≡ F (get_or xs 0 0 ∷ between 1 (length xs) xs)
at_first F xs h = ap F (first_rest xs 0 h)

second_same : (a b x y : List ℕ) → ◌≡◌ {A = Option (List ℕ × List ℕ)} (Some (a, b)) (Some (x, y)) → b ≡ y
second_same a b x y e = let same : ◌≡◌ {A = List ℕ × List ℕ} (a, b) (x, y) = cc in ap (λ (p : List ℕ × List ℕ). p.1) same

-- the bytes after a name are fewer
pub cut_shorter : (bs x y : List ℕ) → cut bs ≡ Some (x, y) → length y < length bs
cut_shorter [] x y e = cc
cut_shorter (l ∷ rest) x y e =
    elim (cases_Bool ((leb l 31 && leb l (length rest)) && spelled (take l rest))) [
      | inl yes' ↦ let tail = second_same (take l rest) (drop l rest) x y (sym (cond-true _ _ _ yes') ∙ e) in omega (arith, ap length tail, length-drop l rest)
      | inr no' ↦ let clash = sym (cond-false ((leb l 31 && leb l (length rest)) && spelled (take l rest)) (Some (take l rest, drop l rest)) None no') ∙ e in cc
    ]

-- what follows where a first answer is there
through : {A B C : Type 0} (o : Option A) (f : A → Option B) (g : A → Option C) (x : B) (z : Option C) → ((p : A) → f p ≡ Some x → g p ≡ z)
    → and_then o f ≡ Some x → and_then o g ≡ z
through None f g x z h e = let clash : ◌≡◌ {A = ℕ} 0 1 = cc in absurd (omega arith)
through (Some p) f g x z h e = h p e

-- one name more
after_suc : (n : ℕ) (bs rest x y : List ℕ) → after_names n bs ≡ Some rest → cut rest ≡ Some (x, y) → after_names (suc n) bs ≡ Some y
after_suc zero bs rest x y e h = let same : bs ≡ rest = cc in rw (same, h)
after_suc (suc n) bs rest x y e h = through (cut bs) _ _ rest (Some y) (λ p q. after_suc n p.1 rest x y q h) e

pub after_more : (n : ℕ) (bs rest x y : List ℕ) → after_names n bs ≡ Some rest → cut rest ≡ Some (x, y) → after_names (n + 1) bs ≡ Some y
after_more n bs rest x y e h = rw add-one (after_suc n bs rest x y e h)

-- a name stands where its bytes are cut
pub name_there : (n : ℕ) (bs rest x y : List ℕ) → after_names n bs ≡ Some rest → cut rest ≡ Some (x, y) → nth_name n bs ≡ Some x
name_there n bs rest x y e h = rw (e, h)

-- after a name that is faulty or cut there is none
after_none : (n k : ℕ) (bs rest : List ℕ) → after_names n bs ≡ Some rest → cut rest ≡ None → n < k → after_names k bs ≡ None
after_none n zero bs rest e h l = absurd (omega arith)
after_none zero (suc k) bs rest e h l = let same : bs ≡ rest = cc in rw (same, h)
after_none (suc n) (suc k) bs rest e h l = through (cut bs) _ _ rest None (λ p q. after_none n k p.1 rest q h (omega arith)) e

pub name_none : (n k : ℕ) (bs rest : List ℕ) → after_names n bs ≡ Some rest → cut rest ≡ None → n ≤ k → nth_name k bs ≡ None
name_none n k bs rest e h l =
    elim (cases_eq n k) [
      | inl same ↦ subst (λ j. nth_name j bs ≡ None) same (rw (e, h))
      | inr other ↦ let gone : after_names k bs ≡ None = after_none n k bs rest e h (omega arith) in rw gone
    ]

-- what a call of `next` gives
abbrev steps : Names → Option (Bor (List ℕ)) → Names → Type 0
steps s r t = MatchOption r (cut s.rest.now ≡ None) (λ name. cut s.rest.now ≡ Some (name.now, t.rest.now))

yields_after : (xs : List (Bor (List ℕ))) (s t : Names) → Yields steps s xs t → after_names (length xs) s.rest.now ≡ Some t.rest.now
yields_after [] s t e = ap (λ (u : Names). Some u.rest.now) e
yields_after (x ∷ xs) s t (j, step, more) = rw step (yields_after xs j t more)

-- so name n is what the iterator gives after n names
pub nth_is : (n : ℕ) (s u : Names) (r : Option (Bor (List ℕ))) → SkipsThenYields steps s n r u → option_map (λ x. x.now) r ≡ nth_name n s.rest.now
nth_is n s u None (xs, (t, y, step), few) = sym (name_none (length xs) n s.rest.now t.rest.now (yields_after xs s t y) step few)
nth_is n s u (Some x) (xs, (t, y, step), len) = sym (subst (λ m. nth_name m s.rest.now ≡ Some x.now) len (name_there (length xs) s.rest.now t.rest.now x.now u.rest.now (yields_after xs s t y) step))

-- how the walks over names end and go on, for a test of a name with number k
module _ (bs rest name : List ℕ) (m : ℕ) (here : after_names m bs ≡ Some rest) where
  pub stops_none : (n : ℕ) → cut rest ≡ None → ((k : ℕ) → k < m → same_name (nth_name k bs) (Some name) ≡ false)
      → false ≡ any_below n (λ k. same_name (nth_name k bs) (Some name))
  stops_none n h none =
      sym (any_none _ n (λ k l. elim (cases_lt k m) [
        | inl low ↦ none k low
        | inr high ↦ let gone : nth_name k bs ≡ None = name_none m k bs rest here h high in rw gone
      ]))

  pub stops_same : (n : ℕ) (x y : List ℕ) → m < n → cut rest ≡ Some (x, y) → same_name (Some x) (Some name) ≡ true
      → true ≡ any_below n (λ k. same_name (nth_name k bs) (Some name))
  stops_same n x y l h e =
      let there : nth_name m bs ≡ Some x = name_there m bs rest x y here h in
      sym (any_some (λ k. same_name (nth_name k bs) (Some name)) n m l (rw there e))

  pub goes_on : (x y : List ℕ) → cut rest ≡ Some (x, y) → same_name (Some x) (Some name) ≡ false
      → ((k : ℕ) → k < m → same_name (nth_name k bs) (Some name) ≡ false) → (k : ℕ) → k < m + 1 → same_name (nth_name k bs) (Some name) ≡ false
  goes_on x y h e none =
      let there : nth_name m bs ≡ Some x = name_there m bs rest x y here h in
      none_more (λ k. same_name (nth_name k bs) (Some name)) m none (rw there e)

-- a name that is cut, and the same as none before it, is right
pub name_right : (count n : ℕ) (bs rest x y : List ℕ) → n < count → after_names n bs ≡ Some rest → cut rest ≡ Some (x, y)
    → any_below n (λ m. same_name (nth_name m bs) (Some x)) ≡ false → wrong_name_in count bs n ≡ false
name_right count n bs rest x y l e h fresh =
    let there : nth_name n bs ≡ Some x = name_there n bs rest x y e h in
    let low : ltb n count ≡ true = lt-ltb n count l in
    rw (low, there, fresh)

-- behind the last name
module _ (count : ℕ) (bs rest : List ℕ) (here : after_names count bs ≡ Some rest) where
  pub names_left : 0 < length rest → wrong_name_in count bs count ≡ true
  names_left l = cond-false _ _ _ (le-ltb count count (omega arith)) ∙ and_from _ _ (eq-eqb count count refl) (ap some_left here ∙ lt-ltb 0 (length rest) l)

  pub names_over : length rest ≡ 0 → ((k : ℕ) → k < count → wrong_name_in count bs k ≡ false) → (q : ℕ) → wrong_name_in count bs q ≡ false
  names_over e right q =
      elim (cases_lt q count) [
        | inl low ↦ right q low
        | inr high ↦ cond-false _ _ _ (le-ltb q count high) ∙ elim (cases_eq q count) [
          | inl same ↦ and_right (eqb q count) _ (ap some_left (ap (λ n. after_names n bs) same ∙ here) ∙ le-ltb 0 (length rest) (omega arith))
          | inr other ↦ and_left _ _ (ne_eqb q count other)
        ]
      ]

-- what a call of `next` gives after `take`
abbrev taken : Take Names → Option (Bor (List ℕ)) → Take Names → Type 0
taken s r t = MatchOption r (0 < s.n → cut s.iter.rest.now ≡ None) (λ x. (cut s.iter.rest.now ≡ Some (x.now, t.iter.rest.now)) × (t.n + 1 ≡ s.n))

-- whether a name is among the first n, by a test of each that changes nothing
module _ {F : Type 0} (Miss Hit : F → Bor (List ℕ) → F → Type 0) (bs name : List ℕ) (n : ℕ) (f : F) (u : Take Names) (r : Bool)
    (misses : (x : Bor (List ℕ)) (q : F) → Miss f x q → (q ≡ f) × (same_name (Some x.now) (Some name) ≡ false))
    (hits : (x : Bor (List ℕ)) (q : F) → Hit f x q → same_name (Some x.now) (Some name) ≡ true) where
  any_end : (o : Option (Bor (List ℕ))) (j : F) → MatchOption o (r ≡ false) (λ x. (r ≡ true) × ((h : F) × Hit j x h)) → (m : ℕ) (s : Take Names) → taken s o u → j ≡ f
      → after_names m bs ≡ Some s.iter.rest.now → s.n + m ≡ n → ((k : ℕ) → k < m → same_name (nth_name k bs) (Some name) ≡ false)
      → r ≡ any_below n (λ k. same_name (nth_name k bs) (Some name))
  any_end None j e m s last same here left none =
      elim (cases_eq s.n 0) [
        | inl empty ↦ e ∙ sym (any_none _ n (λ k l. none k (omega arith)))
        | inr more ↦ e ∙ stops_none bs s.iter.rest.now name m here n (last (omega arith)) none
      ]
  any_end (Some x) j (yes', (h, hit)) m s (is, fewer) same here left none =
      yes' ∙ stops_same bs s.iter.rest.now name m here n x.now u.iter.rest.now (omega arith) is (hits x h (subst (λ p. Hit p x h) same hit))

  any_walk : (o : Option (Bor (List ℕ))) (j : F) → MatchOption o (r ≡ false) (λ x. (r ≡ true) × ((h : F) × Hit j x h)) → (xs : List (Bor (List ℕ))) (p : F) (m : ℕ) (s t : Take Names)
      → Yields taken s xs t → taken t o u → FoldsTo Miss p xs j → p ≡ f
      → after_names m bs ≡ Some s.iter.rest.now → s.n + m ≡ n → ((k : ℕ) → k < m → same_name (nth_name k bs) (Some name) ≡ false)
      → r ≡ any_below n (λ k. same_name (nth_name k bs) (Some name))
  any_walk o j ends [] p m s t y last folds same here left none = any_end o j ends m s (subst (λ v. taken v o u) (sym y) last) (sym folds ∙ same) here left none
  any_walk o j ends (x ∷ xs) p m s t (v, (is, fewer), more) last (q, miss, folds) same here left none =
      let was = misses x q (subst (λ w. Miss w x q) same miss) in
      any_walk o j ends xs q (m + 1) v t more last folds was.0 (after_more m bs s.iter.rest.now x.now v.iter.rest.now here is) (omega arith)
      (goes_on bs s.iter.rest.now name m here x.now v.iter.rest.now is was.1 none)

  pub any_taken : (s : Take Names) → s.iter.rest.now ≡ bs → s.n ≡ n
      → (xs : List (Bor (List ℕ))) × (o : Option (Bor (List ℕ))) × (j : F) × YieldsThen taken s xs o u × FoldsTo Miss f xs j × MatchOption o (r ≡ false) (λ x. (r ≡ true) × ((h : F) × Hit j x h))
      → r ≡ any_below n (λ k. same_name (nth_name k bs) (Some name))
  any_taken s start count (xs, o, j, (t, y, last), folds, ends) =
      any_walk o j ends xs f 0 s t y last folds refl (ap (λ b. Some b) (sym start)) (omega arith) (λ k l. absurd (omega arith))
