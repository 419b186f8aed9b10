-- Small facts about tests, options, lists and lookups.
use Rattle.std.proofs.Common.{◌≡◌, ℕ, zero, suc, ◌<◌, ◌≤◌, Bool, true, false, cond, T, eqb, ◌⊎◌, List, [], ◌∷◌, ◌++◌, Some, None, Option, sym, refl, ap, ◌∙◌, inl, inr, arith, eqb→eq}
use lib.Dec.{eqb_refl}
use Rattle.std.specs.List.{slice_get}
use Rattle.cool.specs.Syntax.{Name, find}

pub T_true : (b : Bool) → T b → b ≡ true
T_true true t = refl
T_true false t = absurd t

pub no_some : {A B : Type 0} {a : A} → None ≡ Some a → B
no_some e = let z : ◌≡◌ {A = ℕ} 0 1 = cc in absurd (omega arith)

pub some_same : {A : Type 0} {a b : A} → Some a ≡ Some b → a ≡ b
some_same e = cc

pub unlike : {A : Type 0} → false ≡ true → A
unlike e = let z : ◌≡◌ {A = ℕ} 0 1 = cc in absurd (omega arith)

pub eqb_self : (n : ℕ) → eqb n n ≡ true
eqb_self n = T_true (eqb n n) (eqb_refl n)

pub eqb_eq : (m n : ℕ) → eqb m n ≡ true → m ≡ n
eqb_eq m n e = eqb→eq m n (rw e tt)

pub eqb_sym : (x y : ℕ) → eqb x y ≡ eqb y x
eqb_sym x y = by (eqb x y) (eqb y x) refl refl
  where
    by : (b c : Bool) → eqb x y ≡ b → eqb y x ≡ c → b ≡ c
    by true true p q = refl
    by false false p q = refl
    by true false p q = let e = eqb_eq x y p in sym (rw e (eqb_self y)) ∙ q
    by false true p q = let e = eqb_eq y x q in sym p ∙ rw e (eqb_self x)

pub same_function : {A B : Type 0} (f g : A → B) → ((x : A) → f x ≡ g x) → f ≡ g
same_function f g h = λ i x. h x i

pub none_or : {A : Type 0} (o : Option A) → (o ≡ None) ⊎ ((a : A) × (o ≡ Some a))
none_or None = inl refl
none_or (Some a) = inr (a, refl)

pub below : (c n : ℕ) → (c < n) ⊎ (n ≤ c)
below c zero = inr (omega arith)
below zero (suc n) = inl (omega arith)
below (suc c) (suc n) = up (below c n)
  where
    up : (c < n) ⊎ (n ≤ c) → (suc c < suc n) ⊎ (suc n ≤ suc c)
    up (inl l) = inl (omega arith)
    up (inr l) = inr (omega arith)

-- lists that grow at their end
pub append_nil : {A : Type 0} (xs : List A) → xs ++ [] ≡ xs
append_nil [] = refl
append_nil (x ∷ xs) = ap (λ r. x ∷ r) (append_nil xs)

pub snoc_append : {A : Type 0} (xs ys : List A) (a : A) → (xs ++ (a ∷ [])) ++ ys ≡ xs ++ (a ∷ ys)
snoc_append [] ys a = refl
snoc_append (x ∷ xs) ys a = ap (λ r. x ∷ r) (snoc_append xs ys a)

pub no_snoc : {A B : Type 0} (xs : List A) (a : A) → [] ≡ xs ++ (a ∷ []) → B
no_snoc [] a e = let z : ◌≡◌ {A = ℕ} 0 1 = cc in absurd (omega arith)
no_snoc (x ∷ xs) a e = let z : ◌≡◌ {A = ℕ} 0 1 = cc in absurd (omega arith)

pub snoc_same : {A : Type 0} (xs ys : List A) (a b : A) → xs ++ (a ∷ []) ≡ ys ++ (b ∷ []) → (xs ≡ ys) × (a ≡ b)
snoc_same [] [] a b e = (refl, cc)
snoc_same [] (y ∷ ys) a b e = no_snoc ys b cc
snoc_same (x ∷ xs) [] a b e = no_snoc xs a cc
snoc_same (x ∷ xs) (y ∷ ys) a b e = let i = snoc_same xs ys a b cc in let p = i.0 in let q : x ≡ y = cc in (cc, i.1)

-- lookups
pub find_other : {A : Type 0} (xs : List (Name × A)) (m k : Name) (a : A) → eqb m k ≡ false → find (xs ++ ((k, a) ∷ [])) m ≡ find xs m
find_other [] m k a e = rw e
find_other (x ∷ xs) m k a e = let i = find_other xs m k a e in rw i

pub find_mid : {A : Type 0} (xs ys : List (Name × A)) (m k : Name) (a : A) → find xs m ≡ None → eqb m k ≡ true → find (xs ++ ((k, a) ∷ ys)) m ≡ Some a
find_mid [] ys m k a n e = rw e
find_mid (x ∷ xs) ys m k a n e = by (eqb m x.0) n (λ n. find_mid xs ys m k a n e)
  where
    by : (b : Bool) → cond b (Some x.1) (find xs m) ≡ None → (find xs m ≡ None → find (xs ++ ((k, a) ∷ ys)) m ≡ Some a) → cond b (Some x.1) (find (xs ++ ((k, a) ∷ ys)) m) ≡ Some a
    by true n f = no_some (sym n)
    by false n f = f n

-- what is found stands in the list
pub find_nth : {A : Type 0} (xs : List (Name × A)) (m : Name) (a : A) → find xs m ≡ Some a → (i : ℕ) × (slice_get xs i ≡ Some (m, a))
find_nth [] m a e = no_some e
find_nth (x ∷ xs) m a e = by (eqb m x.0) refl e (λ n. find_nth xs m a n)
  where
    by : (b : Bool) → eqb m x.0 ≡ b → cond b (Some x.1) (find xs m) ≡ Some a → (find xs m ≡ Some a → (i : ℕ) × (slice_get xs i ≡ Some (m, a))) → (i : ℕ) × (slice_get (x ∷ xs) i ≡ Some (m, a))
    by true t e f = let p = eqb_eq m x.0 t in let q : x.1 ≡ a = cc in (0, rw (p, ← q))
    by false t e f = let i = f e in (suc i.0, i.1)
