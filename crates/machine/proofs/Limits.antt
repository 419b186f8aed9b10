-- A step keeps the limits of the store, and a store with room has a handle to give.
use Rattle.std.proofs.Common.{◌≡◌, ℕ, zero, suc, ◌+◌, ◌^◌, ◌<◌, ◌≤◌, Bool, true, false, cond, ◌&&◌, eqb, ltb, leb, List, [], ◌∷◌, length, ℤ, Some, None, Option, sym, refl, ap, ◌∙◌, arith, ltb→lt}
use Rattle.std.specs.List.{slice_get}
use Rattle.book.specs.declared.node.Node.{Node}
use Rattle.book.specs.declared.node.Node.TheVariants.{Literal, Minus, Less, Equal, IsNull, This, Parameter, FieldRead, Call, New, Reading, FieldWrite, Sequence, If, While, Skip}
use Rattle.book.specs.declared.node.Type.{«Type» as BType}
use Rattle.numbers.specs.Rule.{Rule}
use Rattle.store.specs.declared.Value.{Value}
use Rattle.store.specs.declared.Value.TheVariants.{Int, Boolean, Null, Handle}
use Rattle.store.specs.Meaning.{Rec, Store, room, added, written}
use Rattle.cool.specs.Syntax.{Name}
use Rattle.cool.specs.Dynamic.{reading_at}
use Rattle.cool.specs.Book.{fields_of, method_of, place}
use Rattle.cool.proofs.Base.{unlike, eqb_self, eqb_eq, eqb_sym}
use Rattle.machine.specs.declared.state.Around.{Around}
use Rattle.machine.specs.declared.state.Hand.{Hand}
use Rattle.machine.specs.declared.state.Hand.TheVariants.{Go, Have, Done}
use Rattle.machine.specs.declared.state.Row.{Row}
use Rattle.machine.specs.Machine.{State, state, store_of, Outcome, next, makes, ends, finished, misfit, Given, Op₂, op_minus, op_less, op_equal, Op₁, op_null, op_field, op_reading, Frame, two₁, two₂, one₁, call₁, call₂, call₃, call₄, write₁, write₂, sequence₁, if₁, while₁, while₂, no_line, frame, or_ends, or_misfit, unless, two_ints, an_int, a_test, null_or, not_null, the_cell, result₂, result₁, put_on, step_go, step_have, step_done, step, LineWith, line_next, line_make, Reached, at_start, one_more}
use Rattle.machine.specs.Likeness.{◌↔◌, Naming, ◌∋◌, here, there, alike, ◌≅◌, by_naming}

-- the limits of a store: of records, and of cells
abbrev limits : Store → ℕ × ℕ
limits S = (S.most_records, S.most_cells)

-- if it is a next state, its limits are r
record Limited (r : ℕ × ℕ) (o : Outcome) : Type 0 where
  limited : (t : State) → o ≡ next t → limits (store_of t) ≡ r

module _ (r : ℕ × ℕ) where
  at_next : {t : State} → limits (store_of t) ≡ r → Limited r (next t)
  at_next {t} e = record { limited = λ s q. let z : t ≡ s = cc in rw z at e }

  at_misfit : Limited r misfit
  at_misfit = record { limited = λ s q. let z : ◌≡◌ {A = ℕ} 0 1 = cc in absurd (omega arith) }

  at_ends : {e k : ℕ} → Limited r (ends e k)
  at_ends = record { limited = λ s q. let z : ◌≡◌ {A = ℕ} 0 1 = cc in absurd (omega arith) }

  at_makes : {c : ℕ} → Limited r (makes c)
  at_makes = record { limited = λ s q. let z : ◌≡◌ {A = ℕ} 0 1 = cc in absurd (omega arith) }

  at_found : {A : Type 0} {f : A → Outcome} (o : Option A) → ((a : A) → Limited r (f a)) → Limited r (or_misfit o f)
  unfolding or_misfit
  at_found None h = at_misfit
  at_found (Some a) h = h a

  at_option : {A : Type 0} {f : A → Outcome} (e k : ℕ) (o : Option A) → ((a : A) → Limited r (f a)) → Limited r (or_ends e k o f)
  unfolding or_ends
  at_option e k None h = at_ends
  at_option e k (Some a) h = h a

  at_unless : {o : Outcome} (e k : ℕ) (b : Bool) → Limited r o → Limited r (unless e k b o)
  unfolding unless
  at_unless e k true h = h
  at_unless e k false h = at_ends

  at_ints : {f : ℤ → ℤ → Outcome} (u v : Value) → ((m n : ℤ) → Limited r (f m n)) → Limited r (two_ints u v f)
  unfolding two_ints
  at_ints (Int m) (Int n) h = h m n
  at_ints (Int m) (Boolean b) h = at_misfit
  at_ints (Int m) Null h = at_misfit
  at_ints (Int m) (Handle l) h = at_misfit
  at_ints (Boolean b) v h = at_misfit
  at_ints Null v h = at_misfit
  at_ints (Handle l) v h = at_misfit

  at_int : {f : ℤ → Outcome} (v : Value) → ((m : ℤ) → Limited r (f m)) → Limited r (an_int v f)
  unfolding an_int
  at_int (Int m) h = h m
  at_int (Boolean b) h = at_misfit
  at_int Null h = at_misfit
  at_int (Handle l) h = at_misfit

  at_test : {o p : Outcome} (v : Value) → Limited r o → Limited r p → Limited r (a_test v o p)
  unfolding a_test
  at_test (Int m) h i = at_misfit
  at_test (Boolean true) h i = h
  at_test (Boolean false) h i = i
  at_test Null h i = at_misfit
  at_test (Handle l) h i = at_misfit

  at_null : {o : Outcome} {f : ℕ → Outcome} (v : Value) → Limited r o → ((l : ℕ) → Limited r (f l)) → Limited r (null_or v o f)
  unfolding null_or
  at_null (Int m) h i = at_misfit
  at_null (Boolean b) h i = at_misfit
  at_null Null h i = h
  at_null (Handle l) h i = i l

  at_not_null : {o : Outcome} (k : ℕ) (v : Value) → Limited r o → Limited r (not_null k v o)
  unfolding not_null
  at_not_null k (Int m) h = h
  at_not_null k (Boolean b) h = h
  at_not_null k Null h = at_ends
  at_not_null k (Handle l) h = h

  at_cell : {g : ℕ → Value → Outcome} (fs : List (Name × BType)) (vs : List Value) (f : Name) → ((i : ℕ) (v : Value) → Limited r (g i v)) → Limited r (the_cell fs vs f g)
  unfolding the_cell
  at_cell fs vs f h = at_found (place fs f) (λ i. at_found (slice_get vs i) (λ v. h i v))

  at_put : (G : Given) (k a : ℕ) (ε : Around) (ρ : List Row) (S : Store) → limits S ≡ r → Limited r (put_on G k a ε ρ S)
  unfolding put_on
  at_put G k a ε ρ S e = at_unless _ k _ (at_next e)

  at_result₂ : (R : Rule) (k : ℕ) {f : Value → Outcome} (o : Op₂) (u v : Value) → ((w : Value) → Limited r (f w)) → Limited r (result₂ R k o u v f)
  at_result₂ R k op_minus u v h = at_ints u v (λ m n. at_option 33 k (R.difference m n) (λ d. h _))
  at_result₂ R k op_less u v h = at_ints u v (λ m n. h _)
  at_result₂ R k op_equal u v h = at_ints u v (λ m n. h _)

  at_result₁ : (G : Given) (k : ℕ) (S : Store) {f : Value → Outcome} (o : Op₁) (v : Value) → ((w : Value) → Limited r (f w)) → Limited r (result₁ G k S o v f)
  at_result₁ G k S op_null v h = at_null v (h _) (λ l. h _)
  at_result₁ G k S (op_field g) v h = at_null v at_ends (λ l. at_found (S.look l) (λ o. at_cell (fields_of (G.book.class o.class)) o.values g (λ i w. h w)))
  at_result₁ G k S op_reading v h = at_int v (λ m. at_option 32 k (reading_at G.day m) (λ n. at_unless _ k _ (h _)))

  written_limit : (S : Store) (l i : ℕ) (v : Value) → limits S ≡ r → limits (written S l i v) ≡ r
  unfolding written
  written_limit S l i v e = e

  at_go : (G : Given) (k : ℕ) (ε : Around) (ρ : List Row) (S : Store) → limits S ≡ r → (n : Option Node) → Limited r (step_go G n k ε ρ S)
  at_go G k ε ρ S e None = at_misfit
  at_go G k ε ρ S e (Some (Literal n)) = at_unless _ k _ (at_next e)
  at_go G k ε ρ S e (Some (Minus a b)) = at_put G k a ε ρ S e
  at_go G k ε ρ S e (Some (Less a b)) = at_put G k a ε ρ S e
  at_go G k ε ρ S e (Some (Equal a b)) = at_put G k a ε ρ S e
  at_go G k ε ρ S e (Some (IsNull a)) = at_put G k a ε ρ S e
  at_go G k ε ρ S e (Some This) = at_found ε.object (λ l. at_next e)
  at_go G k ε ρ S e (Some Parameter) = at_found ε.parameter (λ v. at_next e)
  at_go G k ε ρ S e (Some (FieldRead a f)) = at_put G k a ε ρ S e
  at_go G k ε ρ S e (Some (Call a b m)) = at_put G k a ε ρ S e
  at_go G k ε ρ S e (Some (New c)) = at_found (G.book.class c) (λ p. at_unless _ k _ at_makes)
  at_go G k ε ρ S e (Some (Reading a)) = at_put G k a ε ρ S e
  at_go G k ε ρ S e (Some (FieldWrite a b f)) = at_put G k a ε ρ S e
  at_go G k ε ρ S e (Some (Sequence a b)) = at_put G k a ε ρ S e
  at_go G k ε ρ S e (Some (If a b d)) = at_put G k a ε ρ S e
  at_go G k ε ρ S e (Some (While a b)) = at_put G k a ε ρ S e
  at_go G k ε ρ S e (Some Skip) = at_next e

  at_have : (G : Given) (k : ℕ) (v : Value) (ε : Around) (ρ : List Row) (S : Store) → limits S ≡ r → (f : Frame) → Limited r (step_have G f k v ε ρ S)
  at_have G k v ε ρ S e (two₁ o b) = at_next e
  at_have G k v ε ρ S e (two₂ o u) = at_result₂ G.rule k o u v (λ w. at_next e)
  at_have G k v ε ρ S e (one₁ o) = at_result₁ G k S o v (λ w. at_next e)
  at_have G k v ε ρ S e (call₁ b m) = at_not_null k v (at_next e)
  at_have G k v ε ρ S e (call₂ m u) = at_null u at_misfit (λ l. at_found (S.look l) (λ o. at_found (method_of (G.book.class o.class) m) (λ q. at_next e)))
  at_have G k v ε ρ S e (call₃ m δ) = at_misfit
  at_have G k v ε ρ S e (call₄ δ) = at_next e
  at_have G k v ε ρ S e (write₁ b f) = at_not_null k v (at_next e)
  at_have G k v ε ρ S e (write₂ f u) = at_null u at_misfit (λ l. at_found (S.look l) (λ o. at_cell (fields_of (G.book.class o.class)) o.values f (λ i w. at_next (written_limit S l i v e))))
  at_have G k v ε ρ S e (sequence₁ b) = at_misfit
  at_have G k v ε ρ S e (if₁ b d) = at_test v (at_next e) (at_next e)
  at_have G k v ε ρ S e (while₁ a b) = at_test v (at_next e) (at_next e)
  at_have G k v ε ρ S e (while₂ a b) = at_misfit
  at_have G k v ε ρ S e no_line = at_misfit

  at_done : (G : Given) (k : ℕ) (ε : Around) (ρ : List Row) (S : Store) → limits S ≡ r → (f : Frame) → Limited r (step_done G f k ε ρ S)
  at_done G k ε ρ S e (two₁ o b) = at_misfit
  at_done G k ε ρ S e (two₂ o u) = at_misfit
  at_done G k ε ρ S e (one₁ o) = at_misfit
  at_done G k ε ρ S e (call₁ b m) = at_misfit
  at_done G k ε ρ S e (call₂ m u) = at_misfit
  at_done G k ε ρ S e (call₃ m δ) = at_found ε.object (λ l. at_found (S.look l) (λ o. at_found (method_of (G.book.class o.class) m) (λ q. at_next e)))
  at_done G k ε ρ S e (call₄ δ) = at_misfit
  at_done G k ε ρ S e (write₁ b f) = at_misfit
  at_done G k ε ρ S e (write₂ f u) = at_misfit
  at_done G k ε ρ S e (sequence₁ b) = at_next e
  at_done G k ε ρ S e (if₁ b d) = at_misfit
  at_done G k ε ρ S e (while₁ a b) = at_misfit
  at_done G k ε ρ S e (while₂ a b) = at_next e
  at_done G k ε ρ S e no_line = at_misfit

  at_finished : Limited r finished
  at_finished = record { limited = λ s q. let z : ◌≡◌ {A = ℕ} 0 1 = cc in absurd (omega arith) }

  at_step : (G : Given) (s : State) → limits (store_of s) ≡ r → Limited r (step G s)
  at_step G (state (Go k) ε ρ S) e = at_go G k ε ρ S e (G.book.node k)
  at_step G (state (Have v) ε [] S) e = at_finished
  at_step G (state (Have v) ε (x ∷ ρ) S) e = at_have G x.node v ε ρ S e (frame (G.book.node x.node) x.stage)
  at_step G (state Done ε [] S) e = at_finished
  at_step G (state Done ε (x ∷ ρ) S) e = at_done G x.node ε ρ S e (frame (G.book.node x.node) x.stage)

  added_limit : (S : Store) (l : ℕ) (x : Rec) → limits S ≡ r → limits (added S l x) ≡ r
  unfolding added
  added_limit S l x e = e

  line_limit : {G : Given} {H : ℕ → Type 0} {s t : State} → LineWith H G s t → limits (store_of s) ≡ r → limits (store_of t) ≡ r
  line_limit {G} {s = s} {t} (line_next e) i = (at_step G s i).limited t e
  line_limit (line_make {S = S} l e j m h n) i = added_limit S l _ i

pub reached_limits : {G : Given} {r q n : ℕ} {s : State} → Reached G r q n s → ((store_of s).most_records ≡ r) × ((store_of s).most_cells ≡ q)
reached_limits {r = r} {q} x = let e = by x in (ap (λ y. y.0) e, ap (λ y. y.1) e)
  where
    by : {G : Given} {n : ℕ} {s : State} → Reached G r q n s → limits (store_of s) ≡ (r, q)
    by (at_start e) = ap (λ (s : State). limits (store_of s)) e
    by (one_more x l) = line_limit (r, q) l (by x)

-- a number below n that is not in a list shorter than n
has : List ℕ → ℕ → Bool
has [] x = false
has (y ∷ ys) x = cond (eqb x y) true (has ys x)

without : List ℕ → ℕ → List ℕ
without [] x = []
without (y ∷ ys) x = cond (eqb y x) (without ys x) (y ∷ without ys x)

shorter : (ys : List ℕ) (x : ℕ) → length (without ys x) ≤ length ys
unfolding without
shorter [] x = omega arith
shorter (y ∷ ys) x = by (eqb y x) (shorter ys x)
  where
    by : (b : Bool) → length (without ys x) ≤ length ys → length (cond b (without ys x) (y ∷ without ys x)) ≤ length (y ∷ ys)
    by true l = omega arith
    by false l = omega arith

fewer : (ys : List ℕ) (x : ℕ) → has ys x ≡ true → length (without ys x) < length ys
unfolding without has
fewer [] x e = unlike e
fewer (y ∷ ys) x e = by (eqb x y) (eqb y x) (eqb_sym x y) e (shorter ys x) (λ e. fewer ys x e)
  where
    by : (b c : Bool) → b ≡ c → cond b true (has ys x) ≡ true → length (without ys x) ≤ length ys → (has ys x ≡ true → length (without ys x) < length ys) → length (cond c (without ys x) (y ∷ without ys x)) < length (y ∷ ys)
    by true true i e l f = omega arith
    by false false i e l f = let m = f e in omega arith
    by true false i e l f = unlike (sym i)
    by false true i e l f = unlike i

still : (ys : List ℕ) (x z : ℕ) → eqb z x ≡ false → has (without ys x) z ≡ false → has ys z ≡ false
unfolding without has
still [] x z n e = refl
still (y ∷ ys) x z n e = by (eqb y x) refl (eqb z y) refl e (λ e. still ys x z n e)
  where
    by : (b : Bool) → eqb y x ≡ b → (c : Bool) → eqb z y ≡ c → has (cond b (without ys x) (y ∷ without ys x)) z ≡ false → (has (without ys x) z ≡ false → has ys z ≡ false) → cond c true (has ys z) ≡ false
    by true i true j e f = let p = eqb_eq z y j in unlike (sym n ∙ rw p i)
    by true i false j e f = f e
    by false i true j e f = unlike (sym (rw j at e))
    by false i false j e f = f (rw j at e)

free : (n : ℕ) (ys : List ℕ) → length ys < n → (l : ℕ) × (l < n) × (has ys l ≡ false)
free zero ys i = absurd (omega arith)
free (suc n) ys i = by (has ys n) refl (λ j. free n (without ys n) j)
  where
    by : (b : Bool) → has ys n ≡ b → (length (without ys n) < n → (l : ℕ) × (l < n) × (has (without ys n) l ≡ false)) → (l : ℕ) × (l < suc n) × (has ys l ≡ false)
    by false e f = (n, omega arith, e)
    by true e f =
        let m = fewer ys n e in
        let x = f (omega arith) in
        let l = x.1 in
        (x.0, omega arith, still ys n x.0 (other x.0 n (eqb x.0 n) refl l) x.2)
      where
        other : (l n : ℕ) (b : Bool) → eqb l n ≡ b → l < n → b ≡ false
        other l n true e i = let z = eqb_eq l n e in absurd (omega arith)
        other l n false e i = refl

-- the handles of a naming
lefts : Naming → List ℕ
lefts [] = []
lefts ((x ↔ y) ∷ β) = x ∷ lefts β

lefts_length : (β : Naming) → length (lefts β) ≡ length β
unfolding lefts
lefts_length [] = refl
lefts_length ((x ↔ y) ∷ β) = ap suc (lefts_length β)

lefts_has : {β : Naming} {x y : ℕ} → β ∋ (x ↔ y) → has (lefts β) x ≡ true
unfolding lefts has
lefts_has {x = x} here = let e = eqb_self x in rw e
lefts_has {β = (a ↔ b) ∷ β} {x} (there m) = let i = lefts_has m in by (eqb x a) i
  where
    by : (c : Bool) → has (lefts β) x ≡ true → cond c true (has (lefts β) x) ≡ true
    by true i = refl
    by false i = i

room_count : (S : Store) (n : ℕ) → room S n ≡ true → S.count < S.most_records
room_count S n e = by (ltb S.count S.most_records) refl e
  where
    by : (b : Bool) → ltb S.count S.most_records ≡ b → b && leb (S.used + n) S.most_cells ≡ true → S.count < S.most_records
    by true i e = ltb→lt S.count S.most_records (rw i tt)
    by false i e = unlike e

-- a handle that no record has
pub fresh : {x : Hand} {ε : Around} {ρ : List Row} {S : Store} (n : ℕ) → state x ε ρ S ≅ state x ε ρ S → room S n ≡ true → S.most_records ≤ 4096 → (l : ℕ) × (l < 2 ^ 32) × (S.look l ≡ None)
fresh {S = S} n (by_naming {β = β} E (alike h e r hs)) m k =
    let c = room_count S n m in
    let p = hs.paired in
    let q = lefts_length β in
    let f = free 4096 (lefts β) (omega arith) in
    let i = f.1 in
    (f.0, omega arith, by (S.look f.0) refl f.2)
  where
    by : {l : ℕ} (o : Option Rec) → S.look l ≡ o → has (lefts β) l ≡ false → S.look l ≡ None
    by None q e = q
    by {l} (Some o) q e = let y = hs.left l o q in unlike (sym e ∙ lefts_has y.1)
