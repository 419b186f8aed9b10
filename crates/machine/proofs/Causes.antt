-- An end has its cause, and its node is the node gone to or else the top row's.
use Rattle.std.proofs.Common.{◌≡◌, ℕ, ◌≤◌, Bool, true, false, List, [], ◌∷◌, length, ℤ, Some, None, Option, refl, arith}
use Rattle.std.specs.List.{slice_get}
use Rattle.book.specs.declared.node.Node.{Node}
use Rattle.book.specs.declared.node.Node.TheVariants.{Literal, Minus, Less, Equal, IsNull, This, Parameter, FieldRead, Call, New, Reading, FieldWrite, Sequence, If, While, Skip}
use Rattle.book.specs.declared.node.Type.{«Type» as BType}
use Rattle.numbers.specs.Rule.{within}
use Rattle.store.specs.declared.Value.{Value}
use Rattle.store.specs.declared.Value.TheVariants.{Int, Boolean, Null, Handle}
use Rattle.store.specs.Meaning.{Store, room}
use Rattle.cool.specs.Syntax.{Name}
use Rattle.cool.specs.Dynamic.{reading_at}
use Rattle.cool.specs.Book.{Part, fields_of, method_of, place}
use Rattle.machine.specs.declared.state.Around.{Around}
use Rattle.machine.specs.declared.state.Hand.TheVariants.{Go, Have, Done}
use Rattle.machine.specs.declared.state.Stage.{Stage}
use Rattle.machine.specs.declared.state.Stage.TheVariants.{First, Second}
use Rattle.machine.specs.declared.state.Row.{Row}
use Rattle.machine.specs.Machine.{row, State, state, Outcome, next, makes, ends, misfit, Given, Op₂, op_minus, op_less, op_equal, Op₁, op_null, op_field, op_reading, Frame, or_ends, or_misfit, unless, two_ints, an_int, a_test, null_or, not_null, the_cell, result₂, result₁, put_on, step_go, step_have, step_done, step, node_of}
use Rattle.machine.specs.Fit.{GoesFirst, minus_a, less_a, equal_a, null_a, field_a, call_a, reading_a, write_a, sequence_a, if_a, while_a}
use Rattle.machine.specs.Causes.{Targets, field_target, call_target, write_target, Cause, null_target, no_reading, literal_beyond, no_difference, reading_beyond, no_room, no_place}
use Rattle.machine.proofs.Views.{node₂, node₁, View, view, v_two₁, v_two₂, v_one₁, v_call₁, v_call₂, v_call₃, v_call₄, v_write₁, v_write₂, v_sequence₁, v_if₁, v_while₁, v_while₂, v_none}

next_no : {A : Type 0} {s : State} {e k : ℕ} → next s ≡ ends e k → A
next_no q = let z : ◌≡◌ {A = ℕ} 0 1 = cc in absurd (omega arith)

misfit_no : {A : Type 0} {e k : ℕ} → misfit ≡ ends e k → A
misfit_no q = let z : ◌≡◌ {A = ℕ} 0 1 = cc in absurd (omega arith)

-- outcomes that never end a run
pub record Never (o : Outcome) : Type 0 where
  pub never : (e k : ℕ) → o ≡ ends e k → ⊥

next_never : {s : State} → Never (next s)
next_never = record { never = λ e k q. next_no q }

misfit_never : Never misfit
misfit_never = record { never = λ e k q. misfit_no q }

makes_never : {c : ℕ} → Never (makes c)
makes_never = record { never = λ e k q. let z : ◌≡◌ {A = ℕ} 0 1 = cc in omega arith }

found_never : {A : Type 0} {f : A → Outcome} (o : Option A) → ((a : A) → Never (f a)) → Never (or_misfit o f)
unfolding or_misfit
found_never None h = misfit_never
found_never (Some a) h = h a

cell_never : {g : ℕ → Value → Outcome} (fs : List (Name × BType)) (vs : List Value) (f : Name) → ((i : ℕ) (v : Value) → Never (g i v)) → Never (the_cell fs vs f g)
unfolding the_cell
cell_never fs vs f h = found_never (place fs f) (λ i. found_never (slice_get vs i) (λ v. h i v))

test_never : {o p : Outcome} (v : Value) → Never o → Never p → Never (a_test v o p)
unfolding a_test
test_never (Int n) x y = misfit_never
test_never (Boolean true) x y = x
test_never (Boolean false) x y = y
test_never Null x y = misfit_never
test_never (Handle l) x y = misfit_never

null_never : {o : Outcome} {f : ℕ → Outcome} (v : Value) → Never o → ((l : ℕ) → Never (f l)) → Never (null_or v o f)
unfolding null_or
null_never (Int n) x h = misfit_never
null_never (Boolean b) x h = misfit_never
null_never Null x h = x
null_never (Handle l) x h = h l

-- and those that may
unless_stops : {o : Outcome} (d k : ℕ) (b : Bool) {e j : ℕ} → Never o → unless d k b o ≡ ends e j → (b ≡ false) × (d ≡ e) × (k ≡ j)
unfolding unless
unless_stops d k true h q = absurd (h.never _ _ q)
unless_stops d k false h q = (refl, cc, cc)

option_stops : {A : Type 0} {f : A → Outcome} (d k : ℕ) (o : Option A) {e j : ℕ} → ((a : A) → Never (f a)) → or_ends d k o f ≡ ends e j → (o ≡ None) × (d ≡ e) × (k ≡ j)
unfolding or_ends
option_stops d k None h q = (refl, cc, cc)
option_stops d k (Some a) h q = absurd ((h a).never _ _ q)

null_stops : {f : ℕ → Outcome} (k : ℕ) (v : Value) {e j : ℕ} → ((l : ℕ) → Never (f l)) → null_or v (ends 31 k) f ≡ ends e j → (v ≡ Null) × (31 ≡ e) × (k ≡ j)
unfolding null_or
null_stops k (Int n) h q = misfit_no q
null_stops k (Boolean b) h q = misfit_no q
null_stops k Null h q = (refl, cc, cc)
null_stops k (Handle l) h q = absurd ((h l).never _ _ q)

not_null_stops : {o : Outcome} (k : ℕ) (v : Value) {e j : ℕ} → Never o → not_null k v o ≡ ends e j → (v ≡ Null) × (31 ≡ e) × (k ≡ j)
unfolding not_null
not_null_stops k (Int n) h q = absurd (h.never _ _ q)
not_null_stops k (Boolean b) h q = absurd (h.never _ _ q)
not_null_stops k Null h q = (refl, cc, cc)
not_null_stops k (Handle l) h q = absurd (h.never _ _ q)

module _ (G : Given) where
  at_null : {k e j : ℕ} {v : Value} {ε : Around} {ρ : List Row} {S : Store} → Targets (G.book.node k) → (v ≡ Null) × (31 ≡ e) × (k ≡ j) → Cause G (state (Have v) ε (row k First ∷ ρ) S) e j
  at_null t x = let p = x.0 in let q = x.1 in let r = x.2 in rw (p, ← q, ← r) (null_target t)

  put_stops : (k a : ℕ) (ε : Around) (ρ : List Row) (S : Store) {e j : ℕ} → GoesFirst (G.book.node k) a → put_on G k a ε ρ S ≡ ends e j → Cause G (state (Go k) ε ρ S) e j
  unfolding put_on
  put_stops k a ε ρ S g q = let x = unless_stops 35 k _ next_never q in let y = x.1 in let z = x.2 in rw (← y, ← z) (no_place g x.0)

  new_stops : {k e j c : ℕ} (ε : Around) (ρ : List Row) (S : Store) → G.book.node k ≡ Some (New c) → (o : Option Part) → G.book.class c ≡ o → or_misfit o (λ p. unless 34 k (room S (length p.fields)) (makes c)) ≡ ends e j
      → Cause G (state (Go k) ε ρ S) e j
  unfolding or_misfit
  new_stops ε ρ S i None l q = misfit_no q
  new_stops {k} ε ρ S i (Some p) l q = let x = unless_stops 34 k _ makes_never q in let y = x.1 in let z = x.2 in rw (← y, ← z) (no_room i l x.0)

  go_stops : {k e j : ℕ} (ε : Around) (ρ : List Row) (S : Store) (n : Option Node) → G.book.node k ≡ n → step_go G n k ε ρ S ≡ ends e j → Cause G (state (Go k) ε ρ S) e j
  go_stops ε ρ S None i q = misfit_no q
  go_stops {k} ε ρ S (Some (Literal n)) i q = let x = unless_stops 33 k _ next_never q in let y = x.1 in let z = x.2 in rw (← y, ← z) (literal_beyond i x.0)
  go_stops {k} ε ρ S (Some (Minus a b)) i q = put_stops k a ε ρ S (rw i minus_a) q
  go_stops {k} ε ρ S (Some (Less a b)) i q = put_stops k a ε ρ S (rw i less_a) q
  go_stops {k} ε ρ S (Some (Equal a b)) i q = put_stops k a ε ρ S (rw i equal_a) q
  go_stops {k} ε ρ S (Some (IsNull a)) i q = put_stops k a ε ρ S (rw i null_a) q
  go_stops ε ρ S (Some This) i q = absurd ((found_never ε.object (λ l. next_never)).never _ _ q)
  go_stops ε ρ S (Some Parameter) i q = absurd ((found_never ε.parameter (λ l. next_never)).never _ _ q)
  go_stops {k} ε ρ S (Some (FieldRead a f)) i q = put_stops k a ε ρ S (rw i field_a) q
  go_stops {k} ε ρ S (Some (Call a b m)) i q = put_stops k a ε ρ S (rw i call_a) q
  go_stops ε ρ S (Some (New c)) i q = new_stops ε ρ S i (G.book.class c) refl q
  go_stops {k} ε ρ S (Some (Reading a)) i q = put_stops k a ε ρ S (rw i reading_a) q
  go_stops {k} ε ρ S (Some (FieldWrite a b f)) i q = put_stops k a ε ρ S (rw i write_a) q
  go_stops {k} ε ρ S (Some (Sequence a b)) i q = put_stops k a ε ρ S (rw i sequence_a) q
  go_stops {k} ε ρ S (Some (If a b d)) i q = put_stops k a ε ρ S (rw i if_a) q
  go_stops {k} ε ρ S (Some (While a b)) i q = put_stops k a ε ρ S (rw i while_a) q
  go_stops ε ρ S (Some Skip) i q = next_no q

  -- two ints, or a misfit
  ints_stop : {f : ℤ → ℤ → Outcome} (u v : Value) {e j : ℕ} → two_ints u v f ≡ ends e j → (m : ℤ) × (n : ℤ) × (u ≡ Int m) × (v ≡ Int n) × (f m n ≡ ends e j)
  unfolding two_ints
  ints_stop (Int m) (Int n) q = (m, n, refl, refl, q)
  ints_stop (Int m) (Boolean b) q = misfit_no q
  ints_stop (Int m) Null q = misfit_no q
  ints_stop (Int m) (Handle l) q = misfit_no q
  ints_stop (Boolean b) v q = misfit_no q
  ints_stop Null v q = misfit_no q
  ints_stop (Handle l) v q = misfit_no q

  minus_at : {k a b e j : ℕ} {m n : ℤ} {u v : Value} (ε : Around) (ρ : List Row) (S : Store) → u ≡ Int m → v ≡ Int n → 33 ≡ e → k ≡ j → G.book.node k ≡ Some (Minus a b) → G.rule.difference m n ≡ None
      → Cause G (state (Have v) ε (row k (Second u) ∷ ρ) S) e j
  minus_at ε ρ S p q x y i d = rw (p, q, ← x, ← y) (no_difference i d)

  two_stops : {k e j : ℕ} (a b : ℕ) (ε : Around) (ρ : List Row) (S : Store) (o : Op₂) (u v : Value) → G.book.node k ≡ Some (node₂ o a b) → result₂ G.rule k o u v (λ w. next (state (Have w) ε ρ S)) ≡ ends e j
      → Cause G (state (Have v) ε (row k (Second u) ∷ ρ) S) e j
  two_stops {k} a b ε ρ S op_minus u v i q = let x = ints_stop u v q in let y = option_stops 33 k _ (λ d. next_never) x.4 in minus_at ε ρ S x.2 x.3 y.1 y.2 i y.0
  two_stops a b ε ρ S op_less u v i q = let x = ints_stop u v q in next_no x.4
  two_stops a b ε ρ S op_equal u v i q = let x = ints_stop u v q in next_no x.4

  reading_stops : {k a e j : ℕ} (ε : Around) (ρ : List Row) (S : Store) (m : ℤ) → G.book.node k ≡ Some (Reading a) → (o : Option ℤ) → reading_at G.day m ≡ o
      → or_ends 32 k o (λ n. unless 33 k (within G.rule n) (next (state (Have (Int n)) ε ρ S))) ≡ ends e j → Cause G (state (Have (Int m)) ε (row k First ∷ ρ) S) e j
  unfolding or_ends
  reading_stops {k} {e = e} {j} ε ρ S m i None l q = let y : 32 ≡ e = cc in let z : k ≡ j = cc in rw (← y, ← z) (no_reading i l)
  reading_stops {k} ε ρ S m i (Some n) l q = let x = unless_stops 33 k _ next_never q in let y = x.1 in let z = x.2 in rw (← y, ← z) (reading_beyond i l x.0)

  one_stops : {k e j : ℕ} (a : ℕ) (ε : Around) (ρ : List Row) (S : Store) (o : Op₁) (v : Value) → G.book.node k ≡ Some (node₁ o a) → result₁ G k S o v (λ w. next (state (Have w) ε ρ S)) ≡ ends e j
      → Cause G (state (Have v) ε (row k First ∷ ρ) S) e j
  unfolding an_int
  one_stops a ε ρ S op_null v i q = absurd ((null_never v next_never (λ l. next_never)).never _ _ q)
  one_stops {k} a ε ρ S (op_field f) v i q =
      at_null (rw i field_target) (null_stops k v (λ l. found_never (S.look l) (λ o. cell_never (fields_of (G.book.class o.class)) o.values f (λ n w. next_never))) q)
  one_stops a ε ρ S op_reading (Int m) i q = reading_stops ε ρ S m i (reading_at G.day m) refl q
  one_stops a ε ρ S op_reading (Boolean b) i q = misfit_no q
  one_stops a ε ρ S op_reading Null i q = misfit_no q
  one_stops a ε ρ S op_reading (Handle l) i q = misfit_no q

  have_stops : {k e j : ℕ} {n : Option Node} {s : Stage} {f : Frame} (v : Value) (ε : Around) (ρ : List Row) (S : Store) → View n s f → G.book.node k ≡ n → step_have G f k v ε ρ S ≡ ends e j
      → Cause G (state (Have v) ε (row k s ∷ ρ) S) e j
  have_stops v ε ρ S (v_two₁ o a b) i q = next_no q
  have_stops v ε ρ S (v_two₂ o a b {v = u}) i q = two_stops a b ε ρ S o u v i q
  have_stops v ε ρ S (v_one₁ o a) i q = one_stops a ε ρ S o v i q
  have_stops {k} v ε ρ S v_call₁ i q = at_null (rw i call_target) (not_null_stops k v next_never q)
  have_stops v ε ρ S (v_call₂ {m = m} {v = u}) i q =
      absurd ((null_never u misfit_never (λ l. found_never (S.look l) (λ o. found_never (method_of (G.book.class o.class) m) (λ x. next_never)))).never _ _ q)
  have_stops v ε ρ S v_call₃ i q = misfit_no q
  have_stops v ε ρ S v_call₄ i q = next_no q
  have_stops {k} v ε ρ S v_write₁ i q = at_null (rw i write_target) (not_null_stops k v next_never q)
  have_stops v ε ρ S (v_write₂ {f = f} {v = u}) i q =
      absurd ((null_never u misfit_never (λ l. found_never (S.look l) (λ o. cell_never (fields_of (G.book.class o.class)) o.values f (λ n w. next_never)))).never _ _ q)
  have_stops v ε ρ S v_sequence₁ i q = misfit_no q
  have_stops v ε ρ S v_if₁ i q = absurd ((test_never v next_never next_never).never _ _ q)
  have_stops v ε ρ S v_while₁ i q = absurd ((test_never v next_never next_never).never _ _ q)
  have_stops v ε ρ S v_while₂ i q = misfit_no q
  have_stops v ε ρ S v_none i q = misfit_no q

  done_never : (k : ℕ) {n : Option Node} {s : Stage} {f : Frame} (ε : Around) (ρ : List Row) (S : Store) → View n s f → Never (step_done G f k ε ρ S)
  done_never k ε ρ S (v_two₁ o a b) = misfit_never
  done_never k ε ρ S (v_two₂ o a b) = misfit_never
  done_never k ε ρ S (v_one₁ o a) = misfit_never
  done_never k ε ρ S v_call₁ = misfit_never
  done_never k ε ρ S v_call₂ = misfit_never
  done_never k ε ρ S (v_call₃ {m = m}) = found_never ε.object (λ l. found_never (S.look l) (λ o. found_never (method_of (G.book.class o.class) m) (λ x. next_never)))
  done_never k ε ρ S v_call₄ = misfit_never
  done_never k ε ρ S v_write₁ = misfit_never
  done_never k ε ρ S v_write₂ = misfit_never
  done_never k ε ρ S v_sequence₁ = next_never
  done_never k ε ρ S v_if₁ = misfit_never
  done_never k ε ρ S v_while₁ = misfit_never
  done_never k ε ρ S v_while₂ = next_never
  done_never k ε ρ S v_none = misfit_never

  pub caused : {e j : ℕ} (s : State) → step G s ≡ ends e j → Cause G s e j
  caused (state (Go k) ε ρ S) q = go_stops ε ρ S (G.book.node k) refl q
  caused (state (Have v) ε [] S) q = let z : ◌≡◌ {A = ℕ} 0 1 = cc in absurd (omega arith)
  caused (state (Have v) ε (r ∷ ρ) S) q = have_stops v ε ρ S (view (G.book.node r.node) r.stage) refl q
  caused (state Done ε [] S) q = let z : ◌≡◌ {A = ℕ} 0 1 = cc in absurd (omega arith)
  caused (state Done ε (r ∷ ρ) S) q = absurd ((done_never r.node ε ρ S (view (G.book.node r.node) r.stage)).never _ _ q)

  -- the numbers of ends
  pub cause_range : {s : State} {e j : ℕ} → Cause G s e j → (31 ≤ e) × (e ≤ 35)
  cause_range (null_target t) = (omega arith, omega arith)
  cause_range (no_reading i j) = (omega arith, omega arith)
  cause_range (literal_beyond i j) = (omega arith, omega arith)
  cause_range (no_difference i j) = (omega arith, omega arith)
  cause_range (reading_beyond i j k) = (omega arith, omega arith)
  cause_range (no_room i j k) = (omega arith, omega arith)
  cause_range (no_place g i) = (omega arith, omega arith)

  pub cause_node : {s : State} {e j : ℕ} → Cause G s e j → j ≡ node_of s
  cause_node (null_target t) = refl
  cause_node (no_reading i j) = refl
  cause_node (literal_beyond i j) = refl
  cause_node (no_difference i j) = refl
  cause_node (reading_beyond i j k) = refl
  cause_node (no_room i j k) = refl
  cause_node (no_place g i) = refl
