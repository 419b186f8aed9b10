-- A step keeps states alike, and comes to the same end.
use Rattle.std.proofs.Common.{◌≡◌, ℕ, zero, suc, ◌+◌, ◌<◌, Bool, true, false, cond, eqb, ltb, List, [], ◌∷◌, length, set, ℤ, Some, None, Option, sym, refl, ap, ◌∙◌, add-one, arith}
use Rattle.std.specs.Option.{option_map}
use Rattle.std.specs.List.{slice_get}
use Rattle.book.specs.declared.node.Node.{Node}
use Rattle.book.specs.declared.node.Node.TheVariants.{Literal, Minus, Less, Equal, IsNull, This, Parameter, FieldRead, Call, New, Reading, FieldWrite, Sequence, If, While, Skip}
use Rattle.book.specs.declared.node.Type.{«Type» as BType}
use Rattle.book.specs.declared.node.Type.TheVariants as T
use Rattle.store.specs.declared.Value.{Value}
use Rattle.store.specs.Meaning.{Rec, Store, room, added, written, with_cell}
use Rattle.cool.specs.Syntax.{Name}
use Rattle.cool.specs.Dynamic.{reading_at}
use Rattle.cool.specs.Book.{Meth, Part, fields_of, method_of, place}
use Rattle.cool.proofs.Base.{no_some, unlike, eqb_self, eqb_eq, eqb_sym}
use Rattle.machine.specs.declared.state.Around.{Around}
use Rattle.machine.specs.declared.state.Hand.TheVariants.{Go}
use Rattle.machine.specs.declared.state.Stage.{Stage}
use Rattle.machine.specs.declared.state.Row.{Row}
use Rattle.machine.specs.Fields.{first_value, first_values}
use Rattle.machine.specs.Machine.{State, state, Outcome, next, makes, ends, finished, misfit, Given, Op₂, op_minus, op_less, op_equal, Op₁, op_null, op_field, op_reading, Frame, two₁, two₂, one₁, call₁, call₂, call₃, call₄, write₁, write₂, sequence₁, if₁, while₁, while₂, no_line, at_first, at_two, frame, or_ends, or_misfit, unless, two_ints, an_int, a_test, null_or, not_null, the_cell, result₂, result₁, put_on, step_go, step_have, step_done, step, LineWith, line_next, line_make, start, Reached, at_start, one_more, node_of}
use Rattle.machine.specs.Likeness.{Pair, ◌↔◌, Naming, ◌∋◌, here, there, Exact, ◌⊨◌≈◌, ≈-int, ≈-boolean, ≈-null, ≈-handle, Lists, nil, cons, Recs, same_class, Both, neither, both, Stores, Arounds, Stages, is_first, is_second, is_turn, is_third, is_fourth, Rows, no_rows, a_row, both_go, both_have, both_done, States, alike, ◌≅◌, by_naming}

pub data Outcomes (β : Naming) : Outcome → Outcome → Type 0 where
  both_next : {s t : State} → States β s t → Outcomes β (next s) (next t)
  both_make : {c : ℕ} → Outcomes β (makes c) (makes c)
  both_end : {e k : ℕ} → Outcomes β (ends e k) (ends e k)
  both_finish : Outcomes β finished finished
  both_misfit : Outcomes β misfit misfit

-- what rows wait to do, alike
data Frames (β : Naming) : Frame → Frame → Type 0 where
  is_two₁ : {o : Op₂} {b : ℕ} → Frames β (two₁ o b) (two₁ o b)
  is_two₂ : {o : Op₂} {u v : Value} → β ⊨ u ≈ v → Frames β (two₂ o u) (two₂ o v)
  is_one₁ : {o : Op₁} → Frames β (one₁ o) (one₁ o)
  is_call₁ : {b : ℕ} {m : Name} → Frames β (call₁ b m) (call₁ b m)
  is_call₂ : {m : Name} {u v : Value} → β ⊨ u ≈ v → Frames β (call₂ m u) (call₂ m v)
  is_call₃ : {m : Name} {ε δ : Around} → Arounds β ε δ → Frames β (call₃ m ε) (call₃ m δ)
  is_call₄ : {ε δ : Around} → Arounds β ε δ → Frames β (call₄ ε) (call₄ δ)
  is_write₁ : {b : ℕ} {f : Name} → Frames β (write₁ b f) (write₁ b f)
  is_write₂ : {f : Name} {u v : Value} → β ⊨ u ≈ v → Frames β (write₂ f u) (write₂ f v)
  is_sequence₁ : {b : ℕ} → Frames β (sequence₁ b) (sequence₁ b)
  is_if₁ : {b d : ℕ} → Frames β (if₁ b d) (if₁ b d)
  is_while₁ : {a b : ℕ} → Frames β (while₁ a b) (while₁ a b)
  is_while₂ : {a b : ℕ} → Frames β (while₂ a b) (while₂ a b)
  is_no_line : Frames β no_line no_line

two_both : {β : Naming} {s t : Stage} (o : Op₂) (b : ℕ) → Stages β s t → Frames β (at_two s (two₁ o b) (two₂ o)) (at_two t (two₁ o b) (two₂ o))
two_both o b is_first = is_two₁
two_both o b (is_second x) = is_two₂ x
two_both o b is_turn = is_no_line
two_both o b (is_third e) = is_no_line
two_both o b (is_fourth e) = is_no_line

first_both : {β : Naming} {s t : Stage} {f : Frame} → Frames β f f → Stages β s t → Frames β (at_first s f) (at_first t f)
first_both i is_first = i
first_both i (is_second x) = is_no_line
first_both i is_turn = is_no_line
first_both i (is_third e) = is_no_line
first_both i (is_fourth e) = is_no_line

frame_both : {β : Naming} {s t : Stage} (n : Option Node) → Stages β s t → Frames β (frame n s) (frame n t)
frame_both None q = is_no_line
frame_both (Some (Literal n)) q = is_no_line
frame_both (Some (Minus a b)) q = two_both op_minus b q
frame_both (Some (Less a b)) q = two_both op_less b q
frame_both (Some (Equal a b)) q = two_both op_equal b q
frame_both (Some (IsNull a)) q = first_both is_one₁ q
frame_both (Some This) q = is_no_line
frame_both (Some Parameter) q = is_no_line
frame_both (Some (FieldRead a f)) q = first_both is_one₁ q
frame_both (Some (Call a b m)) is_first = is_call₁
frame_both (Some (Call a b m)) (is_second x) = is_call₂ x
frame_both (Some (Call a b m)) is_turn = is_no_line
frame_both (Some (Call a b m)) (is_third e) = is_call₃ e
frame_both (Some (Call a b m)) (is_fourth e) = is_call₄ e
frame_both (Some (New c)) q = is_no_line
frame_both (Some (Reading a)) q = first_both is_one₁ q
frame_both (Some (FieldWrite a b f)) is_first = is_write₁
frame_both (Some (FieldWrite a b f)) (is_second x) = is_write₂ x
frame_both (Some (FieldWrite a b f)) is_turn = is_no_line
frame_both (Some (FieldWrite a b f)) (is_third e) = is_no_line
frame_both (Some (FieldWrite a b f)) (is_fourth e) = is_no_line
frame_both (Some (Sequence a b)) q = first_both is_sequence₁ q
frame_both (Some (If a b d)) q = first_both is_if₁ q
frame_both (Some (While a b)) is_first = is_while₁
frame_both (Some (While a b)) (is_second x) = is_no_line
frame_both (Some (While a b)) is_turn = is_while₂
frame_both (Some (While a b)) (is_third e) = is_no_line
frame_both (Some (While a b)) (is_fourth e) = is_no_line
frame_both (Some Skip) q = is_no_line

-- values by place
at_both : {β : Naming} {vs ws : List Value} (i : ℕ) → Lists β vs ws → Both (λ v w. β ⊨ v ≈ w) (slice_get vs i) (slice_get ws i)
at_both i nil = neither
at_both zero (cons e r) = both e
at_both (suc i) (cons e r) = at_both i r

set_both : {β : Naming} {vs ws : List Value} {v w : Value} (i : ℕ) → Lists β vs ws → β ⊨ v ≈ w → Lists β (set vs i v) (set ws i w)
set_both i nil e = nil
set_both zero (cons a r) e = cons e r
set_both (suc i) (cons a r) e = cons a (set_both i r e)

pub same_length : {β : Naming} {vs ws : List Value} → Lists β vs ws → length vs ≡ length ws
same_length nil = refl
same_length (cons e r) = ap suc (same_length r)

-- what paired handles look up to
pub look_both : {β : Naming} {S S' : Store} {x y : ℕ} → Stores β S S' → β ∋ (x ↔ y) → Both (Recs β) (S.look x) (S'.look y)
look_both {x = x} {y} h m = let z = h.pairs x y m in let p = z.2 in let q = z.3 in rw (p, q) (both z.4)

cell_written : {β : Naming} {o p : Rec} (i : ℕ) {v w : Value} → Recs β o p → β ⊨ v ≈ w → Recs β (with_cell i v o) (with_cell i w p)
cell_written i (same_class r) e = same_class (set_both i r e)

-- another value in one cell of paired records
written_both : {β : Naming} {S S' : Store} {x y : ℕ} (i : ℕ) {v w : Value} → Exact β → Stores β S S' → β ∋ (x ↔ y) → β ⊨ v ≈ w → Stores β (written S x i v) (written S' y i w)
unfolding written
written_both {β} {S} {S'} {x} {y} i {v} {w} E h m q =
    record {
      pairs = λ a b j. by a b j (eqb a x) (eqb b y) refl refl (E.exact _ _ _ _ j m);
      left = λ a o e. at_left a o (eqb a x) refl e;
      right = λ b p e. at_right b p (eqb b y) refl e;
      paired = h.paired;
      count = h.count;
      used = h.used;
      most_records = h.most_records;
      most_cells = h.most_cells;
    }
  where
    by : (a b : ℕ) → β ∋ (a ↔ b) → (s t : Bool) → eqb a x ≡ s → eqb b y ≡ t → eqb a x ≡ eqb b y
        → (o : Rec) × (p : Rec) × (cond (eqb a x) (option_map (with_cell i v) (S.look a)) (S.look a) ≡ Some o) × (cond (eqb b y) (option_map (with_cell i w) (S'.look b)) (S'.look b) ≡ Some p) × Recs β o p
    by a b j true true e f g = let z = h.pairs a b j in let k = z.2 in let l = z.3 in (with_cell i v z.0, with_cell i w z.1, rw (e, k), rw (f, l), cell_written i z.4 q)
    by a b j false false e f g = let z = h.pairs a b j in (z.0, z.1, rw e z.2, rw f z.3, z.4)
    by a b j true false e f g = unlike (sym f ∙ (sym g ∙ e))
    by a b j false true e f g = unlike (sym e ∙ (g ∙ f))

    at_left : (a : ℕ) (o : Rec) (s : Bool) → eqb a x ≡ s → cond s (option_map (with_cell i v) (S.look a)) (S.look a) ≡ Some o → (b : ℕ) × (β ∋ (a ↔ b))
    at_left a o true e f = let z = eqb_eq a x e in (y, rw z m)
    at_left a o false e f = h.left a o f

    at_right : (b : ℕ) (o : Rec) (s : Bool) → eqb b y ≡ s → cond s (option_map (with_cell i w) (S'.look b)) (S'.look b) ≡ Some o → (a : ℕ) × (β ∋ (a ↔ b))
    at_right b o true e f = let z = eqb_eq b y e in (x, rw z m)
    at_right b o false e f = h.right b o f

-- more pairs
pub wider : {β : Naming} {p : Pair} {v w : Value} → β ⊨ v ≈ w → (p ∷ β) ⊨ v ≈ w
wider ≈-int = ≈-int
wider ≈-boolean = ≈-boolean
wider ≈-null = ≈-null
wider (≈-handle m) = ≈-handle (there m)

wider_list : {β : Naming} {p : Pair} {vs ws : List Value} → Lists β vs ws → Lists (p ∷ β) vs ws
wider_list nil = nil
wider_list (cons a b) = cons (wider a) (wider_list b)

wider_rec : {β : Naming} {p : Pair} {o q : Rec} → Recs β o q → Recs (p ∷ β) o q
wider_rec (same_class r) = same_class (wider_list r)

wider_object : {β : Naming} {p : Pair} {ℓ ℓ' : Option ℕ} → Both (λ x y. β ∋ (x ↔ y)) ℓ ℓ' → Both (λ x y. (p ∷ β) ∋ (x ↔ y)) ℓ ℓ'
wider_object neither = neither
wider_object (both m) = both (there m)

wider_parameter : {β : Naming} {p : Pair} {v w : Option Value} → Both (λ x y. β ⊨ x ≈ y) v w → Both (λ x y. (p ∷ β) ⊨ x ≈ y) v w
wider_parameter neither = neither
wider_parameter (both m) = both (wider m)

wider_around : {β : Naming} {p : Pair} {ε δ : Around} → Arounds β ε δ → Arounds (p ∷ β) ε δ
wider_around a = record { object = wider_object a.object; parameter = wider_parameter a.parameter }

wider_stage : {β : Naming} {p : Pair} {s t : Stage} → Stages β s t → Stages (p ∷ β) s t
wider_stage is_first = is_first
wider_stage (is_second e) = is_second (wider e)
wider_stage is_turn = is_turn
wider_stage (is_third e) = is_third (wider_around e)
wider_stage (is_fourth e) = is_fourth (wider_around e)

wider_rows : {β : Naming} {p : Pair} {ρ σ : List Row} → Rows β ρ σ → Rows (p ∷ β) ρ σ
wider_rows no_rows = no_rows
wider_rows (a_row s r) = a_row (wider_stage s) (wider_rows r)

first_value_both : {β : Naming} (t : BType) → β ⊨ first_value t ≈ first_value t
first_value_both T.Int = ≈-int
first_value_both T.Boolean = ≈-boolean
first_value_both (T.Class c) = ≈-null

first_values_both : {β : Naming} (fs : List (Name × BType)) → Lists β (first_values fs) (first_values fs)
first_values_both [] = nil
first_values_both (x ∷ fs) = cons (first_value_both x.1) (first_values_both fs)

-- a handle that no record has is in no pair
left_new : {β : Naming} {S S' : Store} {a b : ℕ} (x : ℕ) → Stores β S S' → S.look x ≡ None → β ∋ (a ↔ b) → eqb x a ≡ false
left_new {S = S} {a = a} {b} x h n m = by (eqb x a) refl
  where
    by : (t : Bool) → eqb x a ≡ t → t ≡ false
    by true e = let z = eqb_eq x a e in no_some (sym n ∙ (ap S.look z ∙ (h.pairs a b m).2))
    by false e = refl

right_new : {β : Naming} {S S' : Store} {a b : ℕ} (y : ℕ) → Stores β S S' → S'.look y ≡ None → β ∋ (a ↔ b) → eqb y b ≡ false
right_new {S' = S'} {a = a} {b} y h n m = by (eqb y b) refl
  where
    by : (t : Bool) → eqb y b ≡ t → t ≡ false
    by true e = let z = eqb_eq y b e in no_some (sym n ∙ (ap S'.look z ∙ (h.pairs a b m).3))
    by false e = refl

exact_new : {β : Naming} {S S' : Store} (x y : ℕ) → Exact β → Stores β S S' → S.look x ≡ None → S'.look y ≡ None → Exact ((x ↔ y) ∷ β)
exact_new {β} {S} {S'} x y e r n m = record { exact = by }
  where
    by : (a b a' b' : ℕ) → ((x ↔ y) ∷ β) ∋ (a ↔ b) → ((x ↔ y) ∷ β) ∋ (a' ↔ b') → eqb a a' ≡ eqb b b'
    by a b a' b' here here = eqb_self x ∙ sym (eqb_self y)
    by a b a' b' here (there q) = left_new x r n q ∙ sym (right_new y r m q)
    by a b a' b' (there p) here = eqb_sym a x ∙ left_new x r n p ∙ sym (eqb_sym b y ∙ right_new y r m p)
    by a b a' b' (there p) (there q) = e.exact a b a' b' p q

-- a new record in each, under any fresh handles
added_both : {β : Naming} {S S' : Store} {x y : ℕ} {o p : Rec} → Stores β S S' → S.look x ≡ None → S'.look y ≡ None → Recs ((x ↔ y) ∷ β) o p → length o.values ≡ length p.values
    → Stores ((x ↔ y) ∷ β) (added S x o) (added S' y p)
unfolding added
added_both {β} {S} {S'} {x} {y} {o} {p} h n m q l =
    record {
      pairs = by;
      left = λ a r e. at_left a r (eqb a x) refl e;
      right = λ b r e. at_right b r (eqb b y) refl e;
      paired = let z = h.paired in let w = add-one S.count in cc;
      count = ap (λ c. c + 1) h.count;
      used = let u = h.used in cc;
      most_records = h.most_records;
      most_cells = h.most_cells;
    }
  where
    by : (a b : ℕ) → ((x ↔ y) ∷ β) ∋ (a ↔ b) → (r : Rec) × (s : Rec) × (cond (eqb a x) (Some o) (S.look a) ≡ Some r) × (cond (eqb b y) (Some p) (S'.look b) ≡ Some s) × Recs ((x ↔ y) ∷ β) r s
    by a b here = let i = eqb_self x in let j = eqb_self y in (o, p, rw i, rw j, q)
    by a b (there i) =
        let z = h.pairs a b i in
        let e = eqb_sym a x ∙ left_new x h n i in
        let f = eqb_sym b y ∙ right_new y h m i in
        (z.0, z.1, rw e z.2, rw f z.3, wider_rec z.4)

    at_left : (a : ℕ) (r : Rec) (s : Bool) → eqb a x ≡ s → cond s (Some o) (S.look a) ≡ Some r → (b : ℕ) × (((x ↔ y) ∷ β) ∋ (a ↔ b))
    at_left a r true e f = let z = eqb_eq a x e in (y, rw z here)
    at_left a r false e f = let w = h.left a r f in (w.0, there w.1)

    at_right : (b : ℕ) (r : Rec) (s : Bool) → eqb b y ≡ s → cond s (Some p) (S'.look b) ≡ Some r → (a : ℕ) × (((x ↔ y) ∷ β) ∋ (a ↔ b))
    at_right b r true e f = let z = eqb_eq b y e in (x, rw z here)
    at_right b r false e f = let w = h.right b r f in (w.0, there w.1)

module _ {β : Naming} where
  -- counts agree
  same_rows : {ρ σ : List Row} → Rows β ρ σ → length ρ ≡ length σ
  same_rows no_rows = refl
  same_rows (a_row s r) = ap suc (same_rows r)

  same_room : {S S' : Store} (n : ℕ) → Stores β S S' → room S n ≡ room S' n
  same_room n h = let a = h.count in let b = h.used in let c = h.most_records in let d = h.most_cells in cc

  -- the ways to go on
  unless_both : {o p : Outcome} (e k : ℕ) (a b : Bool) → a ≡ b → Outcomes β o p → Outcomes β (unless e k a o) (unless e k b p)
  unfolding unless
  unless_both e k true true i x = x
  unless_both e k false false i x = both_end
  unless_both e k true false i x = let z : ◌≡◌ {A = ℕ} 0 1 = cc in absurd (omega arith)
  unless_both e k false true i x = let z : ◌≡◌ {A = ℕ} 0 1 = cc in absurd (omega arith)

  found_both : {A B : Type 0} {R : A → B → Type 0} {a : Option A} {b : Option B} {f : A → Outcome} {g : B → Outcome} → Both R a b → ((x : A) (y : B) → R x y → Outcomes β (f x) (g y))
      → Outcomes β (or_misfit a f) (or_misfit b g)
  unfolding or_misfit
  found_both neither h = both_misfit
  found_both (both r) h = h _ _ r

  same_found : {A : Type 0} {f g : A → Outcome} (a : Option A) → ((x : A) → Outcomes β (f x) (g x)) → Outcomes β (or_misfit a f) (or_misfit a g)
  unfolding or_misfit
  same_found None h = both_misfit
  same_found (Some a) h = h a

  same_ends : {A : Type 0} {f g : A → Outcome} (e k : ℕ) (a : Option A) → ((x : A) → Outcomes β (f x) (g x)) → Outcomes β (or_ends e k a f) (or_ends e k a g)
  unfolding or_ends
  same_ends e k None h = both_end
  same_ends e k (Some a) h = h a

  ints_both : {u u' v v' : Value} {f g : ℤ → ℤ → Outcome} → β ⊨ u ≈ u' → β ⊨ v ≈ v' → ((m n : ℤ) → Outcomes β (f m n) (g m n)) → Outcomes β (two_ints u v f) (two_ints u' v' g)
  unfolding two_ints
  ints_both ≈-int ≈-int h = h _ _
  ints_both ≈-int ≈-boolean h = both_misfit
  ints_both ≈-int ≈-null h = both_misfit
  ints_both ≈-int (≈-handle m) h = both_misfit
  ints_both ≈-boolean y h = both_misfit
  ints_both ≈-null y h = both_misfit
  ints_both (≈-handle m) y h = both_misfit

  int_both : {v v' : Value} {f g : ℤ → Outcome} → β ⊨ v ≈ v' → ((m : ℤ) → Outcomes β (f m) (g m)) → Outcomes β (an_int v f) (an_int v' g)
  unfolding an_int
  int_both ≈-int h = h _
  int_both ≈-boolean h = both_misfit
  int_both ≈-null h = both_misfit
  int_both (≈-handle m) h = both_misfit

  test_both : {v v' : Value} {a b c d : Outcome} → β ⊨ v ≈ v' → Outcomes β a b → Outcomes β c d → Outcomes β (a_test v a c) (a_test v' b d)
  unfolding a_test
  test_both ≈-int x y = both_misfit
  test_both (≈-boolean {b = true}) x y = x
  test_both (≈-boolean {b = false}) x y = y
  test_both ≈-null x y = both_misfit
  test_both (≈-handle m) x y = both_misfit

  null_both : {v v' : Value} {a b : Outcome} {f g : ℕ → Outcome} → β ⊨ v ≈ v' → Outcomes β a b → ((x y : ℕ) → β ∋ (x ↔ y) → Outcomes β (f x) (g y)) → Outcomes β (null_or v a f) (null_or v' b g)
  unfolding null_or
  null_both ≈-int x h = both_misfit
  null_both ≈-boolean x h = both_misfit
  null_both ≈-null x h = x
  null_both (≈-handle m) x h = h _ _ m

  not_null_both : {v v' : Value} {a b : Outcome} (k : ℕ) → β ⊨ v ≈ v' → Outcomes β a b → Outcomes β (not_null k v a) (not_null k v' b)
  unfolding not_null
  not_null_both k ≈-int x = x
  not_null_both k ≈-boolean x = x
  not_null_both k ≈-null x = both_end
  not_null_both k (≈-handle m) x = x

  cell_both : {vs ws : List Value} {k l : ℕ → Value → Outcome} (fs : List (Name × BType)) (f : Name) → Lists β vs ws → ((i : ℕ) (v w : Value) → β ⊨ v ≈ w → Outcomes β (k i v) (l i w))
      → Outcomes β (the_cell fs vs f k) (the_cell fs ws f l)
  unfolding the_cell
  cell_both fs f r g = same_found (place fs f) (λ i. found_both (at_both i r) (λ v w e. g i v w e))

-- a step
module _ (G : Given) {β : Naming} (E : Exact β) where
  put_both : {ε δ : Around} {ρ σ : List Row} {S S' : Store} (k a : ℕ) → Arounds β ε δ → Rows β ρ σ → Stores β S S' → Outcomes β (put_on G k a ε ρ S) (put_on G k a δ σ S')
  unfolding put_on
  put_both k a e r hs = unless_both 35 k _ _ (ap (λ n. ltb n G.places) (same_rows r)) (both_next (alike both_go e (a_row is_first r) hs))

  result₂_both : {u u' v v' : Value} {f g : Value → Outcome} (k : ℕ) (o : Op₂) → β ⊨ u ≈ u' → β ⊨ v ≈ v' → ((w w' : Value) → β ⊨ w ≈ w' → Outcomes β (f w) (g w'))
      → Outcomes β (result₂ G.rule k o u v f) (result₂ G.rule k o u' v' g)
  result₂_both k op_minus x y h = ints_both x y (λ m n. same_ends 33 k (G.rule.difference m n) (λ d. h _ _ ≈-int))
  result₂_both k op_less x y h = ints_both x y (λ m n. h _ _ ≈-boolean)
  result₂_both k op_equal x y h = ints_both x y (λ m n. h _ _ ≈-boolean)

  -- a record by paired handles
  record_both : {S S' : Store} {x y : ℕ} {f g : Rec → Outcome} → Stores β S S' → β ∋ (x ↔ y) → ((o p : Rec) → Recs β o p → Outcomes β (f o) (g p)) → Outcomes β (or_misfit (S.look x) f) (or_misfit (S'.look y) g)
  record_both hs m h = found_both (look_both hs m) h

  field_both : {o p : Rec} {k l : ℕ → Value → Outcome} (f : Name) → Recs β o p → ((i : ℕ) (v w : Value) → β ⊨ v ≈ w → Outcomes β (k i v) (l i w))
      → Outcomes β (the_cell (fields_of (G.book.class o.class)) o.values f k) (the_cell (fields_of (G.book.class p.class)) p.values f l)
  field_both f (same_class {c = c} r) h = cell_both (fields_of (G.book.class c)) f r h

  method_both : {o p : Rec} {k l : Meth → Outcome} (m : Name) → Recs β o p → ((q : Meth) → Outcomes β (k q) (l q))
      → Outcomes β (or_misfit (method_of (G.book.class o.class) m) k) (or_misfit (method_of (G.book.class p.class) m) l)
  method_both m (same_class {c = c} r) h = same_found (method_of (G.book.class c) m) h

  result₁_both : {S S' : Store} {v v' : Value} {f g : Value → Outcome} (k : ℕ) (o : Op₁) → Stores β S S' → β ⊨ v ≈ v' → ((w w' : Value) → β ⊨ w ≈ w' → Outcomes β (f w) (g w'))
      → Outcomes β (result₁ G k S o v f) (result₁ G k S' o v' g)
  result₁_both k op_null hs x h = null_both x (h _ _ ≈-boolean) (λ a b m. h _ _ ≈-boolean)
  result₁_both k (op_field n) hs x h = null_both x both_end (λ a b m. record_both hs m (λ o p r. field_both n r (λ i v w e. h v w e)))
  result₁_both k op_reading hs x h = int_both x (λ m. same_ends 32 k (reading_at G.day m) (λ n. unless_both 33 k _ _ refl (h _ _ ≈-int)))

  go_both : {ε δ : Around} {ρ σ : List Row} {S S' : Store} (k : ℕ) (n : Option Node) → Arounds β ε δ → Rows β ρ σ → Stores β S S' → Outcomes β (step_go G n k ε ρ S) (step_go G n k δ σ S')
  go_both k None e r hs = both_misfit
  go_both k (Some (Literal n)) e r hs = unless_both 33 k _ _ refl (both_next (alike (both_have ≈-int) e r hs))
  go_both k (Some (Minus a b)) e r hs = put_both k a e r hs
  go_both k (Some (Less a b)) e r hs = put_both k a e r hs
  go_both k (Some (Equal a b)) e r hs = put_both k a e r hs
  go_both k (Some (IsNull a)) e r hs = put_both k a e r hs
  go_both k (Some This) e r hs = found_both e.object (λ x y m. both_next (alike (both_have (≈-handle m)) e r hs))
  go_both k (Some Parameter) e r hs = found_both e.parameter (λ x y m. both_next (alike (both_have m) e r hs))
  go_both k (Some (FieldRead a f)) e r hs = put_both k a e r hs
  go_both k (Some (Call a b m)) e r hs = put_both k a e r hs
  go_both k (Some (New c)) e r hs = same_found _ (λ p. unless_both 34 k _ _ (same_room (length p.fields) hs) both_make)
  go_both k (Some (Reading a)) e r hs = put_both k a e r hs
  go_both k (Some (FieldWrite a b f)) e r hs = put_both k a e r hs
  go_both k (Some (Sequence a b)) e r hs = put_both k a e r hs
  go_both k (Some (If a b d)) e r hs = put_both k a e r hs
  go_both k (Some (While a b)) e r hs = put_both k a e r hs
  go_both k (Some Skip) e r hs = both_next (alike both_done e r hs)

  have_both : {v w : Value} {ε δ : Around} {ρ σ : List Row} {S S' : Store} {f g : Frame} (k : ℕ) → Frames β f g → β ⊨ v ≈ w → Arounds β ε δ → Rows β ρ σ → Stores β S S'
      → Outcomes β (step_have G f k v ε ρ S) (step_have G g k w δ σ S')
  have_both k is_two₁ x e r hs = both_next (alike both_go e (a_row (is_second x) r) hs)
  have_both k (is_two₂ {o = o} u) x e r hs = result₂_both k o u x (λ w w' i. both_next (alike (both_have i) e r hs))
  have_both k (is_one₁ {o = o}) x e r hs = result₁_both k o hs x (λ w w' i. both_next (alike (both_have i) e r hs))
  have_both k is_call₁ x e r hs = not_null_both k x (both_next (alike both_go e (a_row (is_second x) r) hs))
  have_both k (is_call₂ {m = n} u) x e r hs =
      null_both u both_misfit (λ a b m. record_both hs m (λ o p i. method_both n i (λ q. both_next (alike both_go (record { object = both m; parameter = both x }) (a_row (is_third e) r) hs))))
  have_both k (is_call₃ u) x e r hs = both_misfit
  have_both k (is_call₄ u) x e r hs = both_next (alike (both_have x) u r hs)
  have_both k is_write₁ x e r hs = not_null_both k x (both_next (alike both_go e (a_row (is_second x) r) hs))
  have_both k (is_write₂ {f = n} u) x e r hs =
      null_both u both_misfit (λ a b m. record_both hs m (λ o p i. field_both n i (λ j y z q. both_next (alike both_done e r (written_both j E hs m x)))))
  have_both k is_sequence₁ x e r hs = both_misfit
  have_both k is_if₁ x e r hs = test_both x (both_next (alike both_go e r hs)) (both_next (alike both_go e r hs))
  have_both k is_while₁ x e r hs = test_both x (both_next (alike both_go e (a_row is_turn r) hs)) (both_next (alike both_done e r hs))
  have_both k is_while₂ x e r hs = both_misfit
  have_both k is_no_line x e r hs = both_misfit

  done_both : {ε δ : Around} {ρ σ : List Row} {S S' : Store} {f g : Frame} (k : ℕ) → Frames β f g → Arounds β ε δ → Rows β ρ σ → Stores β S S' → Outcomes β (step_done G f k ε ρ S) (step_done G g k δ σ S')
  done_both k is_two₁ e r hs = both_misfit
  done_both k (is_two₂ u) e r hs = both_misfit
  done_both k is_one₁ e r hs = both_misfit
  done_both k is_call₁ e r hs = both_misfit
  done_both k (is_call₂ u) e r hs = both_misfit
  done_both k (is_call₃ {m = n} u) e r hs =
      found_both e.object (λ x y m. record_both hs m (λ o p i. method_both n i (λ q. both_next (alike both_go e (a_row (is_fourth u) r) hs))))
  done_both k (is_call₄ u) e r hs = both_misfit
  done_both k is_write₁ e r hs = both_misfit
  done_both k (is_write₂ u) e r hs = both_misfit
  done_both k is_sequence₁ e r hs = both_next (alike both_go e r hs)
  done_both k is_if₁ e r hs = both_misfit
  done_both k is_while₁ e r hs = both_misfit
  done_both k is_while₂ e r hs = both_next (alike both_go e (a_row is_first r) hs)
  done_both k is_no_line e r hs = both_misfit

  pub step_both : {s t : State} → States β s t → Outcomes β (step G s) (step G t)
  step_both (alike (both_go {k = k}) e r hs) = go_both k (G.book.node k) e r hs
  step_both (alike (both_have x) e no_rows hs) = both_finish
  step_both (alike (both_have x) e (a_row {k = k} q r) hs) = have_both k (frame_both (G.book.node k) q) x e r hs
  step_both (alike both_done e no_rows hs) = both_finish
  step_both (alike both_done e (a_row {k = k} q r) hs) = done_both k (frame_both (G.book.node k) q) e r hs

next_both : {β : Naming} {o p : Outcome} {s t : State} → Outcomes β o p → o ≡ next s → p ≡ next t → States β s t
next_both {s = s} {t} (both_next {s = s'} {t = t'} x) e f = let a : s' ≡ s = cc in let b : t' ≡ t = cc in rw (← a, ← b) x
next_both both_make e f = let z : ◌≡◌ {A = ℕ} 0 1 = cc in absurd (omega arith)
next_both both_end e f = let z : ◌≡◌ {A = ℕ} 0 1 = cc in absurd (omega arith)
next_both both_finish e f = let z : ◌≡◌ {A = ℕ} 0 1 = cc in absurd (omega arith)
next_both both_misfit e f = let z : ◌≡◌ {A = ℕ} 0 1 = cc in absurd (omega arith)

-- an outcome's sort
abbrev pub sort : Outcome → ℕ
sort (next s) = 0
sort (makes c) = 1
sort (ends e k) = 2
sort finished = 3
sort misfit = 4

pub same_sort : {β : Naming} {o p : Outcome} → Outcomes β o p → sort o ≡ sort p
same_sort (both_next x) = refl
same_sort both_make = refl
same_sort both_end = refl
same_sort both_finish = refl
same_sort both_misfit = refl

pub make_is : (G : Given) {k c : ℕ} {p : Part} (ε : Around) (ρ : List Row) (S : Store) → G.book.node k ≡ Some (New c) → G.book.class c ≡ Some p → room S (length p.fields) ≡ true
    → step G (state (Go k) ε ρ S) ≡ makes c
unfolding unless or_misfit
make_is G ε ρ S q i z = rw (q, i, z)

-- a line keeps them alike, whatever handles the stores choose
pub line_both : (G : Given) {H H' : ℕ → Type 0} {s t s' t' : State} → s ≅ t → LineWith H G s s' → LineWith H' G t t' → s' ≅ t'
line_both G (by_naming E x) (line_next e) (line_next f) = by_naming E (next_both (step_both G E x) e f)
line_both G (by_naming E x) (line_next e) (line_make {ε = ε} {ρ} {S} l q i z h n) =
    let s = sym (ap sort e) ∙ same_sort (step_both G E x) ∙ ap sort (make_is G ε ρ S q i z) in absurd (omega arith)
line_both G (by_naming E x) (line_make {ε = ε} {ρ} {S} l q i z h n) (line_next f) =
    let s = sym (ap sort (make_is G ε ρ S q i z)) ∙ same_sort (step_both G E x) ∙ ap sort f in absurd (omega arith)
line_both G (by_naming E (alike both_go e r hs)) (line_make {c = c} {p = p} l q i z h n) (line_make {c = d} {p = p'} m q' i' z' h' n') =
    let w : d ≡ c = cc in
    let y : Some p' ≡ Some p = sym i' ∙ (ap G.book.class w ∙ i) in
    let u : p' ≡ p = cc in
    rw (w, u) (by_naming (exact_new l m E hs n n') (alike (both_have (≈-handle here)) (wider_around e) (wider_rows r) (added_both hs n n' (same_class (first_values_both p.fields)) refl)))

-- where one ends, the other takes no line; both end with the same number at the same node
pub no_line_both : (G : Given) {H : ℕ → Type 0} {s t t' : State} {e k : ℕ} → s ≅ t → step G s ≡ ends e k → LineWith H G t t' → ⊥
no_line_both G (by_naming E x) e (line_next f) = let s = sym (ap sort e) ∙ same_sort (step_both G E x) ∙ ap sort f in omega arith
no_line_both G (by_naming E x) e (line_make {ε = ε} {ρ} {S} l q i z h n) = let s = sym (ap sort e) ∙ same_sort (step_both G E x) ∙ ap sort (make_is G ε ρ S q i z) in omega arith

ends_both : {β : Naming} {o p : Outcome} {e f j k : ℕ} → Outcomes β o p → o ≡ ends e j → p ≡ ends f k → (e ≡ f) × (j ≡ k)
ends_both (both_next x) a b = (cc, cc)
ends_both both_make a b = (cc, cc)
ends_both both_end a b = (cc, cc)
ends_both both_finish a b = (cc, cc)
ends_both both_misfit a b = (cc, cc)

pub end_both : (G : Given) {s t : State} {e f j k : ℕ} → s ≅ t → step G s ≡ ends e j → step G t ≡ ends f k → (e ≡ f) × (j ≡ k)
end_both G (by_naming E x) a b = ends_both (step_both G E x) a b

pub sorts : (G : Given) {s t : State} {o p : Outcome} → s ≅ t → step G s ≡ o → step G t ≡ p → sort o ≡ sort p
sorts G (by_naming E x) e f = sym (ap sort e) ∙ same_sort (step_both G E x) ∙ ap sort f

-- a state with a line has a next state, or makes a record
pub line_low : (G : Given) {H : ℕ → Type 0} {s t : State} → LineWith H G s t → sort (step G s) < 2
line_low G (line_next e) = let q = ap sort e in omega arith
line_low G (line_make {ε = ε} {ρ} {S} l q i z h n) = let w = ap sort (make_is G ε ρ S q i z) in omega arith

pub same_node : {s t : State} → s ≅ t → node_of s ≡ node_of t
same_node (by_naming E (alike both_go e r hs)) = refl
same_node (by_naming E (alike (both_have x) e no_rows hs)) = refl
same_node (by_naming E (alike (both_have x) e (a_row q r) hs)) = refl
same_node (by_naming E (alike both_done e no_rows hs)) = refl
same_node (by_naming E (alike both_done e (a_row q r) hs)) = refl

pub start_alike : (G : Given) (r q : ℕ) → start G r q ≅ start G r q
start_alike G r q =
    by_naming {β = []} (record { exact = λ x y x' y' i j. elim i [ ] })
    (alike both_go (record { object = neither; parameter = neither }) no_rows
    (record { pairs = λ x y i. elim i [ ]; left = λ x o e. no_some e; right = λ y p e. no_some e; paired = refl; count = refl; used = refl; most_records = refl; most_cells = refl }))

-- two states reached by as many lines
pub reached_alike : {G : Given} {r q n : ℕ} {s t : State} → Reached G r q n s → Reached G r q n t → s ≅ t
reached_alike {G} {r} {q} (at_start a) (at_start b) = rw (a, b) (start_alike G r q)
reached_alike {G} (one_more a x) (one_more b y) = line_both G (reached_alike a b) x y
