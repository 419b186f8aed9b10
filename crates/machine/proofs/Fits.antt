-- Every value fits its place and goes on fitting; a fitting state is never a misfit.
use Rattle.std.proofs.Common.{◌≡◌, ℕ, suc, Bool, true, false, cond, ◌&&◌, T, eqb, ◌⊎◌, List, [], ◌∷◌, length, set, ℤ, pos, Some, None, Option, sym, refl, ap, ◌∙◌, inl, inr, arith}
use lib.Signed.{le_z}
use Rattle.std.specs.List.{slice_get}
use Rattle.book.specs.declared.node.Node.{Node}
use Rattle.book.specs.declared.node.Node.TheVariants.{Call, New, Sequence, If, While}
use Rattle.book.specs.declared.node.Type.{«Type» as BType}
use Rattle.book.specs.declared.node.Type.TheVariants as T
use Rattle.numbers.specs.Rule.{Rule, Within, within}
use Rattle.store.specs.declared.Value.{Value}
use Rattle.store.specs.declared.Value.TheVariants.{Int, Boolean, Null, Handle}
use Rattle.store.specs.Meaning.{Rec, Store, room, added, written}
use Rattle.cool.specs.Syntax.{Name, find}
use Rattle.cool.specs.Book.{Meth, Part, Book, fields_of, method_of, Formed, place}
use Rattle.cool.specs.Nodes.{Where, in_method, where_held, ◌∣◌⊩◌∶◌, ◌∣◌⊩◌∶com, n_literal, n_minus, n_less, n_equal, n_is_null, n_this, n_parameter, n_field, n_call, n_new, n_reading, n_assign, n_seq, n_if, n_while, n_skip, Well}
use Rattle.cool.proofs.Base.{no_some, find_nth}
use Rattle.cool.proofs.Stands.{method_part}
use Rattle.cool.proofs.Nodes.{node_type_once, node_apart}
use Rattle.machine.specs.declared.state.Around.{Around}
use Rattle.machine.specs.declared.state.Hand.TheVariants.{Go, Have, Done}
use Rattle.machine.specs.declared.state.Stage.{Stage}
use Rattle.machine.specs.declared.state.Stage.TheVariants.{First, Second, Turn}
use Rattle.machine.specs.declared.state.Row.{Row}
use Rattle.machine.specs.Fields.{first_value, first_values}
use Rattle.machine.specs.Machine.{row, around, State, state, Outcome, next, makes, ends, finished, misfit, Given, Op₂, op_minus, op_less, op_equal, op_field, op_reading, call₂, write₂, frame, or_ends, or_misfit, unless, two_ints, an_int, a_test, null_or, not_null, the_cell, result₂, result₁, put_on, step_go, step_have, step_done, step, LineWith, line_next, line_make, start, Reached, at_start, one_more}
use Rattle.machine.specs.Fit.{Fits, fits_int, fits_boolean, fits_null, fits_handle, Cells, no_cells, a_cell, RecordsFit, AroundFits, none_stand, both_stand, where_of, GoesFirst, minus_a, less_a, equal_a, null_a, field_a, call_a, reading_a, write_a, sequence_a, if_a, while_a, Keeps, minus_b, less_b, equal_b, call_b, write_b, Went, at_stage_1, at_stage_2, at_turn, at_stage_3, at_stage_4, Through, itself, second_part, on_true, on_false, RowsFit, no_rows, a_row, goes, has, is_done, Fitting, fitting}
use Rattle.machine.proofs.Stores.{rec, added_top, added_is, written_is, Stays, stays_added, stays_written}

pub within_ends : (R : Rule) (n : ℤ) → Within R.low R.high n → within R n ≡ true
unfolding within
within_ends R n w = both (le_z R.low n) (le_z n R.high) w.0.le w.1.le
  where
    both : (a b : Bool) → T a → T b → a && b ≡ true
    both true true s t = refl
    both true false s t = absurd t
    both false b s t = absurd s

-- the cell of a field holds a value of its type, and takes another
pub record Cell (R : Rule) (S : Store) (fs : List (Name × BType)) (vs : List Value) (f : Name) (t : BType) : Type 0 where
  pub at : ℕ
  pub holds : Value
  pub is_place : place fs f ≡ Some at
  pub is_held : slice_get vs at ≡ Some holds
  pub held_fits : Fits R S holds t
  pub takes_new : (v : Value) → Fits R S v t → Cells R S fs (set vs at v)

handle_not_null : {l : ℕ} → Handle l ≡ Null → ⊥
handle_not_null e = let z : ◌≡◌ {A = ℕ} 0 1 = cc in omega arith

-- a value of a class that is not null
data ObjectIs (S : Store) (c : ℕ) : Value → Type 0 where
  object_is : {l : ℕ} {vs : List Value} → S.look l ≡ Some (rec c vs) → ObjectIs S c (Handle l)

-- object and parameter in a method
pub record BothAre (R : Rule) (S : Store) (c : ℕ) (t : BType) (ε : Around) : Type 0 where
  pub object : ℕ
  pub parameter : Value
  pub values : List Value
  pub is_object : ε.object ≡ Some object
  pub is_parameter : ε.parameter ≡ Some parameter
  pub looks : S.look object ≡ Some (rec c values)
  pub object_fits : Fits R S (Handle object) (T.Class c)
  pub parameter_fits : Fits R S parameter t

-- what stays fits
module _ {R : Rule} where
  pub fits_stay : {S S' : Store} {v : Value} {t : BType} → Stays S S' → Fits R S v t → Fits R S' v t
  fits_stay k (fits_int w) = fits_int w
  fits_stay k fits_boolean = fits_boolean
  fits_stay k fits_null = fits_null
  fits_stay k (fits_handle o) = fits_handle (k.stays _ _ _ o).1

  cells_stay : {S S' : Store} {fs : List (Name × BType)} {vs : List Value} → Stays S S' → Cells R S fs vs → Cells R S' fs vs
  cells_stay k no_cells = no_cells
  cells_stay k (a_cell f c) = a_cell (fits_stay k f) (cells_stay k c)

  around_stay : {S S' : Store} {Γ : Where} {ε : Around} → Stays S S' → AroundFits R S Γ ε → AroundFits R S' Γ ε
  around_stay k none_stand = none_stand
  around_stay k (both_stand a b) = both_stand (fits_stay k a) (fits_stay k b)

  module _ {B : Book} where
    went_stay : {S S' : Store} {k w : ℕ} {s : Stage} → Stays S S' → Went B R S k s w → Went B R S' k s w
    went_stay i (at_stage_1 g) = at_stage_1 g
    went_stay i (at_stage_2 g x f n) = at_stage_2 g x (fits_stay i f) n
    went_stay i (at_turn e) = at_turn e
    went_stay i (at_stage_3 e x m a) = at_stage_3 e x m (around_stay i a)
    went_stay i (at_stage_4 e x m a) = at_stage_4 e x m (around_stay i a)

    rows_stay : {S S' : Store} {ρ : List Row} {w : ℕ} → Stays S S' → RowsFit B R S ρ w → RowsFit B R S' ρ w
    rows_stay i no_rows = no_rows
    rows_stay i (a_row r t g) = a_row (rows_stay i r) t (went_stay i g)

  first_fits : {S : Store} (t : BType) → Fits R S (first_value t) t
  first_fits T.Int = fits_int (within_ends R (pos 0) R.zero)
  first_fits T.Boolean = fits_boolean
  first_fits (T.Class c) = fits_null

  first_cells : {S : Store} (fs : List (Name × BType)) → Cells R S fs (first_values fs)
  first_cells [] = no_cells
  first_cells (x ∷ fs) = a_cell (first_fits x.1) (first_cells fs)

  pub find_cell : {S : Store} {fs : List (Name × BType)} {vs : List Value} (f : Name) (t : BType) → Cells R S fs vs → find fs f ≡ Some t → Cell R S fs vs f t
  find_cell f t no_cells e = no_some e
  find_cell {S} f t (a_cell {f = g} {t = u} {v} {fs} {vs} a c) e = by (λ e. find_cell f t c e) (eqb f g) refl e
    where
      by : (find fs f ≡ Some t → Cell R S fs vs f t) → (b : Bool) → eqb f g ≡ b → cond b (Some u) (find fs f) ≡ Some t → Cell R S ((g, u) ∷ fs) (v ∷ vs) f t
      by more true i e =
          let q : u ≡ t = cc in
          record { at = 0; holds = v; is_place = rw i; is_held = refl; held_fits = rw q at a; takes_new = λ x y. a_cell (rw (← q) at y) c }
      by more false i e =
          let m = more e in
          let j = m.is_place in
          record { at = suc m.at; holds = m.holds; is_place = rw (i, j); is_held = m.is_held; held_fits = m.held_fits; takes_new = λ x y. a_cell a (m.takes_new x y) }

  -- an int, a boolean, an object or null
  an_int_is : {S : Store} {v : Value} → Fits R S v T.Int → (n : ℤ) × (v ≡ Int n) × (within R n ≡ true)
  an_int_is (fits_int w) = (_, refl, w)

  int_not_null : {S : Store} {v : Value} → Fits R S v T.Int → v ≡ Null → ⊥
  int_not_null (fits_int w) e = let z : ◌≡◌ {A = ℕ} 0 1 = cc in omega arith

  an_object : {S : Store} {v : Value} {c : ℕ} → Fits R S v (T.Class c) → (v ≡ Null → ⊥) → ObjectIs S c v
  an_object fits_null n = absurd (n refl)
  an_object (fits_handle o) n = object_is o

  in_a_method : {S : Store} {Γ : Where} {ε : Around} {c : ℕ} {t : BType} → AroundFits R S Γ ε → Γ ≡ in_method c t → BothAre R S c t ε
  in_a_method none_stand e = let z : ◌≡◌ {A = ℕ} 0 1 = cc in absurd (omega arith)
  in_a_method {S} {ε = ε} {c} {t} (both_stand {c = d} {t = u} {v = v} (fits_handle o) b) e =
      let p : d ≡ c = cc in
      let q : u ≡ t = cc in
      record { object = _; parameter = _; values = _; is_object = refl; is_parameter = refl; looks = rw p at o; object_fits = fits_handle (rw p at o); parameter_fits = rw q at b }

  -- records with one more, or with another value in a cell
  module _ {B : Book} {S : Store} (F : RecordsFit B R S) where
    records_added : (c l : ℕ) (p : Part) → B.class c ≡ Some p → S.look l ≡ None → RecordsFit B R (added S l (rec c (first_values p.fields)))
    records_added c l p k n = record { each = λ i o e. by i o (added_is S l _ i o e) }
      where
        by : (i : ℕ) (o : Rec) → (S.look i ≡ Some o) ⊎ (o ≡ rec c (first_values p.fields))
            → (p' : Part) × (B.class o.class ≡ Some p') × Cells R (added S l (rec c (first_values p.fields))) p'.fields o.values
        by i o (inl e) = let x = F.each i o e in (x.0, x.1, cells_stay (stays_added S l _ n) x.2)
        by i o (inr e) = rw e (p, k, first_cells p.fields)

    records_written : (l j c : ℕ) (v : Value) (us : List Value) (p : Part) → S.look l ≡ Some (rec c us) → B.class c ≡ Some p → Cells R S p.fields (set us j v) → RecordsFit B R (written S l j v)
    records_written l j c v us p o k t = record { each = λ i x e. by i x (written_is S l j v (rec c us) o i x e) }
      where
        by : (i : ℕ) (x : Rec) → (S.look i ≡ Some x) ⊎ (x ≡ rec c (set us j v)) → (p' : Part) × (B.class x.class ≡ Some p') × Cells R (written S l j v) p'.fields x.values
        by i x (inl e) = let y = F.each i x e in (y.0, y.1, cells_stay (stays_written S l j v) y.2)
        by i x (inr e) = rw e (p, k, cells_stay (stays_written S l j v) t)

-- the types of the nodes that rows go to
module _ {B : Book} (F : Formed B) {z : BType} (W : Well B z) where
  held : (c : ℕ) (m : Name) (q : Meth) → method_of (B.class c) m ≡ Some q → (B.holder q.body ≡ Some (c, q)) × (B.holder q.result ≡ Some (c, q))
  held c m q e = let p = method_part (B.class c) e in let i = find_nth p.0.methods m q p.2 in F.roots_held c i.0 p.0 m q p.1 i.1

  pub body_typed : (c : ℕ) (m : Name) (q : Meth) → method_of (B.class c) m ≡ Some q → B ∣ where_of B q.body ⊩ B.node q.body ∶com
  body_typed c m q e = let h = (held c m q e).0 in rw h (W.body c m q e)

  pub result_typed : (c : ℕ) (m : Name) (q : Meth) → method_of (B.class c) m ≡ Some q → B ∣ where_of B q.result ⊩ B.node q.result ∶ q.gives
  result_typed c m q e = let h = (held c m q e).1 in rw h (W.result c m q e)

  pub top_typed : B ∣ where_of B B.root ⊩ B.node B.root ∶ z
  top_typed = let h = F.top_held in rw h W.top

  -- in the same strip
  expr_in : {a k : ℕ} {n : Option Node} {t : BType} → B.holder a ≡ B.holder k → B ∣ where_of B k ⊩ n ∶ t → B ∣ where_of B a ⊩ n ∶ t
  expr_in h x = rw h x

  com_in : {a k : ℕ} {n : Option Node} → B.holder a ≡ B.holder k → B ∣ where_of B k ⊩ n ∶com → B ∣ where_of B a ⊩ n ∶com
  com_in h x = rw h x

  around_in : {R : Rule} {S : Store} {ε : Around} {a k : ℕ} → B.holder a ≡ B.holder k → AroundFits R S (where_of B k) ε → AroundFits R S (where_of B a) ε
  around_in h x = rw h x

  first_held : {k a : ℕ} {n : Option Node} → GoesFirst n a → B.node k ≡ n → B.holder a ≡ B.holder k
  first_held {k} minus_a e = (F.parts k _ e).0.0.0.1
  first_held {k} less_a e = (F.parts k _ e).0.0.0.1
  first_held {k} equal_a e = (F.parts k _ e).0.0.0.1
  first_held {k} null_a e = (F.parts k _ e).0.0.0.1
  first_held {k} field_a e = (F.parts k _ e).0.0.0.1
  first_held {k} call_a e = (F.parts k _ e).0.0.0.1
  first_held {k} reading_a e = (F.parts k _ e).0.0.0.1
  first_held {k} write_a e = (F.parts k _ e).0.0.0.1
  first_held {k} sequence_a e = (F.parts k _ e).1.0.0.1
  first_held {k} if_a e = (F.parts k _ e).0.0.0.1
  first_held {k} while_a e = (F.parts k _ e).0.0.0.1

  second_held : {k a b : ℕ} {n : Option Node} → Keeps n a b → B.node k ≡ n → B.holder b ≡ B.holder k
  second_held {k} minus_b e = (F.parts k _ e).0.1.0.0.1
  second_held {k} less_b e = (F.parts k _ e).0.1.0.0.1
  second_held {k} equal_b e = (F.parts k _ e).0.1.0.0.1
  second_held {k} call_b e = (F.parts k _ e).0.1.0.0.1
  second_held {k} write_b e = (F.parts k _ e).0.1.0.0.1

  sequence_held : {k a b : ℕ} → B.node k ≡ Some (Sequence a b) → B.holder b ≡ B.holder k
  sequence_held {k} e = (F.parts k _ e).1.1.0.0.1

  true_held : {k a b d : ℕ} → B.node k ≡ Some (If a b d) → B.holder b ≡ B.holder k
  true_held {k} e = (F.parts k _ e).1.0.0.1

  false_held : {k a b d : ℕ} → B.node k ≡ Some (If a b d) → B.holder d ≡ B.holder k
  false_held {k} e = (F.parts k _ e).1.1.0.0.1

  turn_held : {k a b : ℕ} → B.node k ≡ Some (While a b) → B.holder b ≡ B.holder k
  turn_held {k} e = (F.parts k _ e).1.0.0.1

  -- a node is typed where it stands
  pub data Judged (k : ℕ) : Type 0 where
    an_expr : {t : BType} → B ∣ where_of B k ⊩ B.node k ∶ t → Judged k
    a_com : B ∣ where_of B k ⊩ B.node k ∶com → Judged k

  -- a node reached from w: an expression is w itself
  pub data Going (w : ℕ) : ℕ → Type 0 where
    expr_goes : {t : BType} → B ∣ where_of B w ⊩ B.node w ∶ t → Going w w
    com_goes : {k : ℕ} → B ∣ where_of B w ⊩ B.node w ∶com → B ∣ where_of B k ⊩ B.node k ∶com → B.holder k ≡ B.holder w → Going w k

  no_expr_seq : {A : Type 0} {Γ : Where} {a b : ℕ} {t : BType} → B ∣ Γ ⊩ Some (Sequence a b) ∶ t → A
  no_expr_seq x = elim x [ ]

  no_expr_if : {A : Type 0} {Γ : Where} {a b d : ℕ} {t : BType} → B ∣ Γ ⊩ Some (If a b d) ∶ t → A
  no_expr_if x = elim x [ ]

  seq_second : {Γ : Where} {a b : ℕ} → B ∣ Γ ⊩ Some (Sequence a b) ∶com → B ∣ Γ ⊩ B.node b ∶com
  seq_second (n_seq x y) = y

  if_true : {Γ : Where} {a b d : ℕ} → B ∣ Γ ⊩ Some (If a b d) ∶com → B ∣ Γ ⊩ B.node b ∶com
  if_true (n_if x y w) = y

  if_false : {Γ : Where} {a b d : ℕ} → B ∣ Γ ⊩ Some (If a b d) ∶com → B ∣ Γ ⊩ B.node d ∶com
  if_false (n_if x y w) = w

  pub going : {w k : ℕ} → Judged w → Through B w k → Going w k
  going (an_expr x) itself = expr_goes x
  going (a_com x) itself = com_goes x x refl
  going j (second_part p e) = by (going j p) e
    where
      by : {w k a b : ℕ} → Going w k → B.node k ≡ Some (Sequence a b) → Going w b
      by (expr_goes x) e = no_expr_seq (rw e at x)
      by (com_goes x y h) e = let l = sequence_held e in com_goes x (com_in l (seq_second (rw e at y))) (l ∙ h)
  going j (on_true p e) = by (going j p) e
    where
      by : {w k a b d : ℕ} → Going w k → B.node k ≡ Some (If a b d) → Going w b
      by (expr_goes x) e = no_expr_if (rw e at x)
      by (com_goes x y h) e = let l = true_held e in com_goes x (com_in l (if_true (rw e at y))) (l ∙ h)
  going j (on_false p e) = by (going j p) e
    where
      by : {w k a b d : ℕ} → Going w k → B.node k ≡ Some (If a b d) → Going w d
      by (expr_goes x) e = no_expr_if (rw e at x)
      by (com_goes x y h) e = let l = false_held e in com_goes x (com_in l (if_false (rw e at y))) (l ∙ h)

  pub going_judged : {w k : ℕ} → Going w k → Judged k
  going_judged (expr_goes x) = an_expr x
  going_judged (com_goes x y h) = a_com y

  first_expr : {k a : ℕ} {n : Option Node} {t : BType} → GoesFirst n a → B.node k ≡ n → B ∣ where_of B k ⊩ n ∶ t → (u : BType) × (B ∣ where_of B a ⊩ B.node a ∶ u)
  first_expr minus_a e (n_minus x y) = (_, expr_in (first_held minus_a e) x)
  first_expr less_a e (n_less x y) = (_, expr_in (first_held less_a e) x)
  first_expr equal_a e (n_equal x y) = (_, expr_in (first_held equal_a e) x)
  first_expr null_a e (n_is_null x) = (_, expr_in (first_held null_a e) x)
  first_expr field_a e (n_field x p f) = (_, expr_in (first_held field_a e) x)
  first_expr call_a e (n_call x y m) = (_, expr_in (first_held call_a e) x)
  first_expr reading_a e (n_reading x) = (_, expr_in (first_held reading_a e) x)
  first_expr write_a e x = elim x [ ]
  first_expr sequence_a e x = elim x [ ]
  first_expr if_a e x = elim x [ ]
  first_expr while_a e x = elim x [ ]

  first_com : {k a : ℕ} {n : Option Node} → GoesFirst n a → B.node k ≡ n → B ∣ where_of B k ⊩ n ∶com → Judged a
  first_com minus_a e x = elim x [ ]
  first_com less_a e x = elim x [ ]
  first_com equal_a e x = elim x [ ]
  first_com null_a e x = elim x [ ]
  first_com field_a e x = elim x [ ]
  first_com call_a e x = elim x [ ]
  first_com reading_a e x = elim x [ ]
  first_com write_a e (n_assign x y p f) = an_expr (expr_in (first_held write_a e) x)
  first_com sequence_a e (n_seq x y) = a_com (com_in (first_held sequence_a e) x)
  first_com if_a e (n_if x y w) = an_expr (expr_in (first_held if_a e) x)
  first_com while_a e (n_while x y) = an_expr (expr_in (first_held while_a e) x)

  second_expr : {k a b : ℕ} {n : Option Node} → Keeps n a b → B.node k ≡ n → Judged k → (t : BType) × (B ∣ where_of B b ⊩ B.node b ∶ t)
  second_expr {k} {b = b} s e (an_expr x) = by s e (rw e at x)
    where
      by : {n : Option Node} {a : ℕ} {t : BType} → Keeps n a b → B.node k ≡ n → B ∣ where_of B k ⊩ n ∶ t → (t : BType) × (B ∣ where_of B b ⊩ B.node b ∶ t)
      by minus_b e (n_minus x y) = (_, expr_in (second_held minus_b e) y)
      by less_b e (n_less x y) = (_, expr_in (second_held less_b e) y)
      by equal_b e (n_equal x y) = (_, expr_in (second_held equal_b e) y)
      by call_b e (n_call x y m) = (_, expr_in (second_held call_b e) y)
      by write_b e x = elim x [ ]
  second_expr {k} {b = b} s e (a_com x) = by s e (rw e at x)
    where
      by : {n : Option Node} {a : ℕ} → Keeps n a b → B.node k ≡ n → B ∣ where_of B k ⊩ n ∶com → (t : BType) × (B ∣ where_of B b ⊩ B.node b ∶ t)
      by minus_b e x = elim x [ ]
      by less_b e x = elim x [ ]
      by equal_b e x = elim x [ ]
      by call_b e x = elim x [ ]
      by write_b e (n_assign x y p f) = (_, expr_in (second_held write_b e) y)

  turn_com : {k a b : ℕ} → B.node k ≡ Some (While a b) → Judged k → B ∣ where_of B b ⊩ B.node b ∶com
  turn_com e (an_expr x) = no (rw e at x)
    where
      no : {A : Type 0} {Γ : Where} {a b : ℕ} {t : BType} → B ∣ Γ ⊩ Some (While a b) ∶ t → A
      no x = elim x [ ]
  turn_com e (a_com x) = com_in (turn_held e) (yes (rw e at x))
    where
      yes : {Γ : Where} {a b : ℕ} → B ∣ Γ ⊩ Some (While a b) ∶com → B ∣ Γ ⊩ B.node b ∶com
      yes (n_while x y) = y

  went_judged : {R : Rule} {S : Store} {k w : ℕ} {s : Stage} → Judged k → Went B R S k s w → Judged w
  went_judged (an_expr x) (at_stage_1 g) = an_expr (first_expr g refl x).1
  went_judged (a_com x) (at_stage_1 g) = first_com g refl x
  went_judged j (at_stage_2 g x f n) = an_expr (second_expr g refl j).1
  went_judged j (at_turn e) = a_com (turn_com e j)
  went_judged j (at_stage_3 {c = c} {m = m} {q = q} e x i a) = a_com (body_typed c m q i)
  went_judged j (at_stage_4 {c = c} {m = m} {q = q} e x i a) = an_expr (result_typed c m q i)

  -- the node that rows last went to is typed
  pub judged : {R : Rule} {S : Store} {ρ : List Row} {w : ℕ} → RowsFit B R S ρ w → Judged w
  judged no_rows = an_expr top_typed
  judged (a_row r t g) = went_judged (going_judged (going (judged r) t)) g

-- a next state that fits, or an end with a number; never a misfit
-- the type of the result of kinds 1 to 3
abbrev gives : Op₂ → BType
gives op_minus = T.Int
gives op_less = T.Boolean
gives op_equal = T.Boolean

pub data Fine (B : Book) (R : Rule) (z : BType) (σ : State) : Outcome → Type 0 where
  fine_next : {s : State} → Fitting B R s → Fine B R z σ (next s)
  fine_ends : {e k : ℕ} → Fine B R z σ (ends e k)
  fine_finished : {v : Value} {ε : Around} {S : Store} → σ ≡ state (Have v) ε [] S → Fits R S v z → RecordsFit B R S → Fine B R z σ finished
  fine_makes : {k c : ℕ} {p : Part} {ε : Around} {ρ : List Row} {S : Store} → σ ≡ state (Go k) ε ρ S → B.node k ≡ Some (New c) → B.class c ≡ Some p → room S (length p.fields) ≡ true → Fine B R z σ (makes c)

module _ (G : Given) (F : Formed G.book) (z : BType) (W : Well G.book z) where
  abbrev Bk : Book
  Bk = G.book

  abbrev Ru : Rule
  Ru = G.rule

  abbrev Fi : State → Outcome → Type 0
  Fi σ o = Fine G.book G.rule z σ o

  fine_unless : {o : Outcome} {σ : State} (e k : ℕ) (b : Bool) → (b ≡ true → Fi σ o) → Fi σ (unless e k b o)
  unfolding unless
  fine_unless e k true f = f refl
  fine_unless e k false f = fine_ends

  fine_option : {σ : State} {A : Type 0} {g : A → Outcome} (e k : ℕ) (a : Option A) → ((x : A) → a ≡ Some x → Fi σ (g x)) → Fi σ (or_ends e k a g)
  unfolding or_ends
  fine_option e k None f = fine_ends
  fine_option e k (Some a) f = f a refl

  fine_found : {σ : State} {A : Type 0} {a : Option A} {x : A} (g : A → Outcome) → a ≡ Some x → Fi σ (g x) → Fi σ (or_misfit a g)
  unfolding or_misfit
  fine_found g e f = rw e f

  -- a row put on
  push_fine : {σ : State} {ρ : List Row} {ε : Around} {S : Store} {w k a : ℕ} → RowsFit Bk Ru S ρ w → Through Bk w k → Bk.holder k ≡ Bk.holder w → GoesFirst (Bk.node k) a → AroundFits Ru S (where_of Bk w) ε → RecordsFit Bk Ru S
      → Fi σ (put_on G k a ε ρ S)
  unfolding put_on
  push_fine r t h g s C = fine_unless 35 _ _ (λ e. fine_next (fitting (a_row r t (at_stage_1 g)) (goes itself) (around_in F W (first_held F W g refl ∙ h) s) C))

  abbrev Typed : ℕ → Option Node → BType → Type 0
  Typed k n t = Bk ∣ where_of Bk k ⊩ n ∶ t

  abbrev TypedCom : ℕ → Option Node → Type 0
  TypedCom k n = Bk ∣ where_of Bk k ⊩ n ∶com

  -- a value of a node's type, by another judgement of that type
  fits_as : {S : Store} {v : Value} {a k : ℕ} {t u : BType} → Typed a (Bk.node a) t → Fits Ru S v t → Typed k (Bk.node a) u → Bk.holder a ≡ Bk.holder k → Fits Ru S v u
  fits_as x f y h = let q = node_type_once x (expr_in F W h y) in rw q at f

  call_type : {Γ : Where} {a b c : ℕ} {m : Name} {q : Meth} {t : BType} → Bk ∣ Γ ⊩ Some (Call a b m) ∶ t → Bk ∣ Γ ⊩ Bk.node a ∶ T.Class c → method_of (Bk.class c) m ≡ Some q → t ≡ q.gives
  call_type (n_call p p' i) x j = let e = node_type_once p x in cc

  no_com_call : {A : Type 0} {Γ : Where} {a b : ℕ} {m : Name} → Bk ∣ Γ ⊩ Some (Call a b m) ∶com → A
  no_com_call x = elim x [ ]

  new_type : {Γ : Where} {c : ℕ} {t : BType} → Bk ∣ Γ ⊩ Some (New c) ∶ t → t ≡ T.Class c
  new_type (n_new i) = refl

  no_com_new : {A : Type 0} {Γ : Where} {c : ℕ} → Bk ∣ Γ ⊩ Some (New c) ∶com → A
  no_com_new x = elim x [ ]

  -- the rows below, what stands around, and records that fit
  module _ (ρ : List Row) (ε : Around) (S : Store) (C : RecordsFit G.book G.rule S) where
    abbrev Suits : ℕ → Type 0
    Suits k = AroundFits Ru S (where_of Bk k) ε

    -- go to a node
    go_expr : {w : ℕ} {n : Option Node} {t : BType} → Bk.node w ≡ n → Typed w n t → Typed w (Bk.node w) t → RowsFit Bk Ru S ρ w → Suits w → Fi (state (Go w) ε ρ S) (step_go G n w ε ρ S)
    unfolding or_misfit
    go_expr e n_literal x r s = fine_unless 33 _ _ (λ i. fine_next (fitting r (has x (fits_int i)) s C))
    go_expr e (n_minus a b) x r s = push_fine r itself refl (rw e minus_a) s C
    go_expr e (n_less a b) x r s = push_fine r itself refl (rw e less_a) s C
    go_expr e (n_equal a b) x r s = push_fine r itself refl (rw e equal_a) s C
    go_expr e (n_is_null a) x r s = push_fine r itself refl (rw e null_a) s C
    go_expr e (n_this p) x r s = let b = in_a_method s p in fine_found _ b.is_object (fine_next (fitting r (has x b.object_fits) s C))
    go_expr e (n_parameter p) x r s = let b = in_a_method s p in fine_found _ b.is_parameter (fine_next (fitting r (has x b.parameter_fits) s C))
    go_expr e (n_field a p f) x r s = push_fine r itself refl (rw e field_a) s C
    go_expr e (n_call a b m) x r s = push_fine r itself refl (rw e call_a) s C
    go_expr e (n_new i) x r s = fine_found _ i (fine_unless 34 _ _ (λ j. fine_makes refl e i j))
    go_expr e (n_reading a) x r s = push_fine r itself refl (rw e reading_a) s C

    go_com : {σ : State} {w k : ℕ} {n : Option Node} → Bk.node k ≡ n → TypedCom k n → TypedCom w (Bk.node w) → Bk.holder k ≡ Bk.holder w → Through Bk w k → RowsFit Bk Ru S ρ w → Suits w → Fi σ (step_go G n k ε ρ S)
    go_com e (n_assign a b p f) c h t r s = push_fine r t h (rw e write_a) s C
    go_com e (n_seq a b) c h t r s = push_fine r t h (rw e sequence_a) s C
    go_com e (n_if a b d) c h t r s = push_fine r t h (rw e if_a) s C
    go_com e (n_while a b) c h t r s = push_fine r t h (rw e while_a) s C
    go_com e n_skip c h t r s = fine_next (fitting r (is_done c) s C)

    -- results under a row that is taken off
    result₂_fine : {σ : State} {w : ℕ} (k : ℕ) {u v : Value} → RowsFit Bk Ru S ρ w → Suits w → (o : Op₂) → Typed w (Bk.node w) (gives o) → Fits Ru S u T.Int → Fits Ru S v T.Int
        → Fi σ (result₂ Ru k o u v (λ x. next (state (Have x) ε ρ S)))
    unfolding two_ints
    result₂_fine k r s op_minus x (fits_int a) (fits_int b) = fine_option 33 _ _ (λ d e. fine_next (fitting r (has x (fits_int (within_ends Ru d (Ru.stays _ _ d e)))) s C))
    result₂_fine k r s op_less x (fits_int a) (fits_int b) = fine_next (fitting r (has x fits_boolean) s C)
    result₂_fine k r s op_equal x (fits_int a) (fits_int b) = fine_next (fitting r (has x fits_boolean) s C)

    null_fine : {σ : State} {w c : ℕ} {v : Value} → RowsFit Bk Ru S ρ w → Suits w → Typed w (Bk.node w) T.Boolean → Fits Ru S v (T.Class c)
        → Fi σ (null_or v (next (state (Have (Boolean true)) ε ρ S)) (λ l. next (state (Have (Boolean false)) ε ρ S)))
    unfolding null_or
    null_fine r s x fits_null = fine_next (fitting r (has x fits_boolean) s C)
    null_fine r s x (fits_handle o) = fine_next (fitting r (has x fits_boolean) s C)

    field_fine : {σ : State} {w c : ℕ} {v : Value} {t : BType} (k : ℕ) (f : Name) → RowsFit Bk Ru S ρ w → Suits w → Typed w (Bk.node w) t → Fits Ru S v (T.Class c) → find (fields_of (Bk.class c)) f ≡ Some t
        → Fi σ (result₁ G k S (op_field f) v (λ x. next (state (Have x) ε ρ S)))
    unfolding null_or or_misfit the_cell
    field_fine k f r s x fits_null g = fine_ends
    field_fine k f r s x (fits_handle o) g =
        let y = C.each _ _ o in
        let i = y.1 in
        let d = find_cell f _ y.2 (rw i at g) in
        let p = d.is_place in
        let h = d.is_held in
        rw (o, i, p, h) (fine_next (fitting r (has x d.held_fits) s C))

    reading_fine : {σ : State} {w : ℕ} {v : Value} (k : ℕ) → RowsFit Bk Ru S ρ w → Suits w → Typed w (Bk.node w) T.Int → Fits Ru S v T.Int
        → Fi σ (result₁ G k S op_reading v (λ x. next (state (Have x) ε ρ S)))
    unfolding an_int
    reading_fine k r s x (fits_int i) = fine_option 32 _ _ (λ n j. fine_unless 33 _ _ (λ q. fine_next (fitting r (has x (fits_int q)) s C)))

    -- a target kept
    keep_fine : {σ : State} {w k a b c : ℕ} {v : Value} → RowsFit Bk Ru S ρ w → Through Bk w k → Suits k → Keeps (Bk.node k) a b → Typed k (Bk.node a) (T.Class c) → Fits Ru S v (T.Class c)
        → Fi σ (not_null k v (next (state (Go b) ε (row k (Second v) ∷ ρ) S)))
    unfolding not_null
    keep_fine r t s g x fits_null = fine_ends
    keep_fine r t s g x (fits_handle o) = fine_next (fitting (a_row r t (at_stage_2 g x (fits_handle o) handle_not_null)) (goes itself) (around_in F W (second_held F W g refl) s) C)

    -- have a value at stage 1
    have₁_expr : {σ : State} {k a : ℕ} {n : Option Node} {t u : BType} {v : Value} → Bk.node k ≡ n → GoesFirst n a → Typed k n t → Typed k (Bk.node k) t → RowsFit Bk Ru S ρ k → Typed a (Bk.node a) u → Fits Ru S v u → Suits k
        → Fi σ (step_have G (frame n First) k v ε ρ S)
    have₁_expr e minus_a (n_minus p q) x r y f s =
        let g = fits_as y f p (first_held F W minus_a e) in
        fine_next (fitting (a_row r itself (at_stage_2 (rw e minus_b) p g (int_not_null g))) (goes itself) (around_in F W (second_held F W minus_b e) s) C)
    have₁_expr e less_a (n_less p q) x r y f s =
        let g = fits_as y f p (first_held F W less_a e) in
        fine_next (fitting (a_row r itself (at_stage_2 (rw e less_b) p g (int_not_null g))) (goes itself) (around_in F W (second_held F W less_b e) s) C)
    have₁_expr e equal_a (n_equal p q) x r y f s =
        let g = fits_as y f p (first_held F W equal_a e) in
        fine_next (fitting (a_row r itself (at_stage_2 (rw e equal_b) p g (int_not_null g))) (goes itself) (around_in F W (second_held F W equal_b e) s) C)
    have₁_expr e null_a (n_is_null p) x r y f s = null_fine r s x (fits_as y f p (first_held F W null_a e))
    have₁_expr {k = k} e field_a (n_field {f = h} p i g) x r y f s = field_fine k h r s x (fits_as y f p (first_held F W field_a e)) g
    have₁_expr e call_a (n_call p q m) x r y f s = keep_fine r itself s (rw e call_b) p (fits_as y f p (first_held F W call_a e))
    have₁_expr {k = k} e reading_a (n_reading p) x r y f s = reading_fine k r s x (fits_as y f p (first_held F W reading_a e))
    have₁_expr e write_a i x r y f s = elim i [ ]
    have₁_expr e sequence_a i x r y f s = elim i [ ]
    have₁_expr e if_a i x r y f s = elim i [ ]
    have₁_expr e while_a i x r y f s = elim i [ ]

    if_fine : {σ : State} {w k a b d : ℕ} {v : Value} → RowsFit Bk Ru S ρ w → Suits w → Through Bk w k → Bk.node k ≡ Some (If a b d) → Fits Ru S v T.Boolean
        → Fi σ (a_test v (next (state (Go b) ε ρ S)) (next (state (Go d) ε ρ S)))
    unfolding a_test
    if_fine r s t e (fits_boolean {b = true}) = fine_next (fitting r (goes (on_true t e)) s C)
    if_fine r s t e (fits_boolean {b = false}) = fine_next (fitting r (goes (on_false t e)) s C)

    while_fine : {σ : State} {w k a b : ℕ} {v : Value} → RowsFit Bk Ru S ρ w → Suits w → Through Bk w k → Bk.holder k ≡ Bk.holder w → TypedCom w (Bk.node w) → Bk.node k ≡ Some (While a b) → Fits Ru S v T.Boolean
        → Fi σ (a_test v (next (state (Go b) ε (row k Turn ∷ ρ) S)) (next (state Done ε ρ S)))
    unfolding a_test
    while_fine r s t h c e (fits_boolean {b = true}) = fine_next (fitting (a_row r t (at_turn e)) (goes itself) (around_in F W (turn_held F W e ∙ h) s) C)
    while_fine r s t h c e (fits_boolean {b = false}) = fine_next (fitting r (is_done c) s C)

    have₁_com : {σ : State} {w k a : ℕ} {n : Option Node} {u : BType} {v : Value} → Bk.node k ≡ n → GoesFirst n a → TypedCom k n → TypedCom w (Bk.node w) → Bk.holder k ≡ Bk.holder w → Through Bk w k → RowsFit Bk Ru S ρ w
        → Typed a (Bk.node a) u → Fits Ru S v u → Suits w → Fi σ (step_have G (frame n First) k v ε ρ S)
    have₁_com e write_a (n_assign p q i g) c h t r y f s = keep_fine r t (around_in F W h s) (rw e write_b) p (fits_as y f p (first_held F W write_a e))
    have₁_com e sequence_a (n_seq p q) c h t r y f s = node_apart y p
    have₁_com e if_a (n_if p q d) c h t r y f s = if_fine r s t e (fits_as y f p (first_held F W if_a e))
    have₁_com e while_a (n_while p q) c h t r y f s = while_fine r s t h c e (fits_as y f p (first_held F W while_a e))
    have₁_com e minus_a i c h t r y f s = elim i [ ]
    have₁_com e less_a i c h t r y f s = elim i [ ]
    have₁_com e equal_a i c h t r y f s = elim i [ ]
    have₁_com e null_a i c h t r y f s = elim i [ ]
    have₁_com e field_a i c h t r y f s = elim i [ ]
    have₁_com e call_a i c h t r y f s = elim i [ ]
    have₁_com e reading_a i c h t r y f s = elim i [ ]

    -- stage 2
    call_fine : {σ : State} {k a b c : ℕ} {u v : Value} (m : Name) (q : Meth) → RowsFit Bk Ru S ρ k → Bk.node k ≡ Some (Call a b m) → Typed k (Bk.node a) (T.Class c) → method_of (Bk.class c) m ≡ Some q → Suits k → ObjectIs S c u → Fits Ru S v q.takes
        → Fi σ (step_have G (call₂ m u) k v ε ρ S)
    unfolding null_or or_misfit
    call_fine {c = c} {v = v} m q r e x i s (object_is {l = l} o) f =
        let h = (held F W c m q i).0 in
        let s' : AroundFits Ru S (where_of Bk q.body) (around (Some l) (Some v)) = rw h (both_stand (fits_handle o) f) in
        fine_found _ o (fine_found _ i (fine_next (fitting (a_row r itself (at_stage_3 e x i s)) (goes itself) s' C)))

    write_fine : {σ : State} {w c : ℕ} {u v : Value} {t : BType} (k : ℕ) (f : Name) → RowsFit Bk Ru S ρ w → Suits w → TypedCom w (Bk.node w) → find (fields_of (Bk.class c)) f ≡ Some t → ObjectIs S c u → Fits Ru S v t
        → Fi σ (step_have G (write₂ f u) k v ε ρ S)
    unfolding null_or or_misfit the_cell
    write_fine {c = c} {v = v} k f r s x g (object_is {l = l} {vs = vs} o) y =
        let a = C.each _ _ o in
        let i = a.1 in
        let d = find_cell f _ a.2 (rw i at g) in
        let p = d.is_place in
        let h = d.is_held in
        let j = stays_written S l d.at v in
        rw (o, i, p, h) (fine_next (fitting (rows_stay j r) (is_done x) (around_stay j s) (records_written C l d.at c v vs a.0 o i (d.takes_new v y))))

    have₂_expr : {σ : State} {k a b : ℕ} {n : Option Node} {t t₁ u₁ : BType} {u v : Value} → Bk.node k ≡ n → Keeps n a b → Typed k n t → Typed k (Bk.node k) t → RowsFit Bk Ru S ρ k
        → Typed k (Bk.node a) t₁ → Fits Ru S u t₁ → (u ≡ Null → ⊥) → Typed b (Bk.node b) u₁ → Fits Ru S v u₁ → Suits k → Fi σ (step_have G (frame n (Second u)) k v ε ρ S)
    have₂_expr {k = k} e minus_b (n_minus p q) x r y f n y' f' s = result₂_fine k r s op_minus x (let i = node_type_once y p in rw i at f) (fits_as y' f' q (second_held F W minus_b e))
    have₂_expr {k = k} e less_b (n_less p q) x r y f n y' f' s = result₂_fine k r s op_less x (let i = node_type_once y p in rw i at f) (fits_as y' f' q (second_held F W less_b e))
    have₂_expr {k = k} e equal_b (n_equal p q) x r y f n y' f' s = result₂_fine k r s op_equal x (let i = node_type_once y p in rw i at f) (fits_as y' f' q (second_held F W equal_b e))
    have₂_expr e call_b (n_call {m = m} {q = q} p p' i) x r y f n y' f' s =
        let j = node_type_once y p in call_fine m q r e p i s (an_object (rw j at f) n) (fits_as y' f' p' (second_held F W call_b e))
    have₂_expr e write_b i x r y f n y' f' s = elim i [ ]

    have₂_com : {σ : State} {w k a b : ℕ} {n : Option Node} {t₁ u₁ : BType} {u v : Value} → Bk.node k ≡ n → Keeps n a b → TypedCom k n → TypedCom w (Bk.node w) → RowsFit Bk Ru S ρ w
        → Typed k (Bk.node a) t₁ → Fits Ru S u t₁ → (u ≡ Null → ⊥) → Typed b (Bk.node b) u₁ → Fits Ru S v u₁ → Suits w → Fi σ (step_have G (frame n (Second u)) k v ε ρ S)
    have₂_com {k = k} e write_b (n_assign {f = g} p p' i h) c r y f n y' f' s =
        let j = node_type_once y p in write_fine k g r s c h (an_object (rw j at f) n) (fits_as y' f' p' (second_held F W write_b e))
    have₂_com e minus_b i c r y f n y' f' s = elim i [ ]
    have₂_com e less_b i c r y f n y' f' s = elim i [ ]
    have₂_com e equal_b i c r y f n y' f' s = elim i [ ]
    have₂_com e call_b i c r y f n y' f' s = elim i [ ]

    -- have a value, by the row's stage
    have_row : {σ : State} {u k w : ℕ} {st : Stage} {t : BType} {v : Value} → RowsFit Bk Ru S ρ u → Going F W u k → Through Bk u k → Went Bk Ru S k st w → Typed w (Bk.node w) t → Fits Ru S v t → Suits w
        → Fi σ (step_have G (frame (Bk.node k) st) k v ε ρ S)
    have_row r (expr_goes x) t (at_stage_1 g) y f s = have₁_expr refl g x x r y f (around_in F W (sym (first_held F W g refl)) s)
    have_row r (com_goes c x h) t (at_stage_1 g) y f s = have₁_com refl g x c h t r y f (around_in F W (sym (first_held F W g refl ∙ h)) s)
    have_row r (expr_goes x) t (at_stage_2 g x' f' n) y f s = have₂_expr refl g x x r x' f' n y f (around_in F W (sym (second_held F W g refl)) s)
    have_row r (com_goes c x h) t (at_stage_2 g x' f' n) y f s = have₂_com refl g x c r x' f' n y f (around_in F W (sym (second_held F W g refl ∙ h)) s)
    have_row r j t (at_turn e) y f s = node_apart y (turn_com F W e (going_judged F W j))
    have_row r j t (at_stage_3 {c = c} {m = m} {q = q} e x i a) y f s = node_apart y (body_typed F W c m q i)
    have_row r (expr_goes x) t (at_stage_4 {c = c} {m = m} {q = q} e x' i a) y f s =
        let p = call_type (rw e at x) x' i in
        let p' = node_type_once y (result_typed F W c m q i) in
        rw e (fine_next (fitting r (has x (rw (p' ∙ sym p) at f)) a C))
    have_row r (com_goes c' x h) t (at_stage_4 e x' i a) y f s = no_com_call (rw e at x)

    -- done
    done₁ : {σ : State} {w k a : ℕ} {n : Option Node} → Bk.node k ≡ n → GoesFirst n a → TypedCom k n → TypedCom a (Bk.node a) → Through Bk w k → RowsFit Bk Ru S ρ w → Suits w → Fi σ (step_done G (frame n First) k ε ρ S)
    done₁ e write_a (n_assign p q i g) c t r s = node_apart p c
    done₁ e sequence_a (n_seq p q) c t r s = fine_next (fitting r (goes (second_part t e)) s C)
    done₁ e if_a (n_if p q d) c t r s = node_apart p c
    done₁ e while_a (n_while p q) c t r s = node_apart p c
    done₁ e minus_a x c t r s = elim x [ ]
    done₁ e less_a x c t r s = elim x [ ]
    done₁ e equal_a x c t r s = elim x [ ]
    done₁ e null_a x c t r s = elim x [ ]
    done₁ e field_a x c t r s = elim x [ ]
    done₁ e call_a x c t r s = elim x [ ]
    done₁ e reading_a x c t r s = elim x [ ]

    done_row : {σ : State} {u k w : ℕ} {st : Stage} → RowsFit Bk Ru S ρ u → Going F W u k → Through Bk u k → Went Bk Ru S k st w → TypedCom w (Bk.node w) → Suits w → Fi σ (step_done G (frame (Bk.node k) st) k ε ρ S)
    done_row r (expr_goes x) t (at_stage_1 g) c s = node_apart (first_expr F W g refl x).1 c
    done_row r (com_goes c' x h) t (at_stage_1 g) c s = done₁ refl g x c t r (around_in F W (sym (first_held F W g refl ∙ h)) s)
    done_row r j t (at_stage_2 g x f n) c s = node_apart (second_expr F W g refl (going_judged F W j)).1 c
    done_row r j t (at_turn {a = a} e) c s = rw e (fine_next (fitting (a_row r t (at_stage_1 {a = a} (rw e while_a))) (goes itself) (around_in F W (first_held F W while_a e ∙ sym (turn_held F W e)) s) C))
    done_row r j t (at_stage_3 {c = d} {m = m} {q = q} e x i a) c s =
        let h = held F W d m q i in
        let b = in_a_method s (ap where_held h.0) in
        rw e (fine_found _ b.is_object (fine_found _ b.looks (fine_found _ i (fine_next (fitting (a_row r t (at_stage_4 e x i a)) (goes itself) (around_in F W (h.1 ∙ sym h.0) s) C)))))
    done_row r j t (at_stage_4 {c = d} {m = m} {q = q} e x i a) c s = node_apart (result_typed F W d m q i) c

  -- a state that fits takes a fine step
  pub fine : (s : State) → Fitting Bk Ru s → Fi s (step G s)
  fine s (fitting {ε = ε} {ρ} {S} r (goes t) a C) = by r t a C (going F W (judged F W r) t)
    where
      by : {w k : ℕ} {ε : Around} {ρ : List Row} {S : Store} → RowsFit Bk Ru S ρ w → Through Bk w k → AroundFits Ru S (where_of Bk w) ε → RecordsFit Bk Ru S → Going F W w k → Fi (state (Go k) ε ρ S) (step G (state (Go k) ε ρ S))
      by {ε = ε} {ρ} {S} r t a C (expr_goes x) = go_expr ρ ε S C refl x x r a
      by {ε = ε} {ρ} {S} r t a C (com_goes c x h) = go_com ρ ε S C refl x c h t r a
  fine s (fitting no_rows (has y f) a C) = let q = node_type_once y (top_typed F W) in fine_finished refl (rw q at f) C
  fine s (fitting {ε = ε} {S = S} (a_row {ρ = ρ} r t g) (has y f) a C) = have_row ρ ε S C r (going F W (judged F W r) t) t g y f a
  fine s (fitting no_rows (is_done c) a C) = node_apart (top_typed F W) c
  fine s (fitting {ε = ε} {S = S} (a_row {ρ = ρ} r t g) (is_done c) a C) = done_row ρ ε S C r (going F W (judged F W r) t) t g c a

  fitting_next : {o : Outcome} {t σ : State} → Fi σ o → o ≡ next t → Fitting Bk Ru t
  fitting_next {t = t} (fine_next {s = s} f) e = let q : s ≡ t = cc in rw q at f
  fitting_next fine_ends e = let y : ◌≡◌ {A = ℕ} 0 1 = cc in absurd (omega arith)
  fitting_next (fine_finished i f C) e = let y : ◌≡◌ {A = ℕ} 0 1 = cc in absurd (omega arith)
  fitting_next (fine_makes i j k l) e = let y : ◌≡◌ {A = ℕ} 0 1 = cc in absurd (omega arith)

  -- a new record in hand
  made_fits : {w k c l : ℕ} {p : Part} {ε : Around} {ρ : List Row} {S : Store} → RowsFit Bk Ru S ρ w → Going F W w k → AroundFits Ru S (where_of Bk w) ε → RecordsFit Bk Ru S → Bk.node k ≡ Some (New c) → Bk.class c ≡ Some p → S.look l ≡ None
      → Fitting Bk Ru (state (Have (Handle l)) ε ρ (added S l (rec c (first_values p.fields))))
  made_fits {c = c} {l} {p} {S = S} r (expr_goes x) a C e i n =
      let j = stays_added S l (rec c (first_values p.fields)) n in
      let q = new_type (rw e at x) in
      fitting (rows_stay j r) (has x (rw q (fits_handle (added_top S l _)))) (around_stay j a) (records_added C c l p i n)
  made_fits r (com_goes c x h) a C e i n = no_com_new (rw e at x)

  -- every line keeps a state fitting
  pub line_fits : {H : ℕ → Type 0} {s t : State} → LineWith H G s t → Fitting Bk Ru s → Fitting Bk Ru t
  line_fits {s = s} (line_next e) f = fitting_next (fine s f) e
  line_fits (line_make l e i m h n) (fitting r (goes t) a C) = made_fits r (going F W (judged F W r) t) a C e i n

  pub start_fits : (r q : ℕ) → Fitting Bk Ru (start G r q)
  start_fits r q = let h = F.top_held in fitting no_rows (goes itself) (rw h none_stand) (record { each = λ l o e. no_some e })

  pub reached_fits : {r q n : ℕ} {s : State} → Reached G r q n s → Fitting Bk Ru s
  reached_fits {r} {q} (at_start e) = rw e (start_fits r q)
  reached_fits (one_more x l) = line_fits l (reached_fits x)

  -- a fitting state is no misfit
  pub no_misfit : {s : State} → Fitting Bk Ru s → step G s ≡ misfit → ⊥
  no_misfit {s} f e = by (fine s f) e
    where
      by : {σ : State} {o : Outcome} → Fi σ o → o ≡ misfit → ⊥
      by (fine_next x) e = let y : ◌≡◌ {A = ℕ} 0 1 = cc in omega arith
      by fine_ends e = let y : ◌≡◌ {A = ℕ} 0 1 = cc in omega arith
      by (fine_finished i f C) e = let y : ◌≡◌ {A = ℕ} 0 1 = cc in omega arith
      by (fine_makes i j k l) e = let y : ◌≡◌ {A = ℕ} 0 1 = cc in omega arith

  -- a finished state that fits has a value of the top's type, and no rows
  pub record DoneWith (s : State) : Type 0 where
    pub value : Value
    pub around : Around
    pub store : Store
    pub is : s ≡ state (Have value) around [] store
    pub fits : Fits Ru store value z
    pub records : RecordsFit Bk Ru store

  pub done_with : {s : State} → Fitting Bk Ru s → step G s ≡ finished → DoneWith s
  done_with {s} f e = by (fine s f) e
    where
      by : {σ : State} {o : Outcome} → Fi σ o → o ≡ finished → DoneWith σ
      by (fine_next x) e = let y : ◌≡◌ {A = ℕ} 0 1 = cc in absurd (omega arith)
      by fine_ends e = let y : ◌≡◌ {A = ℕ} 0 1 = cc in absurd (omega arith)
      by (fine_finished i f C) e = record { value = _; around = _; store = _; is = i; fits = f; records = C }
      by (fine_makes i j k l) e = let y : ◌≡◌ {A = ℕ} 0 1 = cc in absurd (omega arith)
