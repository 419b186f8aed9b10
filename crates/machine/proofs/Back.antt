-- What finishes is derived: each step, read backwards, keeps what the rules make of a state.
use Rattle.std.proofs.Common.{◌≡◌, ℕ, Bool, true, false, List, [], ◌∷◌, ℤ, Some, None, Option, sym, refl, ap, ◌∙◌, arith}
use lib.Signed.{lt_z}
use Rattle.std.specs.List.{slice_get}
use Rattle.book.specs.declared.node.Node.{Node}
use Rattle.book.specs.declared.node.Node.TheVariants.{Literal, Minus, Less, Equal, IsNull, This, Parameter, FieldRead, Call, New, Reading, FieldWrite, Sequence, If, While, Skip}
use Rattle.book.specs.declared.node.Type.{«Type» as BType}
use Rattle.numbers.specs.Rule.{Rule, within}
use Rattle.store.specs.declared.Value.{Value}
use Rattle.store.specs.declared.Value.TheVariants.{Int, Boolean, Null, Handle}
use Rattle.store.specs.Meaning.{Rec, Store, written}
use Rattle.cool.specs.Syntax.{Name, Expr, Com, while, Method, Class, CE, find, ◌⟨◌⟼◌⟩, ∅}
use Rattle.cool.specs.Dynamic.{Record, object, Heap, with_field, equal_ints, reading_at, ◌∣◌∣◌⊢◌⇓◌∣◌, ◌∣◌∣◌⊢◌⇓◌, e_literal, e_minus, e_this, e_parameter, e_field, e_call, e_new, e_less, e_equal, e_null, e_object, e_reading, e_assign, e_seq, e_then, e_else, e_stop, e_turn, e_skip}
use Rattle.cool.specs.Book.{Meth, Part, Book, fields_of, method_of, Formed, place}
use Rattle.cool.specs.Says.{◌⊩◌▷◌, ◌⊩◌▷com◌, is_literal, is_minus, is_less, is_equal, is_is_null, is_this, is_parameter, is_field, is_call, is_new, is_reading, is_assign, is_seq, is_if, is_while, is_skip}
use Rattle.cool.specs.Nodes.{Where, ◌∣◌⊩◌∶◌, ◌∣◌⊩◌∶com, n_literal, n_minus, n_less, n_equal, n_is_null, n_this, n_parameter, n_field, n_call, n_new, n_reading, n_assign, n_seq, n_if, n_while, n_skip, Well}
use Rattle.cool.proofs.Base.{no_some}
use Rattle.cool.proofs.Says.{one_expr, one_com, apart}
use Rattle.cool.proofs.Stands.{Stands, Meant, method_part}
use Rattle.cool.proofs.Nodes.{com_of}
use Rattle.cool.proofs.Keeps.{keeps, keeps_com}
use Rattle.machine.specs.declared.state.Around.{Around}
use Rattle.machine.specs.declared.state.Hand.{Hand}
use Rattle.machine.specs.declared.state.Hand.TheVariants.{Go, Have, Done}
use Rattle.machine.specs.declared.state.Stage.{Stage}
use Rattle.machine.specs.declared.state.Stage.TheVariants.{First, Second, Turn, Third, Fourth}
use Rattle.machine.specs.declared.state.Row.{Row}
use Rattle.machine.specs.Fields.{first_values, named, heap_of}
use Rattle.machine.specs.Machine.{row, around, State, state, Outcome, next, ends, misfit, Given, Op₂, op_minus, op_less, op_equal, Op₁, op_null, op_field, op_reading, Frame, two₁, two₂, one₁, call₁, call₂, call₃, call₄, write₁, write₂, sequence₁, if₁, while₁, while₂, frame, or_ends, or_misfit, unless, two_ints, an_int, a_test, null_or, not_null, the_cell, result₂, result₁, put_on, step_go, step_have, step_done, step, LineWith, line_next, line_make, start, Reached, at_start, one_more}
use Rattle.machine.specs.Fit.{Fits, fits_int, fits_boolean, fits_null, fits_handle, a_row, has, Fitting, fitting}
use Rattle.machine.proofs.Heaps.{find_named, write_named, first_named, heap_look, heap_none, heap_added, heap_written}
use Rattle.machine.proofs.Views.{node₂, View, view, v_two₁, v_two₂, v_one₁, v_call₁, v_call₂, v_call₃, v_call₄, v_write₁, v_write₂, v_sequence₁, v_if₁, v_while₁, v_while₂, v_none}
use Rattle.machine.proofs.Fits.{Judged, an_expr, a_com, going, going_judged, judged, reached_fits}

-- an outcome that is a next state, taken apart
no_next : {s : State} {A : Type 0} → misfit ≡ next s → A
no_next e = let z : ◌≡◌ {A = ℕ} 0 1 = cc in absurd (omega arith)

no_ends : {d k : ℕ} {s : State} {A : Type 0} → ends d k ≡ next s → A
no_ends e = let z : ◌≡◌ {A = ℕ} 0 1 = cc in absurd (omega arith)

unless_goes : {s : State} (d k : ℕ) (o : Outcome) (b : Bool) → unless d k b o ≡ next s → (b ≡ true) × (o ≡ next s)
unfolding unless
unless_goes d k o true e = (refl, e)
unless_goes d k o false e = no_ends e

found_goes : {A : Type 0} {s : State} {f : A → Outcome} (o : Option A) → or_misfit o f ≡ next s → (a : A) × (o ≡ Some a) × (f a ≡ next s)
unfolding or_misfit
found_goes None e = no_next e
found_goes (Some a) e = (a, refl, e)

option_goes : {A : Type 0} {s : State} {f : A → Outcome} (d k : ℕ) (o : Option A) → or_ends d k o f ≡ next s → (a : A) × (o ≡ Some a) × (f a ≡ next s)
unfolding or_ends
option_goes d k None e = no_ends e
option_goes d k (Some a) e = (a, refl, e)

ints_goes : {s : State} {f : ℤ → ℤ → Outcome} (u v : Value) → two_ints u v f ≡ next s → (m : ℤ) × (n : ℤ) × (u ≡ Int m) × (v ≡ Int n) × (f m n ≡ next s)
unfolding two_ints
ints_goes (Int m) (Int n) e = (m, n, refl, refl, e)
ints_goes (Int m) (Boolean b) e = no_next e
ints_goes (Int m) Null e = no_next e
ints_goes (Int m) (Handle l) e = no_next e
ints_goes (Boolean b) v e = no_next e
ints_goes Null v e = no_next e
ints_goes (Handle l) v e = no_next e

int_goes : {s : State} {f : ℤ → Outcome} (v : Value) → an_int v f ≡ next s → (m : ℤ) × (v ≡ Int m) × (f m ≡ next s)
unfolding an_int
int_goes (Int m) e = (m, refl, e)
int_goes (Boolean b) e = no_next e
int_goes Null e = no_next e
int_goes (Handle l) e = no_next e

-- a record, where null is an end or a misfit
object_goes : {s : State} {f : ℕ → Outcome} (k : ℕ) (v : Value) → null_or v (ends 31 k) f ≡ next s → (l : ℕ) × (v ≡ Handle l) × (f l ≡ next s)
unfolding null_or
object_goes k (Int n) e = no_next e
object_goes k (Boolean b) e = no_next e
object_goes k Null e = no_ends e
object_goes k (Handle l) e = (l, refl, e)

kept_goes : {s : State} {f : ℕ → Outcome} (v : Value) → null_or v misfit f ≡ next s → (l : ℕ) × (v ≡ Handle l) × (f l ≡ next s)
unfolding null_or
kept_goes (Int n) e = no_next e
kept_goes (Boolean b) e = no_next e
kept_goes Null e = no_next e
kept_goes (Handle l) e = (l, refl, e)

not_null_goes : {s : State} {o : Outcome} (k : ℕ) (v : Value) → not_null k v o ≡ next s → o ≡ next s
unfolding not_null
not_null_goes k (Int n) e = e
not_null_goes k (Boolean b) e = e
not_null_goes k Null e = no_ends e
not_null_goes k (Handle l) e = e

cell_goes : {s : State} {g : ℕ → Value → Outcome} (fs : List (Name × BType)) (vs : List Value) (f : Name) → the_cell fs vs f g ≡ next s
    → (i : ℕ) × (v : Value) × (place fs f ≡ Some i) × (slice_get vs i ≡ Some v) × (g i v ≡ next s)
unfolding the_cell
cell_goes fs vs f e = let x = found_goes (place fs f) e in let y = found_goes _ x.2 in (x.0, y.0, x.1, y.1, y.2)

-- a cell's class is there
cell_part : (o : Option Part) (f : Name) (i : ℕ) → place (fields_of o) f ≡ Some i → (p : Part) × (o ≡ Some p)
cell_part None f i e = no_some e
cell_part (Some p) f i e = (p, refl)

-- o(u, v) = w
data Gives (R : Rule) : Op₂ → Value → Value → Value → Type 0 where
  g_minus : {m n d : ℤ} → R.difference m n ≡ Some d → Gives R op_minus (Int m) (Int n) (Int d)
  g_less : {m n : ℤ} → Gives R op_less (Int m) (Int n) (Boolean (lt_z m n))
  g_equal : {m n : ℤ} → Gives R op_equal (Int m) (Int n) (Boolean (equal_ints m n))

-- o(v) = w, in a heap
data Gives₁ (R : Rule) (day : List ℤ) (h : Heap) : Op₁ → Value → Value → Type 0 where
  g_null : Gives₁ R day h op_null Null (Boolean true)
  g_object : {l : ℕ} → Gives₁ R day h op_null (Handle l) (Boolean false)
  g_field : {f x : Name} {l : ℕ} {r : Record} {v : Value} → h l ≡ Some (object x r) → find r f ≡ Some v → Gives₁ R day h (op_field f) (Handle l) v
  g_reading : {m n : ℤ} → reading_at day m ≡ Some n → within R n ≡ true → Gives₁ R day h op_reading (Int m) (Int n)

module _ {R : Rule} {u v : Value} {m n : ℤ} (p : u ≡ Int m) (q : v ≡ Int n) where
  minus_at : {d : ℤ} → R.difference m n ≡ Some d → Gives R op_minus u v (Int d)
  minus_at e = rw (p, q) (g_minus e)

  less_at : Gives R op_less u v (Boolean (lt_z m n))
  less_at = rw (p, q) g_less

  equal_at : Gives R op_equal u v (Boolean (equal_ints m n))
  equal_at = rw (p, q) g_equal

field_at : {R : Rule} {day : List ℤ} {h : Heap} {f x : Name} {l : ℕ} {r : Record} {v w : Value} → v ≡ Handle l → h l ≡ Some (object x r) → find r f ≡ Some w → Gives₁ R day h (op_field f) v w
field_at p o f = rw p (g_field o f)

reading_is : {R : Rule} {day : List ℤ} {h : Heap} {m n : ℤ} {v : Value} → v ≡ Int m → reading_at day m ≡ Some n → within R n ≡ true → Gives₁ R day h op_reading v (Int n)
reading_is p d w = rw p (g_reading d w)

result₂_goes : (R : Rule) (k : ℕ) {s : State} {f : Value → Outcome} (o : Op₂) (u v : Value) → result₂ R k o u v f ≡ next s → (w : Value) × Gives R o u v w × (f w ≡ next s)
result₂_goes R k op_minus u v e = let x = ints_goes u v e in let y = option_goes 33 k _ x.4 in (Int y.0, minus_at x.2 x.3 y.1, y.2)
result₂_goes R k op_less u v e = let x = ints_goes u v e in (Boolean (lt_z x.0 x.1), less_at x.2 x.3, x.4)
result₂_goes R k op_equal u v e = let x = ints_goes u v e in (Boolean (equal_ints x.0 x.1), equal_at x.2 x.3, x.4)

field_found : (B : Book) (S : Store) (l : ℕ) (o : Rec) (f : Name) (i : ℕ) (w : Value) → S.look l ≡ Some o → place (fields_of (B.class o.class)) f ≡ Some i → slice_get o.values i ≡ Some w
    → (x : Name) × (r : Record) × (heap_of B S l ≡ Some (object x r)) × (find r f ≡ Some w)
field_found B S l o f i w e p n =
    let c = cell_part (B.class o.class) f i p in
    let j = c.1 in
    (c.0.called, named c.0.fields o.values, heap_look B S l o.class o.values c.0 e j, find_named c.0.fields o.values f i w (rw j at p) n)

result₁_goes : (G : Given) (k : ℕ) {s : State} {f : Value → Outcome} (S : Store) (o : Op₁) (v : Value) → result₁ G k S o v f ≡ next s
    → (w : Value) × Gives₁ G.rule G.day (heap_of G.book S) o v w × (f w ≡ next s)
unfolding null_or
result₁_goes G k S op_null (Int n) e = no_next e
result₁_goes G k S op_null (Boolean b) e = no_next e
result₁_goes G k S op_null Null e = (Boolean true, g_null, e)
result₁_goes G k S op_null (Handle l) e = (Boolean false, g_object, e)
result₁_goes G k S (op_field f) v e =
    let x = object_goes k v e in
    let y = found_goes (S.look x.0) x.2 in
    let z = cell_goes (fields_of (G.book.class y.0.class)) y.0.values f y.2 in
    let g = field_found G.book S x.0 y.0 f z.0 z.1 y.1 z.2 z.3 in
    (z.1, field_at x.1 g.2 g.3, z.4)
result₁_goes G k S op_reading v e =
    let x = int_goes v e in
    let y = option_goes 32 k _ x.2 in
    let z = unless_goes 33 k _ _ y.2 in
    (Int y.0, reading_is x.1 y.1 z.0, z.1)

-- the commands among a node's parts that may never be gone to
abbrev PartsStand : Book → Option Node → Type 0
PartsStand B None = Unit {0}
PartsStand B (Some (Sequence a b)) = (c : Com) × (B ⊩ B.node b ▷com c)
PartsStand B (Some (If a b d)) = (c : Com) × (c' : Com) × (B ⊩ B.node b ▷com c) × (B ⊩ B.node d ▷com c')
PartsStand B (Some (While a b)) = (c : Com) × (B ⊩ B.node b ▷com c)
PartsStand B (Some (Literal n)) = Unit {0}
PartsStand B (Some (Minus a b)) = Unit {0}
PartsStand B (Some (Less a b)) = Unit {0}
PartsStand B (Some (Equal a b)) = Unit {0}
PartsStand B (Some (IsNull a)) = Unit {0}
PartsStand B (Some This) = Unit {0}
PartsStand B (Some Parameter) = Unit {0}
PartsStand B (Some (FieldRead a f)) = Unit {0}
PartsStand B (Some (Call a b m)) = Unit {0}
PartsStand B (Some (New c)) = Unit {0}
PartsStand B (Some (Reading a)) = Unit {0}
PartsStand B (Some (FieldWrite a b f)) = Unit {0}
PartsStand B (Some Skip) = Unit {0}

expr_parts : {B : Book} {Γ : Where} {n : Option Node} {t : BType} → B ∣ Γ ⊩ n ∶ t → PartsStand B n
expr_parts n_literal = tt
expr_parts (n_minus a b) = tt
expr_parts (n_less a b) = tt
expr_parts (n_equal a b) = tt
expr_parts (n_is_null a) = tt
expr_parts (n_this p) = tt
expr_parts (n_parameter p) = tt
expr_parts (n_field a p f) = tt
expr_parts (n_call a b m) = tt
expr_parts (n_new p) = tt
expr_parts (n_reading a) = tt

com_parts : {B : Book} {Γ : Where} {n : Option Node} → B ∣ Γ ⊩ n ∶com → PartsStand B n
com_parts (n_assign a b p f) = tt
com_parts (n_seq a b) = let x = com_of b in (x.0, x.1)
com_parts (n_if a b d) = let x = com_of b in let y = com_of d in (x.0, y.0, x.1, y.1)
com_parts (n_while a b) = let x = com_of b in (x.0, x.1)
com_parts n_skip = tt

module _ (G : Given) {ce : CE} (st : Stands G.book ce) where
  abbrev Bk : Book
  Bk = G.book

  infix 20 ◌∣◌⊢◌⇒◌∣◌
  infix 20 ◌∣◌⊢◌⇛◌
  abbrev ◌∣◌⊢◌⇒◌∣◌ : Heap → Around → Expr → Value → Heap → Type 0
  h ∣ ε ⊢ e ⇒ v ∣ h' = ◌∣◌∣◌⊢◌⇓◌∣◌ ce G.rule G.day h ε.parameter ε.object e v h'

  abbrev ◌∣◌⊢◌⇛◌ : Heap → Around → Com → Heap → Type 0
  h ∣ ε ⊢ c ⇛ h' = ◌∣◌∣◌⊢◌⇓◌ ce G.rule G.day h ε.parameter ε.object c h'

  -- a node, and what it comes to
  data At (k : ℕ) (ε : Around) (h : Heap) : Hand → Heap → Type 0 where
    at_expr : {e : Expr} {v : Value} {h₁ : Heap} → Bk ⊩ Bk.node k ▷ e → h ∣ ε ⊢ e ⇒ v ∣ h₁ → At k ε h (Have v) h₁
    at_com : {c : Com} {h₁ : Heap} → Bk ⊩ Bk.node k ▷com c → h ∣ ε ⊢ c ⇛ h₁ → At k ε h Done h₁

  -- what a row makes of what it is handed
  data Gets : Frame → Around → Hand → Heap → Around → Hand → Heap → Type 0 where
    f_two₁ : {o : Op₂} {b : ℕ} {ε : Around} {e : Expr} {u v w : Value} {h h₁ : Heap} → Bk ⊩ Bk.node b ▷ e → h ∣ ε ⊢ e ⇒ v ∣ h₁ → Gives G.rule o u v w → Gets (two₁ o b) ε (Have u) h ε (Have w) h₁
    f_two₂ : {o : Op₂} {ε : Around} {u v w : Value} {h : Heap} → Gives G.rule o u v w → Gets (two₂ o u) ε (Have v) h ε (Have w) h
    f_one₁ : {o : Op₁} {ε : Around} {v w : Value} {h : Heap} → Gives₁ G.rule G.day h o v w → Gets (one₁ o) ε (Have v) h ε (Have w) h
    f_call₁ : {b : ℕ} {m x : Name} {ε : Around} {e : Expr} {l : ℕ} {r : Record} {k : Class} {n : Method} {v w : Value} {h h₁ h₂ h₃ : Heap}
        → Bk ⊩ Bk.node b ▷ e → h ∣ ε ⊢ e ⇒ v ∣ h₁ → h₁ ∣ around (Some l) (Some v) ⊢ n.command ⇛ h₂ → h₂ ∣ around (Some l) (Some v) ⊢ n.returned ⇒ w ∣ h₃
        → h l ≡ Some (object x r) → ce x ≡ Some k → k.methods m ≡ Some n
        → Gets (call₁ b m) ε (Have (Handle l)) h ε (Have w) h₃
    f_call₂ : {m x : Name} {ε : Around} {l : ℕ} {r : Record} {k : Class} {n : Method} {v w : Value} {h₁ h₂ h₃ : Heap}
        → h₁ l ≡ Some (object x r) → ce x ≡ Some k → k.methods m ≡ Some n
        → h₁ ∣ around (Some l) (Some v) ⊢ n.command ⇛ h₂ → h₂ ∣ around (Some l) (Some v) ⊢ n.returned ⇒ w ∣ h₃
        → Gets (call₂ m (Handle l)) ε (Have v) h₁ ε (Have w) h₃
    f_call₃ : {m x : Name} {ε δ : Around} {l : ℕ} {r : Record} {k : Class} {n : Method} {w : Value} {h₂ h₃ : Heap}
        → ε.object ≡ Some l → h₂ l ≡ Some (object x r) → ce x ≡ Some k → k.methods m ≡ Some n → h₂ ∣ ε ⊢ n.returned ⇒ w ∣ h₃
        → Gets (call₃ m δ) ε Done h₂ δ (Have w) h₃
    f_call₄ : {ε δ : Around} {w : Value} {h : Heap} → Gets (call₄ δ) ε (Have w) h δ (Have w) h
    f_write₁ : {b : ℕ} {f x : Name} {ε : Around} {e : Expr} {l : ℕ} {r : Record} {u v : Value} {h h₁ h₂ : Heap}
        → Bk ⊩ Bk.node b ▷ e → h ∣ ε ⊢ e ⇒ v ∣ h₁ → h₁ l ≡ Some (object x r) → find r f ≡ Some u → h₂ ≡ h₁ ⟨ l ⟼ object x (with_field r f v) ⟩
        → Gets (write₁ b f) ε (Have (Handle l)) h ε Done h₂
    f_write₂ : {f x : Name} {ε : Around} {l : ℕ} {r : Record} {u v : Value} {h h₂ : Heap}
        → h l ≡ Some (object x r) → find r f ≡ Some u → h₂ ≡ h ⟨ l ⟼ object x (with_field r f v) ⟩ → Gets (write₂ f (Handle l)) ε (Have v) h ε Done h₂
    f_sequence₁ : {b : ℕ} {ε : Around} {c : Com} {h h₁ : Heap} → Bk ⊩ Bk.node b ▷com c → h ∣ ε ⊢ c ⇛ h₁ → Gets (sequence₁ b) ε Done h ε Done h₁
    f_then : {b d : ℕ} {ε : Around} {c c' : Com} {h h₁ : Heap} → Bk ⊩ Bk.node b ▷com c → Bk ⊩ Bk.node d ▷com c' → h ∣ ε ⊢ c ⇛ h₁ → Gets (if₁ b d) ε (Have (Boolean true)) h ε Done h₁
    f_else : {b d : ℕ} {ε : Around} {c c' : Com} {h h₁ : Heap} → Bk ⊩ Bk.node b ▷com c → Bk ⊩ Bk.node d ▷com c' → h ∣ ε ⊢ c' ⇛ h₁ → Gets (if₁ b d) ε (Have (Boolean false)) h ε Done h₁
    f_stop : {a b : ℕ} {ε : Around} {c : Com} {h : Heap} → Bk ⊩ Bk.node b ▷com c → Gets (while₁ a b) ε (Have (Boolean false)) h ε Done h
    f_turn : {a b : ℕ} {ε : Around} {e : Expr} {c : Com} {h h₁ h₂ : Heap} → Bk ⊩ Bk.node a ▷ e → Bk ⊩ Bk.node b ▷com c → h ∣ ε ⊢ c ⇛ h₁ → h₁ ∣ ε ⊢ while e c ⇛ h₂
        → Gets (while₁ a b) ε (Have (Boolean true)) h ε Done h₂
    f_while₂ : {a b : ℕ} {ε : Around} {e : Expr} {c : Com} {h h₁ : Heap} → Bk ⊩ Bk.node a ▷ e → Bk ⊩ Bk.node b ▷com c → h ∣ ε ⊢ while e c ⇛ h₁ → Gets (while₂ a b) ε Done h ε Done h₁

  -- what all rows make of it in the end
  data Rest (w : Value) (h' : Heap) : List Row → Around → Hand → Heap → Type 0 where
    r_end : {ε : Around} → Rest w h' [] ε (Have w) h'
    r_row : {k : ℕ} {s : Stage} {ρ : List Row} {ε ε₁ : Around} {x y : Hand} {h h₁ : Heap} → Gets (frame (Bk.node k) s) ε x h ε₁ y h₁ → Rest w h' ρ ε₁ y h₁ → Rest w h' (row k s ∷ ρ) ε x h

  abbrev hp : Store → Heap
  hp S = heap_of G.book S

  -- a state means that the run from it comes to w and h', by the rules
  data Means (w : Value) (h' : Heap) : State → Type 0 where
    m_go : {k : ℕ} {ε : Around} {ρ : List Row} {S : Store} {h₁ : Heap} {y : Hand} → At k ε (hp S) y h₁ → Rest w h' ρ ε y h₁ → Means w h' (state (Go k) ε ρ S)
    m_have : {v : Value} {ε : Around} {ρ : List Row} {S : Store} → Rest w h' ρ ε (Have v) (hp S) → Means w h' (state (Have v) ε ρ S)
    m_done : {ε : Around} {ρ : List Row} {S : Store} → Rest w h' ρ ε Done (hp S) → Means w h' (state Done ε ρ S)

  module _ (w : Value) (h' : Heap) where
    via : {s t : State} → next s ≡ next t → Means w h' t → Means w h' s
    via {s} {t} e m = let q : s ≡ t = cc in rw q m

    -- a row that waits to do f
    data Rowed (f : Frame) (ρ : List Row) (ε : Around) (x : Hand) (h : Heap) : Type 0 where
      rowed : {ε₁ : Around} {y : Hand} {h₁ : Heap} → Gets f ε x h ε₁ y h₁ → Rest w h' ρ ε₁ y h₁ → Rowed f ρ ε x h

    to_row : {k : ℕ} {n : Option Node} {s : Stage} {ρ : List Row} {ε : Around} {x : Hand} {h : Heap} → Bk.node k ≡ n → Rest w h' (row k s ∷ ρ) ε x h → Rowed (frame n s) ρ ε x h
    to_row e (r_row f r) = rowed (rw e at f) r

    of_row : {k : ℕ} {s : Stage} {ρ : List Row} {ε : Around} {x : Hand} {h : Heap} → Rowed (frame (Bk.node k) s) ρ ε x h → Rest w h' (row k s ∷ ρ) ε x h
    of_row (rowed f r) = r_row f r

    -- a part gone to, and its row
    data Pushed (ε : Around) (ρ : List Row) (h : Heap) (a : ℕ) (f : Frame) : Type 0 where
      pushed : {y : Hand} {h₁ : Heap} → Rowed f ρ ε y h₁ → At a ε h y h₁ → Pushed ε ρ h a f

    unrow : {k a : ℕ} (n : Option Node) (s : Stage) {ε : Around} {ρ : List Row} {S : Store} → Bk.node k ≡ n → Means w h' (state (Go a) ε (row k s ∷ ρ) S) → Pushed ε ρ (hp S) a (frame n s)
    unrow n s q (m_go x r) = pushed (to_row q r) x

    have_rows : {v : Value} {ε : Around} {ρ : List Row} {S : Store} → Means w h' (state (Have v) ε ρ S) → Rest w h' ρ ε (Have v) (hp S)
    have_rows (m_have r) = r

    done_rows : {ε : Around} {ρ : List Row} {S : Store} → Means w h' (state Done ε ρ S) → Rest w h' ρ ε Done (hp S)
    done_rows (m_done r) = r

    -- a command gone to with no row of its own
    com_rows : {k : ℕ} {ε : Around} {ρ : List Row} {S : Store} {c : Com} → Bk ⊩ Bk.node k ▷com c → Means w h' (state (Go k) ε ρ S) → (h₁ : Heap) × (hp S ∣ ε ⊢ c ⇛ h₁) × Rest w h' ρ ε Done h₁
    com_rows b (m_go (at_com b' y) r) = let e = one_com b' b in (_, rw e at y, r)
    com_rows b (m_go (at_expr b' y) r) = apart b' b

    unpush : (k : ℕ) (ε : Around) (ρ : List Row) (S : Store) (a : ℕ) (n : Option Node) {t : State} → Bk.node k ≡ n → put_on G k a ε ρ S ≡ next t → Means w h' t → Pushed ε ρ (hp S) a (frame n First)
    unfolding put_on
    unpush k ε ρ S a n q e m = unrow n First q (via (unless_goes 35 k _ _ e).1 m)

    module _ {k : ℕ} {ε : Around} {ρ : List Row} {S : Store} where
      ex : {n : Option Node} {e : Expr} {v : Value} {h₁ : Heap} → Bk.node k ≡ n → Bk ⊩ n ▷ e → hp S ∣ ε ⊢ e ⇒ v ∣ h₁ → Rest w h' ρ ε (Have v) h₁ → Means w h' (state (Go k) ε ρ S)
      ex q i x r = m_go (at_expr (rw q i) x) r

      co : {n : Option Node} {c : Com} {h₁ : Heap} → Bk.node k ≡ n → Bk ⊩ n ▷com c → hp S ∣ ε ⊢ c ⇛ h₁ → Rest w h' ρ ε Done h₁ → Means w h' (state (Go k) ε ρ S)
      co q i x r = m_go (at_com (rw q i) x) r

      b_minus : {a b : ℕ} → Bk.node k ≡ Some (Minus a b) → Pushed ε ρ (hp S) a (two₁ op_minus b) → Means w h' (state (Go k) ε ρ S)
      b_minus q (pushed (rowed (f_two₁ b y (g_minus e)) r) (at_expr a x)) = ex q (is_minus a b) (e_minus x y e) r

      b_less : {a b : ℕ} → Bk.node k ≡ Some (Less a b) → Pushed ε ρ (hp S) a (two₁ op_less b) → Means w h' (state (Go k) ε ρ S)
      b_less q (pushed (rowed (f_two₁ b y g_less) r) (at_expr a x)) = ex q (is_less a b) (e_less x y) r

      b_equal : {a b : ℕ} → Bk.node k ≡ Some (Equal a b) → Pushed ε ρ (hp S) a (two₁ op_equal b) → Means w h' (state (Go k) ε ρ S)
      b_equal q (pushed (rowed (f_two₁ b y g_equal) r) (at_expr a x)) = ex q (is_equal a b) (e_equal x y) r

      b_null : {a : ℕ} → Bk.node k ≡ Some (IsNull a) → Pushed ε ρ (hp S) a (one₁ op_null) → Means w h' (state (Go k) ε ρ S)
      b_null q (pushed (rowed (f_one₁ g_null) r) (at_expr a x)) = ex q (is_is_null a) (e_null x) r
      b_null q (pushed (rowed (f_one₁ g_object) r) (at_expr a x)) = ex q (is_is_null a) (e_object x) r

      b_field : {a : ℕ} {f : Name} → Bk.node k ≡ Some (FieldRead a f) → Pushed ε ρ (hp S) a (one₁ (op_field f)) → Means w h' (state (Go k) ε ρ S)
      b_field q (pushed (rowed (f_one₁ (g_field o f)) r) (at_expr a x)) = ex q (is_field a) (e_field x o f) r

      b_reading : {a : ℕ} → Bk.node k ≡ Some (Reading a) → Pushed ε ρ (hp S) a (one₁ op_reading) → Means w h' (state (Go k) ε ρ S)
      b_reading q (pushed (rowed (f_one₁ (g_reading d i)) r) (at_expr a x)) = ex q (is_reading a) (e_reading x d i) r

      b_call : {a b : ℕ} {m : Name} → Bk.node k ≡ Some (Call a b m) → Pushed ε ρ (hp S) a (call₁ b m) → Means w h' (state (Go k) ε ρ S)
      b_call q (pushed (rowed (f_call₁ b y z u o i m) r) (at_expr a x)) = ex q (is_call a b) (e_call x y z u o i m) r

      b_write : {a b : ℕ} {f : Name} → Bk.node k ≡ Some (FieldWrite a b f) → Pushed ε ρ (hp S) a (write₁ b f) → Means w h' (state (Go k) ε ρ S)
      b_write q (pushed (rowed (f_write₁ b y o g e) r) (at_expr a x)) = co q (is_assign a b) (e_assign x y o g e) r

      b_sequence : {a b : ℕ} → Bk.node k ≡ Some (Sequence a b) → Pushed ε ρ (hp S) a (sequence₁ b) → Means w h' (state (Go k) ε ρ S)
      b_sequence q (pushed (rowed (f_sequence₁ b y) r) (at_com a x)) = co q (is_seq a b) (e_seq x y) r

      b_if : {a b d : ℕ} → Bk.node k ≡ Some (If a b d) → Pushed ε ρ (hp S) a (if₁ b d) → Means w h' (state (Go k) ε ρ S)
      b_if q (pushed (rowed (f_then b d y) r) (at_expr a x)) = co q (is_if a b d) (e_then x y) r
      b_if q (pushed (rowed (f_else b d y) r) (at_expr a x)) = co q (is_if a b d) (e_else x y) r

      b_while : {a b : ℕ} → Bk.node k ≡ Some (While a b) → Pushed ε ρ (hp S) a (while₁ a b) → Means w h' (state (Go k) ε ρ S)
      b_while q (pushed (rowed (f_stop b) r) (at_expr a x)) = co q (is_while a b) (e_stop x) r
      b_while q (pushed (rowed (f_turn a' b y z) r) (at_expr a x)) = co q (is_while a b) (e_turn x y (rw (one_expr a a') z)) r

    back_go : {k : ℕ} {ε : Around} {ρ : List Row} {S : Store} {t : State} (n : Option Node) → Bk.node k ≡ n → step_go G n k ε ρ S ≡ next t → Means w h' t → Means w h' (state (Go k) ε ρ S)
    back_go None q e m = no_next e
    back_go {k} (Some (Literal n)) q e m = let z = unless_goes 33 k _ _ e in ex q is_literal (e_literal z.0) (have_rows (via z.1 m))
    back_go {k} {ε} {ρ} {S} (Some (Minus a b)) q e m = b_minus q (unpush k ε ρ S a _ q e m)
    back_go {k} {ε} {ρ} {S} (Some (Less a b)) q e m = b_less q (unpush k ε ρ S a _ q e m)
    back_go {k} {ε} {ρ} {S} (Some (Equal a b)) q e m = b_equal q (unpush k ε ρ S a _ q e m)
    back_go {k} {ε} {ρ} {S} (Some (IsNull a)) q e m = b_null q (unpush k ε ρ S a _ q e m)
    back_go {ε = ε} (Some This) q e m = let z = found_goes ε.object e in ex q is_this (e_this z.1) (have_rows (via z.2 m))
    back_go {ε = ε} (Some Parameter) q e m = let z = found_goes ε.parameter e in ex q is_parameter (e_parameter z.1) (have_rows (via z.2 m))
    back_go {k} {ε} {ρ} {S} (Some (FieldRead a f)) q e m = b_field q (unpush k ε ρ S a _ q e m)
    back_go {k} {ε} {ρ} {S} (Some (Call a b f)) q e m = b_call q (unpush k ε ρ S a _ q e m)
    back_go {k} (Some (New c)) q e m =
        let x = found_goes (Bk.class c) e in let z = unless_goes 34 k _ _ x.2 in let y : ◌≡◌ {A = ℕ} 0 1 = let i = z.1 in cc in absurd (omega arith)
    back_go {k} {ε} {ρ} {S} (Some (Reading a)) q e m = b_reading q (unpush k ε ρ S a _ q e m)
    back_go {k} {ε} {ρ} {S} (Some (FieldWrite a b f)) q e m = b_write q (unpush k ε ρ S a _ q e m)
    back_go {k} {ε} {ρ} {S} (Some (Sequence a b)) q e m = b_sequence q (unpush k ε ρ S a _ q e m)
    back_go {k} {ε} {ρ} {S} (Some (If a b d)) q e m = b_if q (unpush k ε ρ S a _ q e m)
    back_go {k} {ε} {ρ} {S} (Some (While a b)) q e m = b_while q (unpush k ε ρ S a _ q e m)
    back_go (Some Skip) q e m = co q is_skip e_skip (done_rows (via e m))

    -- a row handed a value or done, stage by stage
    c_two₁ : {o : Op₂} {b : ℕ} {ε : Around} {ρ : List Row} {v : Value} {h : Heap} → Pushed ε ρ h b (two₂ o v) → Rowed (two₁ o b) ρ ε (Have v) h
    c_two₁ (pushed (rowed (f_two₂ g) r) (at_expr b y)) = rowed (f_two₁ b y g) r

    c_call₁ : {m x : Name} {b : ℕ} {g : Record} {ε : Around} {ρ : List Row} {l : ℕ} {h : Heap} → h l ≡ Some (object x g) → Pushed ε ρ h b (call₂ m (Handle l)) → Rowed (call₁ b m) ρ ε (Have (Handle l)) h
    c_call₁ {x = x} i (pushed (rowed (f_call₂ {x = x'} o k m z u) r) (at_expr b y)) =
        let a = (keeps y).kept _ _ _ i in
        let j = a.1 in
        let same : x' ≡ x = cc in
        rowed (f_call₁ b y z u i (rw same at k) m) r

    -- the method called, in the book and in the environment
    record Called (c : ℕ) (m : Name) (q : Meth) : Type 0 where
      part : Part
      class_is : Bk.class c ≡ Some part
      entry : Class
      entry_is : ce part.called ≡ Some entry
      method : Method
      method_is : entry.methods m ≡ Some method
      means : Meant Bk q method

    called : (c : ℕ) (m : Name) (q : Meth) → method_of (Bk.class c) m ≡ Some q → Called c m q
    called c m q e =
        let p = method_part (Bk.class c) e in
        let k = st.class c p.0 p.1 in
        let n = st.method c p.0 k.0 m q p.1 k.1 p.2 in
        record { part = p.0; class_is = p.1; entry = k.0; entry_is = k.1; method = n.0; method_is = n.1; means = n.2 }

    c_call₂ : {ε : Around} {ρ : List Row} {v : Value} (S : Store) (l : ℕ) (o : Rec) (m : Name) (q : Meth) → S.look l ≡ Some o → method_of (Bk.class o.class) m ≡ Some q
        → Pushed (around (Some l) (Some v)) ρ (hp S) q.body (call₃ m ε) → Rowed (call₂ m (Handle l)) ρ ε (Have v) (hp S)
    c_call₂ {v = v} S l o m q i e (pushed (rowed (f_call₃ {x = x'} {l = l'} {k = k'} {n = n'} b o' i' m' u) r) (at_com d z)) =
        let c = called o.class m q e in
        let there = heap_look Bk S l o.class o.values c.part i c.class_is in
        let y = (keeps_com z).kept _ _ _ there in
        let j = y.1 in
        let l_is : l' ≡ l = cc in
        let same : x' ≡ c.part.called = cc in
        let k_is : Some k' ≡ Some c.entry = sym i' ∙ (ap ce same ∙ c.entry_is) in
        let k_same : k' ≡ c.entry = cc in
        let n_is : Some n' ≡ Some c.method = sym m' ∙ (ap (λ (y : Class). y.methods m) k_same ∙ c.method_is) in
        let n_same : n' ≡ c.method = cc in
        let d_same = one_com d c.means.body in
        rowed (f_call₂ there c.entry_is c.method_is (rw d_same at z) (rw n_same at u)) r

    c_call₃ : {ε δ : Around} {ρ : List Row} (S : Store) (l : ℕ) (o : Rec) (m : Name) (q : Meth) → ε.object ≡ Some l → S.look l ≡ Some o → method_of (Bk.class o.class) m ≡ Some q
        → Pushed ε ρ (hp S) q.result (call₄ δ) → Rowed (call₃ m δ) ρ ε Done (hp S)
    c_call₃ S l o m q b i e (pushed (rowed f_call₄ r) (at_expr d u)) =
        let c = called o.class m q e in
        let d_same = one_expr d c.means.result in
        rowed (f_call₃ b (heap_look Bk S l o.class o.values c.part i c.class_is) c.entry_is c.method_is (rw d_same at u)) r

    c_write₁ : {f : Name} {b : ℕ} {ε : Around} {ρ : List Row} {l : ℕ} {h : Heap} → Pushed ε ρ h b (write₂ f (Handle l)) → Rowed (write₁ b f) ρ ε (Have (Handle l)) h
    c_write₁ (pushed (rowed (f_write₂ o g e) r) (at_expr b y)) = rowed (f_write₁ b y o g e) r

    -- a record in hand is there
    abbrev There : Store → Value → Type 0
    There S v = (l : ℕ) → v ≡ Handle l → (x : Name) × (r : Record) × (hp S l ≡ Some (object x r))

    -- a kept target was a record
    c_keep_call : {m : Name} {b : ℕ} {ε : Around} {ρ : List Row} (S : Store) (v : Value) → There S v → Pushed ε ρ (hp S) b (call₂ m v) → Rowed (call₁ b m) ρ ε (Have v) (hp S)
    c_keep_call S (Int n) i (pushed (rowed g r) x) = elim g [ ]
    c_keep_call S (Boolean n) i (pushed (rowed g r) x) = elim g [ ]
    c_keep_call S Null i (pushed (rowed g r) x) = elim g [ ]
    c_keep_call S (Handle l) i p = c_call₁ (i l refl).2 p

    c_keep_write : {f : Name} {b : ℕ} {ε : Around} {ρ : List Row} (S : Store) (v : Value) → Pushed ε ρ (hp S) b (write₂ f v) → Rowed (write₁ b f) ρ ε (Have v) (hp S)
    c_keep_write S (Int n) (pushed (rowed g r) x) = elim g [ ]
    c_keep_write S (Boolean n) (pushed (rowed g r) x) = elim g [ ]
    c_keep_write S Null (pushed (rowed g r) x) = elim g [ ]
    c_keep_write S (Handle l) p = c_write₁ p

    c_written : {ε : Around} {ρ : List Row} (S : Store) (l i : ℕ) (f : Name) (o : Rec) (u v : Value) → S.look l ≡ Some o → place (fields_of (Bk.class o.class)) f ≡ Some i → slice_get o.values i ≡ Some u
        → Rest w h' ρ ε Done (hp (written S l i v)) → Rowed (write₂ f (Handle l)) ρ ε (Have v) (hp S)
    c_written S l i f o u v e p n r =
        let c = cell_part (Bk.class o.class) f i p in
        let j = c.1 in
        let p' = rw j at p in
        let h = heap_written Bk S l i v o.class o.values c.0 e j in
        let g = write_named c.0.fields o.values f i u v p' n in
        rowed (f_write₂ (heap_look Bk S l o.class o.values c.0 e j) (find_named c.0.fields o.values f i u p' n) (h ∙ sym (ap (λ (r : Record). hp S ⟨ l ⟼ object c.0.called r ⟩) g))) r

    c_write₂ : {t : State} (k : ℕ) {f : Name} {ε : Around} {ρ : List Row} (S : Store) (u v : Value) → step_have G (write₂ f u) k v ε ρ S ≡ next t → Means w h' t → Rowed (write₂ f u) ρ ε (Have v) (hp S)
    c_write₂ k {f = f} S u v e m =
        let z = kept_goes u e in
        let o = found_goes (S.look z.0) z.2 in
        let x = cell_goes (fields_of (Bk.class o.0.class)) o.0.values f o.2 in
        at_handle z.1 (c_written S z.0 x.0 f o.0 x.1 v o.1 x.2 x.3 (done_rows (via x.4 m)))
      where
        at_handle : {l : ℕ} {ε : Around} {ρ : List Row} → u ≡ Handle l → Rowed (write₂ f (Handle l)) ρ ε (Have v) (hp S) → Rowed (write₂ f u) ρ ε (Have v) (hp S)
        at_handle q r = rw q r

    c_call₂_goes : {t : State} {k a b : ℕ} {m : Name} {ε : Around} {ρ : List Row} (S : Store) (u v : Value) → Bk.node k ≡ Some (Call a b m) → step_have G (call₂ m u) k v ε ρ S ≡ next t → Means w h' t → Rowed (call₂ m u) ρ ε (Have v) (hp S)
    c_call₂_goes {m = m} {ε} S u v q e i =
        let z = kept_goes u e in
        let o = found_goes (S.look z.0) z.2 in
        let f = found_goes (method_of (Bk.class o.0.class) m) o.2 in
        at_handle z.1 (c_call₂ S z.0 o.0 m f.0 o.1 f.1 (unrow _ (Third ε) q (via f.2 i)))
      where
        at_handle : {l : ℕ} {ε : Around} {ρ : List Row} → u ≡ Handle l → Rowed (call₂ m (Handle l)) ρ ε (Have v) (hp S) → Rowed (call₂ m u) ρ ε (Have v) (hp S)
        at_handle q r = rw q r

    c_if₁ : {t : State} (k a : ℕ) {b d : ℕ} {ε : Around} {ρ : List Row} (S : Store) (v : Value) → PartsStand Bk (Some (If a b d)) → step_have G (if₁ b d) k v ε ρ S ≡ next t → Means w h' t → Rowed (if₁ b d) ρ ε (Have v) (hp S)
    unfolding a_test
    c_if₁ k a S (Int n) f e m = no_next e
    c_if₁ k a S (Boolean true) f e m = let x = com_rows f.2 (via e m) in rowed (f_then f.2 f.3 x.1) x.2
    c_if₁ k a S (Boolean false) f e m = let x = com_rows f.3 (via e m) in rowed (f_else f.2 f.3 x.1) x.2
    c_if₁ k a S Null f e m = no_next e
    c_if₁ k a S (Handle l) f e m = no_next e

    c_turn : {a b : ℕ} {ε : Around} {ρ : List Row} {h : Heap} → Pushed ε ρ h b (while₂ a b) → Rowed (while₁ a b) ρ ε (Have (Boolean true)) h
    c_turn (pushed (rowed (f_while₂ a b' z) r) (at_com b y)) = let e = one_com b' b in rowed (f_turn a b y (rw e at z)) r

    c_while₂ : {a b : ℕ} {ε : Around} {ρ : List Row} {h : Heap} → Pushed ε ρ h a (while₁ a b) → Rowed (while₂ a b) ρ ε Done h
    c_while₂ (pushed (rowed (f_stop b) r) (at_expr a x)) = rowed (f_while₂ a b (e_stop x)) r
    c_while₂ (pushed (rowed (f_turn a' b y z) r) (at_expr a x)) = rowed (f_while₂ a b (e_turn x y (rw (one_expr a a') z))) r

    c_while₁ : {t : State} {k a b : ℕ} {ε : Around} {ρ : List Row} (S : Store) (v : Value) → Bk.node k ≡ Some (While a b) → PartsStand Bk (Some (While a b)) → step_have G (while₁ a b) k v ε ρ S ≡ next t → Means w h' t
        → Rowed (while₁ a b) ρ ε (Have v) (hp S)
    unfolding a_test
    c_while₁ S (Int n) q f e m = no_next e
    c_while₁ S (Boolean true) q f e m = c_turn (unrow _ Turn q (via e m))
    c_while₁ S (Boolean false) q f e m = rowed (f_stop f.1) (done_rows (via e m))
    c_while₁ S Null q f e m = no_next e
    c_while₁ S (Handle l) q f e m = no_next e

    back_have : {t : State} {n : Option Node} {s : Stage} {f : Frame} {k : ℕ} {v : Value} {ε : Around} {ρ : List Row} (S : Store) → View n s f → Bk.node k ≡ n → PartsStand Bk n → There S v
        → step_have G f k v ε ρ S ≡ next t → Means w h' t → Rowed f ρ ε (Have v) (hp S)
    back_have {v = v} S (v_two₁ o a b) q p i e m = c_two₁ (rw (second o a b) at (unrow _ (Second v) q (via e m)))
      where
        second : (o : Op₂) (a b : ℕ) → frame (Some (node₂ o a b)) (Second v) ≡ two₂ o v
        second op_minus a b = refl
        second op_less a b = refl
        second op_equal a b = refl
    back_have {k = k} S (v_two₂ o a b) q p i e m = let z = result₂_goes G.rule k _ _ _ e in rowed (f_two₂ z.1) (have_rows (via z.2 m))
    back_have {k = k} S (v_one₁ o a) q p i e m = let z = result₁_goes G k S _ _ e in rowed (f_one₁ z.1) (have_rows (via z.2 m))
    back_have {k = k} {v} S v_call₁ q p i e m = c_keep_call S v i (unrow _ (Second v) q (via (not_null_goes k v e) m))
    back_have {v = v} S (v_call₂ {v = u}) q p i e m = c_call₂_goes S u v q e m
    back_have S v_call₃ q p i e m = no_next e
    back_have S v_call₄ q p i e m = rowed f_call₄ (have_rows (via e m))
    back_have {k = k} {v} S v_write₁ q p i e m = c_keep_write S v (unrow _ (Second v) q (via (not_null_goes k v e) m))
    back_have {k = k} {v} S (v_write₂ {v = u}) q p i e m = c_write₂ k S u v e m
    back_have S v_sequence₁ q p i e m = no_next e
    back_have {k = k} {v} S (v_if₁ {a = a}) q p i e m = c_if₁ k a S v p e m
    back_have {v = v} S v_while₁ q p i e m = c_while₁ S v q p e m
    back_have S v_while₂ q p i e m = no_next e
    back_have S v_none q p i e m = no_next e

    c_done₃ : {t : State} {k a b : ℕ} {m : Name} {δ : Around} {ρ : List Row} (S : Store) (ε : Around) → Bk.node k ≡ Some (Call a b m)
        → step_done G (call₃ m δ) k ε ρ S ≡ next t → Means w h' t → Rowed (call₃ m δ) ρ ε Done (hp S)
    c_done₃ {m = m} {δ} S ε q e i =
        let x = found_goes ε.object e in
        let o = found_goes (S.look x.0) x.2 in
        let f = found_goes (method_of (Bk.class o.0.class) m) o.2 in
        c_call₃ S x.0 o.0 m f.0 x.1 o.1 f.1 (unrow _ (Fourth δ) q (via f.2 i))

    back_done : {t : State} {n : Option Node} {s : Stage} {f : Frame} {k : ℕ} {ε : Around} {ρ : List Row} (S : Store) → View n s f → Bk.node k ≡ n → PartsStand Bk n
        → step_done G f k ε ρ S ≡ next t → Means w h' t → Rowed f ρ ε Done (hp S)
    back_done S (v_two₁ o a b) q p e m = no_next e
    back_done S (v_two₂ o a b) q p e m = no_next e
    back_done S (v_one₁ o a) q p e m = no_next e
    back_done S v_call₁ q p e m = no_next e
    back_done S v_call₂ q p e m = no_next e
    back_done {ε = ε} S v_call₃ q p e m = c_done₃ S ε q e m
    back_done S v_call₄ q p e m = no_next e
    back_done S v_write₁ q p e m = no_next e
    back_done S v_write₂ q p e m = no_next e
    back_done S v_sequence₁ q p e m = let x = com_rows p.1 (via e m) in rowed (f_sequence₁ p.1 x.1) x.2
    back_done S v_if₁ q p e m = no_next e
    back_done S v_while₁ q p e m = no_next e
    back_done S v_while₂ q p e m = c_while₂ (unrow _ First q (via e m))
    back_done S v_none q p e m = no_next e

    module _ (F : Formed G.book) {z : BType} (W : Well G.book z) where
      parts_of : {k : ℕ} → Judged F W k → PartsStand Bk (Bk.node k)
      parts_of (an_expr x) = expr_parts x
      parts_of (a_com x) = com_parts x

      -- what a fitting state has: a record in hand, and the parts of the top row's node
      there_have : {v : Value} {ε : Around} {ρ : List Row} {S : Store} → Fitting Bk G.rule (state (Have v) ε ρ S) → There S v
      there_have {S = S} (fitting r (has x f) a C) l e = by f e
        where
          by : {v : Value} {t : BType} → Fits G.rule S v t → v ≡ Handle l → (x : Name) × (r : Record) × (hp S l ≡ Some (object x r))
          by (fits_int i) e = let y : ◌≡◌ {A = ℕ} 0 1 = cc in absurd (omega arith)
          by fits_boolean e = let y : ◌≡◌ {A = ℕ} 0 1 = cc in absurd (omega arith)
          by fits_null e = let y : ◌≡◌ {A = ℕ} 0 1 = cc in absurd (omega arith)
          by (fits_handle {l = i} {c} {vs} o) e = let q : i ≡ l = cc in let p = C.each i _ o in (_, _, heap_look Bk S l c vs p.0 (rw q at o) p.1)

      parts_top : {x : Hand} {ε : Around} {k : ℕ} {s : Stage} {ρ : List Row} {S : Store} → Fitting Bk G.rule (state x ε (row k s ∷ ρ) S) → PartsStand Bk (Bk.node k)
      parts_top (fitting (a_row r t g) y a C) = parts_of (going_judged F W (going F W (judged F W r) t))

      back : {t : State} (s : State) → Fitting Bk G.rule s → step G s ≡ next t → Means w h' t → Means w h' s
      back (state (Go k) ε ρ S) f e m = back_go (Bk.node k) refl e m
      back (state (Have v) ε [] S) f e m = let y : ◌≡◌ {A = ℕ} 0 1 = cc in absurd (omega arith)
      back (state (Have v) ε (r ∷ ρ) S) f e m = m_have (of_row (back_have S (view (Bk.node r.node) r.stage) refl (parts_top f) (there_have f) e m))
      back (state Done ε [] S) f e m = let y : ◌≡◌ {A = ℕ} 0 1 = cc in absurd (omega arith)
      back (state Done ε (r ∷ ρ) S) f e m = m_done (of_row (back_done S (view (Bk.node r.node) r.stage) refl (parts_top f) e m))

      back_line : {H : ℕ → Type 0} {s t : State} → Fitting Bk G.rule s → LineWith H G s t → Means w h' t → Means w h' s
      back_line {s = s} f (line_next e) m = back s f e m
      back_line f (line_make {c = c} {p} {S = S} l q i y b n) m =
          let k = st.class c p i in
          let h = heap_added Bk S l c (first_values p.fields) p i in
          let d = first_named k.2 in
          ex q (is_new i) (e_new (heap_none Bk S l n) (h ∙ ap (λ (r : Record). hp S ⟨ l ⟼ object p.called r ⟩) d) k.1) (have_rows m)

      back_reached : {r q n : ℕ} {s : State} → Reached G r q n s → Means w h' s → Means w h' (start G r q)
      back_reached (at_start e) m = rw e at m
      back_reached (one_more x l) m = back_reached x (back_line (reached_fits G F z W x) l m)

  -- a finished run has a derivation
  pub derived : (F : Formed G.book) {z : BType} (W : Well G.book z) {r q n : ℕ} {w : Value} {ε : Around} {S : Store} {e : Expr} → Bk ⊩ Bk.node Bk.root ▷ e → Reached G r q n (state (Have w) ε [] S)
      → ◌∣◌∣◌⊢◌⇓◌∣◌ ce G.rule G.day ∅ None None e w (heap_of Bk S)
  derived F W {r} {q} {w = w} {S = S} {e} i x = last (back_reached w (hp S) F W x (m_have r_end))
    where
      last : {w : Value} {h' : Heap} → Means w h' (start G r q) → ◌∣◌∣◌⊢◌⇓◌∣◌ ce G.rule G.day ∅ None None e w h'
      last (m_go (at_expr j x) r_end) = let y = one_expr j i in rw y at x
      last (m_go (at_com j x) r) = apart i j
