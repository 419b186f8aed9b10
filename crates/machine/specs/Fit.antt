-- Which type each place has, and when every value of a state fits its place.
use Rattle.std.specs.Prelude.{◌≡◌, ℕ, Bool, true, List, [], ◌∷◌, ℤ, Some, None, Option, ◌≢◌}
use Rattle.book.specs.declared.node.Node.{Node}
use Rattle.book.specs.declared.node.Node.TheVariants.{Minus, Less, Equal, IsNull, FieldRead, Call, Reading, FieldWrite, Sequence, If, While}
use Rattle.book.specs.declared.node.Type.{«Type» as BType}
use Rattle.book.specs.declared.node.Type.TheVariants as T
use Rattle.numbers.specs.Rule.{Rule, within}
use Rattle.store.specs.declared.Value.{Value}
use Rattle.store.specs.declared.Value.TheVariants.{Int, Boolean, Null, Handle}
use Rattle.store.specs.Meaning.{Rec, Store}
use Rattle.cool.specs.Syntax.{Name}
use Rattle.cool.specs.Book.{Meth, Part, Book, method_of}
use Rattle.cool.specs.Nodes.{Where, at_top, in_method, where_held, ◌∣◌⊩◌∶◌, ◌∣◌⊩◌∶com}
use Rattle.machine.specs.declared.state.Around.{Around}
use Rattle.machine.specs.declared.state.Hand.{Hand}
use Rattle.machine.specs.declared.state.Hand.TheVariants.{Go, Have, Done}
use Rattle.machine.specs.declared.state.Stage.{Stage}
use Rattle.machine.specs.declared.state.Stage.TheVariants.{First, Second, Turn, Third, Fourth}
use Rattle.machine.specs.declared.state.Row.{Row}
use Rattle.machine.specs.Machine.{State, state, row, around}

-- An int within the ends fits int, a boolean boolean, a handle its record's class, null every class.
pub data Fits (R : Rule) (S : Store) : Value → BType → Type 0 where
  fits_int : {n : ℤ} → within R n ≡ true → Fits R S (Int n) T.Int
  fits_boolean : {b : Bool} → Fits R S (Boolean b) T.Boolean
  fits_null : {c : ℕ} → Fits R S Null (T.Class c)
  fits_handle : {l c : ℕ} {vs : List Value} → S.look l ≡ Some (record { class = c; values = vs }) → Fits R S (Handle l) (T.Class c)

-- A value for each field, of that field's type.
pub data Cells (R : Rule) (S : Store) : List (Name × BType) → List Value → Type 0 where
  no_cells : Cells R S [] []
  a_cell : {f : Name} {t : BType} {v : Value} {fs : List (Name × BType)} {vs : List Value} → Fits R S v t → Cells R S fs vs → Cells R S ((f, t) ∷ fs) (v ∷ vs)

-- A record's class is there, and it holds a value for each field of its class, of that field's type.
pub record RecordsFit (B : Book) (R : Rule) (S : Store) : Type 0 where
  pub each : (l : ℕ) (o : Rec) → S.look l ≡ Some o → (p : Part) × (B.class o.class ≡ Some p) × Cells R S p.fields o.values

-- Object and parameter have the class and the parameter type of a method; at the top none stand.
pub data AroundFits (R : Rule) (S : Store) : Where → Around → Type 0 where
  none_stand : AroundFits R S at_top (around None None)
  both_stand : {c l : ℕ} {t : BType} {v : Value} → Fits R S (Handle l) (T.Class c) → Fits R S v t → AroundFits R S (in_method c t) (around (Some l) (Some v))

-- The method whose strip holds a node, or the top.
abbrev pub where_of : Book → ℕ → Where
where_of B k = where_held (B.holder k)

-- The part that a node of a kind with rows goes to first.
pub data GoesFirst : Option Node → ℕ → Type 0 where
  minus_a : {a b : ℕ} → GoesFirst (Some (Minus a b)) a
  less_a : {a b : ℕ} → GoesFirst (Some (Less a b)) a
  equal_a : {a b : ℕ} → GoesFirst (Some (Equal a b)) a
  null_a : {a : ℕ} → GoesFirst (Some (IsNull a)) a
  field_a : {a : ℕ} {f : Name} → GoesFirst (Some (FieldRead a f)) a
  call_a : {a b : ℕ} {m : Name} → GoesFirst (Some (Call a b m)) a
  reading_a : {a : ℕ} → GoesFirst (Some (Reading a)) a
  write_a : {a b : ℕ} {f : Name} → GoesFirst (Some (FieldWrite a b f)) a
  sequence_a : {a b : ℕ} → GoesFirst (Some (Sequence a b)) a
  if_a : {a b d : ℕ} → GoesFirst (Some (If a b d)) a
  while_a : {a b : ℕ} → GoesFirst (Some (While a b)) a

-- Kinds 1 to 3, 8 and 11 keep the value of part a while they go to part b.
pub data Keeps : Option Node → ℕ → ℕ → Type 0 where
  minus_b : {a b : ℕ} → Keeps (Some (Minus a b)) a b
  less_b : {a b : ℕ} → Keeps (Some (Less a b)) a b
  equal_b : {a b : ℕ} → Keeps (Some (Equal a b)) a b
  call_b : {a b : ℕ} {m : Name} → Keeps (Some (Call a b m)) a b
  write_b : {a b : ℕ} {f : Name} → Keeps (Some (FieldWrite a b f)) a b

-- The node w that a row of node k at a stage last went to, and what it keeps there: at stage 2 a value of part a's type,
-- and not null, which ended the run at stage 1; at stages 3 and 4 the object and parameter of the method whose strip
-- holds k. There w is the command root, then the returned root, of the method called: part a's type has its class.
pub data Went (B : Book) (R : Rule) (S : Store) (k : ℕ) : Stage → ℕ → Type 0 where
  at_stage_1 : {a : ℕ} → GoesFirst (B.node k) a → Went B R S k First a
  at_stage_2 : {a b : ℕ} {v : Value} {t : BType} → Keeps (B.node k) a b → B ∣ where_of B k ⊩ B.node a ∶ t → Fits R S v t → (v ≢ Null) → Went B R S k (Second v) b
  at_turn : {a b : ℕ} → B.node k ≡ Some (While a b) → Went B R S k Turn b
  at_stage_3 : {a b c : ℕ} {m : Name} {q : Meth} {ε : Around} → B.node k ≡ Some (Call a b m) → B ∣ where_of B k ⊩ B.node a ∶ T.Class c → method_of (B.class c) m ≡ Some q
      → AroundFits R S (where_of B k) ε → Went B R S k (Third ε) q.body
  at_stage_4 : {a b c : ℕ} {m : Name} {q : Meth} {ε : Around} → B.node k ≡ Some (Call a b m) → B ∣ where_of B k ⊩ B.node a ∶ T.Class c → method_of (B.class c) m ≡ Some q
      → AroundFits R S (where_of B k) ε → Went B R S k (Fourth ε) q.result

-- Node k is w, or reached from it through second parts of sequences and branches of ifs.
pub data Through (B : Book) (w : ℕ) : ℕ → Type 0 where
  itself : Through B w w
  second_part : {k a b : ℕ} → Through B w k → B.node k ≡ Some (Sequence a b) → Through B w b
  on_true : {k a b d : ℕ} → Through B w k → B.node k ≡ Some (If a b d) → Through B w b
  on_false : {k a b d : ℕ} → Through B w k → B.node k ≡ Some (If a b d) → Through B w d

-- Rows that fit, and the node w that the top row last went to; with no rows, the top root.
pub data RowsFit (B : Book) (R : Rule) (S : Store) : List Row → ℕ → Type 0 where
  no_rows : RowsFit B R S [] B.root
  a_row : {k w v : ℕ} {s : Stage} {ρ : List Row} → RowsFit B R S ρ v → Through B v k → Went B R S k s w → RowsFit B R S (row k s ∷ ρ) w

-- What is in hand: a node reached from w, a value of w's type, or done at a command.
pub data HandFits (B : Book) (R : Rule) (S : Store) (w : ℕ) : Hand → Type 0 where
  goes : {k : ℕ} → Through B w k → HandFits B R S w (Go k)
  has : {v : Value} {t : BType} → B ∣ where_of B w ⊩ B.node w ∶ t → Fits R S v t → HandFits B R S w (Have v)
  is_done : B ∣ where_of B w ⊩ B.node w ∶com → HandFits B R S w Done

-- Hand, object and parameter, rows and records fit.
pub data Fitting (B : Book) (R : Rule) : State → Type 0 where
  fitting : {w : ℕ} {x : Hand} {ε : Around} {ρ : List Row} {S : Store} → RowsFit B R S ρ w → HandFits B R S w x → AroundFits R S (where_of B w) ε → RecordsFit B R S
      → Fitting B R (state x ε ρ S)
