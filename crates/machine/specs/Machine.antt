-- One step of the machine.
use Rattle.std.specs.Prelude.{◌≡◌, ℕ, zero, suc, ◌^◌, ◌<◌, Bool, true, false, List, [], ◌∷◌, length, ℤ, Some, None, Option, int_lt, nat_lt}
use Rattle.std.specs.List.{slice_get}
use Rattle.book.specs.declared.node.Node.{Node}
use Rattle.book.specs.declared.node.Node.TheVariants.{Literal, Minus, Less, Equal, IsNull, This, Parameter, FieldRead, Call, New, Reading, FieldWrite, Sequence, If, While, Skip}
use Rattle.book.specs.declared.node.Type.{«Type» as BType}
use Rattle.numbers.specs.Rule.{Rule, within}
use Rattle.store.specs.declared.Value.{Value}
use Rattle.store.specs.declared.Value.TheVariants.{Int, Boolean, Null, Handle}
use Rattle.store.specs.Meaning.{Store, room, added, written, nothing}
use Rattle.cool.specs.Syntax.{Name}
use Rattle.cool.specs.Dynamic.{equal_ints, reading_at}
use Rattle.cool.specs.Book.{Part, Book, fields_of, method_of, place}
use Rattle.machine.specs.declared.state.Around.{Around}
use Rattle.machine.specs.declared.state.Hand.{Hand}
use Rattle.machine.specs.declared.state.Hand.TheVariants.{Go, Have, Done}
use Rattle.machine.specs.declared.state.Stage.{Stage}
use Rattle.machine.specs.declared.state.Stage.TheVariants.{First, Second, Turn, Third, Fourth}
use Rattle.machine.specs.declared.state.Row.{Row}
use Rattle.machine.specs.Fields.{first_values}

abbrev pub row : ℕ → Stage → Row
row k s = record { node = k; stage = s }

abbrev pub around : Option ℕ → Option Value → Around
around ℓ ℘ = record { object = ℓ; parameter = ℘ }

-- Hand, object and parameter, rows with the top one first, store.
pub data State : Type 0 where
  state : Hand → Around → List Row → Store → State

abbrev pub hand_of : State → Hand
hand_of (state x ε ρ S) = x

abbrev pub store_of : State → Store
store_of (state x ε ρ S) = S

-- What a step comes to: the next state; a new record of a class in hand, under a handle of the store's choice; an end
-- with its node; finished, which is no step; no line applies.
pub data Outcome : Type 0 where
  next : State → Outcome
  makes : ℕ → Outcome
  ends : ℕ → ℕ → Outcome
  finished : Outcome
  misfit : Outcome

-- What is given with a run and never changes: the book, the number rule, the day's readings, the places for rows.
pub record Given : Type 0 where
  pub book : Book
  pub rule : Rule
  pub day : List ℤ
  pub places : ℕ

-- What a row waits to do, by its node's kind and its stage: the kinds 1 to 3, 4, 7 and 10, 8, 11, 12, 13 and 14, each
-- with the parts, names and kept values that its line speaks of.
pub data Op₂ : Type 0 where
  op_minus : Op₂
  op_less : Op₂
  op_equal : Op₂

pub data Op₁ : Type 0 where
  op_null : Op₁
  op_field : Name → Op₁
  op_reading : Op₁

pub data Frame : Type 0 where
  two₁ : Op₂ → ℕ → Frame
  two₂ : Op₂ → Value → Frame
  one₁ : Op₁ → Frame
  call₁ : ℕ → Name → Frame
  call₂ : Name → Value → Frame
  call₃ : Name → Around → Frame
  call₄ : Around → Frame
  write₁ : ℕ → Name → Frame
  write₂ : Name → Value → Frame
  sequence₁ : ℕ → Frame
  if₁ : ℕ → ℕ → Frame
  while₁ : ℕ → ℕ → Frame
  while₂ : ℕ → ℕ → Frame
  no_line : Frame

-- A row with stage 1 alone; with stages 1 and 2; with all four; and a while's.
abbrev pub at_first : Stage → Frame → Frame
at_first First f = f
at_first (Second v) f = no_line
at_first Turn f = no_line
at_first (Third ε) f = no_line
at_first (Fourth ε) f = no_line

abbrev pub at_two : Stage → Frame → (Value → Frame) → Frame
at_two First f g = f
at_two (Second v) f g = g v
at_two Turn f g = no_line
at_two (Third ε) f g = no_line
at_two (Fourth ε) f g = no_line

abbrev pub at_four : Stage → Frame → (Value → Frame) → (Around → Frame) → (Around → Frame) → Frame
at_four First f g h i = f
at_four (Second v) f g h i = g v
at_four Turn f g h i = no_line
at_four (Third ε) f g h i = h ε
at_four (Fourth ε) f g h i = i ε

abbrev pub at_loop : Stage → Frame → Frame → Frame
at_loop First f g = f
at_loop (Second v) f g = no_line
at_loop Turn f g = g
at_loop (Third ε) f g = no_line
at_loop (Fourth ε) f g = no_line

-- By the node and the stage; where no line applies, no line.
abbrev pub frame : Option Node → Stage → Frame
frame None s = no_line
frame (Some (Literal n)) s = no_line
frame (Some (Minus a b)) s = at_two s (two₁ op_minus b) (two₂ op_minus)
frame (Some (Less a b)) s = at_two s (two₁ op_less b) (two₂ op_less)
frame (Some (Equal a b)) s = at_two s (two₁ op_equal b) (two₂ op_equal)
frame (Some (IsNull a)) s = at_first s (one₁ op_null)
frame (Some This) s = no_line
frame (Some Parameter) s = no_line
frame (Some (FieldRead a f)) s = at_first s (one₁ (op_field f))
frame (Some (Call a b m)) s = at_four s (call₁ b m) (call₂ m) (call₃ m) call₄
frame (Some (New c)) s = no_line
frame (Some (Reading a)) s = at_first s (one₁ op_reading)
frame (Some (FieldWrite a b f)) s = at_two s (write₁ b f) (write₂ f)
frame (Some (Sequence a b)) s = at_first s (sequence₁ b)
frame (Some (If a b d)) s = at_first s (if₁ b d)
frame (Some (While a b)) s = at_loop s (while₁ a b) (while₂ a b)
frame (Some Skip) s = no_line

-- Ways to go on: with what is there, else an end at node k, or a misfit. They are shut, so that a proof can take an
-- equation about an outcome apart.
unfoldable pub or_ends : {A : Type 0} → ℕ → ℕ → Option A → (A → Outcome) → Outcome
or_ends e k None f = ends e k
or_ends e k (Some a) f = f a

unfoldable pub or_misfit : {A : Type 0} → Option A → (A → Outcome) → Outcome
or_misfit None f = misfit
or_misfit (Some a) f = f a

unfoldable pub unless : ℕ → ℕ → Bool → Outcome → Outcome
unless e k true o = o
unless e k false o = ends e k

-- By the value in hand or kept.
unfoldable pub two_ints : Value → Value → (ℤ → ℤ → Outcome) → Outcome
two_ints (Int m) (Int n) f = f m n
two_ints (Int m) (Boolean b) f = misfit
two_ints (Int m) Null f = misfit
two_ints (Int m) (Handle l) f = misfit
two_ints (Boolean b) v f = misfit
two_ints Null v f = misfit
two_ints (Handle l) v f = misfit

unfoldable pub an_int : Value → (ℤ → Outcome) → Outcome
an_int (Int n) f = f n
an_int (Boolean b) f = misfit
an_int Null f = misfit
an_int (Handle l) f = misfit

unfoldable pub a_test : Value → Outcome → Outcome → Outcome
a_test (Int n) o p = misfit
a_test (Boolean true) o p = o
a_test (Boolean false) o p = p
a_test Null o p = misfit
a_test (Handle l) o p = misfit

-- null or a record
unfoldable pub null_or : Value → Outcome → (ℕ → Outcome) → Outcome
null_or (Int n) o f = misfit
null_or (Boolean b) o f = misfit
null_or Null o f = o
null_or (Handle l) o f = f l

-- anything but null
unfoldable pub not_null : ℕ → Value → Outcome → Outcome
not_null k (Int n) o = o
not_null k (Boolean b) o = o
not_null k Null o = ends 31 k
not_null k (Handle l) o = o

-- the cell of a field: its place and what it holds
unfoldable pub the_cell : List (Name × BType) → List Value → Name → (ℕ → Value → Outcome) → Outcome
the_cell fs vs f g = or_misfit (place fs f) (λ i. or_misfit (slice_get vs i) (λ v. g i v))

-- The result of kinds 1 to 3: no difference is end 33.
abbrev pub result₂ : Rule → ℕ → Op₂ → Value → Value → (Value → Outcome) → Outcome
result₂ R k op_minus u v f = two_ints u v (λ m n. or_ends 33 k (R.difference m n) (λ d. f (Int d)))
result₂ R k op_less u v f = two_ints u v (λ m n. f (Boolean (int_lt m n)))
result₂ R k op_equal u v f = two_ints u v (λ m n. f (Boolean (equal_ints m n)))

-- The result of kinds 4, 7 and 10: a field of null is end 31, no such reading 32, a reading beyond the ends 33.
abbrev pub result₁ : Given → ℕ → Store → Op₁ → Value → (Value → Outcome) → Outcome
result₁ G k S op_null v f = null_or v (f (Boolean true)) (λ l. f (Boolean false))
result₁ G k S (op_field g) v f = null_or v (ends 31 k) (λ l. or_misfit (S.look l) (λ o. the_cell (fields_of (G.book.class o.class)) o.values g (λ i w. f w)))
result₁ G k S op_reading v f = an_int v (λ i. or_ends 32 k (reading_at G.day i) (λ n. unless 33 k (within G.rule n) (f (Int n))))

-- Put on a row for node k at stage 1, go a. No place: end 35.
unfoldable pub put_on : Given → ℕ → ℕ → Around → List Row → Store → Outcome
put_on G k a ε ρ S = unless 35 k (nat_lt (length ρ) G.places) (next (state (Go a) ε (row k First ∷ ρ) S))

-- Go to a node.
abbrev pub step_go : Given → Option Node → ℕ → Around → List Row → Store → Outcome
step_go G None k ε ρ S = misfit
-- 0, 5, 6, 9, 15: have the literal, object, parameter, new handle or done. A literal beyond the ends: end 33. Make refused: end 34.
step_go G (Some (Literal n)) k ε ρ S = unless 33 k (within G.rule n) (next (state (Have (Int n)) ε ρ S))
step_go G (Some This) k ε ρ S = or_misfit ε.object (λ l. next (state (Have (Handle l)) ε ρ S))
step_go G (Some Parameter) k ε ρ S = or_misfit ε.parameter (λ v. next (state (Have v) ε ρ S))
step_go G (Some (New c)) k ε ρ S = or_misfit (G.book.class c) (λ p. unless 34 k (room S (length p.fields)) (makes c))
step_go G (Some Skip) k ε ρ S = next (state Done ε ρ S)
-- another kind
step_go G (Some (Minus a b)) k ε ρ S = put_on G k a ε ρ S
step_go G (Some (Less a b)) k ε ρ S = put_on G k a ε ρ S
step_go G (Some (Equal a b)) k ε ρ S = put_on G k a ε ρ S
step_go G (Some (IsNull a)) k ε ρ S = put_on G k a ε ρ S
step_go G (Some (FieldRead a f)) k ε ρ S = put_on G k a ε ρ S
step_go G (Some (Call a b m)) k ε ρ S = put_on G k a ε ρ S
step_go G (Some (Reading a)) k ε ρ S = put_on G k a ε ρ S
step_go G (Some (FieldWrite a b f)) k ε ρ S = put_on G k a ε ρ S
step_go G (Some (Sequence a b)) k ε ρ S = put_on G k a ε ρ S
step_go G (Some (If a b d)) k ε ρ S = put_on G k a ε ρ S
step_go G (Some (While a b)) k ε ρ S = put_on G k a ε ρ S

-- Have the value v, under a row of node k.
abbrev pub step_have : Given → Frame → ℕ → Value → Around → List Row → Store → Outcome
-- 1 to 3: stage 1 keeps v, goes b at stage 2; stage 2 takes the row off and has the result.
step_have G (two₁ o b) k v ε ρ S = next (state (Go b) ε (row k (Second v) ∷ ρ) S)
step_have G (two₂ o u) k v ε ρ S = result₂ G.rule k o u v (λ w. next (state (Have w) ε ρ S))
-- 4, 7, 10: take off, have the result.
step_have G (one₁ o) k v ε ρ S = result₁ G k S o v (λ w. next (state (Have w) ε ρ S))
-- 8: stage 1 keeps v (null: end 31), goes b at stage 2. Stage 2 keeps the old object and parameter instead, sets the
-- target and v, goes to the command root at stage 3. Stage 4 restores both, takes the row off, still has v.
step_have G (call₁ b m) k v ε ρ S = not_null k v (next (state (Go b) ε (row k (Second v) ∷ ρ) S))
step_have G (call₂ m u) k v ε ρ S =
    null_or u misfit (λ l. or_misfit (S.look l) (λ o. or_misfit (method_of (G.book.class o.class) m) (λ q. next (state (Go q.body) (around (Some l) (Some v)) (row k (Third ε) ∷ ρ) S))))
step_have G (call₃ m δ) k v ε ρ S = misfit
step_have G (call₄ δ) k v ε ρ S = next (state (Have v) δ ρ S)
-- 11: stage 1 as kind 8; stage 2 writes, takes off, done.
step_have G (write₁ b f) k v ε ρ S = not_null k v (next (state (Go b) ε (row k (Second v) ∷ ρ) S))
step_have G (write₂ f u) k v ε ρ S =
    null_or u misfit (λ l. or_misfit (S.look l) (λ o. the_cell (fields_of (G.book.class o.class)) o.values f (λ i w. next (state Done ε ρ (written S l i v)))))
-- 13: take off, go b on true, d on false.
step_have G (if₁ b d) k v ε ρ S = a_test v (next (state (Go b) ε ρ S)) (next (state (Go d) ε ρ S))
-- 14: stage 1 on true goes b at stage 2, on false takes off, done.
step_have G (while₁ a b) k v ε ρ S = a_test v (next (state (Go b) ε (row k Turn ∷ ρ) S)) (next (state Done ε ρ S))
-- 12, and 14 at stage 2, need done
step_have G (sequence₁ b) k v ε ρ S = misfit
step_have G (while₂ a b) k v ε ρ S = misfit
step_have G no_line k v ε ρ S = misfit

-- Done, under a row of node k.
abbrev pub step_done : Given → Frame → ℕ → Around → List Row → Store → Outcome
-- 8: stage 3 goes to the returned root at stage 4.
step_done G (call₃ m δ) k ε ρ S =
    or_misfit ε.object (λ l. or_misfit (S.look l) (λ o. or_misfit (method_of (G.book.class o.class) m) (λ q. next (state (Go q.result) ε (row k (Fourth δ) ∷ ρ) S))))
-- 12: take off, go b.
step_done G (sequence₁ b) k ε ρ S = next (state (Go b) ε ρ S)
-- 14: stage 2 goes a at stage 1.
step_done G (while₂ a b) k ε ρ S = next (state (Go a) ε (row k First ∷ ρ) S)
-- the others need a value
step_done G (two₁ o b) k ε ρ S = misfit
step_done G (two₂ o u) k ε ρ S = misfit
step_done G (one₁ o) k ε ρ S = misfit
step_done G (call₁ b m) k ε ρ S = misfit
step_done G (call₂ m u) k ε ρ S = misfit
step_done G (call₄ δ) k ε ρ S = misfit
step_done G (write₁ b f) k ε ρ S = misfit
step_done G (write₂ f u) k ε ρ S = misfit
step_done G (if₁ b d) k ε ρ S = misfit
step_done G (while₁ a b) k ε ρ S = misfit
step_done G no_line k ε ρ S = misfit

-- One step. Have, or done, with no rows is finished.
abbrev pub step : Given → State → Outcome
step G (state (Go k) ε ρ S) = step_go G (G.book.node k) k ε ρ S
step G (state (Have v) ε [] S) = finished
step G (state (Have v) ε (r ∷ ρ) S) = step_have G (frame (G.book.node r.node) r.stage) r.node v ε ρ S
step G (state Done ε [] S) = finished
step G (state Done ε (r ∷ ρ) S) = step_done G (frame (G.book.node r.node) r.stage) r.node ε ρ S

-- One line: a step to a next state, or a new record in hand, under a handle of those that H allows which no record has.
pub data LineWith (H : ℕ → Type 0) (G : Given) : State → State → Type 0 where
  line_next : {s t : State} → step G s ≡ next t → LineWith H G s t
  line_make : {k c : ℕ} {p : Part} {ε : Around} {ρ : List Row} {S : Store} (l : ℕ) → G.book.node k ≡ Some (New c) → G.book.class c ≡ Some p
      → room S (length p.fields) ≡ true → H l → S.look l ≡ None
      → LineWith H G (state (Go k) ε ρ S) (state (Have (Handle l)) ε ρ (added S l (record { class = c; values = first_values p.fields })))

-- A handle has 32 bits.
abbrev pub IsHandle : ℕ → Type 0
IsHandle l = l < 2 ^ 32

abbrev pub Line : Given → State → State → Type 0
Line = LineWith IsHandle

-- Where a run starts: at the top root, with no rows, over an empty store with its two limits.
abbrev pub start : Given → ℕ → ℕ → State
start G r q = state (Go G.book.root) (around None None) [] (nothing r q)

-- A state reached from the start by n lines.
pub data Reached (G : Given) (r q : ℕ) : ℕ → State → Type 0 where
  at_start : {s : State} → s ≡ start G r q → Reached G r q zero s
  one_more : {n : ℕ} {s t : State} → Reached G r q n s → Line G s t → Reached G r q (suc n) t

-- The node of an end: the node gone to, or else the top row's.
abbrev pub node_of : State → ℕ
node_of (state (Go k) ε ρ S) = k
node_of (state (Have v) ε [] S) = 0
node_of (state (Have v) ε (r ∷ ρ) S) = r.node
node_of (state Done ε [] S) = 0
node_of (state Done ε (r ∷ ρ) S) = r.node
