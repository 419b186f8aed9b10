-- The kinds and stages that have a line, one by one.
use Rattle.std.proofs.Common.{ℕ, Some, None, Option}
use Rattle.book.specs.declared.node.Node.{Node}
use Rattle.book.specs.declared.node.Node.TheVariants.{Literal, Minus, Less, Equal, IsNull, This, Parameter, FieldRead, Call, New, Reading, FieldWrite, Sequence, If, While, Skip}
use Rattle.store.specs.declared.Value.{Value}
use Rattle.cool.specs.Syntax.{Name}
use Rattle.machine.specs.declared.state.Around.{Around}
use Rattle.machine.specs.declared.state.Stage.{Stage}
use Rattle.machine.specs.declared.state.Stage.TheVariants.{First, Second, Turn, Third, Fourth}
use Rattle.machine.specs.Machine.{Op₂, op_minus, op_less, op_equal, Op₁, op_null, op_field, op_reading, Frame, two₁, two₂, one₁, call₁, call₂, call₃, call₄, write₁, write₂, sequence₁, if₁, while₁, while₂, no_line, frame}

-- the nodes of kinds 1 to 3, and of kinds 4, 7 and 10
abbrev pub node₂ : Op₂ → ℕ → ℕ → Node
node₂ op_minus a b = Minus a b
node₂ op_less a b = Less a b
node₂ op_equal a b = Equal a b

abbrev pub node₁ : Op₁ → ℕ → Node
node₁ op_null a = IsNull a
node₁ (op_field f) a = FieldRead a f
node₁ op_reading a = Reading a

pub data View : Option Node → Stage → Frame → Type 0 where
  v_two₁ : (o : Op₂) (a b : ℕ) → View (Some (node₂ o a b)) First (two₁ o b)
  v_two₂ : (o : Op₂) (a b : ℕ) {v : Value} → View (Some (node₂ o a b)) (Second v) (two₂ o v)
  v_one₁ : (o : Op₁) (a : ℕ) → View (Some (node₁ o a)) First (one₁ o)
  v_call₁ : {a b : ℕ} {m : Name} → View (Some (Call a b m)) First (call₁ b m)
  v_call₂ : {a b : ℕ} {m : Name} {v : Value} → View (Some (Call a b m)) (Second v) (call₂ m v)
  v_call₃ : {a b : ℕ} {m : Name} {ε : Around} → View (Some (Call a b m)) (Third ε) (call₃ m ε)
  v_call₄ : {a b : ℕ} {m : Name} {ε : Around} → View (Some (Call a b m)) (Fourth ε) (call₄ ε)
  v_write₁ : {a b : ℕ} {f : Name} → View (Some (FieldWrite a b f)) First (write₁ b f)
  v_write₂ : {a b : ℕ} {f : Name} {v : Value} → View (Some (FieldWrite a b f)) (Second v) (write₂ f v)
  v_sequence₁ : {a b : ℕ} → View (Some (Sequence a b)) First (sequence₁ b)
  v_if₁ : {a b d : ℕ} → View (Some (If a b d)) First (if₁ b d)
  v_while₁ : {a b : ℕ} → View (Some (While a b)) First (while₁ a b)
  v_while₂ : {a b : ℕ} → View (Some (While a b)) Turn (while₂ a b)
  v_none : {n : Option Node} {s : Stage} → View n s no_line

pub view : (n : Option Node) (s : Stage) → View n s (frame n s)
view None s = v_none
view (Some (Literal n)) s = v_none
view (Some (Minus a b)) First = v_two₁ op_minus a b
view (Some (Minus a b)) (Second v) = v_two₂ op_minus a b
view (Some (Minus a b)) Turn = v_none
view (Some (Minus a b)) (Third ε) = v_none
view (Some (Minus a b)) (Fourth ε) = v_none
view (Some (Less a b)) First = v_two₁ op_less a b
view (Some (Less a b)) (Second v) = v_two₂ op_less a b
view (Some (Less a b)) Turn = v_none
view (Some (Less a b)) (Third ε) = v_none
view (Some (Less a b)) (Fourth ε) = v_none
view (Some (Equal a b)) First = v_two₁ op_equal a b
view (Some (Equal a b)) (Second v) = v_two₂ op_equal a b
view (Some (Equal a b)) Turn = v_none
view (Some (Equal a b)) (Third ε) = v_none
view (Some (Equal a b)) (Fourth ε) = v_none
view (Some (IsNull a)) First = v_one₁ op_null a
view (Some (IsNull a)) (Second v) = v_none
view (Some (IsNull a)) Turn = v_none
view (Some (IsNull a)) (Third ε) = v_none
view (Some (IsNull a)) (Fourth ε) = v_none
view (Some This) s = v_none
view (Some Parameter) s = v_none
view (Some (FieldRead a f)) First = v_one₁ (op_field f) a
view (Some (FieldRead a f)) (Second v) = v_none
view (Some (FieldRead a f)) Turn = v_none
view (Some (FieldRead a f)) (Third ε) = v_none
view (Some (FieldRead a f)) (Fourth ε) = v_none
view (Some (Call a b m)) First = v_call₁
view (Some (Call a b m)) (Second v) = v_call₂
view (Some (Call a b m)) Turn = v_none
view (Some (Call a b m)) (Third ε) = v_call₃
view (Some (Call a b m)) (Fourth ε) = v_call₄
view (Some (New c)) s = v_none
view (Some (Reading a)) First = v_one₁ op_reading a
view (Some (Reading a)) (Second v) = v_none
view (Some (Reading a)) Turn = v_none
view (Some (Reading a)) (Third ε) = v_none
view (Some (Reading a)) (Fourth ε) = v_none
view (Some (FieldWrite a b f)) First = v_write₁
view (Some (FieldWrite a b f)) (Second v) = v_write₂
view (Some (FieldWrite a b f)) Turn = v_none
view (Some (FieldWrite a b f)) (Third ε) = v_none
view (Some (FieldWrite a b f)) (Fourth ε) = v_none
view (Some (Sequence a b)) First = v_sequence₁
view (Some (Sequence a b)) (Second v) = v_none
view (Some (Sequence a b)) Turn = v_none
view (Some (Sequence a b)) (Third ε) = v_none
view (Some (Sequence a b)) (Fourth ε) = v_none
view (Some (If a b d)) First = v_if₁
view (Some (If a b d)) (Second v) = v_none
view (Some (If a b d)) Turn = v_none
view (Some (If a b d)) (Third ε) = v_none
view (Some (If a b d)) (Fourth ε) = v_none
view (Some (While a b)) First = v_while₁
view (Some (While a b)) (Second v) = v_none
view (Some (While a b)) Turn = v_while₂
view (Some (While a b)) (Third ε) = v_none
view (Some (While a b)) (Fourth ε) = v_none
view (Some Skip) s = v_none
