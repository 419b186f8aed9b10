-- The cause of each end, as it stands in the state that the run is left in, with the end's number and node.
use Rattle.std.specs.Prelude.{◌≡◌, ℕ, false, List, ◌∷◌, length, ℤ, Some, None, Option, nat_lt}
use Rattle.book.specs.declared.node.Node.{Node}
use Rattle.book.specs.declared.node.Node.TheVariants.{Literal, Minus, FieldRead, Call, New, Reading, FieldWrite}
use Rattle.numbers.specs.Rule.{within}
use Rattle.store.specs.declared.Value.TheVariants.{Int, Null}
use Rattle.store.specs.Meaning.{Store, room}
use Rattle.cool.specs.Syntax.{Name}
use Rattle.cool.specs.Dynamic.{reading_at}
use Rattle.cool.specs.Book.{Part}
use Rattle.machine.specs.declared.state.Around.{Around}
use Rattle.machine.specs.declared.state.Hand.TheVariants.{Go, Have}
use Rattle.machine.specs.declared.state.Stage.TheVariants.{First, Second}
use Rattle.machine.specs.declared.state.Row.{Row}
use Rattle.machine.specs.Machine.{State, state, row, Given}
use Rattle.machine.specs.Fit.{GoesFirst}

-- The kinds whose part a is a target: 7, 8 and 11.
pub data Targets : Option Node → Type 0 where
  field_target : {a : ℕ} {f : Name} → Targets (Some (FieldRead a f))
  call_target : {a b : ℕ} {m : Name} → Targets (Some (Call a b m))
  write_target : {a b : ℕ} {f : Name} → Targets (Some (FieldWrite a b f))

pub data Cause (G : Given) : State → ℕ → ℕ → Type 0 where
  -- 31: the target is null
  null_target : {k : ℕ} {ε : Around} {ρ : List Row} {S : Store} → Targets (G.book.node k) → Cause G (state (Have Null) ε (row k First ∷ ρ) S) 31 k
  -- 32: there is no such reading
  no_reading : {k a : ℕ} {i : ℤ} {ε : Around} {ρ : List Row} {S : Store} → G.book.node k ≡ Some (Reading a) → reading_at G.day i ≡ None
      → Cause G (state (Have (Int i)) ε (row k First ∷ ρ) S) 32 k
  -- 33: a literal beyond the ends, no difference, a reading beyond the ends
  literal_beyond : {k : ℕ} {n : ℤ} {ε : Around} {ρ : List Row} {S : Store} → G.book.node k ≡ Some (Literal n) → within G.rule n ≡ false → Cause G (state (Go k) ε ρ S) 33 k
  no_difference : {k a b : ℕ} {m n : ℤ} {ε : Around} {ρ : List Row} {S : Store} → G.book.node k ≡ Some (Minus a b) → G.rule.difference m n ≡ None
      → Cause G (state (Have (Int n)) ε (row k (Second (Int m)) ∷ ρ) S) 33 k
  reading_beyond : {k a : ℕ} {i n : ℤ} {ε : Around} {ρ : List Row} {S : Store} → G.book.node k ≡ Some (Reading a) → reading_at G.day i ≡ Some n → within G.rule n ≡ false
      → Cause G (state (Have (Int i)) ε (row k First ∷ ρ) S) 33 k
  -- 34: no room for a new record
  no_room : {k c : ℕ} {p : Part} {ε : Around} {ρ : List Row} {S : Store} → G.book.node k ≡ Some (New c) → G.book.class c ≡ Some p → room S (length p.fields) ≡ false
      → Cause G (state (Go k) ε ρ S) 34 k
  -- 35: no place for a row
  no_place : {k a : ℕ} {ε : Around} {ρ : List Row} {S : Store} → GoesFirst (G.book.node k) a → nat_lt (length ρ) G.places ≡ false → Cause G (state (Go k) ε ρ S) 35 k
