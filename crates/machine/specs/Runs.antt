-- Runs begun and worked, and how they may stand.
use Rattle.std.specs.Prelude.{◌≡◌, ℕ, suc, ◌≤◌, ◌⊎◌, [], ◌≢◌}
use Rattle.book.specs.declared.node.Type.{«Type» as BType}
use Rattle.store.specs.declared.Value.{Value}
use Rattle.store.specs.Meaning.{Store}
use Rattle.machine.specs.declared.state.Around.{Around}
use Rattle.machine.specs.declared.state.Hand.TheVariants.{Have}
use Rattle.machine.specs.Machine.{State, state, Given, step, ends, finished, Line, Reached, node_of}
use Rattle.machine.specs.Fit.{Fits}
use Rattle.machine.specs.Causes.{Cause}

-- A run that was begun, and worked until the allowance b was used up or it ended: the state it is left in, its steps,
-- its end (1 while it has none), and the end's node (0 below end 31). Finished costs no step, and stands as soon as a
-- value is left with no rows; an ending step counts, and leaves the state as it was.
pub data Worked (G : Given) (r q b : ℕ) : State → ℕ → ℕ → ℕ → Type 0 where
  used_up : {s : State} → Reached G r q b s → (step G s ≢ finished) → Worked G r q b s b 1 0
  was_finished : {s : State} {n : ℕ} → Reached G r q n s → step G s ≡ finished → n ≤ b → Worked G r q b s n 0 0
  was_ended : {s : State} {n e k : ℕ} → Reached G r q n s → step G s ≡ ends e k → suc n ≤ b → Worked G r q b s (suc n) e k

-- It is finished with a value that fits the type z.
pub record Finished (G : Given) (z : BType) (s : State) (e : ℕ) : Type 0 where
  pub end : e ≡ 0
  pub value : Value
  pub around : Around
  pub store : Store
  pub stands : s ≡ state (Have value) around [] store
  pub fits : Fits G.rule store value z

-- It has ended with a number from 31 to 35 whose cause still holds in the state it was left in, at the node gone to or
-- else the top row's.
pub record Ended (G : Given) (s : State) (e k : ℕ) : Type 0 where
  pub low : 31 ≤ e
  pub high : e ≤ 35
  pub cause : Cause G s e k
  pub node : k ≡ node_of s

-- It has not ended, and there is a further step, an ending one included.
pub record Unfinished (G : Given) (s : State) (e : ℕ) : Type 0 where
  pub end : e ≡ 1
  pub further : ((t : State) × Line G s t) ⊎ ((d : ℕ) × (k : ℕ) × Cause G s d k)

-- One of three, and no other.
abbrev pub OneOf : Type 0 → Type 0 → Type 0 → Type 0
OneOf A B C = (A × (B → ⊥) × (C → ⊥)) ⊎ ((B × (A → ⊥) × (C → ⊥)) ⊎ (C × (A → ⊥) × (B → ⊥)))
