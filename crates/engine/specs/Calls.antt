-- The calls, each as a relation between what it is given and what it answers and leaves.
use Rattle.std.specs.Prelude.{◌≡◌, ℕ, zero, suc, ◌+◌, ◌<◌, ◌≤◌, Bool, true, false, ◌&&◌, ◌||◌, ◌⊎◌, length, None, Ok, Err, Result, ◌==◌, ◌≢◌, nat_le, nat_lt}
use Rattle.pile.specs.declared.base.Pile.{Pile}
use Rattle.pile.specs.Pile.{items, size, Kept}
use Rattle.store.specs.Meaning.{Means, store}
use Rattle.cool.specs.Book.{Book}
use Rattle.machine.specs.declared.state.Hand.TheVariants.{Go}
use Rattle.machine.specs.declared.state.Row.{Row}
use Rattle.machine.specs.declared.state.End.{End}
use Rattle.machine.specs.declared.state.End.TheVariants.{Unfinished, Finished}
use Rattle.machine.specs.Machine.{State, around, Given, step, ends, finished, misfit, Line}
use Rattle.machine.specs.Ends.{end_number, end_node}
use Rattle.engine.specs.declared.base.Run.{Run}
use Rattle.engine.specs.declared.base.SettledRun.{SettledRun}
use Rattle.engine.specs.declared.refused.Refused.{Refused}
use Rattle.engine.specs.declared.refused.Refused.TheVariants.{StoreHasRecords, WrongRows, Misfit, TooFar}
use Rattle.engine.specs.Runs.{state_of}

-- What a call answers that has nothing to tell when it is accepted.
abbrev pub Answer : Type 0
Answer = Result (Unit {0}) Refused

-- Rows that a run can be begun with: none are on the pile, and it has 1 to 4,096 places.
abbrev pub fresh : Pile Row → Bool
fresh p = length (items p) == 0 && (nat_le 1 (size p) && nat_le (size p) 4096)

-- A run as it begins: it goes to the top root, with no object and no parameter, and no step is worked.
abbrev pub begun : Book → Pile Row → Run
begun B p = record { hand = Go B.root; around = around None None; steps = 0; end = Unfinished; places = size p }

-- What begin answers for a book, rows and a store. It changes nothing.
pub data Begins (B : Book) (p : Pile Row) (m : Means) : Result Run Refused → Type 0 where
  wrong_rows : fresh p ≡ false → Begins B p m (Err WrongRows)
  has_records : fresh p ≡ true → ((store m).count ≢ 0) → Begins B p m (Err StoreHasRecords)
  begins : fresh p ≡ true → (store m).count ≡ 0 → Begins B p m (Ok (begun B p))

-- n lines lead from one state to another, each new record under any free handle.
pub data Lines (G : Given) : ℕ → State → State → Type 0 where
  no_lines : {s t : State} → s ≡ t → Lines G zero s t
  and_a_line : {n : ℕ} {s t u : State} → Lines G n s t → Line G t u → Lines G (suc n) s u

-- What working comes to, from the state s after n steps, with an allowance of b steps: the answer, the state left, the
-- steps, and how the run then stands.
pub data WorkedFrom (G : Given) (b : ℕ) (s : State) (n : ℕ) : Answer → State → ℕ → End → Type 0 where
  -- the allowance is used up, and the run is not finished
  used_up : {t : State} {k : ℕ} → Lines G b s t → (step G t ≢ finished) → k ≡ n + b → WorkedFrom G b s n (Ok tt) t k Unfinished
  -- finished costs no step
  was_finished : {t : State} {j k : ℕ} → Lines G j s t → step G t ≡ finished → j ≤ b → k ≡ n + j → WorkedFrom G b s n (Ok tt) t k Finished
  -- the ending step counts, and leaves the state as it was
  was_ended : {t : State} {j k : ℕ} {e : End} → Lines G j s t → step G t ≡ ends (end_number e) (end_node e) → j < b → k ≡ n + suc j → WorkedFrom G b s n (Ok tt) t k e
  -- a step is due, and no line applies: the lines before it stand
  was_misfit : {t : State} {j k : ℕ} → Lines G j s t → step G t ≡ misfit → j < b → k ≡ n + j → WorkedFrom G b s n (Err Misfit) t k Unfinished

-- An allowance above 1,000,000, or one that would bring the steps above 4,000,000,000.
abbrev pub too_far : ℕ → ℕ → Bool
too_far n b = nat_lt 1000000 b || nat_lt 4000000000 (n + b)

-- What advance answers for the run u, the rows p, a store that means m and the allowance b, and what it leaves of them.
-- G is given with the run, with the places of p.
pub data Advances (G : Given) (b : ℕ) (u : Run) (p : Pile Row) (m : Means) : Answer → Run → Pile Row → Means → Type 0 where
  goes_too_far : too_far u.steps b ≡ true → Advances G b u p m (Err TooFar) u p m
  other_rows : too_far u.steps b ≡ false → (size p ≢ u.places) → Advances G b u p m (Err WrongRows) u p m
  -- a run that has ended stays
  stays : too_far u.steps b ≡ false → size p ≡ u.places → (u.end ≢ Unfinished) → Advances G b u p m (Ok tt) u p m
  works : {r : Answer} {v : Run} {q : Pile Row} {n : Means} → too_far u.steps b ≡ false → size p ≡ u.places → u.end ≡ Unfinished
      → WorkedFrom G b (state_of u p m) u.steps r (state_of v q n) v.steps v.end → v.places ≡ u.places → Kept p q → Advances G b u p m r v q n

-- An advance that works nothing: it is refused, or the run has ended.
abbrev pub WorksNothing : ℕ → Run → Pile Row → Type 0
WorksNothing b u p = (too_far u.steps b ≡ true) ⊎ ((size p ≢ u.places) ⊎ (u.end ≢ Unfinished))

-- Settling keeps the run as it is, and ends its use.
abbrev pub Settles : Run → SettledRun → Type 0
Settles u s = s.0 ≡ u
