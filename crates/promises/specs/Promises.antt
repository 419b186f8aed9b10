-- What is promised after every list of calls.
use Rattle.std.specs.Prelude.{◌≡◌, ℕ, ◌≤◌, ◌⊎◌, List, take, Some, Ok, Err}
use Rattle.std.specs.List.{slice_get}
use Rattle.store.specs.declared.Value.{Value}
use Rattle.store.specs.Meaning.{store}
use Rattle.cool.specs.Syntax.{Ty, Expr, CE}
use Rattle.cool.specs.Dynamic.{Heap}
use Rattle.cool.specs.Says.{Accepted}
use Rattle.machine.specs.Ends.{end_number, end_node}
use Rattle.machine.specs.Fields.{heap_of}
use Rattle.machine.specs.Fit.{Fitting}
use Rattle.machine.specs.Machine.{State, Given}
use Rattle.machine.specs.Runs.{Worked, Finished, Ended, Unfinished, OneOf}
use Rattle.machine.specs.Laws.{Derived, ComesTo}
use Rattle.slips.specs.declared.refused.SlipRefused.TheVariants as S
use Rattle.slips.specs.Slip.{slip as slip_bytes}
use Rattle.engine.specs.declared.question.Told.{Told}
use Rattle.engine.specs.declared.refused.Refused.TheVariants as R
use Rattle.engine.specs.Runs.{state_of}
use Rattle.promises.specs.Lists.{Own, Standing, Call, advance, question, slip, own_given, Does, Event, on, After}

-- What the step rules are given with a run, and the state that it stands in.
abbrev pub given_to : Standing → Given
given_to s = own_given s.own

abbrev pub stands_in : Standing → State
stands_in s = state_of s.run s.rows s.store

-- A call was answered with 23.
pub data Gave23 : Call → Type 0 where
  by_advance : {b : ℕ} → Gave23 (advance b (Err R.Misfit))
  by_slip : {out out' : List ℕ} → Gave23 (slip out (Err S.Misfit) out')

-- The steps, end and node of a run are those of a run begun and worked, with the step rules, until the sum of its accepted
-- allowances is used up or it ends; and the state it stands in is that run's, its own handles as locations.
abbrev pub IsWorked : Standing → Type 0
IsWorked s =
    Worked (given_to s) s.own.most_records s.own.most_cells s.allowed (stands_in s) s.run.steps (end_number s.run.end) (end_node s.run.end)

-- Of each run: every value in hand, object, parameter, rows and records fits its place; it is where the step rules lead;
-- and exactly one holds: it is finished with a value of the top expression's type, it has an end from 31 to 35 whose cause
-- holds, or it has not ended and the rules give it a further step.
pub record KeptOf (s : Standing) : Type 0 where
  pub fits : Fitting s.own.book s.own.rule (stands_in s)
  pub worked : IsWorked s
  pub one_of_three :
      OneOf (Finished (given_to s) s.own.top (stands_in s) (end_number s.run.end))
      (Ended (given_to s) (stands_in s) (end_number s.run.end) (end_node s.run.end))
      (Unfinished (given_to s) (stands_in s) (end_number s.run.end))

-- Two runs alike in book, readings, number rule, row places and store limits, and in the sum of accepted allowances.
pub record Alike (s t : Standing) : Type 0 where
  pub own : s.own ≡ t.own
  pub allowed : s.allowed ≡ t.allowed

-- The slip of a run: the bytes that are defined for it.
abbrev pub defined_slip : Standing → List ℕ
defined_slip s = slip_bytes s.own.book (store s.store) s.run.end s.run.steps s.run.hand

-- Of two runs alike: question tells the same, and where slip accepts both, it writes the same bytes, the defined ones.
pub record SameAnswers (s t : Standing) : Type 0 where
  pub told : (s' t' : Standing) (a b : Told) → Does s (question a) s' → Does t (question b) t' → a ≡ b
  pub slips : (s' t' : Standing) (m n : ℕ) (x x' y y' : List ℕ) → Does s (slip x (Ok m) x') s' → Does t (slip y (Ok n) y') t'
      → (m ≡ n) × (take m x' ≡ defined_slip s) × (take n y' ≡ defined_slip t) × (defined_slip s ≡ defined_slip t)

-- A finished run's value and store are derived by the evaluation rules, its own handles as locations.
abbrev pub IsDerived : Standing → Type 0
IsDerived s = (ce : CE) (e : Expr) (u : Ty) → Accepted s.own.book ce e u
    → (f : Finished (given_to s) s.own.top (stands_in s) (end_number s.run.end)) → Derived (given_to s) ce e f.value (heap_of s.own.book f.store)

-- Where the rules derive a value and a heap for an accepted book, there is a sum of accepted allowances from which on every
-- run that was begun with the same things has finished with them, up to the naming of handles, unless it has end 34 or 35.
abbrev pub IsReached : Own → Type 0
IsReached o =
    (ce : CE) (e : Expr) (u : Ty) → Accepted o.book ce e u → (v : Value) (h : Heap) → Derived (own_given o) ce e v h
    → (enough : ℕ) × ((es : List Event) (ss : List Standing) (i : ℕ) (s : Standing) → After es ss → slice_get ss i ≡ Some s → s.own ≡ o → enough ≤ s.allowed
    → ((end_number s.run.end ≡ 34) ⊎ (end_number s.run.end ≡ 35)) ⊎ ((end_number s.run.end ≡ 0) × ComesTo o.book v h (stands_in s)))

-- After every list of calls: no call gave 23; each run is as promised, and what it finished with is derived; and two runs
-- alike answer alike, be they of one list, of a list and its beginning, or of two lists. What is derived is reached.
pub record EveryListOfCalls : Type 0 where
  pub no_misfit : (es : List Event) (ss : List Standing) → After es ss → (j i : ℕ) (c : Call) → slice_get es j ≡ Some (on i c) → Gave23 c → ⊥
  pub each_run : (es : List Event) (ss : List Standing) → After es ss → (i : ℕ) (s : Standing) → slice_get ss i ≡ Some s → KeptOf s × IsDerived s
  pub two_runs : (es es' : List Event) (ss ss' : List Standing) → After es ss → After es' ss'
      → (i j : ℕ) (s t : Standing) → slice_get ss i ≡ Some s → slice_get ss' j ≡ Some t → Alike s t → SameAnswers s t
  pub derived_is_reached : (o : Own) → IsReached o
