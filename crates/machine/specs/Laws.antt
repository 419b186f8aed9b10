-- The laws of the machine, over every number rule, all readings, and any choice of fresh handles.
use Rattle.std.specs.Prelude.{◌≡◌, ℕ, ◌<◌, ◌⊎◌, [], Some, None, ◌≢◌}
use Rattle.book.specs.declared.node.Type.{«Type» as BType}
use Rattle.store.specs.declared.Value.{Value}
use Rattle.store.specs.Meaning.{Store}
use Rattle.cool.specs.Syntax.{Ty, Expr, CE, ∅}
use Rattle.cool.specs.Dynamic.{Heap, ◌∣◌∣◌⊢◌⇓◌∣◌}
use Rattle.cool.specs.Book.{Book, type_of}
use Rattle.machine.specs.declared.state.Around.{Around}
use Rattle.machine.specs.declared.state.Hand.TheVariants.{Have}
use Rattle.machine.specs.Fields.{heap_of}
use Rattle.machine.specs.Machine.{State, state, around, Given, step, finished, misfit, Line, Reached, start}
use Rattle.machine.specs.Fit.{Fitting}
use Rattle.machine.specs.Likeness.{◌≅◌}
use Rattle.machine.specs.Runs.{Worked, Finished, Ended, Unfinished, OneOf}

-- Runs start in a state that fits. From a state that fits a step is never a misfit, and what follows fits.
abbrev pub StaysFitting : Given → Type 0
StaysFitting G =
    ((r q : ℕ) → Fitting G.book G.rule (start G r q))
    × ((s : State) → Fitting G.book G.rule s → (step G s ≢ misfit) × ((t : State) → Line G s t → Fitting G.book G.rule t))

-- The rules derive the value v and the heap h for the expression e at the top.
abbrev pub Derived : Given → CE → Expr → Value → Heap → Type 0
Derived G ce e v h = ◌∣◌∣◌⊢◌⇓◌∣◌ ce G.rule G.day ∅ None None e v h

-- A run that has finished has a value in hand and no rows, and the rules derive that value and the heap of its store:
-- the run's own handles are the locations.
abbrev pub FinishedIsDerived : Given → CE → Expr → Type 0
FinishedIsDerived G ce e = (r q n : ℕ) (s : State) → Reached G r q n s → step G s ≡ finished
    → (v : Value) × (ε : Around) × (S : Store) × (s ≡ state (Have v) ε [] S) × Derived G ce e v (heap_of G.book S)

-- The value v in hand and the heap h in the store, with no rows, up to the naming of handles.
abbrev pub ComesTo : Book → Value → Heap → State → Type 0
ComesTo B v h s = (S : Store) × (h ≡ heap_of B S) × (state (Have v) (around None None) [] S ≅ s)

-- If the rules derive v and h, then there is a number of steps such that every run worked with at least that allowance has
-- finished with them, unless it has ended with 34 or 35; and with a smaller allowance it has no other end.
abbrev pub DerivedIsReached : Given → CE → Expr → Type 0
DerivedIsReached G ce e = (r q : ℕ) (v : Value) (h : Heap) → Derived G ce e v h
    → (far : ℕ) × ((b n d k : ℕ) (s : State) → Worked G r q b s n d k → ((b < far) × (d ≡ 1)) ⊎ (((d ≡ 34) ⊎ (d ≡ 35)) ⊎ ((d ≡ 0) × ComesTo G.book v h s)))

-- Two runs over stores with the limits r and q, and r' and q', worked with the same allowance, have the same steps, end and
-- node, and states alike; and states reached by as many lines are alike.
abbrev pub RunsAlike : Given → ℕ → ℕ → ℕ → ℕ → Type 0
RunsAlike G r q r' q' =
    ((n : ℕ) (s t : State) → Reached G r q n s → Reached G r' q' n t → s ≅ t)
    × ((b n m d e j k : ℕ) (s t : State) → Worked G r q b s n d j → Worked G r' q' b t m e k → (n ≡ m) × (d ≡ e) × (j ≡ k) × (s ≅ t))

-- Every allowance can be worked: there is a run that was. And of every run that was, exactly one holds: it is finished with a
-- value of the type z that stands for u; it has ended, its cause holding; it has not ended, and there is a further step.
abbrev pub OneOfThree : Given → ℕ → ℕ → Ty → Type 0
OneOfThree G r q u =
    ((b : ℕ) → (s : State) × (n : ℕ) × (e : ℕ) × (k : ℕ) × Worked G r q b s n e k)
    × ((z : BType) × (type_of G.book z ≡ Some u) × ((b n e k : ℕ) (s : State) → Worked G r q b s n e k → OneOf (Finished G z s e) (Ended G s e k) (Unfinished G s e)))
