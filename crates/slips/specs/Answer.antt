-- What a call for the slip answers, and what the output then holds.
use Rattle.std.specs.Prelude.{◌≡◌, ℕ, ◌<◌, ◌≤◌, List, ◌++◌, length, drop, Ok, Err, Option, Result}
use Rattle.book.specs.declared.fault.Refusal.{Refusal}
use Rattle.book.specs.declared.node.Type.{«Type» as BType}
use Rattle.numbers.specs.Rule.{Rule}
use Rattle.store.specs.declared.Value.{Value}
use Rattle.store.specs.Meaning.{Store}
use Rattle.cool.specs.Book.{Book}
use Rattle.checked.specs.declared.base.CheckedBook.{CheckedBook}
use Rattle.checked.specs.Checked.{book_of, top_type}
use Rattle.machine.specs.declared.state.Hand.{Hand}
use Rattle.machine.specs.declared.state.Hand.TheVariants.{Go, Have, Done}
use Rattle.machine.specs.declared.state.End.{End}
use Rattle.machine.specs.declared.state.End.TheVariants.{Unfinished, Finished, NullTarget, NoReading, BeyondEnds, NoRoom, NoPlace}
use Rattle.slips.specs.declared.Outcome.{Outcome}
use Rattle.slips.specs.declared.refused.SlipRefused.{SlipRefused}
use Rattle.slips.specs.declared.refused.SlipRefused.TheVariants.{FewPlaces, Misfit, ShortOutput}
use Rattle.slips.specs.Slip.{shown, found_with, slip}
use Rattle.slips.specs.Reached.{ReachedFit}

-- The number of a refusal.
abbrev pub number : SlipRefused → ℕ
number FewPlaces = 25
number Misfit = 23
number ShortOutput = 26

-- The caller's refusals are at place 0.
abbrev pub refusal : SlipRefused → Refusal
refusal f = record { number = number f; place = 0 }

-- What a run shows fits: a finished one has a value that fits the type t, and every record reached from it fits. A run
-- that is not finished shows neither value nor record.
abbrev pub Shows : Book → Rule → Store → BType → End → Hand → Type 0
Shows B R S t Finished (Have v) = ReachedFit B R S t v
Shows B R S t Finished (Go k) = ⊥
Shows B R S t Finished Done = ⊥
Shows B R S t Unfinished x = Unit {0}
Shows B R S t (NullTarget k) x = Unit {0}
Shows B R S t (NoReading k) x = Unit {0}
Shows B R S t (BeyondEnds k) x = Unit {0}
Shows B R S t (NoRoom k) x = Unit {0}
Shows B R S t (NoPlace k) x = Unit {0}

-- What finding the value that is shown answers, with the handles then found.
abbrev pub Finds : Book → Rule → Store → BType → End → Hand → List ℕ → Result (Option Value) SlipRefused → Type 0
Finds B R S t e x all (Ok v) = (v ≡ shown e x) × Shows B R S t e x × (all ≡ found_with S (shown e x))
Finds B R S t e x all (Err FewPlaces) = ⊥
Finds B R S t e x all (Err Misfit) = Shows B R S t e x → ⊥
Finds B R S t e x all (Err ShortOutput) = ⊥

-- A text is written from the first byte on and its length answered, or there is no room for it and no byte is written.
abbrev pub Writes : List ℕ → List ℕ → List ℕ → Result ℕ SlipRefused → Type 0
Writes text out out' (Ok n) = (n ≡ length text) × (n ≤ length out) × (out' ≡ text ++ drop n out)
Writes text out out' (Err FewPlaces) = ⊥
Writes text out out' (Err Misfit) = ⊥
Writes text out out' (Err ShortOutput) = (length out < length text) × (out' ≡ out)

-- What is asked: the slip of a run with this end, steps and hand, by a book whose top type is `top`, a number rule and a
-- store.
pub record Asked : Type 0 where
  pub book : Book
  pub top : BType
  pub rule : Rule
  pub store : Store
  pub end : End
  pub steps : ℕ
  pub hand : Hand

-- What is asked of a run that came out so, by a checked book, a number rule and a store.
abbrev pub asked_of : Outcome → CheckedBook → Rule → Store → Asked
asked_of u b R S = record { book = book_of b; top = top_type b; rule = R; store = S; end = u.end; steps = u.steps; hand = u.hand }

abbrev pub asked_slip : Asked → List ℕ
asked_slip q = slip q.book q.store q.end q.steps q.hand

abbrev pub AskedShows : Asked → Type 0
AskedShows q = Shows q.book q.rule q.store q.top q.end q.hand

-- The answer to a call with so many found places, and what the output holds before and after. 25: fewer found places than
-- the store has records. Else 23: what is shown does not fit. Else 26: the output is shorter than the slip. A refused call
-- writes no byte; else the slip is written from the first byte on, its length answered, and no byte past it written.
abbrev pub Slips : Asked → ℕ → List ℕ → List ℕ → Result ℕ SlipRefused → Type 0
Slips q places out out' (Err FewPlaces) = (places < q.store.count) × (out' ≡ out)
Slips q places out out' (Err Misfit) = (q.store.count ≤ places) × (AskedShows q → ⊥) × (out' ≡ out)
Slips q places out out' (Err ShortOutput) = (q.store.count ≤ places) × AskedShows q × (length out < length (asked_slip q)) × (out' ≡ out)
Slips q places out out' (Ok n) =
    (q.store.count ≤ places) × AskedShows q × (n ≡ length (asked_slip q)) × (n ≤ length out) × (out' ≡ asked_slip q ++ drop n out)
