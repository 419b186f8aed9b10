-- A run from begin to slip, by the calls one after another.
use Rattle.std.specs.Prelude.{ℕ, List, ℤ, Ok, Err, Result}
use Rattle.book.specs.declared.node.Type.{«Type» as BType}
use Rattle.book.specs.declared.fault.Refusal.{Refusal}
use Rattle.numbers.specs.Rule.{Rule}
use Rattle.pile.specs.declared.base.Pile.{Pile}
use Rattle.pile.specs.Pile.{size}
use Rattle.store.specs.Meaning.{Means, Sound}
use Rattle.cool.specs.Book.{Book}
use Rattle.machine.specs.declared.state.Row.{Row}
use Rattle.slips.specs.declared.refused.SlipRefused.{SlipRefused}
use Rattle.slips.specs.Answer.{refusal as slip_refusal}
use Rattle.engine.specs.declared.base.Run.{Run}
use Rattle.engine.specs.declared.refused.Refused.{Refused}
use Rattle.engine.specs.Runs.{given}
use Rattle.engine.specs.Calls.{Begins, Advances}
use Rattle.engine.specs.Refusals.{refusal}
use Rattle.engine.specs.Telling.{Prints}
use Rattle.answer.specs.declared.stopped.Stopped.{Stopped}
use Rattle.answer.specs.declared.stopped.Stopped.TheVariants.{Call, Slip}

-- The number and the place under which it is told what stopped a run: those of the call's refusal, or of the slip's.
abbrev pub refusal_of : Stopped → Refusal
refusal_of (Call f) = refusal f
refusal_of (Slip f) = slip_refusal f

-- What a slip's answer comes to: its length, or why there is none.
abbrev pub slip_answer : Result ℕ SlipRefused → Result ℕ Stopped
slip_answer (Ok n) = Ok n
slip_answer (Err f) = Err (Slip f)

-- What comes of a run of a book with the type z of its top-level expression, under a number rule, with a day's readings and
-- an allowance: it is begun on the rows p and a store that means m, advanced, settled, and its slip is written over an
-- output, with the pile f for found handles. The answer, what the store then means, and the output.
pub data ComesOut (B : Book) (z : BType) (R : Rule) (day : List ℤ) (b : ℕ) (p : Pile Row) (m : Means) (f : Pile ℕ) (out : List ℕ) : Result ℕ Stopped → Means → List ℕ → Type 0 where
  not_begun : {x : Refused} → Begins B p m (Err x) → ComesOut B z R day b p m f out (Err (Call x)) m out
  not_advanced : {u v : Run} {q : Pile Row} {n : Means} {x : Refused}
      → Begins B p m (Ok u) → Advances (given B R day (size p)) b u p m (Err x) v q n → Sound n
      → ComesOut B z R day b p m f out (Err (Call x)) n out
  slipped : {u v : Run} {q : Pile Row} {n : Means} {g : Pile ℕ} {out' : List ℕ} {r : Result ℕ SlipRefused}
      → Begins B p m (Ok u) → Advances (given B R day (size p)) b u p m (Ok tt) v q n → Sound n → Prints B z R n v f out r g out'
      → ComesOut B z R day b p m f out (slip_answer r) n out'
