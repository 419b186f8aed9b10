-- Lists of calls: runs of accepted books are begun, advanced, questioned, settled and their slips asked for, in any order.
-- What a call answers and leaves is said by the relations that the calls themselves ensure.
use Rattle.std.specs.Prelude.{◌≡◌, ℕ, ◌+◌, Bool, true, false, List, [], ◌∷◌, ◌++◌, ℤ, Some, Ok, Err, Result, ◌≢◌, slice_set}
use Rattle.std.specs.List.{slice_get}
use Rattle.book.specs.declared.node.Type.{«Type» as BType}
use Rattle.numbers.specs.Rule.{Rule}
use Rattle.pile.specs.declared.base.Pile.{Pile}
use Rattle.pile.specs.Pile.{size}
use Rattle.store.specs.Meaning.{Means, Sound}
use Rattle.cool.specs.Book.{Book}
use Rattle.checked.specs.Accepting.{HasType}
use Rattle.machine.specs.declared.state.Row.{Row}
use Rattle.machine.specs.Machine.{Given}
use Rattle.slips.specs.declared.refused.SlipRefused.{SlipRefused}
use Rattle.engine.specs.declared.base.Run.{Run}
use Rattle.engine.specs.declared.base.SettledRun.{SettledRun}
use Rattle.engine.specs.declared.question.Told.{Told}
use Rattle.engine.specs.declared.refused.Refused.{Refused}
use Rattle.engine.specs.Runs.{given}
use Rattle.engine.specs.Calls.{Answer, Begins, Advances, Settles}
use Rattle.engine.specs.Telling.{Questions, Prints}

-- What a run is begun with and keeps: its book with the type of the top-level expression, its number rule, the day's
-- readings, the number of its row places, and the limits of its store.
pub record Own : Type 0 where
  pub book : Book
  pub top : BType
  pub rule : Rule
  pub day : List ℤ
  pub places : ℕ
  pub most_records : ℕ
  pub most_cells : ℕ

-- What the step rules are given with it, for so many row places; and for its own.
abbrev pub given_with : Own → ℕ → Given
given_with o n = given o.book o.rule o.day n

abbrev pub own_given : Own → Given
own_given o = given_with o o.places

-- A run as its last call left it, with its rows and what its store means; whether it is settled; and the sum of the
-- allowances that were accepted.
pub record Standing : Type 0 where
  pub own : Own
  pub run : Run
  pub rows : Pile Row
  pub store : Means
  pub settled : Bool
  pub allowed : ℕ

abbrev pub standing : Own → Run → Pile Row → Means → Bool → ℕ → Standing
standing o u p m s a = record { own = o; run = u; rows = p; store = m; settled = s; allowed = a }

-- A call on a run, with what it was given beside the run's own things, and what it answered. A slip is written over an
-- output: the bytes before and after.
pub data Call : Type 0 where
  advance : ℕ → Answer → Call
  question : Told → Call
  settle : Call
  slip : List ℕ → Result ℕ SlipRefused → List ℕ → Call

-- How much of an allowance an answer accepts.
abbrev pub accepted : Answer → ℕ → ℕ
accepted (Ok x) b = b
accepted (Err f) b = 0

-- A call on a run that stands so, given its own things, and how it then stands. A store is one that keeps its meaning.
pub data Does : Standing → Call → Standing → Type 0 where
  advances : {o : Own} {u v : Run} {p q : Pile Row} {m n : Means} {b c : ℕ} {a : Answer}
      → Advances (given_with o (size p)) b u p m a v q n → Sound n
      → Does (standing o u p m false c) (advance b a) (standing o v q n false (c + accepted a b))
  -- given other rows, which have another number of places than at begin
  advances_elsewhere : {o : Own} {u v : Run} {p q r : Pile Row} {m n : Means} {b c : ℕ} {a : Answer}
      → (size q ≢ u.places) → Advances (given_with o (size q)) b u q m a v r n → Sound n
      → Does (standing o u p m false c) (advance b a) (standing o v p n false (c + accepted a b))
  questions : {o : Own} {u : Run} {p : Pile Row} {m : Means} {s : Bool} {c : ℕ} {t : Told}
      → Questions u t
      → Does (standing o u p m s c) (question t) (standing o u p m s c)
  settles : {o : Own} {u : Run} {w : SettledRun} {p : Pile Row} {m : Means} {c : ℕ}
      → Settles u w
      → Does (standing o u p m false c) settle (standing o w.0 p m true c)
  slips : {o : Own} {u : Run} {p : Pile Row} {m : Means} {c : ℕ} {f g : Pile ℕ} {out out' : List ℕ} {r : Result ℕ SlipRefused}
      → Prints o.book o.top o.rule m u f out r g out'
      → Does (standing o u p m true c) (slip out r out') (standing o u p m true c)

-- What happens: a run is begun, a begin is refused, or a call is made on the run with a number, counted from 0 in the order
-- of beginning.
pub data Event : Type 0 where
  begun : Event
  not_begun : Refused → Event
  on : ℕ → Call → Event

-- After a list of events, the newest first, these runs stand so, in the order of beginning. Only an accepted book is begun: its program has a type.
pub data After : List Event → List Standing → Type 0 where
  nothing_yet : After [] []
  begins : {es : List Event} {ss : List Standing} {u : Run} {p : Pile Row} {m : Means} (o : Own)
      → After es ss → HasType o.book o.top → Begins o.book p m (Ok u) → Sound m
      → o.places ≡ size p → o.most_records ≡ m.most_records → o.most_cells ≡ m.most_cells
      → After (begun ∷ es) (ss ++ standing o u p m false 0 ∷ [])
  begin_refused : {es : List Event} {ss : List Standing} {B : Book} {p : Pile Row} {m : Means} {f : Refused}
      → After es ss → Begins B p m (Err f)
      → After (not_begun f ∷ es) ss
  calls : {es : List Event} {ss : List Standing} {s t : Standing} {c : Call} (i : ℕ)
      → After es ss → slice_get ss i ≡ Some s → Does s c t
      → After (on i c ∷ es) (slice_set ss i t)
