-- The laws of the slip.
use Rattle.std.specs.Prelude.{◌≡◌, ℕ, Some}
use Rattle.book.specs.declared.node.Type.{«Type» as BType}
use Rattle.numbers.specs.Rule.{Rule}
use Rattle.store.specs.declared.Value.{Value}
use Rattle.store.specs.Meaning.{Rec, Store}
use Rattle.cool.specs.Book.{Book}
use Rattle.machine.specs.declared.state.Hand.{Hand}
use Rattle.machine.specs.declared.state.End.{End}
use Rattle.machine.specs.Fit.{Fits}
use Rattle.slips.specs.Slip.{found_from, slip}
use Rattle.slips.specs.Reached.{Reaches, ReachedFit, Listed}
use Rattle.slips.specs.Answer.{Shows}

-- From a value whose reached records are there, the slip's list has exactly the reached records, in order of finding.
abbrev pub ListsReached : Store → Value → Type 0
ListsReached S v = ((h : ℕ) → Reaches S v h → (o : Rec) × (S.look h ≡ Some o)) → Listed S v (found_from S v)

-- In a store whose records fit, a value that fits has only reached records that fit.
abbrev pub FittingReached : Book → Rule → Store → Type 0
FittingReached B R S = (t : BType) (v : Value) → Fits R S v t → ReachedFit B R S t v

-- By every book, number rule and type, and at every end: the same slip, and what is shown fits alike.
pub record SameSlip (B : Book) (R : Rule) (t : BType) (S T : Store) (e : End) (n : ℕ) (x y : Hand) : Type 0 where
  pub bytes : slip B S e n x ≡ slip B T e n y
  pub there : Shows B R S t e x → Shows B R T t e y
  pub back : Shows B R T t e y → Shows B R S t e x

abbrev pub AlikeSlips : Store → Store → Hand → Hand → Type 0
AlikeSlips S T x y = (B : Book) (R : Rule) (t : BType) (e : End) (n : ℕ) → SameSlip B R t S T e n x y
