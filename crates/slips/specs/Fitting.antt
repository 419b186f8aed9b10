-- Fitting as a test.
use Rattle.std.specs.Prelude.{◌≡◌, ℕ, Bool, true, false, ◌&&◌, List, [], ◌∷◌, ◌++◌, Some, None, Option}
use Rattle.book.specs.declared.node.Type.{«Type» as BType}
use Rattle.book.specs.declared.node.Type.TheVariants as T
use Rattle.numbers.specs.Rule.{Rule, within}
use Rattle.store.specs.declared.Value.{Value}
use Rattle.store.specs.declared.Value.TheVariants.{Int, Boolean, Null, Handle}
use Rattle.store.specs.Meaning.{Rec, Store, class_at}
use Rattle.cool.specs.Syntax.{Name}
use Rattle.cool.specs.Book.{Part, Book}
use Rattle.slips.specs.Slip.{has, holds, found_from}
use Rattle.slips.specs.Reached.{ReachedFit}

-- The value fits the type.
abbrev pub fits : Rule → Store → Value → BType → Bool
fits R S (Int n) T.Int = within R n
fits R S (Int n) T.Boolean = false
fits R S (Int n) (T.Class c) = false
fits R S (Boolean b) T.Int = false
fits R S (Boolean b) T.Boolean = true
fits R S (Boolean b) (T.Class c) = false
fits R S Null T.Int = false
fits R S Null T.Boolean = false
fits R S Null (T.Class c) = true
fits R S (Handle h) T.Int = false
fits R S (Handle h) T.Boolean = false
fits R S (Handle h) (T.Class c) = holds (class_at S h) c

-- There is a value for each field, and it fits the field's type.
unfoldable pub cells_fit : Rule → Store → List (Name × BType) → List Value → Bool
cells_fit R S [] [] = true
cells_fit R S [] (v ∷ vs) = false
cells_fit R S (f ∷ fs) [] = false
cells_fit R S (f ∷ fs) (v ∷ vs) = fits R S v f.1 && cells_fit R S fs vs

abbrev pub fits_class : Rule → Store → Option Part → List Value → Bool
fits_class R S None vs = false
fits_class R S (Some p) vs = cells_fit R S p.fields vs

abbrev pub fits_book : Book → Rule → Store → Option Rec → Bool
fits_book B R S None = false
fits_book B R S (Some o) = fits_class R S (B.class o.class) o.values

-- The record is there and fits.
unfoldable pub record_fits : Book → Rule → Store → ℕ → Bool
record_fits B R S h = fits_book B R S (S.look h)

-- What exploring answers: the value, if all that is reached from it fits, and then these are the handles found.
abbrev pub Explores : Book → Rule → Store → BType → Value → List ℕ → Option Value → Type 0
Explores B R S t v all (Some w) = (w ≡ v) × ReachedFit B R S t v × (all ≡ found_from S v)
Explores B R S t v all None = ReachedFit B R S t v → ⊥

-- Handles of records that are there, each once: those found so far.
pub data Found (S : Store) : List ℕ → Type 0 where
  no_record : Found S []
  a_record : {ks : List ℕ} {h : ℕ} {o : Rec} → Found S ks → has ks h ≡ false → S.look h ≡ Some o → Found S (ks ++ h ∷ [])
