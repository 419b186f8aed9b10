-- Names that stand twice in a list.
use Rattle.std.specs.Prelude.{◌≡◌, ℕ, ◌<◌, List, Some}
use Rattle.std.specs.List.{slice_get}
use Rattle.cool.specs.Syntax.{Name}
use Rattle.cool.specs.Book.{Part, Book}
use Rattle.cool.specs.Accepts.{Distinct}

-- No name stands at two places.
abbrev pub AllDistinct : List Name → Type 0
AllDistinct xs = (i j : ℕ) (n : Name) → slice_get xs i ≡ Some n → slice_get xs j ≡ Some n → i ≡ j

-- The name at place j stands at an earlier place too.
abbrev pub StandsEarlier : List Name → ℕ → Type 0
StandsEarlier xs j = (i : ℕ) × (n : Name) × (i < j) × (slice_get xs i ≡ Some n) × (slice_get xs j ≡ Some n)

-- No two fields and no two methods of class c have one name.
abbrev pub MembersDistinct : Book → ℕ → Type 0
MembersDistinct B c = (p : Part) → B.class c ≡ Some p → Distinct p.fields × Distinct p.methods
