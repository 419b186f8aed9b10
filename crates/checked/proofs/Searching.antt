-- Looking a name up in a list.
use Rattle.std.proofs.Common.{◌≡◌, ℕ, suc, ◌+◌, Bool, true, false, cond, eqb, List, [], ◌∷◌, map, Some, None, Option, refl, ap, ◌∙◌, arith}
use Rattle.std.specs.Option.{option_map}
use Rattle.std.specs.List.{find as find_first, position, position_from}
use Rattle.std.proofs.lemmas.Iterator.Adapters.{position_from-zero}
use Rattle.book.specs.declared.entry.Field.{Field}
use Rattle.cool.specs.Syntax.{Name, find}
use Rattle.cool.specs.Book.{place}
use Rattle.checked.specs.Tables.{named_field}

found_by : {R A : Type 0} (g : R → A) (b : Bool) (x : R) (o : Option R) → option_map g (cond b (Some x) o) ≡ cond b (Some (g x)) (option_map g o)
found_by g true x o = refl
found_by g false x o = refl

-- the first entry with a name, and what of it is looked for
pub found : {R A : Type 0} (named : R → Name) (g : R → A) (xs : List R) (n : Name) → option_map g (find_first (λ x. eqb n (named x)) xs) ≡ find (map (λ x. (named x, g x)) xs) n
found named g [] n = refl
found named g (x ∷ xs) n = found_by g (eqb n (named x)) x _ ∙ ap (cond (eqb n (named x)) (Some (g x))) (found named g xs n)

placed_by : (b : Bool) (i : ℕ) (o : Option ℕ) → cond b (Some i) (option_map (λ j. i + 1 + j) o) ≡ option_map (λ j. i + j) (cond b (Some 0) (option_map suc o))
placed_by true i o = let e : i ≡ i + 0 = omega arith in ap Some e
placed_by false i None = refl
placed_by false i (Some j) = let e : i + 1 + j ≡ i + suc j = omega arith in ap Some e

placed_from : (xs : List Field) (n : Name) (i : ℕ) → position_from (λ x. eqb n x.name) i xs ≡ option_map (λ j. i + j) (place (map named_field xs) n)
placed_from [] n i = refl
placed_from (x ∷ xs) n i = ap (cond (eqb n x.name) (Some i)) (placed_from xs n (i + 1)) ∙ placed_by (eqb n x.name) i _

from_start : (o : Option ℕ) → option_map (λ j. 0 + j) o ≡ o
from_start None = refl
from_start (Some j) = let e : 0 + j ≡ j = omega arith in ap Some e

-- its place
pub placed : (xs : List Field) (n : Name) → position (λ x. eqb n x.name) xs ≡ place (map named_field xs) n
placed xs n = position_from-zero (λ x. eqb n x.name) xs ∙ (placed_from xs n 0 ∙ from_start _)
