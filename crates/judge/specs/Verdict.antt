-- The last line of an answer: what checking says of a book.
use Rattle.std.specs.Prelude.{◌≡◌, ℕ, ◌++◌, List, [], ◌∷◌, Some, None, codes, Option}
use Rattle.std.specs.List.{concat}
use Rattle.book.specs.declared.node.«Type».{«Type» as BookType}
use Rattle.cool.specs.Book.{Part, Book}
use Rattle.cool.specs.View.{view}
use Rattle.checker.specs.declared.fault.TypeFault.{TypeFault}
use Rattle.checker.specs.Causes.{number, place}
use Rattle.checked.specs.Holding.{Holds}
use Rattle.checked.specs.Accepting.{HasType, HasNoType}
use Rattle.listing.specs.Answer.{refused_line}
use Rattle.listing.specs.Listing.{type_text}

-- The name of a class.
abbrev pub class_called : Book → Option Part → List ℕ
class_called B None = []
class_called B (Some p) = B.text p.called

-- A type of a book: int, boolean, or the name of the class.
abbrev pub type_name : Book → BookType → List ℕ
type_name B z = type_text (λ c. class_called B (B.class c)) z

-- The line of a type.
abbrev pub type_line : Book → BookType → List ℕ
type_line B z = concat (codes "type " ∷ type_name B z ∷ codes "\n" ∷ [])

-- The line for the book that the bytes bs are: its type where the rules derive one; else a refusal that holds. Which of
-- those that hold is left open.
pub data Verdict (bs : List ℕ) : List ℕ → Type 0 where
  has_type : (z : BookType) → HasType (view bs) z → Verdict bs (type_line (view bs) z)
  refused : (e : TypeFault) → Holds (view bs) e → HasNoType (view bs) → Verdict bs (refused_line (number e) (place e))

-- Such a line, added at the end.
pub record Judged (bs old new : List ℕ) : Type 0 where
  pub line : List ℕ
  pub verdict : Verdict bs line
  pub added : new ≡ old ++ line
