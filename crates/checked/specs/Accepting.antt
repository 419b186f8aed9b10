-- When a book has a type.
use Rattle.std.specs.Prelude.{◌≡◌, Some}
use Rattle.book.specs.declared.node.«Type».{«Type» as BType}
use Rattle.cool.specs.Syntax.{Ty, Expr, CE}
use Rattle.cool.specs.Book.{Book, type_of}
use Rattle.cool.specs.Says.{Accepted}

-- The rules derive a class environment and a type for the program that the book stands for; the book's type z stands for it.
abbrev pub HasType : Book → BType → Type 0
HasType B z = (u : Ty) × (type_of B z ≡ Some u) × ((ce : CE) × (e : Expr) × Accepted B ce e u)

abbrev pub HasNoType : Book → Type 0
HasNoType B = (ce : CE) (e : Expr) (u : Ty) → Accepted B ce e u → ⊥
