-- A book is accepted exactly when no two entries share a name and its nodes are well typed.
use Rattle.std.specs.Prelude.{◌≡◌, ℕ, ◌↔◌, List, Some}
use Rattle.std.specs.List.{slice_get}
use Rattle.book.specs.declared.node.Type.{«Type» as BType}
use Rattle.cool.specs.Syntax.{Name, Ty, Expr, CE}
use Rattle.cool.specs.Book.{Part, Book, type_of, ClassesDistinct}
use Rattle.cool.specs.Nodes.{Well}
use Rattle.cool.specs.Says.{Accepted}

-- No two entries of a list have one name.
abbrev pub Distinct : {A : Type 0} → List (Name × A) → Type 0
Distinct {A} xs = (i j : ℕ) (m : Name) (a b : A) → slice_get xs i ≡ Some (m, a) → slice_get xs j ≡ Some (m, b) → i ≡ j

-- No two classes, and no two fields or two methods of a class, have one name.
pub record NamesDistinct (B : Book) : Type 0 where
  pub classes : ClassesDistinct B
  pub fields : (c : ℕ) (p : Part) → B.class c ≡ Some p → Distinct p.fields
  pub methods : (c : ℕ) (p : Part) → B.class c ≡ Some p → Distinct p.methods

-- The program that the book stands for has the type u exactly when names are distinct, every strip is well typed, and the
-- top root has the type that stands for u.
abbrev pub AcceptsExactly : Book → Type 0
AcceptsExactly B = (u : Ty) → ((z : BType) × (type_of B z ≡ Some u) × NamesDistinct B × Well B z) ↔ ((ce : CE) × (e : Expr) × Accepted B ce e u)
