-- The types of methods, and of the top-level expression.
use Rattle.std.specs.Prelude.{◌≡◌, ℕ, suc, cond, Some, Ok, Err, Result}
use Rattle.std.specs.List.{slice_get}
use Rattle.book.specs.declared.node.«Type».{«Type» as BType}
use Rattle.cool.specs.Syntax.{Name}
use Rattle.cool.specs.Book.{Meth, Book}
use Rattle.cool.specs.Nodes.{at_top, in_method}
use Rattle.checker.specs.declared.fault.TypeFault.{TypeFault}
use Rattle.checker.specs.declared.fault.TypeFault.TheVariants.{Returned}
use Rattle.checker.specs.Checking.{same, then_com, type_in, com_in}
use Rattle.checked.specs.Holding.{methods_of}

-- A method of class c: its command is well typed, and its returned expression has its result type.
abbrev pub gives_type : Result BType TypeFault → Meth → Result (Unit {0}) TypeFault
gives_type (Err e) q = Err e
gives_type (Ok t) q = cond (same t q.gives) (Ok tt) (Err (Returned q.result))

abbrev pub method_in : Book → ℕ → Meth → Result (Unit {0}) TypeFault
method_in B c q =
    then_com (com_in (suc q.body) B (in_method c q.takes) q.body) (gives_type (type_in (suc q.result) B (in_method c q.takes) q.result) q)

-- Of the methods of class c: all are well typed; one is not, for the reason e.
abbrev pub MethodsTyped : Book → ℕ → Type 0
MethodsTyped B c = (i : ℕ) (m : Name) (q : Meth) → slice_get (methods_of (B.class c)) i ≡ Some (m, q) → method_in B c q ≡ Ok tt

abbrev pub UntypedMethod : Book → ℕ → TypeFault → Type 0
UntypedMethod B c e = (i : ℕ) × (m : Name) × (q : Meth) × (slice_get (methods_of (B.class c)) i ≡ Some (m, q)) × (method_in B c q ≡ Err e)

-- The top-level expression has the type z.
abbrev pub TopTyped : Book → BType → Type 0
TopTyped B z = type_in (suc B.root) B at_top B.root ≡ Ok z
