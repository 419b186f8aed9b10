use Rattle.std.proofs.Common.{◌≡◌, ℕ, ◌<◌, Some, Ok}
use Rattle.std.specs.List.{slice_get}
use Rattle.checked.specs.declared.table.Method.{Method}
use Rattle.checked.specs.Checked.{decoded_book, meth}
use Rattle.checked.specs.Methods.{method_in}
use Rattle.checked.proofs.methods.check_methods.Given as goal

abbrev pub invariant-loop-method : goal.invariant-loop-method
invariant-loop-method l = (k : ℕ) (m : Method) → k < l.method-index → slice_get l.methods k ≡ Some m → method_in (decoded_book l.book) l.c (meth m) ≡ Ok tt
