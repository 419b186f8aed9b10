use Rattle.std.proofs.Common.{ℕ, ◌<◌}
use Rattle.checked.specs.Checked.{decoded_book}
use Rattle.checked.specs.Methods.{MethodsTyped}
use Rattle.checked.proofs.methods.check_classes.Given as goal

abbrev pub invariant-loop-c : goal.invariant-loop-c
invariant-loop-c l = (k : ℕ) → k < l.c → MethodsTyped (decoded_book l.book) k
