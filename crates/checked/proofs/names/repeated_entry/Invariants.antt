use Rattle.std.proofs.Common.{ℕ, ◌<◌}
use Rattle.checked.specs.Checked.{decoded_book}
use Rattle.checked.specs.Naming.{MembersDistinct}
use Rattle.checked.proofs.names.repeated_entry.Given as goal

abbrev pub invariant-loop-c : goal.invariant-loop-c
invariant-loop-c l = (k : ℕ) → k < l.c → MembersDistinct (decoded_book l.book) k
