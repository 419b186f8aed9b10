use Rattle.std.proofs.Common.{◌≡◌, ℕ, ◌<◌, false, Some}
use Rattle.book.specs.Names.{after_names}
use Rattle.book.specs.Faults.{wrong_name_in}
use Rattle.book.proofs.names.check_names_in.Given as goal

abbrev pub invariant-loop-n : goal.invariant-loop-n
invariant-loop-n l = (after_names l.n l.bytes ≡ Some l.names.rest.now) × ((k : ℕ) → k < l.n → wrong_name_in l.count l.bytes k ≡ false)
