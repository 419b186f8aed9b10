-- The tables, by computation.
use Rattle.std.proofs.Common.{◌≡◌, true, false, pos, Some, None, refl}
use Rattle.numbers.specs.Rule.{Rule, within}
use Rattle.store.specs.Meaning.{added}
use Rattle.machine.specs.Machine.{or_ends, or_misfit, unless, two_ints, an_int, a_test, null_or, not_null, the_cell, put_on}
use Rattle.machine.specs.Table.{table, by_rule, ComesOut, Tabled}

unfoldable opened : Type 0
unfolding or_ends or_misfit unless two_ints an_int a_test null_or not_null the_cell put_on added
opened = Unit {0}

by_computing : (R : Rule) → ComesOut R (table 31 32 34 35)
unfolding opened
by_computing R = (refl, (refl, (refl, (refl, (refl, (refl, (refl, (refl, (refl, (refl, (refl, (refl, (refl, (refl, (refl, (refl, (refl, (refl, (refl, (refl, (refl, (refl, (refl, (refl, (refl, (refl, (refl, (refl, (refl, (refl, (refl, (refl, (refl, (refl, (refl, (refl, (refl, (refl, (refl, (refl, (refl, (refl, (refl, (refl, (refl, (refl, (refl, (refl, (refl, (refl, (refl, (refl, (refl, (refl, (refl, (refl, (refl, (refl, (refl, (refl, (refl, (refl, (refl, (refl, (refl, (refl, (refl, (refl, (refl, (refl, (refl, (refl, (refl, (refl, (refl, (refl, (refl, (refl, (refl, (refl, (refl, (refl, (refl, (refl, (refl, (refl, (refl, (refl, (refl, (refl, (refl, (refl, (refl, (refl, (refl, (refl, (refl, (refl, (refl, (refl, (refl, (refl, (refl, tt)))))))))))))))))))))))))))))))))))))))))))))))))))))))))))))))))))))))))))))))))))))))))))))))))))))))

by_facts : (R : Rule) → within R (pos 1) ≡ true → within R (pos 9) ≡ false → R.difference (pos 5) (pos 2) ≡ Some (pos 3) → R.difference (pos 5) (pos 1) ≡ None → ComesOut R (by_rule 33)
unfolding opened
by_facts R a b c d = (rw a, (rw b, (rw c, (rw d, (rw a, (rw b, tt))))))

pub tabled : Tabled 31 32 33 34 35
tabled = (by_computing, by_facts)
