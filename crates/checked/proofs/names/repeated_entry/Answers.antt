use Rattle.std.proofs.Common.{map, subst, arith}
use Rattle.checked.specs.Naming.{AllDistinct, StandsEarlier}
use Rattle.checked.proofs.Repeating.{class_repeats, names_distinct}
use Rattle.checked.proofs.names.repeated_entry.Goals as goal

pub returns-in-Some : goal.returns-in-Some
returns-in-Some c = class_repeats c.args.book.now c.in-Some.c (subst (λ xs. StandsEarlier (map (λ k. k.name) xs) c.in-Some.c) c.deref.ensures.0 c.in-Some.ensures)

pub returns : goal.returns
returns c =
    names_distinct c.args.book.now (subst (λ xs. AllDistinct (map (λ k. k.name) xs)) c.deref.ensures.0 c.in_default.ensures) (λ k low. c.loop-c.invariant k (omega arith))
