use Rattle.std.proofs.Common.{refl, arith}
use lib.ListN.{get_or-replicate}
use Rattle.book.proofs.nodes.check_strips.Goals as goal

pub loop-m-init : goal.loop-m-init
loop-m-init c = record { first = refl; marked = λ k low. get_or-replicate 4000 k 0 0 low; right = λ k low. absurd (omega arith) }
