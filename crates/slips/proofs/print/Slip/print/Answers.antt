use Rattle.slips.specs.Slip.{printed}
use Rattle.slips.proofs.Pieces.{nothing, then_puts}
use Rattle.slips.proofs.print.Slip.print.Goals as goal

pub returns-in-Some : goal.returns-in-Some
unfolding printed
returns-in-Some g c = let e = c.in-Some.is in rw e (then_puts c.put_first.ensures c.put_value.ensures)

pub returns-in_default : goal.returns-in_default
unfolding printed
returns-in_default g c = let e = c.in_default.is in rw e (then_puts c.put_first.ensures nothing)
