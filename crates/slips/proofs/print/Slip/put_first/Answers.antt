use Rattle.slips.specs.Slip.{first_line}
use Rattle.slips.proofs.Pieces.{no_more, ◌▸◌}
use Rattle.slips.proofs.print.Slip.put_first.Goals as goal

pub returns : goal.returns
unfolding first_line
returns g c =
    let number = rw c.number.ensures at c.put_decimal.ensures in
    let node = rw c.node.ensures at c.put_node.ensures in
    (c.put.ensures ▸ number ▸ c.put-2.ensures ▸ node ▸ c.put-3.ensures ▸ c.put_decimal-2.ensures ▸ c.put-4.ensures ▸ no_more).are
