use Rattle.std.proofs.Common.{◌∙◌, subst}
use Rattle.slips.specs.Slip.{cell_text}
use Rattle.slips.specs.Writing.{Puts}
use Rattle.slips.proofs.Pieces.{no_more, ◌▸◌}
use Rattle.slips.proofs.print.Slip.put_field.Goals as goal

pub returns : goal.returns
unfolding cell_text
returns g c =
    let name = subst (λ t. Puts c.put.new.self c.put-2.new.self t) (c.as_bytes.ensures.value ∙ c.name.ensures) c.put-2.ensures in
    (c.put.ensures ▸ name ▸ c.put-3.ensures ▸ c.put_cell.ensures ▸ no_more).are
