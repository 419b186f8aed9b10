use Rattle.slips.specs.Slip.{value_lines}
use Rattle.slips.proofs.Pieces.{no_more, ◌▸◌}
use Rattle.slips.proofs.print.Slip.put_value.Goals as goal

pub returns : goal.returns
unfolding value_lines
returns g c = (c.put_words.ensures ▸ c.put.ensures ▸ c.put_records.ensures ▸ no_more).are
