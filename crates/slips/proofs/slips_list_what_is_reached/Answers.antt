use Rattle.slips.proofs.Finding.{listed}
use Rattle.slips.proofs.slips_list_what_is_reached.Goals as goal

pub returns : goal.returns
returns c = λ m v s. listed m s v
