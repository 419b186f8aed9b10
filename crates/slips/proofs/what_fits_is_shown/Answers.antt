use Rattle.slips.proofs.Deciding.{fitting_reached}
use Rattle.slips.proofs.what_fits_is_shown.Goals as goal

pub returns : goal.returns
returns c = λ B R S rs t v f. fitting_reached B R S rs t v f
