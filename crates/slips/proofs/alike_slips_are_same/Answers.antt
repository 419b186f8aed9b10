use Rattle.slips.proofs.Alike.{same_slip}
use Rattle.slips.proofs.alike_slips_are_same.Goals as goal

pub returns : goal.returns
returns c = λ β S T x y E hs h B R t e n. same_slip B R t β S T e n x y E hs h
