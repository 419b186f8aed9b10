use Rattle.cool.proofs.clear_files_stand_for_one_program.Goals as goal
use Rattle.cool.specs.View.{view}
use Rattle.cool.proofs.Forming.{formed}
use Rattle.cool.proofs.Says.{one_program}

pub returns : goal.returns
returns c = λ bs clear. one_program (view bs) (formed bs clear)
