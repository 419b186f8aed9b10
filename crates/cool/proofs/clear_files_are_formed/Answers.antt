use Rattle.cool.proofs.clear_files_are_formed.Goals as goal
use Rattle.cool.proofs.Forming.{formed}

pub returns : goal.returns
returns c = formed
