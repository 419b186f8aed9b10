use Rattle.machine.proofs.specimens_are_worked.Goals as goal
use Rattle.machine.proofs.Specimens.{specimens}

pub returns : goal.returns
returns c = specimens
