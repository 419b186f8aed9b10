use Rattle.machine.proofs.steps_are_as_tabled.Goals as goal
use Rattle.machine.proofs.Table.{tabled}

pub returns : goal.returns
returns c = tabled
