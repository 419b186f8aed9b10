use Rattle.cool.proofs.well_typed_nodes_are_accepted.Goals as goal
use Rattle.cool.proofs.Accepts.{accepts_exactly}

pub returns : goal.returns
returns c = accepts_exactly
