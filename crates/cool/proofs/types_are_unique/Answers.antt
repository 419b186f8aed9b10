use Rattle.cool.proofs.types_are_unique.Goals as goal
use Rattle.cool.proofs.Unique.{at_most_one}

pub returns : goal.returns
returns c = at_most_one
