use Rattle.machine.proofs.runs_stand_in_one_of_three_ways.Goals as goal
use Rattle.machine.proofs.Laws.{one_of_three}

pub returns : goal.returns
returns c = λ G r q ce e u A few. one_of_three G r q A few
