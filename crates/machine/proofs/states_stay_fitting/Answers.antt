use Rattle.machine.proofs.states_stay_fitting.Goals as goal
use Rattle.machine.proofs.Laws.{stays_fitting}

pub returns : goal.returns
returns c = λ G ce e u A. stays_fitting G A
