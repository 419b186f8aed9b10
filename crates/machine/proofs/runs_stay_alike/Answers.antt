use Rattle.machine.proofs.runs_stay_alike.Goals as goal
use Rattle.machine.proofs.Laws.{runs_alike}

pub returns : goal.returns
returns c = λ G r q. runs_alike G r q
