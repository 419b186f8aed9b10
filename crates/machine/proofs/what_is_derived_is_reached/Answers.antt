use Rattle.machine.proofs.what_is_derived_is_reached.Goals as goal
use Rattle.machine.proofs.Laws.{derived_is_reached}

pub returns : goal.returns
returns c = λ G ce e u A. derived_is_reached G A
