use Rattle.machine.proofs.what_finishes_is_derived.Goals as goal
use Rattle.machine.proofs.Laws.{finished_is_derived}

pub returns : goal.returns
returns c = λ G ce e u A. finished_is_derived G A
