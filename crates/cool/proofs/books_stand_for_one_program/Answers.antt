use Rattle.cool.proofs.books_stand_for_one_program.Goals as goal
use Rattle.cool.proofs.Says.{one_program}

pub returns : goal.returns
returns c = one_program
