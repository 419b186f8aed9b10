use Rattle.promises.proofs.Holding.{every_list_of_calls}
use Rattle.promises.proofs.promises_hold.Goals as goal

pub returns : goal.returns
returns c = every_list_of_calls
