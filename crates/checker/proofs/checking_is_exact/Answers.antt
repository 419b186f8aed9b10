use Rattle.checker.proofs.Exactly.{exact}
use Rattle.checker.proofs.checking_is_exact.Goals as goal

pub returns : goal.returns
returns c = exact
