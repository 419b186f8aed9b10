use Rattle.tests_store.proofs.Tried.{tried}
use Rattle.tests_store.proofs.trial.Goals as goal

pub returns : goal.returns
returns g c = tried _ _ 0 _ _ _ (rw c.in_ok-objects.was at c.requires).1 c.try_two.ensures
