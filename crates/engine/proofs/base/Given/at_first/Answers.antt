use Rattle.store.specs.Meaning.{store}
use Rattle.engine.specs.Runs.{given_by}
use Rattle.engine.proofs.base.Given.at_first.Goals as goal

pub returns-in-IsNull : goal.returns-in-IsNull
returns-in-IsNull g c = λ n ε s ρ. rw c.in-IsNull.is (c.null_test.ensures (given_by g.N.NumberRule.rule c.args.self.now n) c.args.k ε (store (g.S.ObjectStore.means c.args.objects.now)) s ρ)
