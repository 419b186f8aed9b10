use Rattle.pile.specs.Pile.{size}
use Rattle.engine.specs.Runs.{given_by}
use Rattle.engine.proofs.Working.{HasWorked}
use Rattle.engine.proofs.base.Run.work.Given as over

abbrev pub invariant-loop : over.invariant-loop
invariant-loop g l =
    let m = g.S.ObjectStore.means in
    HasWorked (given_by g.N.NumberRule.rule l.given (size l.initial.rows)) l.initial.self l.initial.rows (m l.initial.objects) l.counter l.self l.rows (m l.objects)
