use Rattle.std.proofs.Common.{[], Some, None, refl, ap}
use Rattle.pile.specs.Pile.{size}
use Rattle.store.specs.Meaning.{store}
use Rattle.machine.specs.declared.state.Hand.TheVariants.{Have, Done}
use Rattle.engine.specs.Runs.{rows_of, given_by}
use Rattle.engine.specs.Moves.{at_rest}
use Rattle.engine.proofs.Going.{under_top, rests}
use Rattle.engine.proofs.base.Given.step.Goals as goal

pub returns-in_err-found-in-Have-clause-does : goal.returns-in_err-found-in-Have-clause-does
returns-in_err-found-in-Have-clause-does g c =
    let p = c.args.rows.now in
    let S = store (g.S.ObjectStore.means c.args.objects.now) in
    let G = given_by g.N.NumberRule.rule c.args.self.now (size p) in
    let q = c.in-Some.top in
    rw c.from_residual.ensures (under_top G c.args.hand (Have c.in-Have.value) c.args.around p S q c.have.result None None (rows_of p) S c.in-Have.is c.in-Some.ensures c.in_err-found-in-Have.was
    (λ ρ. c.have.ensures (size p) c.args.around q.stage ρ) (λ ρ e. (refl, e, refl)))

pub returns-in_ok-found-in-Have-clause-does : goal.returns-in_ok-found-in-Have-clause-does
returns-in_ok-found-in-Have-clause-does g c =
    let p = c.args.rows.now in
    let S = store (g.S.ObjectStore.means c.args.objects.now) in
    let G = given_by g.N.NumberRule.rule c.args.self.now (size p) in
    let q = c.in-Some.top in
    let m = Some c.in_ok-found-in-Have.found in
    let end = c.perform.new in
    under_top G c.args.hand (Have c.in-Have.value) c.args.around p S q c.have.result m c.perform.result (rows_of end.rows) (store (g.S.ObjectStore.means end.objects)) c.in-Have.is c.in-Some.ensures c.in_ok-found-in-Have.was
    (λ ρ. c.have.ensures (size p) c.args.around q.stage ρ) c.perform.ensures.does

pub returns-in_err-found-in-Done-clause-does : goal.returns-in_err-found-in-Done-clause-does
returns-in_err-found-in-Done-clause-does g c =
    let p = c.args.rows.now in
    let S = store (g.S.ObjectStore.means c.args.objects.now) in
    let G = given_by g.N.NumberRule.rule c.args.self.now (size p) in
    let q = c.in-Some-top.top in
    rw c.from_residual-in_err-found-in-Done.ensures (under_top G c.args.hand Done c.args.around p S q c.done.result None None (rows_of p) S c.in-Done.is c.in-Some-top.ensures c.in_err-found-in-Done.was
    (λ ρ. c.done.ensures g.N.NumberRule.rule (size p) q.stage ρ) (λ ρ e. (refl, e, refl)))

pub returns-in_ok-found-in-Done-clause-does : goal.returns-in_ok-found-in-Done-clause-does
returns-in_ok-found-in-Done-clause-does g c =
    let p = c.args.rows.now in
    let S = store (g.S.ObjectStore.means c.args.objects.now) in
    let G = given_by g.N.NumberRule.rule c.args.self.now (size p) in
    let q = c.in-Some-top.top in
    let m = Some c.in_ok-found-in-Done.found in
    let end = c.perform-in-Done.new in
    under_top G c.args.hand Done c.args.around p S q c.done.result m c.perform-in-Done.result (rows_of end.rows) (store (g.S.ObjectStore.means end.objects)) c.in-Done.is c.in-Some-top.ensures c.in_ok-found-in-Done.was
    (λ ρ. c.done.ensures g.N.NumberRule.rule (size p) q.stage ρ) c.perform-in-Done.ensures.does

pub returns-in_default-top-clause-does : goal.returns-in_default-top-clause-does
returns-in_default-top-clause-does g c =
    let p = c.args.rows.now in
    let S = store (g.S.ObjectStore.means c.args.objects.now) in
    let G = given_by g.N.NumberRule.rule c.args.self.now (size p) in
    (rests G c.args.hand c.args.around p S (ap (λ x. at_rest x []) c.in-Done.is) c.in_default-top.ensures, refl, refl)
