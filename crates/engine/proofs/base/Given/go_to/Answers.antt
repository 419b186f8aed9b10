use Rattle.std.proofs.Common.{◌≡◌, ℤ, Some, Option, ap, ◌∙◌, subst, ⊎_elim, w32, SFits, rules}
use Rattle.std.proofs.lemmas.Int.{to_z-of_z}
use Rattle.book.specs.declared.node.Node.{Node}
use Rattle.book.specs.declared.node.Node.TheVariants.{Literal}
use Rattle.pile.specs.Pile.{size}
use Rattle.store.specs.Meaning.{store}
use Rattle.machine.specs.Machine.{step_go, put_on, line_next}
use Rattle.engine.specs.Runs.{rows_of, book_in, given_by}
use Rattle.engine.specs.Moves.{CarriedOut}
use Rattle.engine.proofs.Going.{gone_to}
use Rattle.engine.proofs.base.Given.go_to.Goals as goal

pub returns-in-Literal-clause-does : goal.returns-in-Literal-clause-does
returns-in-Literal-clause-does g c = λ is.
    let G = given_by g.N.NumberRule.rule c.args.self.now (size c.args.rows.now) in
    let ε = c.args.around in
    let ρ = rows_of c.args.rows.now in
    let S = store (g.S.ObjectStore.means c.args.objects.now) in
    let at = λ (n : Node). step_go G (Some n) c.args.k ε ρ S in
    let z = c.in-Literal.value in
    let f : SFits w32 z = search rules in
    let P : ℤ → Type 0 = λ n. CarriedOut (at (Literal n)) ρ S (Some c.literal.result) ρ S in
    gone_to G c.args.k c.args.node ε ρ S _ (Some c.literal.result) ρ S is (ap at c.in-Literal.is) (subst P (to_z-of_z w32 z f) (c.literal.ensures ρ S))

pub returns-in-This-clause-does : goal.returns-in-This-clause-does
returns-in-This-clause-does g c = λ is.
    let G = given_by g.N.NumberRule.rule c.args.self.now (size c.args.rows.now) in
    let ρ = rows_of c.args.rows.now in
    let S = store (g.S.ObjectStore.means c.args.objects.now) in
    let at = λ (n : Node). step_go G (Some n) c.args.k c.args.around ρ S in
    gone_to G c.args.k c.args.node c.args.around ρ S _ c.this.result ρ S is (ap at c.in-This.is) (c.this.ensures ρ S)

pub returns-in-Parameter-clause-does : goal.returns-in-Parameter-clause-does
returns-in-Parameter-clause-does g c = λ is.
    let G = given_by g.N.NumberRule.rule c.args.self.now (size c.args.rows.now) in
    let ρ = rows_of c.args.rows.now in
    let S = store (g.S.ObjectStore.means c.args.objects.now) in
    let at = λ (n : Node). step_go G (Some n) c.args.k c.args.around ρ S in
    gone_to G c.args.k c.args.node c.args.around ρ S _ c.parameter.result ρ S is (ap at c.in-Parameter.is) (c.parameter.ensures ρ S)

pub returns-in-Skip-clause-does : goal.returns-in-Skip-clause-does
returns-in-Skip-clause-does g c = λ is.
    let G = given_by g.N.NumberRule.rule c.args.self.now (size c.args.rows.now) in
    let ρ = rows_of c.args.rows.now in
    let S = store (g.S.ObjectStore.means c.args.objects.now) in
    let at = λ (o : Option Node). step_go G o c.args.k c.args.around ρ S in
    line_next (ap at (is ∙ ap Some c.in-Skip.is))

pub returns-in-Minus-clause-does : goal.returns-in-Minus-clause-does
returns-in-Minus-clause-does g c = λ is.
    let G = given_by g.N.NumberRule.rule c.args.self.now (size c.args.rows.now) in
    let ρ = rows_of c.args.rows.now in
    let S = store (g.S.ObjectStore.means c.args.objects.now) in
    let at = λ (n : Node). step_go G (Some n) c.args.k c.args.around ρ S in
    let part = c.in-Minus.part in
    let goes : at c.args.node ≡ put_on G c.args.k part c.args.around ρ S = (⊎_elim (λ q. ap at q.1) (⊎_elim (λ q. ap at q.1) (⊎_elim (λ q. ap at q.1) (⊎_elim (λ q. ap at q) (⊎_elim (λ q. ap at q.1) (⊎_elim (λ q. ap at q.2) (⊎_elim (λ q. ap at q) (⊎_elim (λ q. ap at q.2) (⊎_elim (λ q. ap at q.1) (⊎_elim (λ q. ap at q.2) (λ q. ap at q.1))))))))))) c.in-Minus.is in
    gone_to G c.args.k c.args.node c.args.around ρ S _ (Some c.put_on.result) (rows_of c.put_on.new.rows) S is goes (c.put_on.ensures.does (book_in c.args.self.now) g.N.NumberRule.rule c.args.self.now.readings.now S)
