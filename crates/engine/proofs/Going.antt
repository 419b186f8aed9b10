-- From an outcome that is carried out to a step.
use Rattle.std.proofs.Common.{◌≡◌, ℕ, true, List, [], ◌∷◌, Some, None, Option, sym, refl, ap, ◌∙◌, subst, arith}
use Rattle.book.specs.declared.node.Node.{Node}
use Rattle.pile.specs.declared.base.Pile.{Pile}
use Rattle.pile.specs.Pile.{items, last}
use Rattle.store.specs.Meaning.{Store}
use Rattle.machine.specs.declared.state.Around.{Around}
use Rattle.machine.specs.declared.state.Hand.{Hand}
use Rattle.machine.specs.declared.state.Hand.TheVariants.{Go}
use Rattle.machine.specs.declared.state.Row.{Row}
use Rattle.machine.specs.Machine.{state, Given, Outcome, step, step_go, line_next, finished}
use Rattle.engine.specs.declared.moves.Move.{Move}
use Rattle.engine.specs.declared.moves.Stepped.{Stepped}
use Rattle.engine.specs.declared.moves.Stepped.TheVariants as came
use Rattle.engine.specs.Runs.{rows_of}
use Rattle.engine.specs.Moves.{at_rest, outcome, CarriedOut, Steps}
use Rattle.engine.proofs.TopFirst.{top_of, top_is}
use Rattle.engine.proofs.Unfinished.{at_rest_finished}

pub carried : (G : Given) (x : Hand) (ε : Around) (ρ : List Row) (S : Store) (o : Outcome) (r : Option Stepped) (ρ' : List Row) (S' : Store)
    → step G (state x ε ρ S) ≡ o → CarriedOut o ρ S r ρ' S' → Steps G x ε ρ S r ρ' S'
carried G x ε ρ S o (Some (came.Next y δ)) ρ' S' e h = line_next (e ∙ h)
carried G x ε ρ S o (Some (came.Ends d)) ρ' S' e h = (e ∙ h.0, h.1, h.2)
carried G x ε ρ S o (Some came.Finished) ρ' S' e h = (e ∙ h.0, h.1, h.2)
carried G x ε ρ S o None ρ' S' e h = (e ∙ h.0, h.1, h.2)

pub some_top : (ρ : List Row) (q : Row) → top_of ρ ≡ Some q → (ρ₀ : List Row) × (ρ ≡ q ∷ ρ₀)
some_top [] q e = let z : ◌≡◌ {A = ℕ} 0 1 = cc in absurd (omega arith)
some_top (p ∷ ρ) q e = let z : p ≡ q = cc in (ρ, ap (λ x. x ∷ ρ) z)

no_top : (ρ : List Row) → top_of ρ ≡ None → ρ ≡ []
no_top [] e = refl
no_top (q ∷ ρ) e = let z : ◌≡◌ {A = ℕ} 0 1 = cc in absurd (omega arith)

-- the move that was found under the top row, carried out
pub under_top : (G : Given) (x y : Hand) (ε : Around) (p : Pile Row) (S : Store) (q : Row) (f m : Option Move) (r : Option Stepped) (ρ' : List Row) (S' : Store)
    → x ≡ y → Some q ≡ last (items p) → f ≡ m → ((ρ : List Row) → outcome f ε q ρ S ≡ step G (state y ε (q ∷ ρ) S))
    → ((ρ : List Row) → rows_of p ≡ q ∷ ρ → CarriedOut (outcome m ε q ρ S) (q ∷ ρ) S r ρ' S') → Steps G x ε (rows_of p) S r ρ' S'
under_top G x y ε p S q f m r ρ' S' e t found h k =
    let split = some_top (rows_of p) q (sym (t ∙ top_is (items p) _ refl)) in
    let ρ = split.0 in
    let P : List Row → Type 0 = λ τ. CarriedOut (outcome m ε q ρ S) τ S r ρ' S' in
    let comes : step G (state x ε (rows_of p) S) ≡ outcome m ε q ρ S =
    ap (λ z. step G (state z ε (rows_of p) S)) e ∙ ap (λ τ. step G (state y ε τ S)) split.1 ∙ sym (h ρ) ∙ ap (λ o. outcome o ε q ρ S) found in
    carried G x ε (rows_of p) S (outcome m ε q ρ S) r ρ' S' comes (subst P (sym split.1) (k ρ split.1))

-- no row is on top, and the hand need not go on
pub rests : (G : Given) (x : Hand) (ε : Around) (p : Pile Row) (S : Store) → at_rest x [] ≡ true → None ≡ last (items p) → step G (state x ε (rows_of p) S) ≡ finished
rests G x ε p S h t = at_rest_finished G x ε (rows_of p) S (ap (at_rest x) (no_top (rows_of p) (sym (t ∙ top_is (items p) _ refl))) ∙ h)

-- going to node k, where what its line comes to is carried out
pub gone_to : (G : Given) (k : ℕ) (n : Node) (ε : Around) (ρ : List Row) (S : Store) (o : Outcome) (r : Option Stepped) (ρ' : List Row) (S' : Store)
    → G.book.node k ≡ Some n → step_go G (Some n) k ε ρ S ≡ o → CarriedOut o ρ S r ρ' S' → Steps G (Go k) ε ρ S r ρ' S'
gone_to G k n ε ρ S o r ρ' S' e f h = carried G (Go k) ε ρ S o r ρ' S' (ap (λ o. step_go G o k ε ρ S) e ∙ f) h
