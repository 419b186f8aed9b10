-- What a move comes to on the machine, and what the code of one step owes.
use Rattle.std.specs.Prelude.{◌≡◌, ℕ, Bool, true, false, cond, List, [], ◌∷◌, is_some, Some, None, Option}
use Rattle.store.specs.declared.Value.{Value}
use Rattle.store.specs.Meaning.{Rec, Store, written, value_at}
use Rattle.cool.specs.Syntax.{Name}
use Rattle.cool.specs.Book.{Meth, Book, fields_of, method_of, place}
use Rattle.machine.specs.declared.state.Around.{Around}
use Rattle.machine.specs.declared.state.Hand.{Hand}
use Rattle.machine.specs.declared.state.Hand.TheVariants.{Go, Have, Done}
use Rattle.machine.specs.declared.state.Stage.{Stage}
use Rattle.machine.specs.declared.state.Stage.TheVariants.{Third}
use Rattle.machine.specs.declared.state.Row.{Row}
use Rattle.machine.specs.Machine.{state, row, around, Given, Outcome, next, ends, finished, misfit, Frame, step, step_have, step_done, Line}
use Rattle.machine.specs.Ends.{end_number, end_node}
use Rattle.engine.specs.declared.moves.Move.{Move}
use Rattle.engine.specs.declared.moves.Move.TheVariants.{TakeOff, Stay, Enter, Leave, Write, Ends}
use Rattle.engine.specs.declared.moves.Stepped.{Stepped}
use Rattle.engine.specs.declared.moves.Stepped.TheVariants as came

-- The rows below the top one.
abbrev pub below : List Row → List Row
below [] = []
below (q ∷ ρ) = ρ

-- Nothing is left to do: a value, or done, in hand and no rows.
abbrev pub at_rest : Hand → List Row → Bool
at_rest (Go k) ρ = false
at_rest (Have v) [] = true
at_rest (Have v) (q ∷ ρ) = false
at_rest Done [] = true
at_rest Done (q ∷ ρ) = false

-- The place of a field, and the method of a name, in the class that a record has.
abbrev pub place_in : Book → Option Rec → Name → Option ℕ
place_in B None f = None
place_in B (Some o) f = place (fields_of (B.class o.class)) f

abbrev pub method_in : Book → Option Rec → Name → Option Meth
method_in B None m = None
method_in B (Some o) m = method_of (B.class o.class) m

-- What a move comes to under the top row q, with the rows ρ below it; no move is a misfit.
abbrev pub outcome : Option Move → Around → Row → List Row → Store → Outcome
outcome None ε q ρ S = misfit
outcome (Some (TakeOff x)) ε q ρ S = next (state x ε ρ S)
outcome (Some (Stay s k)) ε q ρ S = next (state (Go k) ε (row q.node s ∷ ρ) S)
outcome (Some (Enter l v k)) ε q ρ S = next (state (Go k) (around (Some l) (Some v)) (row q.node (Third ε) ∷ ρ) S)
outcome (Some (Leave δ v)) ε q ρ S = next (state (Have v) δ ρ S)
outcome (Some (Write l i v)) ε q ρ S = cond (is_some (value_at S l i)) (next (state Done ε ρ (written S l i v))) misfit
outcome (Some (Ends e)) ε q ρ S = ends (end_number e) (end_node e)

-- The row is taken off, with the value w in hand.
abbrev pub has_result : Around → List Row → Store → Value → Outcome
has_result ε ρ S w = next (state (Have w) ε ρ S)

-- Under a row of node k, whatever lies below, a move comes to what f says.
abbrev pub ComesTo : Option Move → ℕ → Around → Store → (List Row → Outcome) → Type 0
ComesTo r k ε S f = (s : Stage) (ρ : List Row) → outcome r ε (row k s) ρ S ≡ f ρ

-- The move for the value v, and the one for done, under a row of node k.
abbrev pub HasMove : Given → Frame → ℕ → Value → Around → Store → Option Move → Type 0
HasMove G f k v ε S r = ComesTo r k ε S (λ ρ. step_have G f k v ε ρ S)

abbrev pub DoneMove : Given → Frame → ℕ → Around → Store → Option Move → Type 0
DoneMove G f k ε S r = ComesTo r k ε S (λ ρ. step_done G f k ε ρ S)

-- An outcome that makes no record is carried out: the rows ρ and the store S before it, ρ' and S' after it.
abbrev pub CarriedOut : Outcome → List Row → Store → Option Stepped → List Row → Store → Type 0
CarriedOut o ρ S (Some (came.Next x ε)) ρ' S' = o ≡ next (state x ε ρ' S')
CarriedOut o ρ S (Some (came.Ends e)) ρ' S' = (o ≡ ends (end_number e) (end_node e)) × (ρ' ≡ ρ) × (S' ≡ S)
CarriedOut o ρ S (Some came.Finished) ρ' S' = (o ≡ finished) × (ρ' ≡ ρ) × (S' ≡ S)
CarriedOut o ρ S None ρ' S' = (o ≡ misfit) × (ρ' ≡ ρ) × (S' ≡ S)

-- One step from the hand x, object and parameter ε, rows ρ and store S: a line, or the outcome that is none; no step is a
-- misfit.
abbrev pub Steps : Given → Hand → Around → List Row → Store → Option Stepped → List Row → Store → Type 0
Steps G x ε ρ S (Some (came.Next y δ)) ρ' S' = Line G (state x ε ρ S) (state y δ ρ' S')
Steps G x ε ρ S (Some (came.Ends e)) ρ' S' = (step G (state x ε ρ S) ≡ ends (end_number e) (end_node e)) × (ρ' ≡ ρ) × (S' ≡ S)
Steps G x ε ρ S (Some came.Finished) ρ' S' = (step G (state x ε ρ S) ≡ finished) × (ρ' ≡ ρ) × (S' ≡ S)
Steps G x ε ρ S None ρ' S' = (step G (state x ε ρ S) ≡ misfit) × (ρ' ≡ ρ) × (S' ≡ S)
