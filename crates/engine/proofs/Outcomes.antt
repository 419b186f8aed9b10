-- How the machine's ways to go on come out, by what is there.
use Rattle.std.proofs.Common.{◌≡◌, ℕ, Bool, false, List, Some, None, Option, ap}
use Rattle.store.specs.declared.Value.{Value}
use Rattle.store.specs.declared.Value.TheVariants.{Handle}
use Rattle.store.specs.Meaning.{Store}
use Rattle.machine.specs.declared.state.Around.{Around}
use Rattle.machine.specs.declared.state.Row.{Row}
use Rattle.machine.specs.Machine.{Outcome, ends, misfit, or_misfit, unless, null_or}
use Rattle.engine.specs.declared.moves.Move.{Move}
use Rattle.engine.specs.Moves.{outcome}

-- no move is a misfit
pub no_move : {r : Option Move} (ε : Around) (q : Row) (ρ : List Row) (S : Store) → r ≡ None → outcome r ε q ρ S ≡ misfit
no_move ε q ρ S e = ap (λ o. outcome o ε q ρ S) e

pub misfit_at : {A : Type 0} {o : Option A} (f : A → Outcome) → o ≡ None → or_misfit o f ≡ misfit
unfolding or_misfit
misfit_at f e = ap (λ o. or_misfit o f) e

pub goes_on : {A : Type 0} {o : Option A} (f : A → Outcome) (a : A) → o ≡ Some a → or_misfit o f ≡ f a
unfolding or_misfit
goes_on f a e = ap (λ o. or_misfit o f) e

pub unless_false : {b : Bool} (e k : ℕ) (o : Outcome) → b ≡ false → unless e k b o ≡ ends e k
unfolding unless
unless_false e k o p = ap (λ b. unless e k b o) p

-- a record, where null would do too
pub at_handle : {v : Value} (l : ℕ) (o : Outcome) (f : ℕ → Outcome) → v ≡ Handle l → null_or v o f ≡ f l
unfolding null_or
at_handle l o f e = ap (λ v. null_or v o f) e
