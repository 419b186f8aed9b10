-- What question and slip tell of a run.
use Rattle.std.specs.Prelude.{◌≡◌, ℕ, List, [], Result}
use Rattle.book.specs.declared.node.Type.{«Type» as BType}
use Rattle.numbers.specs.Rule.{Rule}
use Rattle.pile.specs.declared.base.Pile.{Pile}
use Rattle.pile.specs.Pile.{items, size, Kept}
use Rattle.store.specs.Meaning.{Means, store}
use Rattle.cool.specs.Book.{Book}
use Rattle.machine.specs.Ends.{end_number, end_node}
use Rattle.slips.specs.declared.refused.SlipRefused.{SlipRefused}
use Rattle.slips.specs.Answer.{Asked, Slips}
use Rattle.engine.specs.declared.base.Run.{Run}
use Rattle.engine.specs.declared.question.Told.{Told}

-- Question tells the steps worked since begin, the end's number (1 while the run has none) and its node (0 below end 31).
abbrev pub Questions : Run → Told → Type 0
Questions u t = t ≡ record { steps = u.steps; end = end_number u.end; node = end_node u.end }

-- What slip is asked of a run: by a book with the type of its top-level expression, a number rule and a store.
abbrev pub asked : Book → BType → Rule → Means → Run → Asked
asked B z R m u = record { book = B; top = z; rule = R; store = store m; end = u.end; steps = u.steps; hand = u.hand }

-- What slip answers for a run with a pile f of found handles and the output out, and what it leaves: the pile is emptied,
-- whatever the answer.
pub record Prints (B : Book) (z : BType) (R : Rule) (m : Means) (u : Run) (f : Pile ℕ) (out : List ℕ) (r : Result ℕ SlipRefused) (g : Pile ℕ) (out' : List ℕ) : Type 0 where
  pub emptied : items g ≡ []
  pub kept : Kept f g
  pub answer : Slips (asked B z R m u) (size f) out out' r
