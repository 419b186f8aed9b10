-- A run with its rows and its store as a state of the machine, and what is given with it.
use Rattle.std.specs.Prelude.{ℕ, ◌+◌, List, reverse, ℤ}
use Rattle.numbers.specs.Rule.{Rule}
use Rattle.pile.specs.declared.base.Pile.{Pile}
use Rattle.pile.specs.Pile.{items}
use Rattle.store.specs.Meaning.{Means, store}
use Rattle.cool.specs.Book.{Book}
use Rattle.checked.specs.Checked.{book_of}
use Rattle.machine.specs.declared.state.Around.{Around}
use Rattle.machine.specs.declared.state.Hand.{Hand}
use Rattle.machine.specs.declared.state.End.{End}
use Rattle.machine.specs.declared.state.Row.{Row}
use Rattle.machine.specs.Machine.{State, state, Given}
use Rattle.engine.specs.declared.base.Run.{Run}
use Rattle.engine.specs.declared.base.Given.{Given as Lent}

-- The rows of a pile, the top one first, as the machine has them.
abbrev pub rows_of : Pile Row → List Row
rows_of p = reverse (items p)

-- The state that a run stands in, with the rows on a pile and a store that means m.
abbrev pub state_of : Run → Pile Row → Means → State
state_of u p m = state u.hand u.around (rows_of p) (store m)

-- What is given with a run: its book, its number rule, the day's readings, the places for rows.
abbrev pub given : Book → Rule → List ℤ → ℕ → Given
given B R day n = record { book = B; rule = R; day = day; places = n }

-- The book that was lent; and what is given by what was lent, under a number rule and with so many places for rows.
abbrev pub book_in : {N : Type 0} → Lent N → Book
book_in g = book_of g.book.now

abbrev pub given_by : {N : Type 0} → Rule → Lent N → ℕ → Given
given_by R g n = given (book_in g) R g.readings.now n

-- The run with one step more; with another hand, object and parameter; with an end.
abbrev pub counted : Run → Run
counted u = record { hand = u.hand; around = u.around; steps = u.steps + 1; end = u.end; places = u.places }

abbrev pub gone_on : Hand → Around → Run → Run
gone_on x ε u = record { hand = x; around = ε; steps = u.steps; end = u.end; places = u.places }

abbrev pub ended_with : End → Run → Run
ended_with e u = record { hand = u.hand; around = u.around; steps = u.steps; end = e; places = u.places }
