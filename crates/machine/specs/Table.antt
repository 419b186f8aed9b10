-- What single steps come to, kind by kind and stage by stage, on one small book: a table.
use Rattle.std.specs.Prelude.{◌≡◌, ℕ, true, false, List, [], ◌∷◌, pos, negsuc, Some, None}
use Rattle.std.specs.List.{slice_get}
use Rattle.book.specs.declared.node.Node.TheVariants.{Literal, Minus, Less, Equal, IsNull, This, Parameter, FieldRead, Call, New, Reading, FieldWrite, Sequence, If, While, Skip}
use Rattle.book.specs.declared.node.Type.TheVariants as T
use Rattle.numbers.specs.Rule.{Rule, within}
use Rattle.store.specs.declared.Value.TheVariants.{Int, Boolean, Null, Handle}
use Rattle.store.specs.Meaning.{Store, nothing, added, written}
use Rattle.cool.specs.Book.{Book, Each}
use Rattle.machine.specs.declared.state.Around.{Around}
use Rattle.machine.specs.declared.state.Hand.{Hand}
use Rattle.machine.specs.declared.state.Hand.TheVariants.{Go, Have, Done}
use Rattle.machine.specs.declared.state.Stage.TheVariants.{First, Second, Turn, Third, Fourth}
use Rattle.machine.specs.declared.state.Row.{Row}
use Rattle.machine.specs.Machine.{State, state, row, around, Outcome, next, makes, ends, finished, misfit, Given, step}

-- Nodes of every kind, one class with two fields, and a method 3 with the command root 15 and the returned root 7.
abbrev pub small : Book
small =
    record {
      node = slice_get (Literal (pos 1) ∷ Literal (pos 9) ∷ Minus 0 1 ∷ Less 0 1 ∷ Equal 0 1 ∷ IsNull 0 ∷ This ∷ Parameter ∷ FieldRead 6 0 ∷ Call 6 7 3 ∷ New 0 ∷ Reading 0 ∷ FieldWrite 6 7 0 ∷ Sequence 15 12 ∷ If 0 15 12 ∷ Skip ∷ While 0 15 ∷ New 1 ∷ FieldRead 6 2 ∷ Call 6 7 4 ∷ []);
      class = slice_get (record { called = 2; fields = (0, T.Int) ∷ (1, T.Class 0) ∷ []; methods = (3, record { takes = T.Int; gives = T.Int; body = 15; result = 7 }) ∷ [] } ∷ []);
      classes = 1;
      root = 0;
      holder = λ k. None;
      text = λ n. [];
    }

abbrev pub given_small : Rule → Given
given_small R = record { book = small; rule = R; day = pos 1 ∷ pos 9 ∷ []; places = 1 }

-- One record, of class 0, under the handle 4.
abbrev pub held : Store
held = added (nothing 2 4) 4 (record { class = 0; values = Int (pos 1) ∷ Null ∷ [] })

abbrev pub top : Around
top = around None None

abbrev pub inside : Around
inside = around (Some 4) (Some (Int (pos 5)))

abbrev pub at : Hand → Around → List Row → State
at x ε ρ = state x ε ρ held

-- Steps that do not turn on the number rule.
abbrev pub table : (null_target no_reading no_room no_place : ℕ) → List (State × Outcome)
table null_target no_reading no_room no_place =
    -- go to 0, 5, 6, 9, 15; to no node, to no class
    (at (Go 6) inside [], next (at (Have (Handle 4)) inside [])) ∷
    (at (Go 6) top [], misfit) ∷
    (at (Go 7) inside [], next (at (Have (Int (pos 5))) inside [])) ∷
    (at (Go 7) top [], misfit) ∷
    (at (Go 10) top [], makes 0) ∷
    (state (Go 10) top [] (nothing 0 9), ends no_room 10) ∷
    (state (Go 10) top [] (nothing 9 1), ends no_room 10) ∷
    (at (Go 17) top [], misfit) ∷
    (at (Go 15) top [], next (at Done top [])) ∷
    (at (Go 99) top [], misfit) ∷
    -- go to another kind, and where there is no place
    (at (Go 2) inside [], next (at (Go 0) inside (row 2 First ∷ []))) ∷
    (at (Go 2) inside (row 13 First ∷ []), ends no_place 2) ∷
    (at (Go 3) inside [], next (at (Go 0) inside (row 3 First ∷ []))) ∷
    (at (Go 3) inside (row 13 First ∷ []), ends no_place 3) ∷
    (at (Go 4) inside [], next (at (Go 0) inside (row 4 First ∷ []))) ∷
    (at (Go 4) inside (row 13 First ∷ []), ends no_place 4) ∷
    (at (Go 5) inside [], next (at (Go 0) inside (row 5 First ∷ []))) ∷
    (at (Go 5) inside (row 13 First ∷ []), ends no_place 5) ∷
    (at (Go 8) inside [], next (at (Go 6) inside (row 8 First ∷ []))) ∷
    (at (Go 8) inside (row 13 First ∷ []), ends no_place 8) ∷
    (at (Go 9) inside [], next (at (Go 6) inside (row 9 First ∷ []))) ∷
    (at (Go 9) inside (row 13 First ∷ []), ends no_place 9) ∷
    (at (Go 11) inside [], next (at (Go 0) inside (row 11 First ∷ []))) ∷
    (at (Go 11) inside (row 13 First ∷ []), ends no_place 11) ∷
    (at (Go 12) inside [], next (at (Go 6) inside (row 12 First ∷ []))) ∷
    (at (Go 12) inside (row 13 First ∷ []), ends no_place 12) ∷
    (at (Go 13) inside [], next (at (Go 15) inside (row 13 First ∷ []))) ∷
    (at (Go 13) inside (row 13 First ∷ []), ends no_place 13) ∷
    (at (Go 14) inside [], next (at (Go 0) inside (row 14 First ∷ []))) ∷
    (at (Go 14) inside (row 13 First ∷ []), ends no_place 14) ∷
    (at (Go 16) inside [], next (at (Go 0) inside (row 16 First ∷ []))) ∷
    (at (Go 16) inside (row 13 First ∷ []), ends no_place 16) ∷
    -- have, row 1 to 3
    (at (Have (Int (pos 5))) inside (row 2 First ∷ []), next (at (Go 1) inside (row 2 (Second (Int (pos 5))) ∷ []))) ∷
    (at (Have (Int (pos 5))) inside (row 2 (Second Null) ∷ []), misfit) ∷
    (at (Have (Boolean true)) inside (row 2 (Second (Int (pos 5))) ∷ []), misfit) ∷
    (at (Have (Int (pos 5))) inside (row 3 First ∷ []), next (at (Go 1) inside (row 3 (Second (Int (pos 5))) ∷ []))) ∷
    (at (Have (Int (pos 5))) inside (row 3 (Second Null) ∷ []), misfit) ∷
    (at (Have (Boolean true)) inside (row 3 (Second (Int (pos 5))) ∷ []), misfit) ∷
    (at (Have (Int (pos 5))) inside (row 4 First ∷ []), next (at (Go 1) inside (row 4 (Second (Int (pos 5))) ∷ []))) ∷
    (at (Have (Int (pos 5))) inside (row 4 (Second Null) ∷ []), misfit) ∷
    (at (Have (Boolean true)) inside (row 4 (Second (Int (pos 5))) ∷ []), misfit) ∷
    (at (Have (Int (pos 2))) inside (row 3 (Second (Int (pos 5))) ∷ []), next (at (Have (Boolean false)) inside [])) ∷
    (at (Have (Int (pos 5))) inside (row 3 (Second (Int (negsuc 0))) ∷ []), next (at (Have (Boolean true)) inside [])) ∷
    (at (Have (Int (pos 5))) inside (row 4 (Second (Int (pos 5))) ∷ []), next (at (Have (Boolean true)) inside [])) ∷
    (at (Have (Int (pos 0))) inside (row 4 (Second (Int (negsuc 0))) ∷ []), next (at (Have (Boolean false)) inside [])) ∷
    -- row 4, 7, 10
    (at (Have Null) inside (row 5 First ∷ []), next (at (Have (Boolean true)) inside [])) ∷
    (at (Have (Handle 4)) inside (row 5 First ∷ []), next (at (Have (Boolean false)) inside [])) ∷
    (at (Have (Int (pos 5))) inside (row 5 First ∷ []), misfit) ∷
    (at (Have (Handle 4)) inside (row 8 First ∷ []), next (at (Have (Int (pos 1))) inside [])) ∷
    (at (Have Null) inside (row 8 First ∷ []), ends null_target 8) ∷
    (at (Have (Handle 3)) inside (row 8 First ∷ []), misfit) ∷
    (at (Have (Boolean true)) inside (row 8 First ∷ []), misfit) ∷
    (at (Have (Handle 4)) inside (row 18 First ∷ []), misfit) ∷
    (at (Have (Int (pos 2))) inside (row 11 First ∷ []), ends no_reading 11) ∷
    (at (Have (Int (negsuc 0))) inside (row 11 First ∷ []), ends no_reading 11) ∷
    (at (Have Null) inside (row 11 First ∷ []), misfit) ∷
    -- row 8, by stages
    (at (Have (Handle 4)) inside (row 9 First ∷ []), next (at (Go 7) inside (row 9 (Second (Handle 4)) ∷ []))) ∷
    (at (Have Null) inside (row 9 First ∷ []), ends null_target 9) ∷
    (at (Have (Int (pos 5))) inside (row 9 First ∷ []), next (at (Go 7) inside (row 9 (Second (Int (pos 5))) ∷ []))) ∷
    (at (Have (Int (pos 2))) top (row 9 (Second (Handle 4)) ∷ []), next (at (Go 15) (around (Some 4) (Some (Int (pos 2)))) (row 9 (Third top) ∷ []))) ∷
    (at (Have (Int (pos 2))) top (row 9 (Second (Handle 3)) ∷ []), misfit) ∷
    (at (Have (Int (pos 2))) top (row 9 (Second (Int (pos 5))) ∷ []), misfit) ∷
    (at (Have (Int (pos 2))) top (row 9 (Second Null) ∷ []), misfit) ∷
    (at (Have (Int (pos 2))) top (row 19 (Second (Handle 4)) ∷ []), misfit) ∷
    (at (Have Null) inside (row 9 (Third top) ∷ []), misfit) ∷
    (at Done inside (row 9 (Third top) ∷ []), next (at (Go 7) inside (row 9 (Fourth top) ∷ []))) ∷
    (at Done top (row 9 (Third top) ∷ []), misfit) ∷
    (at (Have Null) inside (row 9 (Fourth top) ∷ []), next (at (Have Null) top [])) ∷
    (at Done inside (row 9 (Fourth top) ∷ []), misfit) ∷
    (at Done inside (row 9 First ∷ []), misfit) ∷
    -- row 11
    (at (Have (Handle 4)) inside (row 12 First ∷ []), next (at (Go 7) inside (row 12 (Second (Handle 4)) ∷ []))) ∷
    (at (Have Null) inside (row 12 First ∷ []), ends null_target 12) ∷
    (at (Have (Int (pos 5))) inside (row 12 (Second (Handle 4)) ∷ []), next (state Done inside [] (written held 4 0 (Int (pos 5))))) ∷
    (at (Have (Int (pos 5))) inside (row 12 (Second (Handle 3)) ∷ []), misfit) ∷
    (at (Have (Int (pos 5))) inside (row 12 (Second (Boolean true)) ∷ []), misfit) ∷
    (at Done inside (row 12 (Second (Handle 4)) ∷ []), misfit) ∷
    -- rows 12 to 14
    (at Done inside (row 13 First ∷ []), next (at (Go 12) inside [])) ∷
    (at (Have Null) inside (row 13 First ∷ []), misfit) ∷
    (at (Have (Boolean true)) inside (row 14 First ∷ []), next (at (Go 15) inside [])) ∷
    (at (Have (Boolean false)) inside (row 14 First ∷ []), next (at (Go 12) inside [])) ∷
    (at (Have (Int (pos 5))) inside (row 14 First ∷ []), misfit) ∷
    (at Done inside (row 14 First ∷ []), misfit) ∷
    (at (Have (Boolean true)) inside (row 16 First ∷ []), next (at (Go 15) inside (row 16 Turn ∷ []))) ∷
    (at (Have (Boolean false)) inside (row 16 First ∷ []), next (at Done inside [])) ∷
    (at Done inside (row 16 Turn ∷ []), next (at (Go 0) inside (row 16 First ∷ []))) ∷
    (at (Have Null) inside (row 16 Turn ∷ []), misfit) ∷
    (at Done inside (row 16 (Second Null) ∷ []), misfit) ∷
    -- rows that no line has, and no rows
    (at (Have Null) inside (row 0 First ∷ []), misfit) ∷
    (at Done inside (row 0 First ∷ []), misfit) ∷
    (at (Have Null) inside (row 6 First ∷ []), misfit) ∷
    (at Done inside (row 6 First ∷ []), misfit) ∷
    (at (Have Null) inside (row 7 First ∷ []), misfit) ∷
    (at Done inside (row 7 First ∷ []), misfit) ∷
    (at (Have Null) inside (row 10 First ∷ []), misfit) ∷
    (at Done inside (row 10 First ∷ []), misfit) ∷
    (at (Have Null) inside (row 15 First ∷ []), misfit) ∷
    (at Done inside (row 15 First ∷ []), misfit) ∷
    (at (Have Null) inside (row 99 First ∷ []), misfit) ∷
    (at Done inside (row 99 First ∷ []), misfit) ∷
    (at (Have (Int (pos 5))) inside (row 5 (Second Null) ∷ []), misfit) ∷
    (at (Have (Int (pos 5))) inside (row 2 Turn ∷ []), misfit) ∷
    (at (Have Null) top [], finished) ∷
    (at Done top [], finished) ∷
    []

-- Steps that do: 1 lies within the ends and 9 does not, and 5 and 2 have the difference 3, 5 and 1 none.
abbrev pub by_rule : (beyond : ℕ) → List (State × Outcome)
by_rule beyond =
    (at (Go 0) top [], next (at (Have (Int (pos 1))) top [])) ∷
    (at (Go 1) top [], ends beyond 1) ∷
    (at (Have (Int (pos 2))) top (row 2 (Second (Int (pos 5))) ∷ []), next (at (Have (Int (pos 3))) top [])) ∷
    (at (Have (Int (pos 1))) top (row 2 (Second (Int (pos 5))) ∷ []), ends beyond 2) ∷
    (at (Have (Int (pos 0))) top (row 11 First ∷ []), next (at (Have (Int (pos 1))) top [])) ∷
    (at (Have (Int (pos 1))) top (row 11 First ∷ []), ends beyond 11) ∷
    []

abbrev pub ComesOut : Rule → List (State × Outcome) → Type 0
ComesOut R xs = Each (λ x. step (given_small R) x.0 ≡ x.1) xs

-- The tables hold, with these numbers for the ends.
abbrev pub Tabled : (null_target no_reading beyond no_room no_place : ℕ) → Type 0
Tabled null_target no_reading beyond no_room no_place =
    ((R : Rule) → ComesOut R (table null_target no_reading no_room no_place))
    × ((R : Rule) → within R (pos 1) ≡ true → within R (pos 9) ≡ false → R.difference (pos 5) (pos 2) ≡ Some (pos 3) → R.difference (pos 5) (pos 1) ≡ None → ComesOut R (by_rule beyond))
