-- Worked specimens: what the step rules make of small books.
use Rattle.std.specs.Prelude.{◌≡◌, ℕ, ◌≤◌, true, cond, List, [], ◌∷◌, ℤ, pos, negsuc, Some, None, codes, nat_le}
use Rattle.std.specs.Option.{unwrap_or}
use Rattle.std.specs.List.{slice_get}
use Rattle.book.specs.declared.node.Node.{Node}
use Rattle.book.specs.declared.node.Node.TheVariants.{Literal, Minus, Less, This, Parameter, FieldRead, Call, New, Reading, FieldWrite, Skip}
use Rattle.book.specs.declared.node.Type.TheVariants as T
use Rattle.numbers.specs.Rule.{Rule, within}
use Rattle.numbers.specs.Rules.{strict, java, clock}
use Rattle.store.specs.declared.Value.TheVariants.{Int, Null, Handle}
use Rattle.cool.specs.Syntax.{Name, Ty, class, Expr, Program, CE}
use Rattle.cool.specs.Program.{◌⇝◌∣◌}
use Rattle.cool.specs.Says.{Says, Accepted}
use Rattle.cool.specs.Book.{Meth, Part, Book}
use Rattle.machine.specs.declared.state.Hand.TheVariants.{Have}
use Rattle.machine.specs.Machine.{State, hand_of, store_of, Given}
use Rattle.machine.specs.Runs.{Worked}

-- Class 0, Tide, has `int high` and `Tide next`, and a method or none. Names: 0 high, 1 next, 2 Tide, 3 the method's.
abbrev pub tide : List (Name × Meth) → Part
tide ms = record { called = 2; fields = (0, T.Int) ∷ (1, T.Class 0) ∷ []; methods = ms }

-- A book of these nodes, the top root the last. The nodes up to the returned root are the method's.
abbrev pub a_book : List Node → ℕ → Book
a_book ns top =
    record {
      node = slice_get ns;
      class = slice_get (tide [] ∷ []);
      classes = 1;
      root = top;
      holder = λ k. None;
      text = λ n. unwrap_or (slice_get (codes "high" ∷ codes "next" ∷ codes "Tide" ∷ []) n) [];
    }

abbrev pub a_book_with : Meth → List ℕ → List Node → ℕ → Book
a_book_with q m ns top =
    record {
      node = slice_get ns;
      class = slice_get (tide ((3, q) ∷ []) ∷ []);
      classes = 1;
      root = top;
      holder = λ k. cond (nat_le k q.result) (Some (0, q)) None;
      text = λ n. unwrap_or (slice_get (codes "high" ∷ codes "next" ∷ codes "Tide" ∷ m ∷ []) n) [];
    }

abbrev pub given : Rule → Book → ℕ → Given
given R B p = record { book = B; rule = R; day = []; places = p }

-- `m - n`
abbrev pub minus : ℤ → ℤ → Book
minus m n = a_book (Literal m ∷ Literal n ∷ Minus 0 1 ∷ []) 2

-- `new Tide().set(412)`, with `Tide set(int h) { this.high = h; return this; }`
abbrev pub set_412 : Book
set_412 = a_book_with (record { takes = T.Int; gives = T.Class 0; body = 2; result = 3 }) (codes "set") (This ∷ Parameter ∷ FieldWrite 0 1 0 ∷ This ∷ New 0 ∷ Literal (pos 412) ∷ Call 4 5 3 ∷ []) 6

-- `reading(0)`
abbrev pub reading_0 : Book
reading_0 = a_book (Literal (pos 0) ∷ Reading 0 ∷ []) 1

-- `new Tide().poke(0)`, with `int poke(int h) { skip; return this.next.poke(h); }`
abbrev pub poke_0 : Book
poke_0 = a_book_with (record { takes = T.Int; gives = T.Int; body = 0; result = 4 }) (codes "poke") (Skip ∷ This ∷ FieldRead 1 1 ∷ Parameter ∷ Call 2 3 3 ∷ New 0 ∷ Literal (pos 0) ∷ Call 5 6 3 ∷ []) 7

-- `new Tide().spin(0)`, with `int spin(int h) { skip; return this.spin(h); }`
abbrev pub spin_0 : Book
spin_0 = a_book_with (record { takes = T.Int; gives = T.Int; body = 0; result = 3 }) (codes "spin") (Skip ∷ This ∷ Parameter ∷ Call 1 2 3 ∷ New 0 ∷ Literal (pos 0) ∷ Call 4 5 3 ∷ []) 6

-- `new Tide()`
abbrev pub new_tide : Book
new_tide = a_book (New 0 ∷ []) 0

-- `new Tide().high`, `7 - (1 < 2)` and `this`, at the top
abbrev pub high_at_top : Book
high_at_top = a_book (New 0 ∷ FieldRead 0 0 ∷ []) 1

abbrev pub minus_test : Book
minus_test = a_book (Literal (pos 7) ∷ Literal (pos 1) ∷ Literal (pos 2) ∷ Less 1 2 ∷ Minus 0 3 ∷ []) 4

abbrev pub this_at_top : Book
this_at_top = a_book (This ∷ []) 0

-- Over a store with the limits r and q it finishes after n steps in a state of P; it ends after n steps with e at node k:
-- whatever allowance it is given, if only that suffices.
abbrev pub Finishes : Given → ℕ → ℕ → ℕ → (State → Type 0) → Type 0
Finishes G r q n P = (s : State) × P s × ((b : ℕ) → n ≤ b → Worked G r q b s n 0 0)

abbrev pub Ends : Given → ℕ → ℕ → ℕ → ℕ → ℕ → Type 0
Ends G r q n e k = (s : State) × ((b : ℕ) → n ≤ b → Worked G r q b s n e k)

-- The program that a book stands for has no type.
abbrev pub HasNoType : Book → Type 0
HasNoType B = (p : Program) (ce : CE) (u : Ty) → Says B p → p ⇝ ce ∣ u → ⊥

-- The specimens, with the steps that each takes.
pub record Specimens (minus_steps set_steps reading_steps poke_steps spin_steps new_steps : ℕ) : Type 0 where
  -- the difference of two literals
  pub difference : (R : Rule) (m n d : ℤ) → R.difference m n ≡ Some d → Finishes (given R (minus m n) 256) 256 2048 minus_steps (λ s. hand_of s ≡ Have (Int d))
  -- end 33 where there is none
  pub no_difference : (R : Rule) (m n : ℤ) → within R m ≡ true → within R n ≡ true → R.difference m n ≡ None → Ends (given R (minus m n) 256) 256 2048 minus_steps 33 2
  -- 7 - 2; 2147483647 - -1, which does not fit under Strict and wraps round under Java; 0 - 1 on Clock
  pub seven_minus_two : Finishes (given strict (minus (pos 7) (pos 2)) 256) 256 2048 minus_steps (λ s. hand_of s ≡ Have (Int (pos 5)))
  pub does_not_fit : Ends (given strict (minus (pos 2147483647) (negsuc 0)) 256) 256 2048 minus_steps 33 2
  pub wraps_round : Finishes (given java (minus (pos 2147483647) (negsuc 0)) 256) 256 2048 minus_steps (λ s. hand_of s ≡ Have (Int (negsuc 2147483647)))
  pub before_midnight : Finishes (given clock (minus (pos 0) (pos 1)) 256) 256 2048 minus_steps (λ s. hand_of s ≡ Have (Int (pos 1439)))
  -- one Tide, with high=412 and next=null
  pub set : (R : Rule) → within R (pos 412) ≡ true
      → Finishes (given R set_412 256) 256 2048 set_steps
      (λ s. (l : ℕ) × (hand_of s ≡ Have (Handle l)) × ((store_of s).look l ≡ Some (record { class = 0; values = Int (pos 412) ∷ Null ∷ [] })) × ((store_of s).count ≡ 1))
  -- it is accepted, with the class Tide for its type
  pub set_accepted : (ce : CE) × (e : Expr) × Accepted set_412 ce e (class 2)
  -- a field of another class, a boolean where an int is needed, and `this` at the top have no type
  pub high_has_no_type : HasNoType high_at_top
  pub test_has_no_type : HasNoType minus_test
  pub this_has_no_type : HasNoType this_at_top
  -- no readings: end 32
  pub reading : (R : Rule) → Ends (given R reading_0 256) 256 2048 reading_steps 32 1
  -- next is null: end 31
  pub poke : (R : Rule) → Ends (given R poke_0 256) 256 2048 poke_steps 31 4
  -- one row: end 35
  pub spin : (R : Rule) → Ends (given R spin_0 1) 256 2048 spin_steps 35 3
  -- no record, or one cell where two are needed: end 34; one record and two cells suffice
  pub no_records : (R : Rule) (q : ℕ) → Ends (given R new_tide 256) 0 q new_steps 34 0
  pub one_cell : (R : Rule) (r : ℕ) → Ends (given R new_tide 256) r 1 new_steps 34 0
  pub enough : (R : Rule) → Finishes (given R new_tide 256) 1 2 new_steps (λ s. (l : ℕ) × (hand_of s ≡ Have (Handle l)))
