-- The specimens, line by line.
use Rattle.std.proofs.Common.{◌≡◌, ℕ, suc, ◌≤◌, Bool, true, false, ◌&&◌, leb, List, [], ◌∷◌, length, ℤ, pos, negsuc, Some, None, refl, arith}
use Rattle.book.specs.declared.node.Node.TheVariants.{Literal, Minus, New}
use Rattle.std.specs.Int.{int_wrap}
use Rattle.numbers.specs.Rule.{Rule, within, between, least32, most32}
use Rattle.numbers.specs.Rules.{strict, java, clock}
use Rattle.store.specs.declared.Value.TheVariants.{Int, Null, Handle}
use Rattle.store.specs.Meaning.{Store, room, added, written, nothing}
use Rattle.cool.specs.Book.{Part}
use Rattle.machine.specs.declared.state.Around.{Around}
use Rattle.machine.specs.declared.state.Hand.TheVariants.{Go, Have}
use Rattle.machine.specs.declared.state.Stage.TheVariants.{Second}
use Rattle.machine.specs.declared.state.Row.{Row}
use Rattle.machine.specs.Machine.{row, around, State, state, hand_of, store_of, ends, finished, Given, or_ends, or_misfit, unless, two_ints, an_int, a_test, null_or, not_null, the_cell, put_on, step, Line, line_next, line_make, start, Reached, at_start, one_more}
use Rattle.machine.specs.Runs.{Worked, was_finished, was_ended}
use Rattle.machine.specs.Specimens.{given, minus, set_412, reading_0, poke_0, spin_0, new_tide, Finishes, Ends, Specimens}
use Rattle.machine.proofs.Fits.{within_ends}
use Rattle.machine.proofs.Tide.{set_accepted, high_has_no_type, test_has_no_type, this_has_no_type}

unfoldable opened : Type 0
unfolding or_ends or_misfit unless two_ints an_int a_test null_or not_null the_cell put_on added written
opened = Unit {0}

-- a literal, and a difference
literal : {G : Given} {k : ℕ} {n : ℤ} {ε : Around} {ρ : List Row} {S : Store} → G.book.node k ≡ Some (Literal n) → within G.rule n ≡ true → Line G (state (Go k) ε ρ S) (state (Have (Int n)) ε ρ S)
unfolding opened
literal e w = line_next (rw (e, w))

finishes : {G : Given} {r q n : ℕ} {s : State} → Reached G r q n s → step G s ≡ finished → (b : ℕ) → n ≤ b → Worked G r q b s n 0 0
finishes x f b l = was_finished x f l

stops : {G : Given} {r q n e k : ℕ} {s : State} → Reached G r q n s → step G s ≡ ends e k → (b : ℕ) → suc n ≤ b → Worked G r q b s (suc n) e k
stops x f b l = was_ended x f l

subtract : {G : Given} {k a b : ℕ} {m n d : ℤ} {ε : Around} {ρ : List Row} {S : Store} → G.book.node k ≡ Some (Minus a b) → G.rule.difference m n ≡ Some d
    → Line G (state (Have (Int n)) ε (row k (Second (Int m)) ∷ ρ) S) (state (Have (Int d)) ε ρ S)
unfolding opened
subtract e i = line_next (rw (e, i))

minus_ends : (G : Given) (k : ℕ) {a b : ℕ} (m n : ℤ) (ε : Around) (ρ : List Row) (S : Store) → G.book.node k ≡ Some (Minus a b) → G.rule.difference m n ≡ None
    → step G (state (Have (Int n)) ε (row k (Second (Int m)) ∷ ρ) S) ≡ ends 33 k
unfolding opened
minus_ends G k m n ε ρ S e i = rw (e, i)

-- up to the second literal's value
minus_4 : (R : Rule) (m n : ℤ) → within R m ≡ true → within R n ≡ true → Reached (given R (minus m n) 256) 256 2048 4 (state (Have (Int n)) (around None None) (row 2 (Second (Int m)) ∷ []) (nothing 256 2048))
unfolding opened
minus_4 R m n v w = one_more (one_more (one_more (one_more (at_start refl) (line_next refl)) (literal refl v)) (line_next refl)) (literal refl w)

difference : (R : Rule) (m n d : ℤ) → R.difference m n ≡ Some d → Finishes (given R (minus m n) 256) 256 2048 5 (λ s. hand_of s ≡ Have (Int d))
difference R m n d e =
    let w = R.only_within m n d e in
    (_, refl, finishes (one_more (minus_4 R m n (within_ends R m w.0) (within_ends R n w.1)) (subtract refl e)) refl)

no_difference : (R : Rule) (m n : ℤ) → within R m ≡ true → within R n ≡ true → R.difference m n ≡ None → Ends (given R (minus m n) 256) 256 2048 5 33 2
no_difference R m n v w e = (_, stops (minus_4 R m n v w) (minus_ends (given R (minus m n) 256) 2 m n _ _ _ refl e))

set_412_worked : (R : Rule) → within R (pos 412) ≡ true
    → Finishes (given R set_412 256) 256 2048 13
    (λ s. (l : ℕ) × (hand_of s ≡ Have (Handle l)) × ((store_of s).look l ≡ Some (record { class = 0; values = Int (pos 412) ∷ Null ∷ [] })) × ((store_of s).count ≡ 1))
unfolding opened
set_412_worked R w =
    let G = given R set_412 256 in
    let a : Reached G 256 2048 1 _ = one_more (at_start refl) (line_next refl) in
    let b : Reached G 256 2048 2 _ = one_more a (line_make 0 refl refl refl (omega arith) refl) in
    let c : Reached G 256 2048 3 _ = one_more b (line_next refl) in
    let d : Reached G 256 2048 4 _ = one_more c (literal refl w) in
    let e : Reached G 256 2048 5 _ = one_more d (line_next refl) in
    let f : Reached G 256 2048 6 _ = one_more e (line_next refl) in
    let g : Reached G 256 2048 7 _ = one_more f (line_next refl) in
    let h : Reached G 256 2048 8 _ = one_more g (line_next refl) in
    let i : Reached G 256 2048 9 _ = one_more h (line_next refl) in
    let j : Reached G 256 2048 10 _ = one_more i (line_next refl) in
    let k : Reached G 256 2048 11 _ = one_more j (line_next refl) in
    let l : Reached G 256 2048 12 _ = one_more k (line_next refl) in
    let m : Reached G 256 2048 13 _ = one_more l (line_next refl) in
    (_, (0, refl, refl, refl), finishes m refl)

zero_within : (R : Rule) → within R (pos 0) ≡ true
zero_within R = within_ends R (pos 0) R.zero

reading_0_worked : (R : Rule) → Ends (given R reading_0 256) 256 2048 3 32 1
unfolding opened
reading_0_worked R = (_, stops (one_more (one_more (at_start refl) (line_next refl)) (literal refl (zero_within R))) refl)

poke_0_worked : (R : Rule) → Ends (given R poke_0 256) 256 2048 12 31 4
unfolding opened
poke_0_worked R =
    let G = given R poke_0 256 in
    let a : Reached G 256 2048 1 _ = one_more (at_start refl) (line_next refl) in
    let b : Reached G 256 2048 2 _ = one_more a (line_make 0 refl refl refl (omega arith) refl) in
    let c : Reached G 256 2048 3 _ = one_more b (line_next refl) in
    let d : Reached G 256 2048 4 _ = one_more c (literal refl (zero_within R)) in
    let e : Reached G 256 2048 5 _ = one_more d (line_next refl) in
    let f : Reached G 256 2048 6 _ = one_more e (line_next refl) in
    let g : Reached G 256 2048 7 _ = one_more f (line_next refl) in
    let h : Reached G 256 2048 8 _ = one_more g (line_next refl) in
    let i : Reached G 256 2048 9 _ = one_more h (line_next refl) in
    let j : Reached G 256 2048 10 _ = one_more i (line_next refl) in
    let k : Reached G 256 2048 11 _ = one_more j (line_next refl) in
    (_, stops k refl)

spin_0_worked : (R : Rule) → Ends (given R spin_0 1) 256 2048 8 35 3
unfolding opened
spin_0_worked R =
    let G = given R spin_0 1 in
    let a : Reached G 256 2048 1 _ = one_more (at_start refl) (line_next refl) in
    let b : Reached G 256 2048 2 _ = one_more a (line_make 0 refl refl refl (omega arith) refl) in
    let c : Reached G 256 2048 3 _ = one_more b (line_next refl) in
    let d : Reached G 256 2048 4 _ = one_more c (literal refl (zero_within R)) in
    let e : Reached G 256 2048 5 _ = one_more d (line_next refl) in
    let f : Reached G 256 2048 6 _ = one_more e (line_next refl) in
    let g : Reached G 256 2048 7 _ = one_more f (line_next refl) in
    (_, stops g refl)

no_room : (G : Given) (r q : ℕ) → G.book.node G.book.root ≡ Some (New 0) → (p : Part) → G.book.class 0 ≡ Some p → room (nothing r q) (length p.fields) ≡ false → Ends G r q 1 34 G.book.root
unfolding opened
no_room G r q e p i m = (start G r q, stops (at_start refl) (rw (e, i, m)))

no_cell : (a : Bool) → a && leb 2 1 ≡ false
no_cell true = refl
no_cell false = refl

enough : (R : Rule) → Finishes (given R new_tide 256) 1 2 1 (λ s. (l : ℕ) × (hand_of s ≡ Have (Handle l)))
enough R = (_, (0, refl), finishes (one_more (at_start refl) (line_make 0 refl refl refl (omega arith) refl)) refl)

wraps : java.difference (pos 2147483647) (negsuc 0) ≡ Some (negsuc 2147483647)
unfolding int_wrap
wraps = refl

in_strict : (n : ℤ) → between least32 most32 n ≡ true → within strict n ≡ true
unfolding within
in_strict n e = e

pub specimens : Specimens 5 13 3 12 8 1
specimens =
    record {
      difference = difference;
      no_difference = no_difference;
      seven_minus_two = difference strict (pos 7) (pos 2) (pos 5) refl;
      does_not_fit = no_difference strict (pos 2147483647) (negsuc 0) (in_strict (pos 2147483647) refl) (in_strict (negsuc 0) refl) refl;
      wraps_round = difference java (pos 2147483647) (negsuc 0) (negsuc 2147483647) wraps;
      before_midnight = difference clock (pos 0) (pos 1) (pos 1439) refl;
      set = set_412_worked;
      set_accepted = set_accepted;
      high_has_no_type = high_has_no_type;
      test_has_no_type = test_has_no_type;
      this_has_no_type = this_has_no_type;
      reading = reading_0_worked;
      poke = poke_0_worked;
      spin = spin_0_worked;
      no_records = λ R q. no_room (given R new_tide 256) 0 q refl _ refl refl;
      one_cell = λ R r. no_room (given R new_tide 256) r 1 refl _ refl (no_cell _);
      enough = enough;
    }
