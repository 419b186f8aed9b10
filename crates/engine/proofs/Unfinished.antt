-- Only a value, or done, with no rows is finished.
use Rattle.std.proofs.Common.{◌≡◌, ℕ, Bool, true, false, eqb, List, [], ◌∷◌, length, ℤ, Some, None, Option, refl, subst, arith}
use Rattle.std.proofs.lemmas.Bool.Decides.{nat_tests}
use Rattle.book.specs.declared.node.Node.{Node}
use Rattle.book.specs.declared.node.Node.TheVariants.{Literal, Minus, Less, Equal, IsNull, This, Parameter, FieldRead, Call, New, Reading, FieldWrite, Sequence, If, While, Skip}
use Rattle.book.specs.declared.node.Type.{«Type» as BType}
use Rattle.store.specs.declared.Value.{Value}
use Rattle.store.specs.declared.Value.TheVariants.{Int, Boolean, Null, Handle}
use Rattle.store.specs.Meaning.{Store}
use Rattle.cool.specs.Syntax.{Name}
use Rattle.machine.specs.declared.state.Around.{Around}
use Rattle.machine.specs.declared.state.Hand.{Hand}
use Rattle.machine.specs.declared.state.Hand.TheVariants.{Go, Have, Done}
use Rattle.machine.specs.declared.state.Row.{Row}
use Rattle.machine.specs.Machine.{state, Outcome, next, makes, ends, finished, misfit, Given, op_minus, op_less, op_equal, op_null, op_field, op_reading, Frame, two₁, two₂, one₁, call₁, call₂, call₃, call₄, write₁, write₂, sequence₁, if₁, while₁, while₂, no_line, frame, or_ends, or_misfit, unless, two_ints, an_int, a_test, null_or, not_null, the_cell, put_on, step_go, step_have, step_done, step}
use Rattle.engine.specs.Moves.{at_rest}

abbrev Going : Outcome → Type 0
Going (next s) = Unit {0}
Going (makes c) = Unit {0}
Going (ends e k) = Unit {0}
Going finished = ⊥
Going misfit = Unit {0}

or_ends_on : {A : Type 0} (e k : ℕ) (x : Option A) (f : A → Outcome) → ((a : A) → Going (f a)) → Going (or_ends e k x f)
unfolding or_ends
or_ends_on e k None f h = tt
or_ends_on e k (Some a) f h = h a

or_misfit_on : {A : Type 0} (x : Option A) (f : A → Outcome) → ((a : A) → Going (f a)) → Going (or_misfit x f)
unfolding or_misfit
or_misfit_on None f h = tt
or_misfit_on (Some a) f h = h a

unless_on : (e k : ℕ) (b : Bool) (o : Outcome) → Going o → Going (unless e k b o)
unfolding unless
unless_on e k true o h = h
unless_on e k false o h = tt

two_ints_on : (u v : Value) (f : ℤ → ℤ → Outcome) → ((m n : ℤ) → Going (f m n)) → Going (two_ints u v f)
unfolding two_ints
two_ints_on (Int m) (Int n) f h = h m n
two_ints_on (Int m) (Boolean b) f h = tt
two_ints_on (Int m) Null f h = tt
two_ints_on (Int m) (Handle l) f h = tt
two_ints_on (Boolean b) v f h = tt
two_ints_on Null v f h = tt
two_ints_on (Handle l) v f h = tt

an_int_on : (v : Value) (f : ℤ → Outcome) → ((n : ℤ) → Going (f n)) → Going (an_int v f)
unfolding an_int
an_int_on (Int n) f h = h n
an_int_on (Boolean b) f h = tt
an_int_on Null f h = tt
an_int_on (Handle l) f h = tt

a_test_on : (v : Value) (o p : Outcome) → Going o → Going p → Going (a_test v o p)
unfolding a_test
a_test_on (Int n) o p h i = tt
a_test_on (Boolean true) o p h i = h
a_test_on (Boolean false) o p h i = i
a_test_on Null o p h i = tt
a_test_on (Handle l) o p h i = tt

null_or_on : (v : Value) (o : Outcome) (f : ℕ → Outcome) → Going o → ((l : ℕ) → Going (f l)) → Going (null_or v o f)
unfolding null_or
null_or_on (Int n) o f h i = tt
null_or_on (Boolean b) o f h i = tt
null_or_on Null o f h i = h
null_or_on (Handle l) o f h i = i l

not_null_on : (k : ℕ) (v : Value) (o : Outcome) → Going o → Going (not_null k v o)
unfolding not_null
not_null_on k (Int n) o h = h
not_null_on k (Boolean b) o h = h
not_null_on k Null o h = tt
not_null_on k (Handle l) o h = h

the_cell_on : (fs : List (Name × BType)) (vs : List Value) (f : Name) (g : ℕ → Value → Outcome) → ((i : ℕ) (v : Value) → Going (g i v)) → Going (the_cell fs vs f g)
unfolding the_cell
the_cell_on fs vs f g h = or_misfit_on _ _ (λ i. or_misfit_on _ _ (λ v. h i v))

put_on_on : (G : Given) (k a : ℕ) (ε : Around) (ρ : List Row) (S : Store) → Going (put_on G k a ε ρ S)
unfolding put_on
put_on_on G k a ε ρ S = unless_on 35 k _ _ tt

go_on : (G : Given) (o : Option Node) (k : ℕ) (ε : Around) (ρ : List Row) (S : Store) → Going (step_go G o k ε ρ S)
go_on G None k ε ρ S = tt
go_on G (Some (Literal n)) k ε ρ S = unless_on 33 k _ _ tt
go_on G (Some This) k ε ρ S = or_misfit_on _ _ (λ l. tt)
go_on G (Some Parameter) k ε ρ S = or_misfit_on _ _ (λ v. tt)
go_on G (Some (New c)) k ε ρ S = or_misfit_on _ _ (λ p. unless_on 34 k _ _ tt)
go_on G (Some Skip) k ε ρ S = tt
go_on G (Some (Minus a b)) k ε ρ S = put_on_on G k a ε ρ S
go_on G (Some (Less a b)) k ε ρ S = put_on_on G k a ε ρ S
go_on G (Some (Equal a b)) k ε ρ S = put_on_on G k a ε ρ S
go_on G (Some (IsNull a)) k ε ρ S = put_on_on G k a ε ρ S
go_on G (Some (FieldRead a f)) k ε ρ S = put_on_on G k a ε ρ S
go_on G (Some (Call a b m)) k ε ρ S = put_on_on G k a ε ρ S
go_on G (Some (Reading a)) k ε ρ S = put_on_on G k a ε ρ S
go_on G (Some (FieldWrite a b f)) k ε ρ S = put_on_on G k a ε ρ S
go_on G (Some (Sequence a b)) k ε ρ S = put_on_on G k a ε ρ S
go_on G (Some (If a b d)) k ε ρ S = put_on_on G k a ε ρ S
go_on G (Some (While a b)) k ε ρ S = put_on_on G k a ε ρ S

have_on : (G : Given) (f : Frame) (k : ℕ) (v : Value) (ε : Around) (ρ : List Row) (S : Store) → Going (step_have G f k v ε ρ S)
have_on G (two₁ o b) k v ε ρ S = tt
have_on G (two₂ op_minus u) k v ε ρ S = two_ints_on u v _ (λ m n. or_ends_on 33 k _ _ (λ d. tt))
have_on G (two₂ op_less u) k v ε ρ S = two_ints_on u v _ (λ m n. tt)
have_on G (two₂ op_equal u) k v ε ρ S = two_ints_on u v _ (λ m n. tt)
have_on G (one₁ op_null) k v ε ρ S = null_or_on v _ _ tt (λ l. tt)
have_on G (one₁ (op_field g)) k v ε ρ S = null_or_on v _ _ tt (λ l. or_misfit_on _ _ (λ o. the_cell_on _ _ g _ (λ i w. tt)))
have_on G (one₁ op_reading) k v ε ρ S = an_int_on v _ (λ i. or_ends_on 32 k _ _ (λ n. unless_on 33 k _ _ tt))
have_on G (call₁ b m) k v ε ρ S = not_null_on k v _ tt
have_on G (call₂ m u) k v ε ρ S = null_or_on u _ _ tt (λ l. or_misfit_on _ _ (λ o. or_misfit_on _ _ (λ q. tt)))
have_on G (call₃ m δ) k v ε ρ S = tt
have_on G (call₄ δ) k v ε ρ S = tt
have_on G (write₁ b f) k v ε ρ S = not_null_on k v _ tt
have_on G (write₂ f u) k v ε ρ S = null_or_on u _ _ tt (λ l. or_misfit_on _ _ (λ o. the_cell_on _ _ f _ (λ i w. tt)))
have_on G (if₁ b d) k v ε ρ S = a_test_on v _ _ tt tt
have_on G (while₁ a b) k v ε ρ S = a_test_on v _ _ tt tt
have_on G (sequence₁ b) k v ε ρ S = tt
have_on G (while₂ a b) k v ε ρ S = tt
have_on G no_line k v ε ρ S = tt

done_on : (G : Given) (f : Frame) (k : ℕ) (ε : Around) (ρ : List Row) (S : Store) → Going (step_done G f k ε ρ S)
done_on G (call₃ m δ) k ε ρ S = or_misfit_on _ _ (λ l. or_misfit_on _ _ (λ o. or_misfit_on _ _ (λ q. tt)))
done_on G (sequence₁ b) k ε ρ S = tt
done_on G (while₂ a b) k ε ρ S = tt
done_on G (two₁ o b) k ε ρ S = tt
done_on G (two₂ o u) k ε ρ S = tt
done_on G (one₁ o) k ε ρ S = tt
done_on G (call₁ b m) k ε ρ S = tt
done_on G (call₂ m u) k ε ρ S = tt
done_on G (call₄ δ) k ε ρ S = tt
done_on G (write₁ b f) k ε ρ S = tt
done_on G (write₂ f u) k ε ρ S = tt
done_on G (if₁ b d) k ε ρ S = tt
done_on G (while₁ a b) k ε ρ S = tt
done_on G no_line k ε ρ S = tt

not_finished : {o : Outcome} → Going o → o ≡ finished → ⊥
not_finished {o} h e = subst Going e h

-- at rest is finished, and nothing else is
pub at_rest_finished : (G : Given) (x : Hand) (ε : Around) (ρ : List Row) (S : Store) → at_rest x ρ ≡ true → step G (state x ε ρ S) ≡ finished
at_rest_finished G (Go k) ε ρ S e = let z : ◌≡◌ {A = ℕ} 0 1 = cc in absurd (omega arith)
at_rest_finished G (Have v) ε [] S e = refl
at_rest_finished G (Have v) ε (q ∷ ρ) S e = let z : ◌≡◌ {A = ℕ} 0 1 = cc in absurd (omega arith)
at_rest_finished G Done ε [] S e = refl
at_rest_finished G Done ε (q ∷ ρ) S e = let z : ◌≡◌ {A = ℕ} 0 1 = cc in absurd (omega arith)

pub not_at_rest : (G : Given) (x : Hand) (ε : Around) (ρ : List Row) (S : Store) → at_rest x ρ ≡ false → step G (state x ε ρ S) ≡ finished → ⊥
not_at_rest G (Go k) ε ρ S e f = not_finished (go_on G (G.book.node k) k ε ρ S) f
not_at_rest G (Have v) ε [] S e f = let z : ◌≡◌ {A = ℕ} 0 1 = cc in omega arith
not_at_rest G (Have v) ε (q ∷ ρ) S e f = not_finished (have_on G (frame (G.book.node q.node) q.stage) q.node v ε ρ S) f
not_at_rest G Done ε [] S e f = let z : ◌≡◌ {A = ℕ} 0 1 = cc in omega arith
not_at_rest G Done ε (q ∷ ρ) S e f = not_finished (done_on G (frame (G.book.node q.node) q.stage) q.node ε ρ S) f

-- how the code tells
pub rest_have : (v : Value) (ρ : List Row) → eqb (length ρ) 0 ≡ at_rest (Have v) ρ
rest_have v [] = refl
rest_have v (q ∷ ρ) = grind (arith, nat_tests)

pub rest_done : (ρ : List Row) → eqb (length ρ) 0 ≡ at_rest Done ρ
rest_done [] = refl
rest_done (q ∷ ρ) = grind (arith, nat_tests)
