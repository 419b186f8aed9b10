-- New records: their first values, and the line that makes one.
use Rattle.std.proofs.Common.{◌≡◌, ℕ, zero, suc, ◌<◌, true, eqb, List, [], ◌∷◌, map, length, get_or, Some, None, sym, refl, ap, ◌∙◌, subst, arith}
use Rattle.std.proofs.lemmas.Bool.Decides.{nat_tests}
use Rattle.book.specs.declared.entry.Field.{Field}
use Rattle.book.specs.declared.node.Node.TheVariants.{New}
use Rattle.book.specs.declared.node.Type.{«Type» as BType}
use Rattle.store.specs.declared.Value.{Value}
use Rattle.store.specs.declared.Value.TheVariants.{Handle}
use Rattle.store.specs.Meaning.{Rec, Store, Means, store, room, added, made, Makes, Bounded}
use Rattle.cool.specs.Syntax.{Name}
use Rattle.cool.specs.Book.{Part, fields_of}
use Rattle.checked.specs.Checked.{named_field}
use Rattle.machine.specs.declared.state.Around.{Around}
use Rattle.machine.specs.declared.state.Hand.TheVariants.{Go, Have}
use Rattle.machine.specs.declared.state.Row.{Row}
use Rattle.machine.specs.Fields.{first_value, first_values}
use Rattle.machine.specs.Machine.{state, Given, step, step_go, ends, misfit, makes, line_make, Line}
use Rattle.engine.proofs.Outcomes.{misfit_at, goes_on, unless_false}

values_length : (fs : List (Name × BType)) → length (first_values fs) ≡ length fs
values_length [] = refl
values_length (x ∷ fs) = ap suc (values_length fs)

pub first_length : (fs : List Field) → length (first_values (map named_field fs)) ≡ length fs
first_length [] = refl
first_length (x ∷ fs) = ap suc (first_length fs)

pub first_at : (fs : List Field) (i : ℕ) (d : Field) (v : Value) → i < length fs → get_or (first_values (map named_field fs)) i v ≡ first_value (get_or fs i d).typed
first_at [] i d v l = absurd (omega arith)
first_at (x ∷ fs) zero d v l = refl
first_at (x ∷ fs) (suc i) d v l = first_at fs i d v (omega arith)

eqb_same : (h : ℕ) → eqb h h ≡ true
eqb_same h = grind (arith, nat_tests)

found_added : (S : Store) (h : ℕ) (x : Rec) → (added S h x).look h ≡ Some x
unfolding added
found_added S h x = rw (eqb_same h)

-- the line that makes a record of class c with its first values, and the ends that it can come to
module _ (G : Given) (k c : ℕ) (ε : Around) (ρ : List Row) (is : G.book.node k ≡ Some (New c)) where
  at_new : (S : Store) → step G (state (Go k) ε ρ S) ≡ step_go G (Some (New c)) k ε ρ S
  at_new S = ap (λ o. step_go G o k ε ρ S) is

  pub no_class : (S : Store) → G.book.class c ≡ None → step G (state (Go k) ε ρ S) ≡ misfit
  no_class S e = at_new S ∙ misfit_at _ e

  -- of the class's part and its fields, as they were looked up
  module _ (p : Part) (fs : List (Name × BType)) (there : Some p ≡ G.book.class c) (own : fs ≡ fields_of (G.book.class c)) where
    same_fields : fs ≡ p.fields
    same_fields = own ∙ ap fields_of (sym there)

    pub no_room : (m n : Means) → Makes m c (first_values fs) None n → step G (state (Go k) ε ρ (store m)) ≡ ends 34 k
    no_room m n h =
        at_new (store m) ∙ goes_on _ p (sym there)
        ∙ unless_false 34 k (makes c) (ap (room (store m)) (sym (ap length same_fields) ∙ sym (values_length fs)) ∙ h.0)

    pub makes_one : (m n : Means) (l : ℕ) → Makes m c (first_values fs) (Some l) n → Bounded (store n)
        → Line G (state (Go k) ε ρ (store m)) (state (Have (Handle l)) ε ρ (store n))
    makes_one m n l h b =
        let x = made c (first_values fs) in
        let found : (store n).look l ≡ Some x = ap (λ (S : Store). S.look l) h.2 ∙ found_added (store m) l x in
        let P : Store → Type 0 = λ S. Line G (state (Go k) ε ρ (store m)) (state (Have (Handle l)) ε ρ S) in
        let Q : List (Name × BType) → Type 0 = λ gs. Line G (state (Go k) ε ρ (store m)) (state (Have (Handle l)) ε ρ (added (store m) l (made c (first_values gs)))) in
        let line : Q p.fields = line_make l is (sym there) (ap (room (store m)) (sym (ap length same_fields) ∙ sym (values_length fs)) ∙ h.0) (b.low_handles l x found) h.1 in
        subst P (sym h.2) (subst Q (sym same_fields) line)
