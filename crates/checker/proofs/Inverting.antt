-- Taking an answer of the checker apart.
use Rattle.std.proofs.Common.{◌≡◌, ℕ, Bool, true, false, cond, eqb, Some, None, Ok, Err, Option, Result, sym, refl, ap}
use Rattle.std.proofs.lemmas.Bool.{eqb-true}
use Rattle.book.specs.declared.node.Node.{Node}
use Rattle.book.specs.declared.node.«Type».{«Type» as BType}
use Rattle.book.specs.declared.node.«Type».TheVariants.{Int, Boolean, Class}
use Rattle.cool.specs.Syntax.{Name, find}
use Rattle.cool.specs.Book.{Book, fields_of}
use Rattle.cool.specs.Nodes.{Where, at_top, in_method}
use Rattle.checker.specs.declared.fault.TypeFault.{TypeFault}
use Rattle.checker.specs.Checking.{same, an_int, a_boolean, of_class, of_type, member, inside, own_field, then_com, before, at_node}

-- types that the checker finds the same
pub same_types : (t u : BType) → same t u ≡ true → t ≡ u
same_types Int Int h = refl
same_types Int Boolean h = cc
same_types Int (Class d) h = cc
same_types Boolean Int h = cc
same_types Boolean Boolean h = refl
same_types Boolean (Class d) h = cc
same_types (Class c) Int h = cc
same_types (Class c) Boolean h = cc
same_types (Class c) (Class d) h = ap Class (eqb-true c d h)

module _ {A : Type 0} where
  pub an_int_ok : (k : ℕ) (x : Result BType TypeFault) (r : Result A TypeFault) (a : A) → an_int k x r ≡ Ok a → (x ≡ Ok Int) × (r ≡ Ok a)
  an_int_ok k (Err e) r a h = cc
  an_int_ok k (Ok Int) r a h = (refl, h)
  an_int_ok k (Ok Boolean) r a h = cc
  an_int_ok k (Ok (Class c)) r a h = cc

  pub a_boolean_ok : (k : ℕ) (x : Result BType TypeFault) (r : Result A TypeFault) (a : A) → a_boolean k x r ≡ Ok a → (x ≡ Ok Boolean) × (r ≡ Ok a)
  a_boolean_ok k (Err e) r a h = cc
  a_boolean_ok k (Ok Int) r a h = cc
  a_boolean_ok k (Ok Boolean) r a h = (refl, h)
  a_boolean_ok k (Ok (Class c)) r a h = cc

  pub of_class_ok : (k : ℕ) (x : Result BType TypeFault) (f : ℕ → Result A TypeFault) (a : A) → of_class k x f ≡ Ok a → (c : ℕ) × (x ≡ Ok (Class c)) × (f c ≡ Ok a)
  of_class_ok k (Err e) f a h = cc
  of_class_ok k (Ok Int) f a h = cc
  of_class_ok k (Ok Boolean) f a h = cc
  of_class_ok k (Ok (Class c)) f a h = (c, refl, h)

  of_type_by : (k : ℕ) (t u : BType) (b : Bool) (r : Result A TypeFault) (e : TypeFault) (a : A) → same t u ≡ b → cond b r (Err e) ≡ Ok a → (t ≡ u) × (r ≡ Ok a)
  of_type_by k t u true r e a s h = (same_types t u s, h)
  of_type_by k t u false r e a s h = cc

  pub of_type_ok : (k : ℕ) (x : Result BType TypeFault) (u : BType) (r : Result A TypeFault) (a : A) → of_type k x u r ≡ Ok a → (x ≡ Ok u) × (r ≡ Ok a)
  of_type_ok k (Err e) u r a h = cc
  of_type_ok k (Ok t) u r a h = let p = of_type_by k t u (same t u) r _ a refl h in (ap Ok p.0, p.1)

  pub member_ok : {M : Type 0} (k : ℕ) (o : Option M) (f : M → Result A TypeFault) (a : A) → member k o f ≡ Ok a → (m : M) × (o ≡ Some m) × (f m ≡ Ok a)
  member_ok k None f a h = cc
  member_ok k (Some m) f a h = (m, refl, h)

  pub inside_ok : (k : ℕ) (Γ : Where) (f : ℕ → BType → Result A TypeFault) (a : A) → inside k Γ f ≡ Ok a → (c : ℕ) × (u : BType) × (Γ ≡ in_method c u) × (f c u ≡ Ok a)
  inside_ok k at_top f a h = cc
  inside_ok k (in_method c u) f a h = (c, u, refl, h)

own_by : (B : Book) (d c : ℕ) (f : Name) (u w : BType) (b : Bool) → eqb c d ≡ b → cond b (find (fields_of (B.class c)) f) None ≡ Some w
    → (in_method d u ≡ in_method c u) × (find (fields_of (B.class c)) f ≡ Some w)
own_by B d c f u w true e h = (ap (λ x. in_method x u) (sym (eqb-true c d e)), h)
own_by B d c f u w false e h = cc

pub own_field_ok : (B : Book) (Γ : Where) (c : ℕ) (f : Name) (w : BType) → own_field B Γ c f ≡ Some w → (u : BType) × (Γ ≡ in_method c u) × (find (fields_of (B.class c)) f ≡ Some w)
own_field_ok B at_top c f w h = cc
own_field_ok B (in_method d u) c f w h = let p = own_by B d c f u w (eqb c d) refl h in (u, p.0, p.1)

pub then_com_ok : (x r : Result (Unit {0}) TypeFault) (a : Unit {0}) → then_com x r ≡ Ok a → (x ≡ Ok tt) × (r ≡ Ok a)
then_com_ok (Err e) r a h = cc
then_com_ok (Ok u) r a h = (refl, h)

at_by : {A : Type 0} (k : ℕ) (n : Node) (f : Node → Result A TypeFault) (a : A) (b : Bool) (e : TypeFault) → cond b (f n) (Err e) ≡ Ok a → f n ≡ Ok a
at_by k n f a true e h = h
at_by k n f a false e h = cc

pub at_node_ok : {A : Type 0} (k : ℕ) (o : Option Node) (f : Node → Result A TypeFault) (a : A) → at_node k o f ≡ Ok a → (n : Node) × (o ≡ Some n) × (f n ≡ Ok a)
at_node_ok k None f a h = cc
at_node_ok k (Some n) f a h = (n, refl, at_by k n f a (before k n) _ h)
