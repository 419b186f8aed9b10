-- What the checker finds is what the rules derive.
use Rattle.std.proofs.Common.{◌≡◌, ℕ, zero, suc, Some, Ok, Result, sym, refl, subst}
use Rattle.book.specs.declared.node.Node.{Node}
use Rattle.book.specs.declared.node.Node.TheVariants.{Literal, Minus, Less, Equal, IsNull, This, Parameter, FieldRead, Call, New, Reading, FieldWrite, Sequence, If, While, Skip}
use Rattle.book.specs.declared.node.«Type».{«Type» as BType}
use Rattle.book.specs.declared.node.«Type».TheVariants.{Int, Boolean, Class}
use Rattle.cool.specs.Book.{Book, Formed, ClassThere}
use Rattle.cool.specs.Nodes.{Where, ◌∣◌⊩◌∶◌, ◌∣◌⊩◌∶com, n_literal, n_minus, n_less, n_equal, n_is_null, n_this, n_parameter, n_field, n_call, n_new, n_reading, n_assign, n_seq, n_if, n_while, n_skip}
use Rattle.checker.specs.declared.fault.TypeFault.{TypeFault}
use Rattle.checker.specs.Checking.{type_by, com_by, type_in, com_in}
use Rattle.checker.proofs.Inverting.{an_int_ok, a_boolean_ok, of_class_ok, of_type_ok, member_ok, inside_ok, own_field_ok, then_com_ok, at_node_ok}

-- an expression, from its parts
module _ (B : Book) (Γ : Where) (k : ℕ) (t : ℕ → Result BType TypeFault) (ih : (a : ℕ) (u : BType) → t a ≡ Ok u → B ∣ Γ ⊩ B.node a ∶ u) where
  typed_by : (n : Node) (u : BType) → ClassThere B n → type_by B Γ k t n ≡ Ok u → B ∣ Γ ⊩ Some n ∶ u
  typed_by (Literal v) u there h = let e : Int ≡ u = cc in subst (λ w. B ∣ Γ ⊩ Some (Literal v) ∶ w) e n_literal
  typed_by (Minus a b) u there h =
      let p = an_int_ok k (t a) _ u h in
      let q = an_int_ok k (t b) _ u p.1 in
      let e : Int ≡ u = cc in
      subst (λ w. B ∣ Γ ⊩ Some (Minus a b) ∶ w) e (n_minus (ih a Int p.0) (ih b Int q.0))
  typed_by (Less a b) u there h =
      let p = an_int_ok k (t a) _ u h in
      let q = an_int_ok k (t b) _ u p.1 in
      let e : Boolean ≡ u = cc in
      subst (λ w. B ∣ Γ ⊩ Some (Less a b) ∶ w) e (n_less (ih a Int p.0) (ih b Int q.0))
  typed_by (Equal a b) u there h =
      let p = an_int_ok k (t a) _ u h in
      let q = an_int_ok k (t b) _ u p.1 in
      let e : Boolean ≡ u = cc in
      subst (λ w. B ∣ Γ ⊩ Some (Equal a b) ∶ w) e (n_equal (ih a Int p.0) (ih b Int q.0))
  typed_by (IsNull a) u there h =
      let p = of_class_ok k (t a) _ u h in
      let e : Boolean ≡ u = cc in
      subst (λ w. B ∣ Γ ⊩ Some (IsNull a) ∶ w) e (n_is_null (ih a (Class p.0) p.1))
  typed_by This u there h =
      let p = inside_ok k Γ _ u h in
      let e : Class p.0 ≡ u = cc in
      subst (λ w. B ∣ Γ ⊩ Some This ∶ w) e (n_this p.2)
  typed_by Parameter u there h =
      let p = inside_ok k Γ _ u h in
      let e : p.1 ≡ u = cc in
      subst (λ w. B ∣ Γ ⊩ Some Parameter ∶ w) e (n_parameter p.2)
  typed_by (FieldRead a f) u there h =
      let p = of_class_ok k (t a) _ u h in
      let q = member_ok k _ _ u p.2 in
      let o = own_field_ok B Γ p.0 f q.0 q.1 in
      let e : q.0 ≡ u = cc in
      subst (λ w. B ∣ Γ ⊩ Some (FieldRead a f) ∶ w) e (n_field (ih a (Class p.0) p.1) o.1 o.2)
  typed_by (Call a b m) u there h =
      let p = of_class_ok k (t a) _ u h in
      let q = member_ok k _ _ u p.2 in
      let r = of_type_ok k (t b) q.0.takes _ u q.2 in
      let e : q.0.gives ≡ u = cc in
      subst (λ w. B ∣ Γ ⊩ Some (Call a b m) ∶ w) e (n_call (ih a (Class p.0) p.1) (ih b q.0.takes r.0) q.1)
  typed_by (New c) u there h =
      let p = there c refl in
      let e : Class c ≡ u = cc in
      subst (λ w. B ∣ Γ ⊩ Some (New c) ∶ w) e (n_new p.1)
  typed_by (Reading a) u there h =
      let p = an_int_ok k (t a) _ u h in
      let e : Int ≡ u = cc in
      subst (λ w. B ∣ Γ ⊩ Some (Reading a) ∶ w) e (n_reading (ih a Int p.0))
  typed_by (FieldWrite a b f) u there h = cc
  typed_by (Sequence a b) u there h = cc
  typed_by (If a b d) u there h = cc
  typed_by (While a b) u there h = cc
  typed_by Skip u there h = cc

  -- a command, from its parts
  module _ (c : ℕ → Result (Unit {0}) TypeFault) (jh : (a : ℕ) → c a ≡ Ok tt → B ∣ Γ ⊩ B.node a ∶com) where
    com_typed_by : (n : Node) → com_by B Γ k t c n ≡ Ok tt → B ∣ Γ ⊩ Some n ∶com
    com_typed_by (FieldWrite a b f) h =
        let p = of_class_ok k (t a) _ tt h in
        let q = member_ok k _ _ tt p.2 in
        let o = own_field_ok B Γ p.0 f q.0 q.1 in
        let r = of_type_ok k (t b) q.0 _ tt q.2 in
        n_assign (ih a (Class p.0) p.1) (ih b q.0 r.0) o.1 o.2
    com_typed_by (Sequence a b) h = let p = then_com_ok (c a) (c b) tt h in n_seq (jh a p.0) (jh b p.1)
    com_typed_by (If a b d) h =
        let p = a_boolean_ok k (t a) _ tt h in
        let q = then_com_ok (c b) (c d) tt p.1 in
        n_if (ih a Boolean p.0) (jh b q.0) (jh d q.1)
    com_typed_by (While a b) h = let p = a_boolean_ok k (t a) _ tt h in n_while (ih a Boolean p.0) (jh b p.1)
    com_typed_by Skip h = n_skip
    com_typed_by (Literal v) h = cc
    com_typed_by (Minus a b) h = cc
    com_typed_by (Less a b) h = cc
    com_typed_by (Equal a b) h = cc
    com_typed_by (IsNull a) h = cc
    com_typed_by This h = cc
    com_typed_by Parameter h = cc
    com_typed_by (FieldRead a f) h = cc
    com_typed_by (Call a b m) h = cc
    com_typed_by (New e) h = cc
    com_typed_by (Reading a) h = cc

module _ (B : Book) (formed : Formed B) (Γ : Where) where
  pub type_sound : (n k : ℕ) (u : BType) → type_in n B Γ k ≡ Ok u → B ∣ Γ ⊩ B.node k ∶ u
  type_sound zero k u h = cc
  type_sound (suc n) k u h =
      let p = at_node_ok k (B.node k) _ u h in
      subst (λ o. B ∣ Γ ⊩ o ∶ u) (sym p.1) (typed_by B Γ k (type_in n B Γ) (type_sound n) p.0 u (formed.made k p.0 p.1) p.2)

  pub com_sound : (n k : ℕ) → com_in n B Γ k ≡ Ok tt → B ∣ Γ ⊩ B.node k ∶com
  com_sound zero k h = cc
  com_sound (suc n) k h =
      let p = at_node_ok k (B.node k) _ tt h in
      subst (λ o. B ∣ Γ ⊩ o ∶com) (sym p.1) (com_typed_by B Γ k (type_in n B Γ) (type_sound n) (com_in n B Γ) (com_sound n) p.0 p.2)
