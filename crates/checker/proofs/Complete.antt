-- What the rules derive the checker finds.
use Rattle.std.proofs.Common.{◌≡◌, ℕ, zero, suc, ◌<◌, true, ◌&&◌, eqb, ltb, Some, Ok, Option, Result, refl, ◌∙◌, arith}
use Rattle.std.proofs.lemmas.Bool.{eq-eqb, lt-ltb, and_from}
use Rattle.book.specs.declared.node.Node.{Node}
use Rattle.book.specs.declared.node.Node.TheVariants.{Literal, Minus, Less, Equal, IsNull, This, Parameter, FieldRead, Call, New, Reading, FieldWrite, Sequence, If, While, Skip}
use Rattle.book.specs.declared.node.«Type».{«Type» as BType}
use Rattle.book.specs.declared.node.«Type».TheVariants.{Int, Boolean, Class}
use Rattle.cool.specs.Syntax.{Name, find}
use Rattle.cool.specs.Book.{Book, Formed, fields_of}
use Rattle.cool.specs.Nodes.{Where, in_method, ◌∣◌⊩◌∶◌, ◌∣◌⊩◌∶com, n_literal, n_minus, n_less, n_equal, n_is_null, n_this, n_parameter, n_field, n_call, n_new, n_reading, n_assign, n_seq, n_if, n_while, n_skip}
use Rattle.checker.specs.declared.fault.TypeFault.{TypeFault}
use Rattle.checker.specs.Checking.{same, an_int, a_boolean, of_class, of_type, member, inside, own_field, then_com, before, at_node, type_in, com_in}

pub same_self : (u : BType) → same u u ≡ true
same_self Int = refl
same_self Boolean = refl
same_self (Class c) = eq-eqb c c refl

-- each test passes where its part is as it must be
module _ {A : Type 0} (k : ℕ) (x : Result BType TypeFault) (r : Result A TypeFault) where
  an_int_by : x ≡ Ok Int → an_int k x r ≡ r
  an_int_by h = rw h

  a_boolean_by : x ≡ Ok Boolean → a_boolean k x r ≡ r
  a_boolean_by h = rw h

  of_type_by : (u : BType) → x ≡ Ok u → of_type k x u r ≡ r
  of_type_by u h = rw (h, same_self u)

module _ {A : Type 0} (k : ℕ) where
  of_class_by : (x : Result BType TypeFault) (f : ℕ → Result A TypeFault) (c : ℕ) → x ≡ Ok (Class c) → of_class k x f ≡ f c
  of_class_by x f c h = rw h

  member_by : {M : Type 0} (o : Option M) (f : M → Result A TypeFault) (m : M) → o ≡ Some m → member k o f ≡ f m
  member_by o f m h = rw h

  inside_by : (Γ : Where) (f : ℕ → BType → Result A TypeFault) (c : ℕ) (u : BType) → Γ ≡ in_method c u → inside k Γ f ≡ f c u
  inside_by Γ f c u h = rw h

  pub at_node_by : (o : Option Node) (f : Node → Result A TypeFault) (n : Node) → o ≡ Some n → before k n ≡ true → at_node k o f ≡ f n
  at_node_by o f n h b = rw (h, b)

own_field_by : (B : Book) (Γ : Where) (c : ℕ) (f : Name) (t u : BType) → Γ ≡ in_method c t → find (fields_of (B.class c)) f ≡ Some u → own_field B Γ c f ≡ Some u
own_field_by B Γ c f t u e h = let s : eqb c c ≡ true = eq-eqb c c refl in rw (e, s) h

then_com_by : (x r : Result (Unit {0}) TypeFault) → x ≡ Ok tt → then_com x r ≡ r
then_com_by x r h = rw h

-- the parts of a well-formed book's nodes lie before them
one : {a k : ℕ} → a < k → ltb a k ≡ true
one {a} {k} h = lt-ltb a k h

two_before : {a b k : ℕ} → a < k → b < k → ltb a k && ltb b k ≡ true
two_before p q = and_from _ _ (one p) (one q)

pub formed_before : (B : Book) → Formed B → (k : ℕ) (n : Node) → B.node k ≡ Some n → before k n ≡ true
formed_before B formed k (Literal v) e = refl
formed_before B formed k (Minus a b) e = let p = (formed.parts k _ e).0 in two_before p.0.0.0 p.1.0.0.0
formed_before B formed k (Less a b) e = let p = (formed.parts k _ e).0 in two_before p.0.0.0 p.1.0.0.0
formed_before B formed k (Equal a b) e = let p = (formed.parts k _ e).0 in two_before p.0.0.0 p.1.0.0.0
formed_before B formed k (IsNull a) e = one (formed.parts k _ e).0.0.0.0
formed_before B formed k This e = refl
formed_before B formed k Parameter e = refl
formed_before B formed k (FieldRead a f) e = one (formed.parts k _ e).0.0.0.0
formed_before B formed k (Call a b m) e = let p = (formed.parts k _ e).0 in two_before p.0.0.0 p.1.0.0.0
formed_before B formed k (New c) e = refl
formed_before B formed k (Reading a) e = one (formed.parts k _ e).0.0.0.0
formed_before B formed k (FieldWrite a b f) e = let p = (formed.parts k _ e).0 in two_before p.0.0.0 p.1.0.0.0
formed_before B formed k (Sequence a b) e = let p = (formed.parts k _ e).1 in two_before p.0.0.0 p.1.0.0.0
formed_before B formed k (If a b d) e = let p = formed.parts k _ e in and_from _ _ (one p.0.0.0.0) (two_before p.1.0.0.0 p.1.1.0.0.0)
formed_before B formed k (While a b) e = let p = formed.parts k _ e in two_before p.0.0.0.0 p.1.0.0.0
formed_before B formed k Skip e = refl

module _ (B : Book) (formed : Formed B) (Γ : Where) where
  pub type_complete : {o : Option Node} {u : BType} → B ∣ Γ ⊩ o ∶ u → (k n : ℕ) → B.node k ≡ o → k < n → type_in n B Γ k ≡ Ok u
  type_complete n_literal k zero e l = absurd (omega arith)
  type_complete n_literal k (suc n) e l = at_node_by k _ _ _ e refl
  type_complete (n_minus x y) k zero e l = absurd (omega arith)
  type_complete (n_minus {a} {b} x y) k (suc n) e l =
      let p = (formed.parts k _ e).0 in
      let i = type_complete x a n refl (omega arith) in
      let j = type_complete y b n refl (omega arith) in
      at_node_by k _ _ _ e (formed_before B formed k _ e) ∙ (an_int_by k _ _ i ∙ an_int_by k _ _ j)
  type_complete (n_less x y) k zero e l = absurd (omega arith)
  type_complete (n_less {a} {b} x y) k (suc n) e l =
      let p = (formed.parts k _ e).0 in
      let i = type_complete x a n refl (omega arith) in
      let j = type_complete y b n refl (omega arith) in
      at_node_by k _ _ _ e (formed_before B formed k _ e) ∙ (an_int_by k _ _ i ∙ an_int_by k _ _ j)
  type_complete (n_equal x y) k zero e l = absurd (omega arith)
  type_complete (n_equal {a} {b} x y) k (suc n) e l =
      let p = (formed.parts k _ e).0 in
      let i = type_complete x a n refl (omega arith) in
      let j = type_complete y b n refl (omega arith) in
      at_node_by k _ _ _ e (formed_before B formed k _ e) ∙ (an_int_by k _ _ i ∙ an_int_by k _ _ j)
  type_complete (n_is_null x) k zero e l = absurd (omega arith)
  type_complete (n_is_null {a} {c} x) k (suc n) e l =
      let p = (formed.parts k _ e).0 in
      let i = type_complete x a n refl (omega arith) in
      at_node_by k _ _ _ e (formed_before B formed k _ e) ∙ of_class_by k _ _ c i
  type_complete (n_this h) k zero e l = absurd (omega arith)
  type_complete (n_this {c} {t} h) k (suc n) e l = at_node_by k _ _ _ e refl ∙ inside_by k Γ _ c t h
  type_complete (n_parameter h) k zero e l = absurd (omega arith)
  type_complete (n_parameter {c} {t} h) k (suc n) e l = at_node_by k _ _ _ e refl ∙ inside_by k Γ _ c t h
  type_complete (n_field x h f) k zero e l = absurd (omega arith)
  type_complete (n_field {a} {c} {f} {t} {u} x h g) k (suc n) e l =
      let p = (formed.parts k _ e).0 in
      let i = type_complete x a n refl (omega arith) in
      at_node_by k _ _ _ e (formed_before B formed k _ e) ∙ (of_class_by k _ _ c i ∙ member_by k _ _ u (own_field_by B Γ c f t u h g))
  type_complete (n_call x y h) k zero e l = absurd (omega arith)
  type_complete (n_call {a} {b} {c} {m} {q} x y h) k (suc n) e l =
      let p = (formed.parts k _ e).0 in
      let i = type_complete x a n refl (omega arith) in
      let j = type_complete y b n refl (omega arith) in
      at_node_by k _ _ _ e (formed_before B formed k _ e) ∙ (of_class_by k _ _ c i ∙ (member_by k _ _ q h ∙ of_type_by k _ _ q.takes j))
  type_complete (n_new h) k zero e l = absurd (omega arith)
  type_complete (n_new h) k (suc n) e l = at_node_by k _ _ _ e refl
  type_complete (n_reading x) k zero e l = absurd (omega arith)
  type_complete (n_reading {a} x) k (suc n) e l =
      let p = (formed.parts k _ e).0 in
      let i = type_complete x a n refl (omega arith) in
      at_node_by k _ _ _ e (formed_before B formed k _ e) ∙ an_int_by k _ _ i

  pub com_complete : {o : Option Node} → B ∣ Γ ⊩ o ∶com → (k n : ℕ) → B.node k ≡ o → k < n → com_in n B Γ k ≡ Ok tt
  com_complete (n_assign x y h g) k zero e l = absurd (omega arith)
  com_complete (n_assign {a} {b} {c} {f} {t} {u} x y h g) k (suc n) e l =
      let p = (formed.parts k _ e).0 in
      let i = type_complete x a n refl (omega arith) in
      let j = type_complete y b n refl (omega arith) in
      at_node_by k _ _ _ e (formed_before B formed k _ e) ∙ (of_class_by k _ _ c i ∙ (member_by k _ _ u (own_field_by B Γ c f t u h g) ∙ of_type_by k _ _ u j))
  com_complete (n_seq x y) k zero e l = absurd (omega arith)
  com_complete (n_seq {a} {b} x y) k (suc n) e l =
      let p = (formed.parts k _ e).1 in
      let i = com_complete x a n refl (omega arith) in
      let j = com_complete y b n refl (omega arith) in
      at_node_by k _ _ _ e (formed_before B formed k _ e) ∙ (then_com_by _ _ i ∙ j)
  com_complete (n_if x y z) k zero e l = absurd (omega arith)
  com_complete (n_if {a} {b} {d} x y z) k (suc n) e l =
      let p = formed.parts k _ e in
      let h = type_complete x a n refl (omega arith) in
      let i = com_complete y b n refl (omega arith) in
      let j = com_complete z d n refl (omega arith) in
      at_node_by k _ _ _ e (formed_before B formed k _ e) ∙ (a_boolean_by k _ _ h ∙ (then_com_by _ _ i ∙ j))
  com_complete (n_while x y) k zero e l = absurd (omega arith)
  com_complete (n_while {a} {b} x y) k (suc n) e l =
      let p = formed.parts k _ e in
      let h = type_complete x a n refl (omega arith) in
      let i = com_complete y b n refl (omega arith) in
      at_node_by k _ _ _ e (formed_before B formed k _ e) ∙ (a_boolean_by k _ _ h ∙ i)
  com_complete n_skip k zero e l = absurd (omega arith)
  com_complete n_skip k (suc n) e l = at_node_by k _ _ _ e refl
