-- A refusal of the checker holds at its spot.
use Rattle.std.proofs.Common.{◌≡◌, ℕ, zero, suc, ◌<◌, Bool, true, false, cond, eqb, List, [], ◌∷◌, Some, None, Ok, Err, Option, Result, sym, refl, ap, ◌∙◌, subst, inl, inr, arith}
use Rattle.std.proofs.lemmas.Bool.{eqb-false}
use Rattle.book.specs.declared.node.Node.{Node}
use Rattle.book.specs.declared.node.Node.TheVariants.{Literal, Minus, Less, Equal, IsNull, This, Parameter, FieldRead, Call, New, Reading, FieldWrite, Sequence, If, While, Skip}
use Rattle.book.specs.declared.node.«Type».{«Type» as BType}
use Rattle.book.specs.declared.node.«Type».TheVariants.{Int, Boolean, Class}
use Rattle.cool.specs.Syntax.{Name, find}
use Rattle.cool.specs.Book.{Book, Formed, ExpressionAt, CommandAt, is_expression, Each, expressions, commands, fields_of, method_of}
use Rattle.cool.specs.Nodes.{Where, at_top, in_method, where_held, ◌∣◌⊩◌∶◌}
use Rattle.checker.specs.declared.fault.TypeFault.{TypeFault}
use Rattle.checker.specs.declared.fault.TypeFault.TheVariants.{Part, Member, Argument, Top}
use Rattle.checker.specs.Causes.{NoClass, minus_left, minus_right, less_left, less_right, equal_left, equal_right, null_operand, read_target, call_target, reading_index, write_target, if_test, while_test, NoField, place_of, HoldsAt, wrong_part, no_field_read, no_field_written, no_method, other_argument, other_value, this_at_top, parameter_at_top}
use Rattle.checker.specs.Checking.{same, an_int, a_boolean, of_class, of_type, member, inside, own_field, then_com, type_by, com_by, type_in, com_in}
use Rattle.checker.proofs.Inverting.{own_field_ok}
use Rattle.checker.proofs.Sound.{type_sound}
use Rattle.checker.proofs.Complete.{same_self, at_node_by, formed_before}

pub apart : {C : Type 0} (t u : BType) → same t u ≡ false → t ≡ u → C
apart t u h e = let s = same_self u in cc

-- why a test refuses: its part was refused, is not as it must be, or what follows is refused
module _ {A : Type 0} (P : TypeFault → Type 0) (k : ℕ) (e : TypeFault) where
  an_int_err : (x : Result BType TypeFault) (r : Result A TypeFault) → an_int k x r ≡ Err e
      → (x ≡ Err e → P e) → ((t : BType) → x ≡ Ok t → (t ≡ Int → ⊥) → P (Part k)) → (x ≡ Ok Int → r ≡ Err e → P e) → P e
  an_int_err (Err f) r h p q s = let same' : f ≡ e = cc in p (ap Err same')
  an_int_err (Ok Int) r h p q s = s refl h
  an_int_err (Ok Boolean) r h p q s = let same' : Part k ≡ e = cc in subst P same' (q Boolean refl (λ z. cc))
  an_int_err (Ok (Class c)) r h p q s = let same' : Part k ≡ e = cc in subst P same' (q (Class c) refl (λ z. cc))

  a_boolean_err : (x : Result BType TypeFault) (r : Result A TypeFault) → a_boolean k x r ≡ Err e
      → (x ≡ Err e → P e) → ((t : BType) → x ≡ Ok t → (t ≡ Boolean → ⊥) → P (Part k)) → (x ≡ Ok Boolean → r ≡ Err e → P e) → P e
  a_boolean_err (Err f) r h p q s = let same' : f ≡ e = cc in p (ap Err same')
  a_boolean_err (Ok Boolean) r h p q s = s refl h
  a_boolean_err (Ok Int) r h p q s = let same' : Part k ≡ e = cc in subst P same' (q Int refl (λ z. cc))
  a_boolean_err (Ok (Class c)) r h p q s = let same' : Part k ≡ e = cc in subst P same' (q (Class c) refl (λ z. cc))

  of_class_err : (x : Result BType TypeFault) (f : ℕ → Result A TypeFault) → of_class k x f ≡ Err e
      → (x ≡ Err e → P e) → ((t : BType) → x ≡ Ok t → NoClass t → P (Part k)) → ((c : ℕ) → x ≡ Ok (Class c) → f c ≡ Err e → P e) → P e
  of_class_err (Err g) f h p q s = let same' : g ≡ e = cc in p (ap Err same')
  of_class_err (Ok Int) f h p q s = let same' : Part k ≡ e = cc in subst P same' (q Int refl (λ c z. cc))
  of_class_err (Ok Boolean) f h p q s = let same' : Part k ≡ e = cc in subst P same' (q Boolean refl (λ c z. cc))
  of_class_err (Ok (Class c)) f h p q s = s c refl h

  typed_err_by : (t u : BType) (b : Bool) (r : Result A TypeFault) → same t u ≡ b → cond b r (Err (Argument k)) ≡ Err e → ((t ≡ u → ⊥) → P (Argument k)) → (r ≡ Err e → P e) → P e
  typed_err_by t u true r g h q s = s h
  typed_err_by t u false r g h q s = let same' : Argument k ≡ e = cc in subst P same' (q (apart t u g))

  of_type_err : (x : Result BType TypeFault) (u : BType) (r : Result A TypeFault) → of_type k x u r ≡ Err e
      → (x ≡ Err e → P e) → ((t : BType) → x ≡ Ok t → (t ≡ u → ⊥) → P (Argument k)) → (r ≡ Err e → P e) → P e
  of_type_err (Err f) u r h p q s = let same' : f ≡ e = cc in p (ap Err same')
  of_type_err (Ok t) u r h p q s = typed_err_by t u (same t u) r refl h (λ ne. q t refl ne) s

  member_err : {M : Type 0} (o : Option M) (f : M → Result A TypeFault) → member k o f ≡ Err e
      → (o ≡ None → P (Member k)) → ((m : M) → o ≡ Some m → f m ≡ Err e → P e) → P e
  member_err None f h p q = let same' : Member k ≡ e = cc in subst P same' (p refl)
  member_err (Some m) f h p q = q m refl h

  inside_err : (Γ : Where) (f : ℕ → BType → Result A TypeFault) → inside k Γ f ≡ Err e → (Γ ≡ at_top → P (Top k)) → ((c : ℕ) (u : BType) → f c u ≡ Err e → P e) → P e
  inside_err at_top f h p q = let same' : Top k ≡ e = cc in subst P same' (p refl)
  inside_err (in_method c u) f h p q = q c u h

pub then_com_err : (P : TypeFault → Type 0) (e : TypeFault) (x r : Result (Unit {0}) TypeFault) → then_com x r ≡ Err e → (x ≡ Err e → P e) → (r ≡ Err e → P e) → P e
then_com_err P e (Err f) r h p q = p h
then_com_err P e (Ok u) r h p q = q h

-- a field that is not the current class's own
not_own_by : (B : Book) (d c : ℕ) (f : Name) (u : BType) (b : Bool) → eqb c d ≡ b → cond b (find (fields_of (B.class c)) f) None ≡ None → NoField B (in_method d u) c f
not_own_by B d c f u true e h = inr h
not_own_by B d c f u false e h = inl (λ t z. let s : c ≡ d = cc in eqb-false c d e s)

not_own : (B : Book) (Γ : Where) (c : ℕ) (f : Name) → own_field B Γ c f ≡ None → NoField B Γ c f
not_own B at_top c f h = inl (λ t z. cc)
not_own B (in_method d u) c f h = not_own_by B d c f u (eqb c d) refl h

module _ (B : Book) (formed : Formed B) (Γ : Where) where
  -- of the parts of node k it is known what their refusals mean, and their types
  module _ (k : ℕ) (here : place_of B k ≡ Γ) (t : ℕ → Result BType TypeFault) (types : (a : ℕ) (u : BType) → t a ≡ Ok u → B ∣ Γ ⊩ B.node a ∶ u) where
    at_place : (a : ℕ) (u : BType) → t a ≡ Ok u → B ∣ place_of B k ⊩ B.node a ∶ u
    at_place a u h = subst (λ G. B ∣ G ⊩ B.node a ∶ u) (sym here) (types a u h)

    type_cause_by : (n : Node) (e : TypeFault) → B.node k ≡ Some n → is_expression n ≡ true → Each (λ a. (f : TypeFault) → t a ≡ Err f → HoldsAt B f) (expressions n)
        → type_by B Γ k t n ≡ Err e → HoldsAt B e
    type_cause_by (Literal v) e is low ih h = cc
    type_cause_by (Minus a b) e is low ih h =
        an_int_err (HoldsAt B) k e (t a) _ h (ih.0 e) (λ u x ne. wrong_part is (at_place a u x) (minus_left ne))
        (λ x h'. an_int_err (HoldsAt B) k e (t b) _ h' (ih.1.0 e) (λ u y ne. wrong_part is (at_place b u y) (minus_right ne)) (λ y z. cc))
    type_cause_by (Less a b) e is low ih h =
        an_int_err (HoldsAt B) k e (t a) _ h (ih.0 e) (λ u x ne. wrong_part is (at_place a u x) (less_left ne))
        (λ x h'. an_int_err (HoldsAt B) k e (t b) _ h' (ih.1.0 e) (λ u y ne. wrong_part is (at_place b u y) (less_right ne)) (λ y z. cc))
    type_cause_by (Equal a b) e is low ih h =
        an_int_err (HoldsAt B) k e (t a) _ h (ih.0 e) (λ u x ne. wrong_part is (at_place a u x) (equal_left ne))
        (λ x h'. an_int_err (HoldsAt B) k e (t b) _ h' (ih.1.0 e) (λ u y ne. wrong_part is (at_place b u y) (equal_right ne)) (λ y z. cc))
    type_cause_by (IsNull a) e is low ih h =
        of_class_err (HoldsAt B) k e (t a) _ h (ih.0 e) (λ u x ne. wrong_part is (at_place a u x) (null_operand ne)) (λ c x z. cc)
    type_cause_by This e is low ih h = inside_err (HoldsAt B) k e Γ _ h (λ top. this_at_top is (here ∙ top)) (λ c u z. cc)
    type_cause_by Parameter e is low ih h = inside_err (HoldsAt B) k e Γ _ h (λ top. parameter_at_top is (here ∙ top)) (λ c u z. cc)
    type_cause_by (FieldRead a f) e is low ih h =
        of_class_err (HoldsAt B) k e (t a) _ h (ih.0 e) (λ u x ne. wrong_part is (at_place a u x) (read_target ne))
        (λ c x h'. member_err (HoldsAt B) k e (own_field B Γ c f) _ h'
        (λ none. no_field_read is (at_place a (Class c) x) (subst (λ G. NoField B G c f) (sym here) (not_own B Γ c f none))) (λ u y z. cc))
    type_cause_by (Call a b m) e is low ih h =
        of_class_err (HoldsAt B) k e (t a) _ h (ih.0 e) (λ u x ne. wrong_part is (at_place a u x) (call_target ne))
        (λ c x h'. member_err (HoldsAt B) k e (method_of (B.class c) m) _ h' (λ none. no_method is (at_place a (Class c) x) none)
        (λ q y h''. of_type_err (HoldsAt B) k e (t b) q.takes _ h'' (ih.1.0 e) (λ u w ne. other_argument is (at_place a (Class c) x) y (at_place b u w) ne) (λ z. cc)))
    type_cause_by (New c) e is low ih h = cc
    type_cause_by (Reading a) e is low ih h =
        an_int_err (HoldsAt B) k e (t a) _ h (ih.0 e) (λ u x ne. wrong_part is (at_place a u x) (reading_index ne)) (λ x z. cc)
    type_cause_by (FieldWrite a b f) e is low ih h = cc
    type_cause_by (Sequence a b) e is low ih h = cc
    type_cause_by (If a b d) e is low ih h = cc
    type_cause_by (While a b) e is low ih h = cc
    type_cause_by Skip e is low ih h = cc

    module _ (c : ℕ → Result (Unit {0}) TypeFault) where
      com_cause_by : (n : Node) (e : TypeFault) → B.node k ≡ Some n → is_expression n ≡ false → Each (λ a. (f : TypeFault) → t a ≡ Err f → HoldsAt B f) (expressions n)
          → Each (λ a. (f : TypeFault) → c a ≡ Err f → HoldsAt B f) (commands n) → com_by B Γ k t c n ≡ Err e → HoldsAt B e
      com_cause_by (FieldWrite a b f) e is low ih jh h =
          of_class_err (HoldsAt B) k e (t a) _ h (ih.0 e) (λ u x ne. wrong_part is (at_place a u x) (write_target ne))
          (λ d x h'. member_err (HoldsAt B) k e (own_field B Γ d f) _ h'
          (λ none. no_field_written is (at_place a (Class d) x) (subst (λ G. NoField B G d f) (sym here) (not_own B Γ d f none)))
          (λ w y h''. of_type_err (HoldsAt B) k e (t b) w _ h'' (ih.1.0 e)
          (λ u v ne. other_value is (at_place a (Class d) x) (own_field_ok B Γ d f w y).2 (at_place b u v) ne) (λ z. cc)))
      com_cause_by (Sequence a b) e is low ih jh h = then_com_err (HoldsAt B) e (c a) (c b) h (jh.0 e) (jh.1.0 e)
      com_cause_by (If a b d) e is low ih jh h =
          a_boolean_err (HoldsAt B) k e (t a) _ h (ih.0 e) (λ u x ne. wrong_part is (at_place a u x) (if_test ne))
          (λ x h'. then_com_err (HoldsAt B) e (c b) (c d) h' (jh.0 e) (jh.1.0 e))
      com_cause_by (While a b) e is low ih jh h =
          a_boolean_err (HoldsAt B) k e (t a) _ h (ih.0 e) (λ u x ne. wrong_part is (at_place a u x) (while_test ne)) (λ x h'. jh.0 e h')
      com_cause_by Skip e is low ih jh h = cc
      com_cause_by (Literal v) e is low ih jh h = cc
      com_cause_by (Minus a b) e is low ih jh h = cc
      com_cause_by (Less a b) e is low ih jh h = cc
      com_cause_by (Equal a b) e is low ih jh h = cc
      com_cause_by (IsNull a) e is low ih jh h = cc
      com_cause_by This e is low ih jh h = cc
      com_cause_by Parameter e is low ih jh h = cc
      com_cause_by (FieldRead a f) e is low ih jh h = cc
      com_cause_by (Call a b m) e is low ih jh h = cc
      com_cause_by (New d) e is low ih jh h = cc
      com_cause_by (Reading a) e is low ih jh h = cc

  each_map : {P Q : ℕ → Type 0} (xs : List ℕ) → ((a : ℕ) → P a → Q a) → Each P xs → Each Q xs
  each_map [] f h = tt
  each_map (x ∷ xs) f h = (f x h.0, each_map xs f h.1)

  same_place : (a k : ℕ) → B.holder a ≡ B.holder k → place_of B k ≡ Γ → place_of B a ≡ Γ
  same_place a k h e = ap where_held h ∙ e

  pub type_cause : (n k : ℕ) (e : TypeFault) → place_of B k ≡ Γ → ExpressionAt B k → k < n → type_in n B Γ k ≡ Err e → HoldsAt B e
  type_cause zero k e here at low h = absurd (omega arith)
  type_cause (suc n) k e here at low h =
      type_cause_by k here (type_in n B Γ) (type_sound B formed Γ n) at.0 e at.1 at.2
      (each_map (expressions at.0) (λ a p f g. type_cause n a f (same_place a k p.0.1 here) p.1 (omega (arith, p.0.0)) g) (formed.parts k at.0 at.1).0)
      (sym (at_node_by k (B.node k) _ at.0 at.1 (formed_before B formed k at.0 at.1)) ∙ h)

  pub com_cause : (n k : ℕ) (e : TypeFault) → place_of B k ≡ Γ → CommandAt B k → k < n → com_in n B Γ k ≡ Err e → HoldsAt B e
  com_cause zero k e here at low h = absurd (omega arith)
  com_cause (suc n) k e here at low h =
      com_cause_by k here (type_in n B Γ) (type_sound B formed Γ n) (com_in n B Γ) at.0 e at.1 at.2
      (each_map (expressions at.0) (λ a p f g. type_cause n a f (same_place a k p.0.1 here) p.1 (omega (arith, p.0.0)) g) (formed.parts k at.0 at.1).0)
      (each_map (commands at.0) (λ a p f g. com_cause n a f (same_place a k p.0.1 here) p.1 (omega (arith, p.0.0)) g) (formed.parts k at.0 at.1).1)
      (sym (at_node_by k (B.node k) _ at.0 at.1 (formed_before B formed k at.0 at.1)) ∙ h)
