-- The nodes of an accepted book are well typed, and their types stand for those that the rules give.
use Rattle.std.proofs.Common.{◌≡◌, ℕ, Some, None, Option, sym, refl, ap, ◌∙◌, arith}
use Rattle.book.specs.declared.node.Node.{Node}
use Rattle.book.specs.declared.node.Node.TheVariants.{This, Parameter, FieldRead, Call, FieldWrite}
use Rattle.book.specs.declared.node.Type.{«Type» as BType}
use Rattle.book.specs.declared.node.Type.TheVariants.{Int, Boolean, Class}
use Rattle.cool.specs.Syntax as S
use Rattle.cool.specs.Syntax.{Name, Ty, int, boolean, class, Expr, Com, Method, CE, PE, find}
use Rattle.cool.specs.Static.{◌∣◌∣◌⊢◌∶◌, ◌∣◌∣◌⊢◌∶com, t_literal, t_minus, t_this, t_parameter, t_field, t_call, t_new, t_less, t_equal, t_is_null, t_reading, t_assign, t_seq, t_if, t_while, t_skip}
use Rattle.cool.specs.Book.{Meth, Part, Book, fields_of, method_of, type_of}
use Rattle.cool.specs.Says.{◌⊩◌▷◌, ◌⊩◌▷com◌, is_literal, is_minus, is_less, is_equal, is_is_null, is_this, is_parameter, is_field, is_call, is_new, is_reading, is_assign, is_seq, is_if, is_while, is_skip}
use Rattle.cool.specs.Nodes.{Where, at_top, in_method, ◌∣◌⊩◌∶◌, ◌∣◌⊩◌∶com, n_literal, n_minus, n_less, n_equal, n_is_null, n_this, n_parameter, n_field, n_call, n_new, n_reading, n_assign, n_seq, n_if, n_while, n_skip, Well}
use Rattle.cool.proofs.Base.{no_some}
use Rattle.cool.proofs.Says.{class_type, types_one_to_one}
use Rattle.cool.proofs.Stands.{field_from, Stands, Agreed, method_part}

-- where a strip stands, by class numbers and by names
pub data WhereIs (B : Book) : Where → PE → Option Name → Type 0 where
  is_top : WhereIs B at_top None None
  is_in : {c : ℕ} {p : Part} {t : BType} {u : Ty} → B.class c ≡ Some p → type_of B t ≡ Some u → WhereIs B (in_method c t) (Some u) (Some p.called)

int_is : (B : Book) (t : BType) → type_of B t ≡ Some int → t ≡ Int
int_is B Int e = refl
int_is B Boolean e = cc
int_is B (Class c) e = let x = class_type B c (B.class c) refl e in let y = x.2 in cc

boolean_is : (B : Book) (t : BType) → type_of B t ≡ Some boolean → t ≡ Boolean
boolean_is B Int e = cc
boolean_is B Boolean e = refl
boolean_is B (Class c) e = let x = class_type B c (B.class c) refl e in let y = x.2 in cc

pub class_is : (B : Book) (t : BType) (x : Name) → type_of B t ≡ Some (class x) → (c : ℕ) × (p : Part) × (t ≡ Class c) × (B.class c ≡ Some p) × (p.called ≡ x)
class_is B Int x e = let z : ◌≡◌ {A = ℕ} 0 1 = cc in absurd (omega arith)
class_is B Boolean x e = let z : ◌≡◌ {A = ℕ} 0 1 = cc in absurd (omega arith)
class_is B (Class c) x e = let y = class_type B c (B.class c) refl e in let q = y.2 in (c, y.0, refl, y.1, cc)

pub class_says : (B : Book) (c : ℕ) (p : Part) → B.class c ≡ Some p → type_of B (Class c) ≡ Some (class p.called)
class_says B c p i = rw i

module _ {B : Book} {ce : CE} (st : Stands B ce) where
  -- a type of a node that stands for u
  abbrev Has : Where → Option Node → Ty → Type 0
  Has Γ n u = (t : BType) × (B ∣ Γ ⊩ n ∶ t) × (type_of B t ≡ Some u)

  at_int : {Γ : Where} {n : Option Node} → Has Γ n int → B ∣ Γ ⊩ n ∶ Int
  at_int x = let i = int_is B x.0 x.2 in rw i at x.1

  at_boolean : {Γ : Where} {n : Option Node} → Has Γ n boolean → B ∣ Γ ⊩ n ∶ Boolean
  at_boolean x = let i = boolean_is B x.0 x.2 in rw i at x.1

  at_class : {Γ : Where} {n : Option Node} (x : Name) → Has Γ n (class x) → (c : ℕ) × (p : Part) × (B ∣ Γ ⊩ n ∶ Class c) × (B.class c ≡ Some p) × (p.called ≡ x)
  at_class x h = let i = class_is B h.0 x h.2 in let j = i.2 in (i.0, i.1, rw j at h.1, i.3, i.4)

  -- the class by that name, in the environment and in the book
  fields_from : {x : Name} {k : S.Class} {u : Ty} (c : ℕ) (p : Part) (f : Name) → B.class c ≡ Some p → p.called ≡ x → ce x ≡ Some k → find k.fields f ≡ Some u
      → (t : BType) × (find (fields_of (B.class c)) f ≡ Some t) × (type_of B t ≡ Some u)
  fields_from {x} {k} {u} c p f i s e g =
      let y = st.class c p i in
      let same : Some k ≡ Some y.0 = sym e ∙ (ap ce (sym s) ∙ y.1) in
      let k_is : k ≡ y.0 = cc in
      let z = field_from f u y.2 (rw k_is at g) in
      (z.0, rw i z.1, z.2)

  -- the current class
  current : {Γ : Where} {pe : PE} {θ : Option Name} {x : Name} (c : ℕ) (p : Part) → WhereIs B Γ pe θ → θ ≡ Some x → B.class c ≡ Some p → p.called ≡ x → (t : BType) × (Γ ≡ in_method c t)
  current c p is_top e i s = no_some e
  current c p (is_in {c = d} {p = q} {t = t} j v) e i s =
      let q_is : q.called ≡ p.called = cc in let z = st.distinct d c q p j i q_is in (t, ap (λ a. in_method a t) z)

  this_typed : {Γ : Where} {pe : PE} {θ : Option Name} {x : Name} → WhereIs B Γ pe θ → θ ≡ Some x → Has Γ (Some This) (class x)
  this_typed is_top e = no_some e
  this_typed (is_in {c = c} {p = p} j v) e = let y = class_says B c p j in (Class c, n_this refl, y ∙ cc)

  parameter_typed : {Γ : Where} {pe : PE} {θ : Option Name} {u : Ty} → WhereIs B Γ pe θ → pe ≡ Some u → Has Γ (Some Parameter) u
  parameter_typed is_top e = no_some e
  parameter_typed (is_in {t = t} j v) e = (t, n_parameter refl, v ∙ e)

  field_typed : {Γ : Where} {pe : PE} {θ : Option Name} {x : Name} {k : S.Class} {u : Ty} (a : ℕ) (f : Name) → WhereIs B Γ pe θ → Has Γ (B.node a) (class x) → θ ≡ Some x → ce x ≡ Some k → find k.fields f ≡ Some u
      → Has Γ (Some (FieldRead a f)) u
  field_typed {x = x} a f w h e i g =
      let y = at_class x h in
      let z = fields_from y.0 y.1 f y.3 y.4 i g in
      let v = current y.0 y.1 w e y.3 y.4 in
      (z.0, n_field y.2 v.1 z.1, z.2)

  assign_typed : {Γ : Where} {pe : PE} {θ : Option Name} {x : Name} {k : S.Class} {u : Ty} (a b : ℕ) (f : Name) → WhereIs B Γ pe θ → Has Γ (B.node a) (class x) → Has Γ (B.node b) u → θ ≡ Some x → ce x ≡ Some k → find k.fields f ≡ Some u
      → B ∣ Γ ⊩ Some (FieldWrite a b f) ∶com
  assign_typed {x = x} {u = u} a b f w h h' e i g =
      let y = at_class x h in
      let z = fields_from y.0 y.1 f y.3 y.4 i g in
      let v = current y.0 y.1 w e y.3 y.4 in
      let q = types_one_to_one B st.distinct h'.0 z.0 u h'.2 z.2 in
      n_assign y.2 (rw q at h'.1) v.1 z.1

  call_typed : {Γ : Where} {x : Name} {k : S.Class} {n : Method} (a b : ℕ) (m : Name) → Has Γ (B.node a) (class x) → Has Γ (B.node b) n.param → ce x ≡ Some k → k.methods m ≡ Some n
      → Has Γ (Some (Call a b m)) n.result
  call_typed {x = x} {k} {n} a b m h h' i g =
      let y = at_class x h in
      let j = y.3 in
      let s = y.4 in
      let q = st.method_back y.0 y.1 k m n y.3 (ap ce s ∙ i) g in
      let f = q.1 in
      let z = types_one_to_one B st.distinct h'.0 q.0.takes n.param h'.2 q.2.takes in
      (q.0.gives, n_call {q = q.0} y.2 (rw z at h'.1) (rw (j, f)), q.2.gives)

  node_typed : {Γ : Where} {pe : PE} {θ : Option Name} {n : Option Node} {e : Expr} {u : Ty} → WhereIs B Γ pe θ → B ⊩ n ▷ e → ce ∣ pe ∣ θ ⊢ e ∶ u → Has Γ n u
  node_typed w is_literal t_literal = (Int, n_literal, refl)
  node_typed w (is_minus a b) (t_minus x y) = (Int, n_minus (at_int (node_typed w a x)) (at_int (node_typed w b y)), refl)
  node_typed w (is_less a b) (t_less x y) = (Boolean, n_less (at_int (node_typed w a x)) (at_int (node_typed w b y)), refl)
  node_typed w (is_equal a b) (t_equal x y) = (Boolean, n_equal (at_int (node_typed w a x)) (at_int (node_typed w b y)), refl)
  node_typed w (is_is_null a) (t_is_null {c = c} x) = let y = at_class c (node_typed w a x) in (Boolean, n_is_null y.2, refl)
  node_typed w is_this (t_this e) = this_typed w e
  node_typed w is_parameter (t_parameter e) = parameter_typed w e
  node_typed w (is_field {a = a} {f = f} r) (t_field x e i g) = field_typed a f w (node_typed w r x) e i g
  node_typed w (is_call {a = a} {b = b} {m = m} r s) (t_call x y i g) = call_typed a b m (node_typed w r x) (node_typed w s y) i g
  node_typed w (is_new {c = c} {p = p} i) (t_new j) = (Class c, n_new i, class_says B c p i)
  node_typed w (is_reading a) (t_reading x) = (Int, n_reading (at_int (node_typed w a x)), refl)

  node_typed_com : {Γ : Where} {pe : PE} {θ : Option Name} {n : Option Node} {c : Com} → WhereIs B Γ pe θ → B ⊩ n ▷com c → ce ∣ pe ∣ θ ⊢ c ∶com → B ∣ Γ ⊩ n ∶com
  node_typed_com w (is_assign {a = a} {b = b} {f = f} r s) (t_assign x y e i g) = assign_typed a b f w (node_typed w r x) (node_typed w s y) e i g
  node_typed_com w (is_seq a b) (t_seq x y) = n_seq (node_typed_com w a x) (node_typed_com w b y)
  node_typed_com w (is_if a b d) (t_if x y z) = n_if (at_boolean (node_typed w a x)) (node_typed_com w b y) (node_typed_com w d z)
  node_typed_com w (is_while a b) (t_while x y) = n_while (at_boolean (node_typed w a x)) (node_typed_com w b y)
  node_typed_com w is_skip t_skip = n_skip

-- a type that stands for the top's
pub well_typed : {B : Book} {ce : CE} {e : Expr} {u : Ty} → Agreed B ce e u → (z : BType) × Well B z × (type_of B z ≡ Some u)
well_typed {B} {ce} A = let x = node_typed A.stands is_top A.root A.typed in (x.0, record { top = x.1; body = body; result = result }, x.2)
  where
    body : (c : ℕ) (m : Name) (q : Meth) → method_of (B.class c) m ≡ Some q → B ∣ in_method c q.takes ⊩ B.node q.body ∶com
    body c m q e =
        let p = method_part (B.class c) e in
        let k = A.stands.class c p.0 p.1 in
        let n = A.stands.method c p.0 k.0 m q p.1 k.1 p.2 in
        node_typed_com A.stands (is_in p.1 n.2.takes) n.2.body (A.bodies p.0.called k.0 m n.0 k.1 n.1).0

    result : (c : ℕ) (m : Name) (q : Meth) → method_of (B.class c) m ≡ Some q → B ∣ in_method c q.takes ⊩ B.node q.result ∶ q.gives
    result c m q e =
        let p = method_part (B.class c) e in
        let k = A.stands.class c p.0 p.1 in
        let n = A.stands.method c p.0 k.0 m q p.1 k.1 p.2 in
        let x = node_typed A.stands (is_in p.1 n.2.takes) n.2.result (A.bodies p.0.called k.0 m n.0 k.1 n.1).1 in
        let z = types_one_to_one B A.stands.distinct x.0 q.gives n.0.result x.2 n.2.gives in
        rw z at x.1
