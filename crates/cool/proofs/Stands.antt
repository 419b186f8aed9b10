-- A book and a class environment, class by class and method by method.
use Rattle.std.proofs.Common.{◌≡◌, ℕ, Bool, true, false, cond, eqb, List, [], ◌∷◌, ◌++◌, Some, None, Option, refl}
use Rattle.book.specs.declared.node.Type.{«Type» as BType}
use Rattle.cool.specs.Syntax.{Name, Ty, Expr, Method, Class, FE, CE, find}
use Rattle.cool.specs.Static.{◌∣◌∣◌⊢◌∶◌, ◌∣◌∣◌⊢◌∶com}
use Rattle.cool.specs.Book.{Meth, Part, Book, method_of, type_of, Formed, ClassesDistinct}
use Rattle.cool.specs.Says.{◌⊩◌▷◌, ◌⊩◌▷com◌}
use Rattle.cool.proofs.Base.{no_some}

-- fields with their types, name by name
pub data FieldsAre (B : Book) : List (Name × BType) → FE → Type 0 where
  f_nil : FieldsAre B [] []
  f_cons : {f : Name} {t : BType} {u : Ty} {fs : List (Name × BType)} {fe : FE} → type_of B t ≡ Some u → FieldsAre B fs fe → FieldsAre B ((f, t) ∷ fs) ((f, u) ∷ fe)

pub fields_snoc : {B : Book} {fs : List (Name × BType)} {fe : FE} (f : Name) (t : BType) {u : Ty} → FieldsAre B fs fe → type_of B t ≡ Some u → FieldsAre B (fs ++ ((f, t) ∷ [])) (fe ++ ((f, u) ∷ []))
fields_snoc f t f_nil e = f_cons e f_nil
fields_snoc f t (f_cons i r) e = f_cons i (fields_snoc f t r e)

pub field_to : {B : Book} {fs : List (Name × BType)} {fe : FE} (f : Name) (t : BType) → FieldsAre B fs fe → find fs f ≡ Some t → (u : Ty) × (find fe f ≡ Some u) × (type_of B t ≡ Some u)
field_to f t f_nil e = no_some e
field_to {B} f t (f_cons {f = g} {t = s} {u} {fs} {fe} i r) e = by (eqb f g) e (λ e. field_to f t r e)
  where
    by : (b : Bool) → cond b (Some s) (find fs f) ≡ Some t → (find fs f ≡ Some t → (u : Ty) × (find fe f ≡ Some u) × (type_of B t ≡ Some u))
        → (w : Ty) × (cond b (Some u) (find fe f) ≡ Some w) × (type_of B t ≡ Some w)
    by true e more = let q : s ≡ t = cc in (u, refl, rw q at i)
    by false e more = more e

pub field_from : {B : Book} {fs : List (Name × BType)} {fe : FE} (f : Name) (u : Ty) → FieldsAre B fs fe → find fe f ≡ Some u → (t : BType) × (find fs f ≡ Some t) × (type_of B t ≡ Some u)
field_from f u f_nil e = no_some e
field_from {B} f u (f_cons {f = g} {t = s} {u = w} {fs} {fe} i r) e = by (eqb f g) e (λ e. field_from f u r e)
  where
    by : (b : Bool) → cond b (Some w) (find fe f) ≡ Some u → (find fe f ≡ Some u → (t : BType) × (find fs f ≡ Some t) × (type_of B t ≡ Some u))
        → (t : BType) × (cond b (Some s) (find fs f) ≡ Some t) × (type_of B t ≡ Some u)
    by true e more = let q : w ≡ u = cc in (s, refl, rw q at i)
    by false e more = more e

-- a method of the book stands for a method
pub record Meant (B : Book) (q : Meth) (n : Method) : Type 0 where
  pub takes : type_of B q.takes ≡ Some n.param
  pub gives : type_of B q.gives ≡ Some n.result
  pub body : B ⊩ B.node q.body ▷com n.command
  pub result : B ⊩ B.node q.result ▷ n.returned

-- both ways; a class by its number in the book, by its name in the environment
pub record Stands (B : Book) (ce : CE) : Type 0 where
  pub distinct : ClassesDistinct B
  pub class : (c : ℕ) (p : Part) → B.class c ≡ Some p → (k : Class) × (ce p.called ≡ Some k) × FieldsAre B p.fields k.fields
  pub class_back : (x : Name) (k : Class) → ce x ≡ Some k → (c : ℕ) × (p : Part) × (B.class c ≡ Some p) × (p.called ≡ x)
  pub method : (c : ℕ) (p : Part) (k : Class) (m : Name) (q : Meth) → B.class c ≡ Some p → ce p.called ≡ Some k → find p.methods m ≡ Some q
      → (n : Method) × (k.methods m ≡ Some n) × Meant B q n
  pub method_back : (c : ℕ) (p : Part) (k : Class) (m : Name) (n : Method) → B.class c ≡ Some p → ce p.called ≡ Some k → k.methods m ≡ Some n
      → (q : Meth) × (find p.methods m ≡ Some q) × Meant B q n

-- they agree, the book stands for e at the top, and all of it is well typed, the top with type u
pub record Agreed (B : Book) (ce : CE) (e : Expr) (u : Ty) : Type 0 where
  pub formed : Formed B
  pub stands : Stands B ce
  pub root : B ⊩ B.node B.root ▷ e
  pub typed : ce ∣ None ∣ None ⊢ e ∶ u
  pub bodies : (x : Name) (k : Class) (m : Name) (n : Method) → ce x ≡ Some k → k.methods m ≡ Some n
      → (ce ∣ Some n.param ∣ Some x ⊢ n.command ∶com) × (ce ∣ Some n.param ∣ Some x ⊢ n.returned ∶ n.result)

pub method_part : {m : Name} {q : Meth} (o : Option Part) → method_of o m ≡ Some q → (p : Part) × (o ≡ Some p) × (find p.methods m ≡ Some q)
method_part None e = no_some e
method_part (Some p) e = (p, refl, e)
