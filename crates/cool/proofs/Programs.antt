-- What a book says and what the rules give agree, class by class.
use Rattle.std.proofs.Common.{◌≡◌, ℕ, suc, ◌<◌, ◌≤◌, Bool, true, false, cond, eqb, ◌⊎◌, List, [], ◌∷◌, ◌++◌, Some, None, sym, refl, ap, ◌∙◌, inl, inr, eq-or-lt_of_le, arith}
use Rattle.book.specs.declared.node.Type.{«Type» as BType}
use Rattle.cool.specs.Syntax.{Name, Ty, Expr, Com, Method, Class, FE, ME, CE, Decls, FieldDecl, MethodDecl, ClassDecl, program, find, ◌⟨◌⟼◌⟩, ∅}
use Rattle.cool.specs.Static.{◌∣◌∣◌⊢◌∶◌, ◌∣◌∣◌⊢◌∶com}
use Rattle.cool.specs.Program as P
use Rattle.cool.specs.Program.{◌⊢fields◌⇒◌, ◌∣◌⊢methods◌⇒◌, ◌⊢classes◌⇒◌, ◌⇝◌∣◌, typed}
use Rattle.cool.specs.Book.{Meth, Part, Book, Formed}
use Rattle.cool.specs.Says.{FieldSays, field_says, MethodSays, method_says, InOrder, nothing, one_more, ClassesSay, no_classes, a_class, Says, says, Accepted}
use Rattle.cool.proofs.Base.{no_some, eqb_self, eqb_eq, none_or, below, find_other, find_mid}
use Rattle.cool.proofs.Stands.{FieldsAre, f_nil, fields_snoc, Meant, Stands, Agreed}

pub fields_agree : {B : Book} {ce : CE} {fds : Decls FieldDecl} {fe : FE} {fs : List (Name × BType)} → ce ⊢fields fds ⇒ fe → InOrder (FieldSays B) fs fds → FieldsAre B fs fe
fields_agree P.no_fields nothing = f_nil
fields_agree (P.a_field x n q) (one_more y (field_says {f = f} {t = t} i) r) = rw (q, r) (fields_snoc f t (fields_agree x y) i)

-- methods agree
pub record Meths (B : Book) (ms : List (Name × Meth)) (me : ME) : Type 0 where
  pub to : (m : Name) (q : Meth) → find ms m ≡ Some q → (n : Method) × (me m ≡ Some n) × Meant B q n
  pub back : (m : Name) (n : Method) → me m ≡ Some n → (q : Meth) × (find ms m ≡ Some q) × Meant B q n

-- classes agree
pub record ClassIs (B : Book) (p : Part) (k : Class) : Type 0 where
  pub fields : FieldsAre B p.fields k.fields
  pub methods : Meths B p.methods k.methods

pub record Classes (B : Book) (n : ℕ) (ce : CE) : Type 0 where
  pub to : (c : ℕ) → c < n → (p : Part) × (k : Class) × (B.class c ≡ Some p) × (ce p.called ≡ Some k) × ClassIs B p k
  pub back : (x : Name) (k : Class) → ce x ≡ Some k → (c : ℕ) × (c < n) × ((p : Part) × (B.class c ≡ Some p) × (p.called ≡ x))
  pub distinct : (c d : ℕ) (p q : Part) → c < n → d < n → B.class c ≡ Some p → B.class d ≡ Some q → p.called ≡ q.called → c ≡ d

module _ {B : Book} where
  pub more_meths : {ms ms' : List (Name × Meth)} {me me' : ME} {m₀ : Name} {q₀ : Meth} {u v : Ty} {c : Com} {e : Expr} → Meths B ms me → me m₀ ≡ None
      → me' ≡ me ⟨ m₀ ⟼ record { param = v; result = u; command = c; returned = e } ⟩ → ms' ≡ ms ++ ((m₀, q₀) ∷ [])
      → Meant B q₀ (record { param = v; result = u; command = c; returned = e }) → Meths B ms' me'
  more_meths {ms} {ms'} {me} {me'} {m₀} {q₀} {u} {v} {c} {e} H f i j means =
      record { to = λ m q x. to_by m q (eqb m m₀) refl x; back = λ m n x. back_by m n (eqb m m₀) refl (sym (at m) ∙ x) }
    where
      at : (m : Name) → me' m ≡ (me ⟨ m₀ ⟼ record { param = v; result = u; command = c; returned = e } ⟩) m
      at m = ap (λ (f : ME). f m) i

      new_none : find ms m₀ ≡ None
      new_none = by (none_or (find ms m₀))
        where
          by : (find ms m₀ ≡ None) ⊎ ((q : Meth) × (find ms m₀ ≡ Some q)) → find ms m₀ ≡ None
          by (inl n) = n
          by (inr x) = let y = H.to m₀ x.0 x.1 in no_some (sym f ∙ y.1)

      last : (m : Name) → eqb m m₀ ≡ true → find ms' m ≡ Some q₀
      last m t = let z = eqb_eq m m₀ t in rw j (find_mid ms [] m m₀ q₀ (rw z new_none) t)

      to_by : (m : Name) (q : Meth) (b : Bool) → eqb m m₀ ≡ b → find ms' m ≡ Some q → (n : Method) × (me' m ≡ Some n) × Meant B q n
      to_by m q true t x =
          let same : Some q ≡ Some q₀ = sym x ∙ last m t in
          let z : q ≡ q₀ = cc in
          (record { param = v; result = u; command = c; returned = e }, at m ∙ rw t, rw z means)
      to_by m q false t x = let y = H.to m q (sym (find_other ms m m₀ q₀ t) ∙ (rw j at x)) in (y.0, at m ∙ rw t y.1, y.2)

      back_by : (m : Name) (n : Method) (b : Bool) → eqb m m₀ ≡ b → cond b (Some (record { param = v; result = u; command = c; returned = e })) (me m) ≡ Some n
          → (q : Meth) × (find ms' m ≡ Some q) × Meant B q n
      back_by m n true t x = let z : record { param = v; result = u; command = c; returned = e } ≡ n = cc in (q₀, last m t, rw (← z) means)
      back_by m n false t x = let y = H.back m n x in (y.0, rw j (find_other ms m m₀ q₀ t ∙ y.1), y.2)

  pub no_meths : {me : ME} → me ≡ ∅ → Meths B [] me
  no_meths i = record { to = λ m q x. no_some x; back = λ m n x. no_some (sym (ap (λ (f : ME). f m) i) ∙ x) }

  pub meths : {ce : CE} {θ : Name} {mds : Decls MethodDecl} {me : ME} {ms : List (Name × Meth)} → ce ∣ θ ⊢methods mds ⇒ me → InOrder (MethodSays B) ms mds → Meths B ms me
  meths (P.no_methods i) nothing = no_meths i
  meths (P.a_method x tc te f i) (one_more y (method_says tk gv bc be) j) = more_meths (meths x y) f i j (record { takes = tk; gives = gv; body = bc; result = be })

  pub more_classes : {n : ℕ} {p : Part} {ce' ce'' : CE} {k : Class} → Classes B n ce' → B.class n ≡ Some p → ClassIs B p k → ce' p.called ≡ None → ce'' ≡ ce' ⟨ p.called ⟼ k ⟩
      → Classes B (suc n) ce''
  more_classes {n} {p} {ce'} {ce''} {k = k₀} H i K f e =
      record {
        to = λ c l. to_by c (low c l);
        back = λ x k y. back_by x k (eqb x p.called) refl (sym (at x) ∙ y);
        distinct = λ c d q r l m a b s. apart c d q r (low c l) (low d m) a b s;
      }
    where
      at : (x : Name) → ce'' x ≡ (ce' ⟨ p.called ⟼ k₀ ⟩) x
      at x = ap (λ (g : CE). g x) e

      low : (c : ℕ) → c < suc n → (c ≡ n) ⊎ (c < n)
      low c l = let h : c ≤ n = omega arith in eq-or-lt_of_le h

      -- the new class's name is none of theirs
      other : (x : Name) (k : Class) → ce' x ≡ Some k → eqb x p.called ≡ false
      other x k j = by (eqb x p.called) refl
        where
          by : (b : Bool) → eqb x p.called ≡ b → b ≡ false
          by true t = let z = eqb_eq x p.called t in no_some (sym f ∙ (ap ce' (sym z) ∙ j))
          by false t = refl

      to_by : (c : ℕ) → (c ≡ n) ⊎ (c < n) → (p : Part) × (k : Class) × (B.class c ≡ Some p) × (ce'' p.called ≡ Some k) × ClassIs B p k
      to_by c (inl z) = let s = eqb_self p.called in (p, k₀, rw z i, at p.called ∙ rw s, K)
      to_by c (inr l) = let y = H.to c l in let o = other y.0.called y.1 y.3 in (y.0, y.1, y.2, at y.0.called ∙ rw o y.3, y.4)

      back_by : (x : Name) (k : Class) (b : Bool) → eqb x p.called ≡ b → cond b (Some k₀) (ce' x) ≡ Some k
          → (c : ℕ) × (c < suc n) × ((p : Part) × (B.class c ≡ Some p) × (p.called ≡ x))
      back_by x k true t y = let z = eqb_eq x p.called t in (n, omega arith, (p, i, sym z))
      back_by x k false t y = let w = H.back x k y in let l = w.1 in (w.0, omega arith, w.2)

      -- a class before it has another name
      not_before : {A : Type 0} (d : ℕ) (q : Part) → d < n → B.class d ≡ Some q → p.called ≡ q.called → A
      not_before d q l a s =
          let y = H.to d l in
          let w : Some q ≡ Some y.0 = sym a ∙ y.2 in
          let z : q ≡ y.0 = cc in
          no_some (sym f ∙ (ap ce' (s ∙ ap (λ (r : Part). r.called) z) ∙ y.3))

      apart : (c d : ℕ) (q r : Part) → (c ≡ n) ⊎ (c < n) → (d ≡ n) ⊎ (d < n) → B.class c ≡ Some q → B.class d ≡ Some r → q.called ≡ r.called → c ≡ d
      apart c d q r (inl x) (inl y) a b s = x ∙ sym y
      apart c d q r (inl x) (inr y) a b s = let w : Some q ≡ Some p = sym a ∙ (rw x i) in let z : q ≡ p = cc in not_before d r y b (sym (ap (λ (r : Part). r.called) z) ∙ s)
      apart c d q r (inr x) (inl y) a b s = let w : Some r ≡ Some p = sym b ∙ (rw y i) in let z : r ≡ p = cc in not_before c q x a (sym (ap (λ (r : Part). r.called) z) ∙ sym s)
      apart c d q r (inr x) (inr y) a b s = H.distinct c d q r x y a b s

  pub none_yet : {ce : CE} → ce ≡ ∅ → Classes B 0 ce
  none_yet i = record { to = λ c l. absurd (omega arith); back = λ x k y. no_some (sym (ap (λ (g : CE). g x) i) ∙ y); distinct = λ c d p q l m a b s. absurd (omega arith) }

  classes : {ce : CE} {n : ℕ} {cds : Decls ClassDecl} {ce' : CE} → ce ⊢classes cds ⇒ ce' → ClassesSay B n cds → Classes B n ce'
  classes (P.no_classes i) no_classes = none_yet i
  classes (P.a_class x f m n e) (a_class y i g h) = more_classes (classes x y) i (record { fields = fields_agree f g; methods = meths m h }) n e

-- methods are typed
abbrev pub TypedMethod : CE → Name → Method → Type 0
TypedMethod ce θ n = (ce ∣ Some n.param ∣ Some θ ⊢ n.command ∶com) × (ce ∣ Some n.param ∣ Some θ ⊢ n.returned ∶ n.result)

methods_typed : {ce : CE} {θ : Name} {mds : Decls MethodDecl} {me : ME} → ce ∣ θ ⊢methods mds ⇒ me → (m : Name) (n : Method) → me m ≡ Some n → TypedMethod ce θ n
methods_typed (P.no_methods i) m n x = no_some (sym (ap (λ (f : ME). f m) i) ∙ x)
methods_typed {ce} {θ} (P.a_method {me = me} {u = u} {v = v} {m = m₀} {c = c} {e = e} y tc te f i) m n x = by (eqb m m₀) (sym (ap (λ (f : ME). f m) i) ∙ x) (λ x. methods_typed y m n x)
  where
    by : (b : Bool) → cond b (Some (record { param = v; result = u; command = c; returned = e })) (me m) ≡ Some n → (me m ≡ Some n → TypedMethod ce θ n) → TypedMethod ce θ n
    by true x more = let z : record { param = v; result = u; command = c; returned = e } ≡ n = cc in rw (← z) (tc, te)
    by false x more = more x

classes_typed : {ce : CE} {cds : Decls ClassDecl} {ce' : CE} → ce ⊢classes cds ⇒ ce' → (x : Name) (k : Class) (m : Name) (n : Method) → ce' x ≡ Some k → k.methods m ≡ Some n → TypedMethod ce x n
classes_typed (P.no_classes i) x k m n j f = no_some (sym (ap (λ (g : CE). g x) i) ∙ j)
classes_typed {ce} (P.a_class {ce' = ce'} {fe = fe} {me = me} {c = c} y g h o i) x k m n j f = by (eqb x c) refl (sym (ap (λ (g : CE). g x) i) ∙ j) (λ j. classes_typed y x k m n j f)
  where
    by : (b : Bool) → eqb x c ≡ b → cond b (Some (record { fields = fe; methods = me })) (ce' x) ≡ Some k → (ce' x ≡ Some k → TypedMethod ce x n) → TypedMethod ce x n
    by true t j more = let z : record { fields = fe; methods = me } ≡ k = cc in let q = eqb_eq x c t in rw q (methods_typed h m n (ap (λ (k : Class). k.methods m) z ∙ f))
    by false t j more = more j

module _ {B : Book} {ce : CE} (F : Formed B) (C : Classes B B.classes ce) where
  -- a class of the book is one of its classes
  there : (c : ℕ) (p : Part) → B.class c ≡ Some p → c < B.classes
  there c p i = by (below c B.classes)
    where
      by : (c < B.classes) ⊎ (B.classes ≤ c) → c < B.classes
      by (inl l) = l
      by (inr l) = no_some (sym (F.no_others c l) ∙ i)

  same_class : (c : ℕ) (p : Part) (k : Class) → B.class c ≡ Some p → ce p.called ≡ Some k → ClassIs B p k
  same_class c p k i j =
      let x = C.to c (there c p i) in
      let a : Some x.0 ≡ Some p = sym x.2 ∙ i in
      let q : x.0 ≡ p = cc in
      let b : Some x.1 ≡ Some k = sym x.3 ∙ (ap (λ (r : Part). ce r.called) q ∙ j) in
      let r : x.1 ≡ k = cc in
      rw (← q, ← r) x.4

  pub stands : Stands B ce
  stands =
      record {
        distinct = λ c d p q i j s. C.distinct c d p q (there c p i) (there d q j) i j s;
        class = λ c p i. by c p i (C.to c (there c p i));
        class_back = λ x k j. let y = C.back x k j in (y.0, y.2.0, y.2.1, y.2.2);
        method = λ c p k m q i j f. (same_class c p k i j).methods.to m q f;
        method_back = λ c p k m n i j f. (same_class c p k i j).methods.back m n f;
      }
    where
      by : (c : ℕ) (p : Part) → B.class c ≡ Some p → (p : Part) × (k : Class) × (B.class c ≡ Some p) × (ce p.called ≡ Some k) × ClassIs B p k
          → (k : Class) × (ce p.called ≡ Some k) × FieldsAre B p.fields k.fields
      by c p i x =
          let a : Some x.0 ≡ Some p = sym x.2 ∙ i in
          let q : x.0 ≡ p = cc in
          let j = ap (λ (r : Part). ce r.called) (sym q) ∙ x.3 in
          (x.1, j, (same_class c p x.1 i j).fields)

-- an accepted book, class by class
pub accepted : {B : Book} {ce : CE} {e : Expr} {u : Ty} → Accepted B ce e u → Agreed B ce e u
accepted A = by A.decls A.formed A.stands_for A.has_type
  where
    by : {B : Book} {ce : CE} {e : Expr} {u : Ty} (cds : Decls ClassDecl) → Formed B → Says B (program cds e) → program cds e ⇝ ce ∣ u → Agreed B ce e u
    by cds F (says c r) (typed x t) = let C = classes x c in record { formed = F; stands = stands F C; root = r; typed = t; bodies = classes_typed x }
