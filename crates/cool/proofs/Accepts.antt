-- Accepted exactly when names are distinct and nodes are well typed.
use Rattle.std.proofs.Common.{◌≡◌, ℕ, zero, suc, ◌<◌, ◌≤◌, Bool, true, false, cond, eqb, ◌⊎◌, List, [], ◌∷◌, ◌++◌, length, Some, None, Option, sym, refl, ap, ◌∙◌, inl, inr, arith}
use Rattle.std.specs.List.{slice_get}
use Rattle.book.specs.declared.node.Node.{Node}
use Rattle.book.specs.declared.node.Type.{«Type» as BType}
use Rattle.book.specs.declared.node.Type.TheVariants as T
use Rattle.cool.specs.Syntax as S
use Rattle.cool.specs.Syntax.{Name, Ty, int, boolean, class, Expr, Com, Method, FE, ME, CE, PE, Decls, ε, ◌▸◌, FieldDecl, private, MethodDecl, public, ClassDecl, class_decl, Program, program, find, ◌⟨◌⟼◌⟩, ∅}
use Rattle.cool.specs.Static.{◌∣◌∣◌⊢◌∶◌, ◌∣◌∣◌⊢◌∶com, t_literal, t_minus, t_this, t_parameter, t_field, t_call, t_new, t_less, t_equal, t_is_null, t_reading, t_assign, t_seq, t_if, t_while, t_skip}
use Rattle.cool.specs.Program as P
use Rattle.cool.specs.Program.{◌⊢fields◌⇒◌, ◌∣◌⊢methods◌⇒◌, ◌⊢classes◌⇒◌, ◌⇝◌∣◌, typed}
use Rattle.cool.specs.Book.{Meth, Part, Book, fields_of, method_of, type_of, Formed}
use Rattle.cool.specs.Says.{◌⊩◌▷◌, ◌⊩◌▷com◌, is_literal, is_minus, is_less, is_equal, is_is_null, is_this, is_parameter, is_field, is_call, is_new, is_reading, is_assign, is_seq, is_if, is_while, is_skip, FieldSays, field_says, MethodSays, method_says, InOrder, nothing, one_more, ClassesSay, no_classes, a_class, Says, says, Accepted}
use Rattle.cool.specs.Nodes.{Where, in_method, ◌∣◌⊩◌∶◌, ◌∣◌⊩◌∶com, n_literal, n_minus, n_less, n_equal, n_is_null, n_this, n_parameter, n_field, n_call, n_new, n_reading, n_assign, n_seq, n_if, n_while, n_skip, Well}
use Rattle.cool.specs.Accepts.{Distinct, NamesDistinct, AcceptsExactly}
use Rattle.cool.proofs.Base.{no_some, eqb_self, none_or, below, find_nth}
use Rattle.cool.proofs.Says.{one_program, class_type}
use Rattle.cool.proofs.Stands.{FieldsAre, f_nil, fields_snoc, field_to, field_from, Meant, Stands}
use Rattle.cool.proofs.Programs.{fields_agree, meths, TypedMethod, Meths, ClassIs, Classes, more_meths, no_meths, more_classes, none_yet, stands, accepted}
use Rattle.cool.proofs.Typing.{WhereIs, is_top, is_in, class_says, well_typed}

-- entries by place, with one more at the end
nth_snoc : {A : Type 0} (xs : List A) (a : A) → slice_get (xs ++ (a ∷ [])) (length xs) ≡ Some a
nth_snoc [] a = refl
nth_snoc (x ∷ xs) a = nth_snoc xs a

nth_before : {A : Type 0} (xs : List A) (a b : A) (i : ℕ) → slice_get xs i ≡ Some b → slice_get (xs ++ (a ∷ [])) i ≡ Some b
nth_before [] a b i e = no_some e
nth_before (x ∷ xs) a b zero e = e
nth_before (x ∷ xs) a b (suc i) e = nth_before xs a b i e

nth_split : {A : Type 0} (xs : List A) (a b : A) (i : ℕ) → slice_get (xs ++ (a ∷ [])) i ≡ Some b → (slice_get xs i ≡ Some b) ⊎ ((i ≡ length xs) × (a ≡ b))
nth_split [] a b zero e = inr (refl, cc)
nth_split [] a b (suc i) e = no_some e
nth_split (x ∷ xs) a b zero e = inl e
nth_split (x ∷ xs) a b (suc i) e = by (nth_split xs a b i e)
  where
    by : (slice_get xs i ≡ Some b) ⊎ ((i ≡ length xs) × (a ≡ b)) → (slice_get xs i ≡ Some b) ⊎ ((suc i ≡ suc (length xs)) × (a ≡ b))
    by (inl e) = inl e
    by (inr e) = inr (ap suc e.0, e.1)

nth_less : {A : Type 0} (xs : List A) (b : A) (i : ℕ) → slice_get xs i ≡ Some b → i < length xs
nth_less [] b i e = no_some e
nth_less (x ∷ xs) b zero e = omega arith
nth_less (x ∷ xs) b (suc i) e = let l = nth_less xs b i e in omega arith

-- what stands in the list is found by its name
nth_find : {A : Type 0} (xs : List (Name × A)) (m : Name) (a : A) (i : ℕ) → slice_get xs i ≡ Some (m, a) → (b : A) × (find xs m ≡ Some b)
nth_find [] m a i e = no_some e
nth_find (x ∷ xs) m a zero e = let p : x.0 ≡ m = ap (λ (y : Name × _). y.0) (inside e) in let s = eqb_self m in (x.1, rw (p, s))
  where
    inside : {A : Type 0} {x y : A} → Some x ≡ Some y → x ≡ y
    inside e = cc
nth_find (x ∷ xs) m a (suc i) e = by (eqb m x.0) (nth_find xs m a i e)
  where
    by : (c : Bool) → (b : _) × (find xs m ≡ Some b) → (b : _) × (cond c (Some x.1) (find xs m) ≡ Some b)
    by true y = (x.1, refl)
    by false y = y

-- distinct names: with one more, and without it
distinct_snoc : {A : Type 0} (xs : List (Name × A)) (m : Name) (a : A) → Distinct xs → find xs m ≡ None → Distinct (xs ++ ((m, a) ∷ []))
distinct_snoc {A} xs m a D n i j k b c e f = by (nth_split xs (m, a) (k, b) i e) (nth_split xs (m, a) (k, c) j f)
  where
    not_there : {X : Type 0} (i : ℕ) (b : A) → slice_get xs i ≡ Some (k, b) → m ≡ k → X
    not_there i b e q = let x = nth_find xs k b i e in no_some (sym n ∙ (ap (find xs) q ∙ x.1))

    by : (slice_get xs i ≡ Some (k, b)) ⊎ ((i ≡ length xs) × (◌≡◌ {A = Name × A} (m, a) (k, b))) → (slice_get xs j ≡ Some (k, c)) ⊎ ((j ≡ length xs) × (◌≡◌ {A = Name × A} (m, a) (k, c))) → i ≡ j
    by (inl e) (inl f) = D i j k b c e f
    by (inl e) (inr f) = not_there i b e (ap (λ (y : Name × A). y.0) f.1)
    by (inr e) (inl f) = not_there j c f (ap (λ (y : Name × A). y.0) e.1)
    by (inr e) (inr f) = e.0 ∙ sym f.0

distinct_less : {A : Type 0} (xs : List (Name × A)) (m : Name) (a : A) → Distinct (xs ++ ((m, a) ∷ [])) → Distinct xs
distinct_less xs m a D i j k b c e f = D i j k b c (nth_before xs (m, a) (k, b) i e) (nth_before xs (m, a) (k, c) j f)

distinct_last : {A : Type 0} (xs : List (Name × A)) (m : Name) (a : A) → Distinct (xs ++ ((m, a) ∷ [])) → find xs m ≡ None
distinct_last {A} xs m a D = by (none_or (find xs m))
  where
    by : (find xs m ≡ None) ⊎ ((b : A) × (find xs m ≡ Some b)) → find xs m ≡ None
    by (inl n) = n
    by (inr x) =
        let y = find_nth xs m x.0 x.1 in
        let l = nth_less xs (m, x.0) y.0 y.1 in
        let z = D y.0 (length xs) m x.0 a (nth_before xs (m, a) (m, x.0) y.0 y.1) (nth_snoc xs (m, a)) in
        absurd (omega arith)

-- a name that a list has, in a list without two of one name
pub distinct_find : {A : Type 0} (xs : List (Name × A)) (m : Name) (a : A) (i : ℕ) → Distinct xs → slice_get xs i ≡ Some (m, a) → find xs m ≡ Some a
distinct_find xs m a i D e =
    let x = nth_find xs m a i e in
    let y = find_nth xs m x.0 x.1 in
    let z = D i y.0 m a x.0 e y.1 in
    let w : Some (m, a) ≡ Some (m, x.0) = sym e ∙ (ap (slice_get xs) z ∙ y.1) in
    x.1 ∙ ap (λ (p : Option (Name × _)). value p) (sym w)
  where
    value : {A : Type 0} → Option (Name × A) → Option A
    value None = None
    value (Some y) = Some y.1

-- the rules give distinct names
fields_none : {B : Book} {fs : List (Name × BType)} {fe : FE} (f : Name) → FieldsAre B fs fe → find fe f ≡ None → find fs f ≡ None
fields_none {fs = fs} f A n = by (none_or (find fs f))
  where
    by : (find fs f ≡ None) ⊎ ((t : BType) × (find fs f ≡ Some t)) → find fs f ≡ None
    by (inl m) = m
    by (inr x) = let y = field_to f x.0 A x.1 in no_some (sym n ∙ y.1)

fields_distinct : {B : Book} {ce : CE} {fds : Decls FieldDecl} {fe : FE} {fs : List (Name × BType)} → ce ⊢fields fds ⇒ fe → InOrder (FieldSays B) fs fds → Distinct fs
fields_distinct P.no_fields nothing = λ i j m a b e f. no_some e
fields_distinct (P.a_field x n q) (one_more {xs = xs} y (field_says {f = f} {t = t} i) r) = rw r (distinct_snoc xs f t (fields_distinct x y) (fields_none f (fields_agree x y) n))

meths_none : {B : Book} {ms : List (Name × Meth)} {me : ME} (m : Name) → Meths B ms me → me m ≡ None → find ms m ≡ None
meths_none {ms = ms} m H n = by (none_or (find ms m))
  where
    by : (find ms m ≡ None) ⊎ ((q : Meth) × (find ms m ≡ Some q)) → find ms m ≡ None
    by (inl i) = i
    by (inr x) = let y = H.to m x.0 x.1 in no_some (sym n ∙ y.1)

methods_distinct : {B : Book} {ce : CE} {θ : Name} {mds : Decls MethodDecl} {me : ME} {ms : List (Name × Meth)} → ce ∣ θ ⊢methods mds ⇒ me → InOrder (MethodSays B) ms mds → Distinct ms
methods_distinct (P.no_methods i) nothing = λ i j m a b e f. no_some e
methods_distinct (P.a_method x tc te n i) (one_more {xs = xs} y (method_says {m = m} {q = q} tk gv bc be) r) = rw r (distinct_snoc xs m q (methods_distinct x y) (meths_none m (meths x y) n))

abbrev PartDistinct : Book → ℕ → Type 0
PartDistinct B c = (p : Part) × (B.class c ≡ Some p) × Distinct p.fields × Distinct p.methods

parts_distinct : {B : Book} {ce : CE} {n : ℕ} {cds : Decls ClassDecl} {ce' : CE} → ce ⊢classes cds ⇒ ce' → ClassesSay B n cds → (c : ℕ) → c < n → PartDistinct B c
parts_distinct (P.no_classes i) no_classes c l = absurd (omega arith)
parts_distinct {B} (P.a_class x f m o e) (a_class {n = n} {p = p} y i g h) c l = by (below c n) (λ l. parts_distinct x y c l)
  where
    by : (c < n) ⊎ (n ≤ c) → (c < n → PartDistinct B c) → PartDistinct B c
    by (inl l) more = more l
    by (inr k) more = let z : c ≡ n = omega arith in rw z (p, i, fields_distinct f g, methods_distinct m h)

-- an accepted book has distinct names
accepted_distinct : {B : Book} {ce : CE} {e : Expr} {u : Ty} → Accepted B ce e u → NamesDistinct B
accepted_distinct {B} {ce} {e} {u} A = record { classes = (accepted A).stands.distinct; fields = λ c p i. (part c p i).0; methods = λ c p i. (part c p i).1 }
  where
    part_by : {cds : Decls ClassDecl} → Says B (program cds e) → program cds e ⇝ ce ∣ u → (c : ℕ) → c < B.classes → PartDistinct B c
    part_by (says k r) (typed x t) c l = parts_distinct x k c l

    part : (c : ℕ) (p : Part) → B.class c ≡ Some p → Distinct p.fields × Distinct p.methods
    part c p i = by (below c B.classes)
      where
        by : (c < B.classes) ⊎ (B.classes ≤ c) → Distinct p.fields × Distinct p.methods
        by (inl l) =
            let x = part_by A.stands_for A.has_type c l in
            let y : Some x.0 ≡ Some p = sym x.1 ∙ i in
            let z : x.0 ≡ p = cc in
            (rw z at x.2, rw z at x.3)
        by (inr l) = no_some (sym (A.formed.no_others c l) ∙ i)

-- the environments that declarations give rise to
fe_of : Decls FieldDecl → FE
fe_of ε = []
fe_of (ds ▸ private u f) = fe_of ds ++ ((f, u) ∷ [])

me_of : Decls MethodDecl → ME
me_of ε = ∅
me_of (ds ▸ public u m v c e) = me_of ds ⟨ m ⟼ record { param = v; result = u; command = c; returned = e } ⟩

ce_of : Decls ClassDecl → CE
ce_of ε = ∅
ce_of (ds ▸ class_decl c fds mds) = ce_of ds ⟨ c ⟼ record { fields = fe_of fds; methods = me_of mds } ⟩

fields_back_none : {B : Book} {fs : List (Name × BType)} {fe : FE} (f : Name) → FieldsAre B fs fe → find fs f ≡ None → find fe f ≡ None
fields_back_none {fe = fe} f A n = by (none_or (find fe f))
  where
    by : (find fe f ≡ None) ⊎ ((u : Ty) × (find fe f ≡ Some u)) → find fe f ≡ None
    by (inl m) = m
    by (inr x) = let y = field_from f x.0 A x.1 in no_some (sym n ∙ y.1)

fields_rule : {B : Book} {fds : Decls FieldDecl} {fs : List (Name × BType)} (ce : CE) → InOrder (FieldSays B) fs fds → Distinct fs → (ce ⊢fields fds ⇒ fe_of fds) × FieldsAre B fs (fe_of fds)
unfolding fe_of
fields_rule ce nothing D = (P.no_fields, f_nil)
fields_rule {fs = fs} ce (one_more {xs = xs} y (field_says {f = f} {t = t} i) r) D =
    let D' = at r D in
    let x = fields_rule ce y (distinct_less xs f t D') in
    (P.a_field x.0 (fields_back_none f x.1 (distinct_last xs f t D')) refl, rw r (fields_snoc f t x.1 i))
  where
    at : {xs ys : List (Name × BType)} → xs ≡ ys → Distinct xs → Distinct ys
    at e D = rw e at D

meths_back_none : {B : Book} {ms : List (Name × Meth)} {me : ME} (m : Name) → Meths B ms me → find ms m ≡ None → me m ≡ None
meths_back_none {me = me} m H n = by (none_or (me m))
  where
    by : (me m ≡ None) ⊎ ((q : Method) × (me m ≡ Some q)) → me m ≡ None
    by (inl i) = i
    by (inr x) = let y = H.back m x.0 x.1 in no_some (sym n ∙ y.1)

at_list : {xs ys : List (Name × Meth)} → xs ≡ ys → Distinct xs → Distinct ys
at_list e D = rw e at D

declared_meths : {B : Book} {mds : Decls MethodDecl} {ms : List (Name × Meth)} → InOrder (MethodSays B) ms mds → Distinct ms → Meths B ms (me_of mds)
unfolding me_of
declared_meths nothing D = no_meths refl
declared_meths (one_more {xs = xs} y (method_says {m = m} {q = q} tk gv bc be) r) D =
    let D' = at_list r D in
    let H = declared_meths y (distinct_less xs m q D') in
    more_meths H (meths_back_none m H (distinct_last xs m q D')) refl r (record { takes = tk; gives = gv; body = bc; result = be })

methods_rule : {B : Book} {mds : Decls MethodDecl} {ms : List (Name × Meth)} (ce : CE) (θ : Name) → InOrder (MethodSays B) ms mds → Distinct ms
    → ((i : ℕ) (m : Name) (q : Meth) (n : Method) → slice_get ms i ≡ Some (m, q) → Meant B q n → TypedMethod ce θ n) → ce ∣ θ ⊢methods mds ⇒ me_of mds
unfolding me_of
methods_rule ce θ nothing D f = P.no_methods refl
methods_rule {B} {ms = ms} ce θ (one_more {xs = xs} y (method_says {m = m} {q = q} tk gv bc be) r) D f =
    let D' = at_list r D in
    let D'' = distinct_less xs m q D' in
    let t = f (length xs) m q _ (ap (λ (l : List (Name × Meth)). slice_get l (length xs)) r ∙ nth_snoc xs (m, q)) (record { takes = tk; gives = gv; body = bc; result = be }) in
    P.a_method (methods_rule ce θ y D'' (λ i k p n e M. f i k p n (ap (λ (l : List (Name × Meth)). slice_get l i) r ∙ nth_before xs (m, q) (k, p) i e) M)) t.0 t.1
    (meths_back_none m (declared_meths y D'') (distinct_last xs m q D')) refl

module _ {B : Book} (N : NamesDistinct B) where
  declared_class : {n : ℕ} {p : Part} {fds : Decls FieldDecl} {mds : Decls MethodDecl} → B.class n ≡ Some p → InOrder (FieldSays B) p.fields fds → InOrder (MethodSays B) p.methods mds
      → ClassIs B p (record { fields = fe_of fds; methods = me_of mds })
  declared_class {n} {p} i f m = record { fields = (fields_rule ∅ f (N.fields n p i)).1; methods = declared_meths m (N.methods n p i) }

  new_name : {n : ℕ} {p : Part} {ce : CE} → Classes B n ce → B.class n ≡ Some p → ce p.called ≡ None
  new_name {n} {p} {ce} C i = by (none_or (ce p.called))
    where
      by : (ce p.called ≡ None) ⊎ ((k : S.Class) × (ce p.called ≡ Some k)) → ce p.called ≡ None
      by (inl e) = e
      by (inr x) =
          let y = C.back p.called x.0 x.1 in
          let l = y.1 in
          let z = N.classes y.0 n y.2.0 p y.2.1 i y.2.2 in
          absurd (omega arith)

  declared : {n : ℕ} {cds : Decls ClassDecl} → ClassesSay B n cds → Classes B n (ce_of cds)
  unfolding ce_of
  declared no_classes = none_yet refl
  declared (a_class y i f m) = let C = declared y in more_classes C i (declared_class i f m) (new_name C i) refl

  classes_rule : {n : ℕ} {cds : Decls ClassDecl} (ce : CE) → ((c i : ℕ) (p : Part) (m : Name) (q : Meth) (n : Method) → B.class c ≡ Some p → slice_get p.methods i ≡ Some (m, q) → Meant B q n → TypedMethod ce p.called n)
      → ClassesSay B n cds → ce ⊢classes cds ⇒ ce_of cds
  unfolding ce_of
  classes_rule ce t no_classes = P.no_classes refl
  classes_rule ce t (a_class {n = n} {p = p} y i f m) =
      P.a_class (classes_rule ce t y) (fields_rule ce f (N.fields n p i)).0 (methods_rule ce p.called m (N.methods n p i) (λ j k q r e M. t n j p k q r i e M)) (new_name (declared y) i) refl

-- from types of nodes to types of what they stand for
module _ {B : Book} {ce : CE} (st : Stands B ce) where
  abbrev Back : PE → Option Name → BType → Expr → Type 0
  Back pe θ t e = (u : Ty) × (type_of B t ≡ Some u) × (ce ∣ pe ∣ θ ⊢ e ∶ u)

  as_int : {pe : PE} {θ : Option Name} {e : Expr} → Back pe θ T.Int e → ce ∣ pe ∣ θ ⊢ e ∶ int
  as_int x = let q : int ≡ x.0 = let i = x.1 in cc in rw q x.2

  as_boolean : {pe : PE} {θ : Option Name} {e : Expr} → Back pe θ T.Boolean e → ce ∣ pe ∣ θ ⊢ e ∶ boolean
  as_boolean x = let q : boolean ≡ x.0 = let i = x.1 in cc in rw q x.2

  as_class : {pe : PE} {θ : Option Name} {e : Expr} (c : ℕ) → Back pe θ (T.Class c) e → (p : Part) × (B.class c ≡ Some p) × (ce ∣ pe ∣ θ ⊢ e ∶ class p.called)
  as_class c x = let y = class_type B c (B.class c) refl x.1 in let q = y.2 in (y.0, y.1, rw q at x.2)

  at_class : {Γ : Where} {pe : PE} {θ : Option Name} {c : ℕ} {t : BType} {p : Part} → WhereIs B Γ pe θ → Γ ≡ in_method c t → B.class c ≡ Some p → θ ≡ Some p.called
  at_class is_top e i = let z : ◌≡◌ {A = ℕ} 0 1 = cc in absurd (omega arith)
  at_class {c = c} {p = p} (is_in {c = d} {p = p'} j v) e i =
      let q : d ≡ c = cc in
      let y : Some p' ≡ Some p = sym j ∙ (ap B.class q ∙ i) in
      let z : p' ≡ p = cc in
      ap (λ (r : Part). Some r.called) z

  this_back : {Γ : Where} {pe : PE} {θ : Option Name} {c : ℕ} {t : BType} → WhereIs B Γ pe θ → Γ ≡ in_method c t → Back pe θ (T.Class c) S.this
  this_back is_top e = let z : ◌≡◌ {A = ℕ} 0 1 = cc in absurd (omega arith)
  this_back {c = c} (is_in {c = d} {p = p} j v) e = let q : d ≡ c = cc in (class p.called, class_says B c p (rw q at j), t_this refl)

  parameter_back : {Γ : Where} {pe : PE} {θ : Option Name} {c : ℕ} {t : BType} → WhereIs B Γ pe θ → Γ ≡ in_method c t → Back pe θ t S.parameter
  parameter_back is_top e = let z : ◌≡◌ {A = ℕ} 0 1 = cc in absurd (omega arith)
  parameter_back {t = t} (is_in {t = t'} {u = u} j v) e = let q : t' ≡ t = cc in (u, rw q at v, t_parameter refl)

  fields_there : {p : Part} {u : BType} (c : ℕ) (f : Name) → B.class c ≡ Some p → find (fields_of (B.class c)) f ≡ Some u → (k : S.Class) × (w : Ty) × (ce p.called ≡ Some k) × (find k.fields f ≡ Some w) × (type_of B u ≡ Some w)
  fields_there {p} {u} c f i g = let k = st.class c p i in let w = field_to f u k.2 (rw i at g) in (k.0, w.0, k.1, w.1, w.2)

  node_back : {Γ : Where} {pe : PE} {θ : Option Name} {n : Option Node} {t : BType} {e : Expr} → WhereIs B Γ pe θ → B ∣ Γ ⊩ n ∶ t → B ⊩ n ▷ e → Back pe θ t e
  node_back w n_literal is_literal = (int, refl, t_literal)
  node_back w (n_minus a b) (is_minus x y) = (int, refl, t_minus (as_int (node_back w a x)) (as_int (node_back w b y)))
  node_back w (n_less a b) (is_less x y) = (boolean, refl, t_less (as_int (node_back w a x)) (as_int (node_back w b y)))
  node_back w (n_equal a b) (is_equal x y) = (boolean, refl, t_equal (as_int (node_back w a x)) (as_int (node_back w b y)))
  node_back w (n_is_null {c = c} a) (is_is_null x) = let y = as_class c (node_back w a x) in (boolean, refl, t_is_null y.2)
  node_back w (n_this e) is_this = this_back w e
  node_back w (n_parameter e) is_parameter = parameter_back w e
  node_back w (n_field {c = c} {f = f} a e g) (is_field x) =
      let y = as_class c (node_back w a x) in
      let z = fields_there c f y.1 g in
      (z.1, z.4, t_field y.2 (at_class w e y.1) z.2 z.3)
  node_back w (n_call {c = c} {m = m} {q = q} a b i) (is_call x x') =
      let y = as_class c (node_back w a x) in
      let j = y.1 in
      let f : find y.0.methods m ≡ Some q = rw j at i in
      let k = st.class c y.0 y.1 in
      let n = st.method c y.0 k.0 m q y.1 k.1 f in
      let z = node_back w b x' in
      let s : Some z.0 ≡ Some n.0.param = sym z.1 ∙ n.2.takes in
      let s' : z.0 ≡ n.0.param = cc in
      (n.0.result, n.2.gives, t_call y.2 (rw s' at z.2) k.1 n.1)
  node_back w (n_new {c = c} {p = p} i) (is_new {p = p'} j) =
      let s : Some p ≡ Some p' = sym i ∙ j in
      let s' : p ≡ p' = cc in
      (class p'.called, class_says B c p' j, t_new (st.class c p' j).1)
  node_back w (n_reading a) (is_reading x) = (int, refl, t_reading (as_int (node_back w a x)))

  com_back : {Γ : Where} {pe : PE} {θ : Option Name} {n : Option Node} {c : Com} → WhereIs B Γ pe θ → B ∣ Γ ⊩ n ∶com → B ⊩ n ▷com c → ce ∣ pe ∣ θ ⊢ c ∶com
  com_back w (n_assign {c = c} {f = f} a b e g) (is_assign x x') =
      let y = as_class c (node_back w a x) in
      let z = fields_there c f y.1 g in
      let v = node_back w b x' in
      let s : Some v.0 ≡ Some z.1 = sym v.1 ∙ z.4 in
      let s' : v.0 ≡ z.1 = cc in
      t_assign y.2 (rw s' at v.2) (at_class w e y.1) z.2 z.3
  com_back w (n_seq a b) (is_seq x y) = t_seq (com_back w a x) (com_back w b y)
  com_back w (n_if a b d) (is_if x y z) = t_if (as_boolean (node_back w a x)) (com_back w b y) (com_back w d z)
  com_back w (n_while a b) (is_while x y) = t_while (as_boolean (node_back w a x)) (com_back w b y)
  com_back w n_skip is_skip = t_skip

-- well typed nodes make an accepted book
module _ {B : Book} (F : Formed B) (N : NamesDistinct B) {z : BType} (W : Well B z) {u : Ty} (i : type_of B z ≡ Some u) where
  method_typed : {ce : CE} → Stands B ce → (c j : ℕ) (p : Part) (m : Name) (q : Meth) (n : Method) → B.class c ≡ Some p → slice_get p.methods j ≡ Some (m, q) → Meant B q n → TypedMethod ce p.called n
  method_typed st c j p m q n k e M =
      let f = distinct_find p.methods m q j (N.methods c p k) e in
      let g : method_of (B.class c) m ≡ Some q = rw k f in
      let r = node_back st (is_in k M.takes) (W.result c m q g) M.result in
      let s : Some r.0 ≡ Some n.result = sym r.1 ∙ M.gives in
      let s' : r.0 ≡ n.result = cc in
      (com_back st (is_in k M.takes) (W.body c m q g) M.body, rw s' at r.2)

  accept_by : {p : Program} → Says B p → (ce : CE) × (e : Expr) × Accepted B ce e u
  accept_by (says {cds = cds} {e = e} C R) =
      let st = stands F (declared N C) in
      let t = node_back st is_top W.top R in
      let s : Some t.0 ≡ Some u = sym t.1 ∙ i in
      let s' : t.0 ≡ u = cc in
      (ce_of cds, e, record { formed = F; decls = cds; stands_for = says C R; has_type = typed (classes_rule N (ce_of cds) (method_typed st) C) (rw s' at t.2) })

pub accepts_exactly : (B : Book) → Formed B → AcceptsExactly B
accepts_exactly B F u = ((λ x. accept_by F x.2 x.3 x.1 (one_program B F).1), (λ x. let A = x.2 in let W = well_typed (accepted A) in (W.0, W.2, accepted_distinct A, W.1)))
