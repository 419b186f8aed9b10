-- A book clear of the file's faults stands for one program, and only one.
use Rattle.std.proofs.Common.{◌≡◌, ℕ, zero, suc, ◌<◌, ◌≤◌, true, false, List, [], ◌∷◌, ◌++◌, Some, None, Option, sym, refl, ap, ◌∙◌, arith}
use Rattle.std.specs.List.{slice_get}
use Rattle.book.specs.declared.node.Node.{Node}
use Rattle.book.specs.declared.node.Node.TheVariants.{Literal, Minus, Less, Equal, IsNull, This, Parameter, FieldRead, Call, New, Reading, FieldWrite, Sequence, If, While, Skip}
use Rattle.book.specs.declared.node.Type.{«Type» as BType}
use Rattle.book.specs.declared.node.Type.TheVariants.{Int, Boolean, Class}
use Rattle.cool.specs.Syntax.{Name, Ty, class, Expr, Com, Decls, ε, ◌▸◌, FieldDecl, MethodDecl, ClassDecl, Program, program}
use Rattle.cool.specs.Book.{Meth, Part, Book, type_of, is_expression, ExpressionAt, CommandAt, Lies, Formed, ClassesDistinct, TypesOneToOne}
use Rattle.cool.specs.Says.{◌⊩◌▷◌, ◌⊩◌▷com◌, is_literal, is_minus, is_less, is_equal, is_is_null, is_this, is_parameter, is_field, is_call, is_new, is_reading, is_assign, is_seq, is_if, is_while, is_skip, FieldSays, field_says, MethodSays, method_says, InOrder, nothing, one_more, ClassesSay, no_classes, a_class, Says, says, OneProgram}
use Rattle.cool.proofs.Base.{no_some, unlike, append_nil, snoc_append, no_snoc, snoc_same}

-- only one
pub one_expr : {B : Book} {n : Option Node} {e e' : Expr} → B ⊩ n ▷ e → B ⊩ n ▷ e' → e ≡ e'
one_expr is_literal is_literal = refl
one_expr (is_minus a b) (is_minus a' b') = let p = one_expr a a' in let q = one_expr b b' in cc
one_expr (is_less a b) (is_less a' b') = let p = one_expr a a' in let q = one_expr b b' in cc
one_expr (is_equal a b) (is_equal a' b') = let p = one_expr a a' in let q = one_expr b b' in cc
one_expr (is_is_null a) (is_is_null a') = let p = one_expr a a' in cc
one_expr is_this is_this = refl
one_expr is_parameter is_parameter = refl
one_expr (is_field a) (is_field a') = let p = one_expr a a' in cc
one_expr (is_call a b) (is_call a' b') = let p = one_expr a a' in let q = one_expr b b' in cc
one_expr (is_new i) (is_new i') = cc
one_expr (is_reading a) (is_reading a') = let p = one_expr a a' in cc

pub one_com : {B : Book} {n : Option Node} {c c' : Com} → B ⊩ n ▷com c → B ⊩ n ▷com c' → c ≡ c'
one_com (is_assign a b) (is_assign a' b') = let p = one_expr a a' in let q = one_expr b b' in cc
one_com (is_seq a b) (is_seq a' b') = let p = one_com a a' in let q = one_com b b' in cc
one_com (is_if a b d) (is_if a' b' d') = let p = one_expr a a' in let q = one_com b b' in let r = one_com d d' in cc
one_com (is_while a b) (is_while a' b') = let p = one_expr a a' in let q = one_com b b' in cc
one_com is_skip is_skip = refl

-- no node is an expression and a command
pub apart : {B : Book} {n : Option Node} {e : Expr} {c : Com} {A : Type 0} → B ⊩ n ▷ e → B ⊩ n ▷com c → A
apart is_literal x = elim x [ ]
apart (is_minus a b) x = elim x [ ]
apart (is_less a b) x = elim x [ ]
apart (is_equal a b) x = elim x [ ]
apart (is_is_null a) x = elim x [ ]
apart is_this x = elim x [ ]
apart is_parameter x = elim x [ ]
apart (is_field a) x = elim x [ ]
apart (is_call a b) x = elim x [ ]
apart (is_new i) x = elim x [ ]
apart (is_reading a) x = elim x [ ]

one_field : {B : Book} (x : Name × BType) (d d' : FieldDecl) → FieldSays B x d → FieldSays B x d' → d ≡ d'
one_field x d d' (field_says p) (field_says q) = cc

one_method : {B : Book} (x : Name × Meth) (d d' : MethodDecl) → MethodSays B x d → MethodSays B x d' → d ≡ d'
one_method x d d' (method_says p q b r) (method_says p' q' b' r') = let i = one_com b b' in let j = one_expr r r' in cc

module _ {A D : Type 0} (R : A → D → Type 0) where
  one_order : ((a : A) (d d' : D) → R a d → R a d' → d ≡ d') → {xs ys : List A} {ds ds' : Decls D} → InOrder R xs ds → InOrder R ys ds' → xs ≡ ys → ds ≡ ds'
  one_order f nothing nothing e = refl
  one_order f nothing (one_more s r q) e = no_snoc _ _ (e ∙ q)
  one_order f (one_more s r q) nothing e = no_snoc _ _ (sym e ∙ q)
  one_order f (one_more {xs = xs} {a = a} {d = d} s r q) (one_more {xs = ys} {a = b} {d = d'} s' r' q') e =
      let w = snoc_same xs ys a b (sym q ∙ e ∙ q') in
      let i = one_order f s s' w.0 in
      let b_is = w.1 in
      let j = f b d d' (rw b_is at r) r' in
      cc

  -- each has its declaration
  order : (ys xs : List A) (ds : Decls D) → InOrder R xs ds → ((i : ℕ) (a : A) → slice_get ys i ≡ Some a → (d : D) × R a d) → (ds' : Decls D) × InOrder R (xs ++ ys) ds'
  order [] xs ds s f = let e = append_nil xs in (ds, rw e s)
  order (y ∷ ys) xs ds s f =
      let p = f 0 y refl in
      let r = order ys (xs ++ (y ∷ [])) (ds ▸ p.0) (one_more s p.1 refl) (λ i a e. f (suc i) a e) in
      let e = snoc_append xs ys y in
      (r.0, rw e at r.1)

  pub in_order : (xs : List A) → ((i : ℕ) (a : A) → slice_get xs i ≡ Some a → (d : D) × R a d) → (ds : Decls D) × InOrder R xs ds
  in_order xs f = order xs [] ε nothing f

one_classes : {B : Book} {n : ℕ} {ds ds' : Decls ClassDecl} → ClassesSay B n ds → ClassesSay B n ds' → ds ≡ ds'
one_classes no_classes no_classes = refl
one_classes {B} (a_class {p = p} x i f m) (a_class {p = p'} {mds = mds} y j g h) =
    let q : p ≡ p' = cc in
    let c = one_classes x y in
    let a = one_order (FieldSays B) one_field f g (ap (λ (r : Part). r.fields) q) in
    let b = one_order (MethodSays B) one_method m h (ap (λ (r : Part). r.methods) q) in
    cc

-- one there is
module _ (B : Book) (F : Formed B) where
  abbrev ExprAt : ℕ → Type 0
  ExprAt k = (e : Expr) × (B ⊩ B.node k ▷ e)

  abbrev ComAt : ℕ → Type 0
  ComAt k = (c : Com) × (B ⊩ B.node k ▷com c)

  expr_by : (k : ℕ) (n : Node) → B.node k ≡ Some n → is_expression n ≡ true → ((a : ℕ) → Lies B k a × ExpressionAt B a → ExprAt a) → (e : Expr) × (B ⊩ Some n ▷ e)
  expr_by k (Literal v) i l f = (_, is_literal)
  expr_by k (Minus a b) i l f = let p = (F.parts k _ i).0 in (_, is_minus (f a p.0).1 (f b p.1.0).1)
  expr_by k (Less a b) i l f = let p = (F.parts k _ i).0 in (_, is_less (f a p.0).1 (f b p.1.0).1)
  expr_by k (Equal a b) i l f = let p = (F.parts k _ i).0 in (_, is_equal (f a p.0).1 (f b p.1.0).1)
  expr_by k (IsNull a) i l f = let p = (F.parts k _ i).0 in (_, is_is_null (f a p.0).1)
  expr_by k This i l f = (_, is_this)
  expr_by k Parameter i l f = (_, is_parameter)
  expr_by k (FieldRead a n) i l f = let p = (F.parts k _ i).0 in (_, is_field (f a p.0).1)
  expr_by k (Call a b m) i l f = let p = (F.parts k _ i).0 in (_, is_call (f a p.0).1 (f b p.1.0).1)
  expr_by k (New c) i l f = let p = F.made k _ i c refl in (_, is_new p.1)
  expr_by k (Reading a) i l f = let p = (F.parts k _ i).0 in (_, is_reading (f a p.0).1)
  expr_by k (FieldWrite a b n) i l f = unlike l
  expr_by k (Sequence a b) i l f = unlike l
  expr_by k (If a b d) i l f = unlike l
  expr_by k (While a b) i l f = unlike l
  expr_by k Skip i l f = unlike l

  expr_below : (d k : ℕ) → k < d → ExpressionAt B k → ExprAt k
  expr_below zero k l x = absurd (omega arith)
  expr_below (suc d) k l x =
      let i = x.1 in rw i (expr_by k x.0 x.1 x.2 (λ a y. expr_below d a (before a k d l y.0.0) y.1))
    where
      before : (a k d : ℕ) → k < suc d → a < k → a < d
      before a k d l m = omega arith

  pub expr_at : (k : ℕ) → ExpressionAt B k → ExprAt k
  expr_at k x = expr_below (suc k) k (omega arith) x

  com_by : (k : ℕ) (n : Node) → B.node k ≡ Some n → is_expression n ≡ false → ((a : ℕ) → Lies B k a × CommandAt B a → ComAt a) → (c : Com) × (B ⊩ Some n ▷com c)
  com_by k (Literal v) i l f = unlike (sym l)
  com_by k (Minus a b) i l f = unlike (sym l)
  com_by k (Less a b) i l f = unlike (sym l)
  com_by k (Equal a b) i l f = unlike (sym l)
  com_by k (IsNull a) i l f = unlike (sym l)
  com_by k This i l f = unlike (sym l)
  com_by k Parameter i l f = unlike (sym l)
  com_by k (FieldRead a n) i l f = unlike (sym l)
  com_by k (Call a b m) i l f = unlike (sym l)
  com_by k (New c) i l f = unlike (sym l)
  com_by k (Reading a) i l f = unlike (sym l)
  com_by k (FieldWrite a b n) i l f = let p = (F.parts k _ i).0 in (_, is_assign (expr_at a p.0.1).1 (expr_at b p.1.0.1).1)
  com_by k (Sequence a b) i l f = let p = (F.parts k _ i).1 in (_, is_seq (f a p.0).1 (f b p.1.0).1)
  com_by k (If a b d) i l f = let p = F.parts k _ i in (_, is_if (expr_at a p.0.0.1).1 (f b p.1.0).1 (f d p.1.1.0).1)
  com_by k (While a b) i l f = let p = F.parts k _ i in (_, is_while (expr_at a p.0.0.1).1 (f b p.1.0).1)
  com_by k Skip i l f = (_, is_skip)

  com_below : (d k : ℕ) → k < d → CommandAt B k → ComAt k
  com_below zero k l x = absurd (omega arith)
  com_below (suc d) k l x =
      let i = x.1 in rw i (com_by k x.0 x.1 x.2 (λ a y. com_below d a (before a k d l y.0.0) y.1))
    where
      before : (a k d : ℕ) → k < suc d → a < k → a < d
      before a k d l m = omega arith

  pub com_at : (k : ℕ) → CommandAt B k → ComAt k
  com_at k x = com_below (suc k) k (omega arith) x

  a_declared_field : (c : ℕ) (p : Part) → B.class c ≡ Some p → (i : ℕ) (x : Name × BType) → slice_get p.fields i ≡ Some x → (d : FieldDecl) × FieldSays B x d
  a_declared_field c p j i x e = let u = F.field_types c i p x.0 x.1 j e in (_, field_says u.1)

  a_declared_method : (c : ℕ) (p : Part) → B.class c ≡ Some p → (i : ℕ) (x : Name × Meth) → slice_get p.methods i ≡ Some x → (d : MethodDecl) × MethodSays B x d
  a_declared_method c p j i x e =
      let u = F.method_types c i p x.0 x.1 j e in
      let r = F.roots c i p x.0 x.1 j e in
      let b = com_at x.1.body r.0 in
      let g = expr_at x.1.result r.1 in
      (_, method_says u.0.1 u.1.1 b.1 g.1)

  classes_below : (n : ℕ) → n ≤ B.classes → (ds : Decls ClassDecl) × ClassesSay B n ds
  classes_below zero l = (ε, no_classes)
  classes_below (suc n) l =
      let r = classes_below n (omega arith) in
      let p = F.all_classes n (omega arith) in
      let f = in_order (FieldSays B) p.0.fields (a_declared_field n p.0 p.1) in
      let m = in_order (MethodSays B) p.0.methods (a_declared_method n p.0 p.1) in
      (_, a_class r.1 p.1 f.1 m.1)

pub one_program : (B : Book) → Formed B → OneProgram B
one_program B F =
    let c = classes_below B F B.classes (omega arith) in
    let e = expr_at B F B.root F.top in
    (program c.0 e.0, says c.1 e.1, λ p' s. by (says c.1 e.1) s)
  where
    by : {p p' : Program} → Says B p → Says B p' → p ≡ p'
    by (says c e) (says c' e') = let i = one_classes c c' in let j = one_expr e e' in cc

-- types of the book stand for types one to one
pub class_type : (B : Book) (c : ℕ) {u : Ty} (o : Option Part) → B.class c ≡ o → type_of B (Class c) ≡ Some u → (p : Part) × (B.class c ≡ Some p) × (u ≡ class p.called)
class_type B c None i e = let q = i in no_some (rw q at e)
class_type B c (Some p) i e = let q = i in let f = rw q at e in (p, i, cc)

pub types_one_to_one : (B : Book) → ClassesDistinct B → TypesOneToOne B
types_one_to_one B D Int Int u p q = refl
types_one_to_one B D Int Boolean u p q = cc
types_one_to_one B D Int (Class c) u p q = let x = class_type B c (B.class c) refl q in let y = x.2 in cc
types_one_to_one B D Boolean Int u p q = cc
types_one_to_one B D Boolean Boolean u p q = refl
types_one_to_one B D Boolean (Class c) u p q = let x = class_type B c (B.class c) refl q in let y = x.2 in cc
types_one_to_one B D (Class c) Int u p q = let x = class_type B c (B.class c) refl p in let y = x.2 in cc
types_one_to_one B D (Class c) Boolean u p q = let x = class_type B c (B.class c) refl p in let y = x.2 in cc
types_one_to_one B D (Class c) (Class d) u p q =
    let x = class_type B c (B.class c) refl p in
    let y = class_type B d (B.class d) refl q in
    let i = x.2 in
    let j = y.2 in
    let s : x.0.called ≡ y.0.called = cc in
    ap Class (D c d x.0 y.0 x.1 y.1 s)
