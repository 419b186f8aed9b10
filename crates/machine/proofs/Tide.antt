-- `new Tide().set(412)` is accepted; three others have no type.
use Rattle.std.proofs.Common.{◌≡◌, ℕ, zero, suc, ◌≤◌, Bool, true, false, cond, eqb, List, [], ◌∷◌, pos, Some, None, sym, refl, ap, ◌∙◌, arith}
use Rattle.std.specs.List.{slice_get}
use Rattle.book.specs.declared.node.Node.{Node}
use Rattle.book.specs.declared.node.Node.TheVariants.{Literal, Minus, Less, This, Parameter, FieldRead, Call, New, FieldWrite}
use Rattle.book.specs.declared.node.Type.{«Type» as BType}
use Rattle.book.specs.declared.node.Type.TheVariants as T
use Rattle.cool.specs.Syntax.{Name, Ty, int, class, Expr, Program, CE}
use Rattle.cool.specs.Book.{Meth, Part, Book, method_of, expressions, commands, Each, ExpressionAt, CommandAt, Lies, TypeThere, Formed}
use Rattle.cool.specs.Nodes.{n_literal, n_this, n_parameter, n_call, n_new, n_assign, Well}
use Rattle.cool.specs.Accepts.{Distinct, NamesDistinct}
use Rattle.cool.specs.Static.{◌∣◌∣◌⊢◌∶◌, t_minus, t_this, t_field}
use Rattle.cool.specs.Program.{◌⇝◌∣◌, typed}
use Rattle.cool.specs.Says.{◌⊩◌▷◌, is_minus, is_less, is_this, is_field, Says, says, Accepted}
use Rattle.cool.proofs.Base.{no_some}
use Rattle.cool.proofs.Accepts.{accepts_exactly}
use Rattle.machine.specs.Specimens.{HasNoType, tide, set_412, high_at_top, minus_test, this_at_top}

abbrev setter : Meth
setter = record { takes = T.Int; gives = T.Class 0; body = 2; result = 3 }

abbrev Tide : Part
Tide = tide ((3, setter) ∷ [])

-- what an entry found has
entry : {A : Type 0} {x y : Name × A} → Some x ≡ Some y → (x.0 ≡ y.0) × (x.1 ≡ y.1)
entry {A} {x} {y} e = let z : x ≡ y = cc in (ap (λ (w : Name × A). w.0) z, ap (λ (w : Name × A). w.1) z)

-- what is there is Tide
the_class : (c : ℕ) (p : Part) → set_412.class c ≡ Some p → (c ≡ 0) × (Tide ≡ p)
the_class zero p e = (refl, cc)
the_class (suc c) p e = no_some e

abbrev PartsRight : ℕ → Node → Type 0
PartsRight k n = Each (λ a. Lies set_412 k a × ExpressionAt set_412 a) (expressions n) × Each (λ a. Lies set_412 k a × CommandAt set_412 a) (commands n)

parts_right : (k : ℕ) (n : Node) → set_412.node k ≡ Some n → PartsRight k n
parts_right zero n e = let q : This ≡ n = cc in rw (← q) (tt, tt)
parts_right (suc zero) n e = let q : Parameter ≡ n = cc in rw (← q) (tt, tt)
parts_right (suc (suc zero)) n e = let q : FieldWrite 0 1 0 ≡ n = cc in rw (← q) ((((omega arith, refl), (This, refl, refl)), (((omega arith, refl), (Parameter, refl, refl)), tt)), tt)
parts_right (suc (suc (suc zero))) n e = let q : This ≡ n = cc in rw (← q) (tt, tt)
parts_right (suc (suc (suc (suc zero)))) n e = let q : New 0 ≡ n = cc in rw (← q) (tt, tt)
parts_right (suc (suc (suc (suc (suc zero))))) n e = let q : Literal (pos 412) ≡ n = cc in rw (← q) (tt, tt)
parts_right (suc (suc (suc (suc (suc (suc zero)))))) n e = let q : Call 4 5 3 ≡ n = cc in rw (← q) ((((omega arith, refl), (New 0, refl, refl)), (((omega arith, refl), (Literal (pos 412), refl, refl)), tt)), tt)
parts_right (suc (suc (suc (suc (suc (suc (suc k))))))) n e = no_some e

made_right : (k c : ℕ) → set_412.node k ≡ Some (New c) → 0 ≡ c
made_right zero c e = cc
made_right (suc zero) c e = cc
made_right (suc (suc zero)) c e = cc
made_right (suc (suc (suc zero))) c e = cc
made_right (suc (suc (suc (suc zero)))) c e = cc
made_right (suc (suc (suc (suc (suc zero))))) c e = cc
made_right (suc (suc (suc (suc (suc (suc zero)))))) c e = cc
made_right (suc (suc (suc (suc (suc (suc (suc k))))))) c e = no_some e

field_right : (i : ℕ) (f : Name) (t : BType) → slice_get Tide.fields i ≡ Some (f, t) → TypeThere set_412 t
field_right zero f t e = let q : T.Int ≡ t = (entry e).1 in rw (← q) (int, refl)
field_right (suc zero) f t e = let q : T.Class 0 ≡ t = (entry e).1 in rw (← q) (class 2, refl)
field_right (suc (suc i)) f t e = no_some e

method_right : (i : ℕ) (m : Name) (q : Meth) → slice_get Tide.methods i ≡ Some (m, q) → (i ≡ 0) × (setter ≡ q)
method_right zero m q e = (refl, (entry e).1)
method_right (suc i) m q e = no_some e

classes_right : (c : ℕ) → 1 ≤ c → set_412.class c ≡ None
classes_right zero l = absurd (omega arith)
classes_right (suc c) l = refl

-- at Tide's own entries
at_tide : {A : Type 0} {p : Part} (f : Part → List A) (i : ℕ) (a : A) → Tide ≡ p → slice_get (f p) i ≡ Some a → slice_get (f Tide) i ≡ Some a
at_tide f i a q e = rw q e

formed : Formed set_412
formed =
    record {
      all_classes = λ c l. let z : c ≡ 0 = omega arith in (Tide, rw z);
      no_others = classes_right;
      parts = parts_right;
      made = λ k n e c q. let z = made_right k c (e ∙ ap Some q) in (Tide, rw (← z));
      top = (Call 4 5 3, refl, refl);
      top_held = refl;
      field_types = λ c i p f t k e. field_right i f t (at_tide (λ p. p.fields) i (f, t) (the_class c p k).1 e);
      method_types = λ c i p m q k e. let x = method_right i m q (at_tide (λ p. p.methods) i (m, q) (the_class c p k).1 e) in let y = x.1 in rw (← y) ((int, refl), (class 2, refl));
      roots = λ c i p m q k e.
          let x = method_right i m q (at_tide (λ p. p.methods) i (m, q) (the_class c p k).1 e) in let y = x.1 in rw (← y) ((FieldWrite 0 1 0, refl, refl), (This, refl, refl));
      roots_held = λ c i p m q k e.
          let x = method_right i m q (at_tide (λ p. p.methods) i (m, q) (the_class c p k).1 e) in let y = x.1 in let z = (the_class c p k).0 in rw (← y, z) (refl, refl);
    }

distinct_fields : Distinct Tide.fields
distinct_fields zero zero m a b e f = refl
distinct_fields (suc zero) (suc zero) m a b e f = refl
distinct_fields zero (suc zero) m a b e f = let p : 0 ≡ m = (entry e).0 in let q : 1 ≡ m = (entry f).0 in absurd (omega arith)
distinct_fields (suc zero) zero m a b e f = let p : 1 ≡ m = (entry e).0 in let q : 0 ≡ m = (entry f).0 in absurd (omega arith)
distinct_fields zero (suc (suc j)) m a b e f = no_some f
distinct_fields (suc zero) (suc (suc j)) m a b e f = no_some f
distinct_fields (suc (suc i)) j m a b e f = no_some e

distinct_methods : Distinct Tide.methods
distinct_methods zero zero m a b e f = refl
distinct_methods zero (suc j) m a b e f = no_some f
distinct_methods (suc i) j m a b e f = no_some e

names : NamesDistinct set_412
names =
    record {
      classes = λ c d p q i j e. (the_class c p i).0 ∙ sym (the_class d q j).0;
      fields = λ c p i. let y = (the_class c p i).1 in rw (← y) distinct_fields;
      methods = λ c p i. let y = (the_class c p i).1 in rw (← y) distinct_methods;
    }

the_method : (c : ℕ) (m : Name) (q : Meth) → method_of (set_412.class c) m ≡ Some q → (c ≡ 0) × (setter ≡ q)
the_method zero m q e = (refl, by (eqb m 3) e)
  where
    by : (b : Bool) → cond b (Some setter) None ≡ Some q → setter ≡ q
    by true e = cc
    by false e = no_some e
the_method (suc c) m q e = no_some e

well : Well set_412 (T.Class 0)
well =
    record {
      top = n_call {q = setter} (n_new {p = Tide} refl) n_literal refl;
      body = λ c m q e. let x = the_method c m q e in let z = x.0 in let y = x.1 in rw (z, ← y) (n_assign (n_this refl) (n_parameter refl) refl refl);
      result = λ c m q e. let x = the_method c m q e in let z = x.0 in let y = x.1 in rw (z, ← y) (n_this refl);
    }

pub set_accepted : (ce : CE) × (e : Expr) × Accepted set_412 ce e (class 2)
set_accepted = (accepts_exactly set_412 formed (class 2)).0 (T.Class 0, refl, names, well)

-- no type
no_type : (B : Book) → ((e : Expr) (ce : CE) (u : Ty) → B ⊩ B.node B.root ▷ e → ce ∣ None ∣ None ⊢ e ∶ u → ⊥) → HasNoType B
no_type B f p ce u s t = by s t
  where
    by : {p : Program} → Says B p → p ⇝ ce ∣ u → ⊥
    by (says {e = e} c r) (typed x y) = f e ce u r y

pub high_has_no_type : HasNoType high_at_top
high_has_no_type = no_type high_at_top by
  where
    by : (e : Expr) (ce : CE) (u : Ty) → high_at_top ⊩ Some (FieldRead 0 0) ▷ e → ce ∣ None ∣ None ⊢ e ∶ u → ⊥
    by e ce u (is_field a) (t_field x q i g) = no_some q

pub test_has_no_type : HasNoType minus_test
test_has_no_type = no_type minus_test by
  where
    no : (e : Expr) (ce : CE) → minus_test ⊩ Some (Less 1 2) ▷ e → ce ∣ None ∣ None ⊢ e ∶ int → ⊥
    no e ce (is_less a b) x = elim x [ ]

    by : (e : Expr) (ce : CE) (u : Ty) → minus_test ⊩ Some (Minus 0 3) ▷ e → ce ∣ None ∣ None ⊢ e ∶ u → ⊥
    by e ce u (is_minus a b) (t_minus x y) = no _ ce b y

pub this_has_no_type : HasNoType this_at_top
this_has_no_type = no_type this_at_top by
  where
    by : (e : Expr) (ce : CE) (u : Ty) → this_at_top ⊩ Some This ▷ e → ce ∣ None ∣ None ⊢ e ∶ u → ⊥
    by e ce u is_this (t_this q) = no_some q
