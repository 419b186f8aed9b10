-- A book is accepted exactly when it has a type.
use Rattle.std.proofs.Common.{◌≡◌, ℕ, suc, ◌<◌, Bool, true, false, cond, List, Some, None, Ok, Err, Option, Result, sym, refl, ap, ◌∙◌, subst, inl, inr}
use Rattle.std.specs.List.{slice_get}
use Rattle.std.proofs.lemmas.Bool.{cases_lt}
use Rattle.book.specs.declared.node.Node.{Node}
use Rattle.book.specs.declared.node.«Type».{«Type» as BType}
use Rattle.cool.specs.Syntax.{Name, int, boolean, class}
use Rattle.cool.specs.Book.{Meth, Part, Book, Formed, TypeThere, method_of}
use Rattle.cool.specs.Nodes.{at_top, in_method, where_held, Well, ◌∣◌⊩◌∶◌, n_literal, n_minus, n_less, n_equal, n_is_null, n_this, n_parameter, n_field, n_call, n_new, n_reading}
use Rattle.cool.specs.Accepts.{NamesDistinct}
use Rattle.cool.proofs.Base.{find_nth}
use Rattle.cool.specs.View.{view}
use Rattle.cool.proofs.Forming.{formed}
use Rattle.cool.proofs.Stands.{method_part}
use Rattle.cool.proofs.Typing.{class_says}
use Rattle.cool.proofs.Accepts.{distinct_find, accepts_exactly}
use Rattle.checker.specs.declared.fault.TypeFault.{TypeFault}
use Rattle.checker.specs.declared.fault.TypeFault.TheVariants.{Repeated, Returned}
use Rattle.checker.specs.Causes.{other_result}
use Rattle.checked.specs.Holding.{methods_of, same_class, same_field, same_method, at_a_node, Holds}
use Rattle.checker.specs.Checking.{same, type_in, com_in}
use Rattle.checked.specs.Methods.{gives_type, method_in, MethodsTyped, UntypedMethod, TopTyped}
use Rattle.checked.specs.declared.base.Decoded.{Decoded}
use Rattle.checked.specs.declared.base.CheckedBook.{CheckedBook}
use Rattle.checked.specs.Checked.{decoded_bytes, decoded_book, checked_bytes, book_of, top_type}
use Rattle.checked.specs.Accepting.{HasType, HasNoType}
use Rattle.checker.proofs.Inverting.{same_types, then_com_ok}
use Rattle.checker.proofs.Complete.{same_self}
use Rattle.checker.proofs.Caused.{apart, then_com_err}
use Rattle.checker.proofs.Exactly.{exact}

-- what stands among the methods of a class
methods_part : {m : Name} {q : Meth} (i : ℕ) (o : Option Part) → slice_get (methods_of o) i ≡ Some (m, q) → (p : Part) × (o ≡ Some p) × (slice_get p.methods i ≡ Some (m, q))
methods_part i None h = cc
methods_part i (Some p) h = (p, refl, h)

-- the returned expression has its type, or another, or none
gives_ok_by : (t : BType) (q : Meth) (b : Bool) → same t q.gives ≡ b → ◌≡◌ {A = Result (Unit {0}) TypeFault} (cond b (Ok tt) (Err (Returned q.result))) (Ok tt) → t ≡ q.gives
gives_ok_by t q true e h = same_types t q.gives e
gives_ok_by t q false e h = cc

gives_ok : (x : Result BType TypeFault) (q : Meth) → gives_type x q ≡ Ok tt → x ≡ Ok q.gives
gives_ok (Err e) q h = cc
gives_ok (Ok t) q h = ap Ok (gives_ok_by t q (same t q.gives) refl h)

module _ (P : TypeFault → Type 0) (e : TypeFault) (q : Meth) where
  gives_err_by : (t : BType) (b : Bool) → same t q.gives ≡ b → ◌≡◌ {A = Result (Unit {0}) TypeFault} (cond b (Ok tt) (Err (Returned q.result))) (Err e) → ((t ≡ q.gives → ⊥) → P (Returned q.result)) → P e
  gives_err_by t true s h other = cc
  gives_err_by t false s h other = let is : Returned q.result ≡ e = cc in subst P is (other (apart t q.gives s))

  gives_err : (x : Result BType TypeFault) → gives_type x q ≡ Err e → (x ≡ Err e → P e) → ((t : BType) → x ≡ Ok t → (t ≡ q.gives → ⊥) → P (Returned q.result)) → P e
  gives_err (Err f) h none other = let is : f ≡ e = cc in none (ap Err is)
  gives_err (Ok t) h none other = gives_err_by t (same t q.gives) refl h (other t refl)

module _ (B : Book) (F : Formed B) where
  -- the type of a node at the top is there
  type_at_top : {n : Option Node} {t : BType} → B ∣ at_top ⊩ n ∶ t → TypeThere B t
  type_at_top n_literal = (int, refl)
  type_at_top (n_minus x y) = (int, refl)
  type_at_top (n_less x y) = (boolean, refl)
  type_at_top (n_equal x y) = (boolean, refl)
  type_at_top (n_is_null x) = (boolean, refl)
  type_at_top (n_this e) = cc
  type_at_top (n_parameter e) = cc
  type_at_top (n_field x e f) = cc
  type_at_top (n_call {c = c} {m = m} {q = q} x y e) =
      let p = method_part (B.class c) e in
      let i = find_nth p.0.methods m q p.2 in
      (F.method_types c i.0 p.0 m q p.1 i.1).1
  type_at_top (n_new {c = c} {p = p} e) = (class p.called, class_says B c p e)
  type_at_top (n_reading x) = (int, refl)

  pub has_type : (z : BType) → NamesDistinct B → Well B z → HasType B z
  has_type z names well =
      let u = type_at_top well.top in
      (u.0, u.1, (accepts_exactly B F u.0).0 (z, u.1, names, well))

  pub no_type : ((z : BType) → NamesDistinct B → Well B z → ⊥) → HasNoType B
  no_type none ce e u accepted = let w = (accepts_exactly B F u).1 (ce, e, accepted) in none w.0 w.2 w.3

  -- no two entries share a name where all are distinct
  pub not_repeated : {i : ℕ} → Holds B (Repeated i) → NamesDistinct B → ⊥
  not_repeated (same_class {c = c} {d = d} {p = p} {q = q} x y apart e) names = apart (names.classes c d p q x y e)
  not_repeated (same_field {c = c} {i = i} {j = j} {p = p} {f = f} {t = t} {u = u} x hi hj apart) names = apart (names.fields c p x i j f t u hi hj)
  not_repeated (same_method {c = c} {i = i} {j = j} {p = p} {m = m} {q = q} {r = r} x hi hj apart) names = apart (names.methods c p x i j m q r hi hj)
  not_repeated {i = i} (at_a_node x) names = elim x [ ]

  module _ (names : NamesDistinct B) where
    method_found : (c i : ℕ) (m : Name) (q : Meth) → slice_get (methods_of (B.class c)) i ≡ Some (m, q) → method_of (B.class c) m ≡ Some q
    method_found c i m q h =
        let p = methods_part i (B.class c) h in
        ap (λ o. method_of o m) p.1 ∙ distinct_find p.0.methods m q i (names.methods c p.0 p.1) p.2

    -- a method that is not well typed: why, and that no type is derived
    pub untyped_holds : (c : ℕ) (e : TypeFault) → UntypedMethod B c e → Holds B e
    untyped_holds c e (i, m, q, there, wrong) =
        let p = methods_part i (B.class c) there in
        let held = F.roots_held c i p.0 m q p.1 p.2 in
        let at = F.roots c i p.0 m q p.1 p.2 in
        let body = exact B F (in_method c q.takes) q.body in
        let result = exact B F (in_method c q.takes) q.result in
        then_com_err (Holds B) e (com_in (suc q.body) B (in_method c q.takes) q.body) (gives_type (type_in (suc q.result) B (in_method c q.takes) q.result) q) wrong
        (λ h. at_a_node (body.no_command e (ap where_held held.0) at.0 h))
        (λ h. gives_err (Holds B) e q (type_in (suc q.result) B (in_method c q.takes) q.result) h
        (λ w. at_a_node (result.no_type e (ap where_held held.1) at.1 w))
        (λ t is other. at_a_node (other_result m (method_found c i m q there) ((result.types t).0 is) other)))

    pub untyped_refutes : (c : ℕ) (e : TypeFault) (z : BType) → UntypedMethod B c e → Well B z → ⊥
    untyped_refutes c e z (i, m, q, there, wrong) well =
        let found = method_found c i m q there in
        let body = (exact B F (in_method c q.takes) q.body).commands.1 (well.body c m q found) in
        let result = ((exact B F (in_method c q.takes) q.result).types q.gives).1 (well.result c m q found) in
        let right : method_in B c q ≡ Ok tt = rw (body, result, same_self q.gives) in
        cc (right, wrong)

  pub top_holds : (e : TypeFault) → type_in (suc B.root) B at_top B.root ≡ Err e → Holds B e
  top_holds e h = at_a_node ((exact B F at_top B.root).no_type e (ap where_held F.top_held) F.top h)

  pub top_refutes : (e : TypeFault) (z : BType) → type_in (suc B.root) B at_top B.root ≡ Err e → Well B z → ⊥
  top_refutes e z h well = cc (((exact B F at_top B.root).types z).1 well.top, h)

  -- all methods and the top are well typed
  pub well_typed : (z : BType) → ((c : ℕ) → c < B.classes → MethodsTyped B c) → type_in (suc B.root) B at_top B.root ≡ Ok z → Well B z
  well_typed z all top =
      record {
        top = ((exact B F at_top B.root).types z).0 top;
        body = λ c m q h. (exact B F (in_method c q.takes) q.body).commands.0 (parts c m q h).0;
        result = λ c m q h. ((exact B F (in_method c q.takes) q.result).types q.gives).0 (gives_ok _ q (parts c m q h).1);
      }
    where
      low : (c : ℕ) (p : Part) → B.class c ≡ Some p → c < B.classes
      low c p h = elim (cases_lt c B.classes) [ inl l ↦ l | inr l ↦ let n = F.no_others c l in cc ]

      parts : (c : ℕ) (m : Name) (q : Meth) → method_of (B.class c) m ≡ Some q
          → (com_in (suc q.body) B (in_method c q.takes) q.body ≡ Ok tt) × (gives_type (type_in (suc q.result) B (in_method c q.takes) q.result) q ≡ Ok tt)
      parts c m q h =
          let p = method_part (B.class c) h in
          let i = find_nth p.0.methods m q p.2 in
          then_com_ok _ _ tt (all c (low c p.0 p.1) i.0 m q (ap (λ o. slice_get (methods_of o) i.0) p.1 ∙ i.1))

-- the ways in which checking answers, for a decoded book
module _ (d : Decoded) (bs : List ℕ) (same_bytes : decoded_bytes d ≡ bs) where
  viewed : decoded_book d ≡ view bs
  viewed = d.means ∙ ap view same_bytes

  well_formed : Formed (decoded_book d)
  well_formed = subst Formed (sym d.means) (formed (decoded_bytes d) d.book.clear)

  Refused : TypeFault → Book → Type 0
  Refused e B = Holds B e × HasNoType B

  pub repeated : (i : ℕ) → Holds (decoded_book d) (Repeated i) → Holds (view bs) (Repeated i) × HasNoType (view bs)
  unfolding Refused
  repeated i h = subst (Refused (Repeated i)) viewed (h, no_type (decoded_book d) well_formed (λ z names well. not_repeated (decoded_book d) well_formed h names))

  pub untyped : (e : TypeFault) → NamesDistinct (decoded_book d) → (c : ℕ) × UntypedMethod (decoded_book d) c e → Holds (view bs) e × HasNoType (view bs)
  unfolding Refused
  untyped e names (c, wrong) =
      subst (Refused e) viewed
      (untyped_holds (decoded_book d) well_formed names c e wrong, no_type (decoded_book d) well_formed (λ z names' well. untyped_refutes (decoded_book d) well_formed names c e z wrong well))

  pub top_untyped : (e : TypeFault) → type_in (suc d.root) (decoded_book d) at_top d.root ≡ Err e → Holds (view bs) e × HasNoType (view bs)
  unfolding Refused
  top_untyped e h =
      subst (Refused e) viewed (top_holds (decoded_book d) well_formed e h, no_type (decoded_book d) well_formed (λ z names well. top_refutes (decoded_book d) well_formed e z h well))

  pub accepted : (z : BType) → NamesDistinct (decoded_book d) → ((c : ℕ) → c < (decoded_book d).classes → MethodsTyped (decoded_book d) c) → TopTyped (decoded_book d) z
      → (decoded_bytes d ≡ bs) × (decoded_book d ≡ view bs) × HasType (view bs) z
  accepted z names all top =
      (same_bytes, viewed, subst (λ B. HasType B z) viewed (has_type (decoded_book d) well_formed z names (well_typed (decoded_book d) well_formed z all top)))

-- what a checked book keeps of its checking gives it its type
pub typed : (b : CheckedBook) → HasType (book_of b) (top_type b)
typed b =
    let formed_book = formed (checked_bytes b) b.decoded.book.clear in
    subst (λ B. HasType B (top_type b)) (sym b.decoded.means)
    (has_type (view (checked_bytes b)) formed_book (top_type b) b.names (well_typed (view (checked_bytes b)) formed_book (top_type b) b.methods b.top_typed))
