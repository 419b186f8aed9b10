-- A file clear of all faults is a well-formed book.
use Rattle.std.proofs.Common.{◌≡◌, ℕ, suc, ◌+◌, ◌-◌, ◌<◌, ◌≤◌, true, false, eqb, List, Some, None, Option, sym, refl, ap, ◌∙◌, subst, inl, inr, arith}
use Rattle.std.proofs.lemmas.Bool.{cases_lt, lt-ltb, le-ltb, ltb-true, eqb-false, leb-false, and_parts, cond-true, cond-false, cond_both}
use Rattle.std.specs.List.{slice_get}
use Rattle.std.specs.Option.{option_map}
use Rattle.book.specs.declared.node.Type.{«Type» as BType}
use Rattle.book.specs.declared.node.Type.TheVariants.{Int, Boolean, Class as OfClass}
use Rattle.book.specs.declared.node.Node.{Node as ANode}
use Rattle.book.specs.declared.node.Node.TheVariants.{Literal, Minus, Less, Equal, IsNull, This, Parameter, FieldRead, Call, New, Reading, FieldWrite, Sequence, If, While, Skip}
use Rattle.book.specs.declared.node.Part.{Part as PartOf}
use Rattle.book.specs.declared.node.Parts.{Parts}
use Rattle.book.specs.Counting.{total}
use Rattle.book.specs.Layout.{class_count, field_count, method_count, node_count, name_count, class_fields, class_methods, field_type, method_nodes, raw_node, typed}
use Rattle.book.specs.Kinds.{parts, numbers_right}
use Rattle.book.specs.Strips.{strip_of, holds_node, command_strip, returned_strip, top_strip, node_at}
use Rattle.book.specs.Names.{and_then}
use Rattle.book.specs.Faults.{Clear, no_type, part_right, parts_right}
use Rattle.book.proofs.Counts.{total_mono}
use Rattle.book.proofs.Laying.{proper_command, proper_returned, proper_top}
use Rattle.cool.specs.Syntax.{Name, int, boolean, class}
use Rattle.cool.specs.Book.{Meth, Part, Each, expressions, commands, Lies, ClassThere, TypeThere, ExpressionAt, CommandAt, Formed}
use Rattle.cool.specs.View.{field, method, named_method, part, root_of, owner, with_class, holding, view}
use Rattle.cool.proofs.Base.{no_some, some_same}
use Rattle.cool.proofs.Rows.{nth_run, owned, ownerless, among, same_owner}
use Rattle.cool.proofs.Clear.{fields_add_up, methods_add_up, nodes_add_up, some_top, field_right, method_right, OfSort, stands_right, sort_there, root_there}

module _ (bs : List ℕ) where
  -- classes are numbered through
  class_there : (c : ℕ) → c < class_count bs → (view bs).class c ≡ Some (part bs c)
  class_there c h = cond-true _ _ _ (lt-ltb c (class_count bs) h)

  no_class : (c : ℕ) → class_count bs ≤ c → (view bs).class c ≡ None
  no_class c h = cond-false _ _ _ (le-ltb c (class_count bs) h)

  class_is : (c : ℕ) (p : Part) → (view bs).class c ≡ Some p → (c < class_count bs) × (p ≡ part bs c)
  class_is c p e =
      elim (cases_lt c (class_count bs)) [
        | inl l ↦ (l, some_same (sym e ∙ class_there c l))
        | inr l ↦ no_some (sym (no_class c l) ∙ e)
      ]

  -- types are there
  class_type : (c : ℕ) → c < class_count bs → TypeThere (view bs) (OfClass c)
  class_type c h = (class (part bs c).called, ap (option_map (λ p. class p.called)) (class_there c h))

  type_there : (t : ℕ) → no_type bs t ≡ false → TypeThere (view bs) (typed t)
  type_there t h =
      let below = leb-false (2 + class_count bs) t h in
      cond_both (eqb t 0) Int _ (TypeThere (view bs)) (λ e. (int, refl))
      (λ e. cond_both (eqb t 1) Boolean _ (TypeThere (view bs)) (λ f. (boolean, refl)) (λ f. class_type (t - 2) (omega (arith, eqb-false t 0 e, eqb-false t 1 f))))

  -- nodes of one strip have one holder
  same_holder : (k p : ℕ) → holds_node (strip_of bs k) p ≡ true → holding bs p ≡ holding bs k
  same_holder k p h = ap (λ o. and_then o (with_class bs)) (same_owner bs k p h)

  -- a node among method m's, of class c
  held : (c m k : ℕ) → m < method_count bs → owner (class_methods bs) (class_count bs) m ≡ Some c → total (method_nodes bs) m ≤ k → k < total (method_nodes bs) m + method_nodes bs m
      → holding bs k ≡ Some (c, method bs m)
  held c m k h o low high =
      ap (λ o. and_then o (with_class bs)) (owned (method_nodes bs) m (method_count bs) k h low high)
      ∙ ap (option_map (λ c. (c, method bs m))) o

-- what a part must be
Right : List ℕ → ℕ → Option PartOf → Type 0
Right bs k None = Unit {0}
Right bs k (Some p) = Lies (view bs) k p.node × ((n : ANode) × (node_at bs p.node ≡ Some n) × OfSort p.sort n)

-- and so what Formed asks of a node's parts
abbrev PartsThere : List ℕ → ℕ → ANode → Type 0
PartsThere bs k n = Each (λ a. Lies (view bs) k a × ExpressionAt (view bs) a) (expressions n) × Each (λ a. Lies (view bs) k a × CommandAt (view bs) a) (commands n)

module _ (bs : List ℕ) (clear : Clear bs) where
  -- parts
  right : (k : ℕ) (o : Option PartOf) → k < node_count bs → part_right bs k o ≡ true → Right bs k o
  unfolding Right
  right k None h e = tt
  right k (Some p) h e =
      let lies = and_parts _ _ (and_parts _ _ e).0 in
      let before : p.node < k = ltb-true _ _ lies.1 in
      ((before, same_holder bs k p.node lies.0), sort_there bs clear p.sort p.node (omega arith) (and_parts _ _ e).1)

  all_right : (k : ℕ) (ps : Parts) → k < node_count bs → parts_right bs k ps ≡ true → Right bs k ps.a × Right bs k ps.b × Right bs k ps.d
  all_right k ps h e =
      let l = and_parts _ _ e in
      let r = and_parts _ _ l.1 in
      (right k ps.a h l.0, right k ps.b h r.0, right k ps.d h r.1)

  each : (k : ℕ) (n : ANode) → Right bs k (parts n).a × Right bs k (parts n).b × Right bs k (parts n).d → PartsThere bs k n
  unfolding Right
  each k (Literal v) r = (tt, tt)
  each k (Minus a b) r = ((r.0, (r.1, tt)), tt)
  each k (Less a b) r = ((r.0, (r.1, tt)), tt)
  each k (Equal a b) r = ((r.0, (r.1, tt)), tt)
  each k (IsNull a) r = ((r.0, tt), tt)
  each k This r = (tt, tt)
  each k Parameter r = (tt, tt)
  each k (FieldRead a f) r = ((r.0, tt), tt)
  each k (Call a b m) r = ((r.0, (r.1, tt)), tt)
  each k (New c) r = (tt, tt)
  each k (Reading a) r = ((r.0, tt), tt)
  each k (FieldWrite a b f) r = ((r.0, (r.1, tt)), tt)
  each k (Sequence a b) r = (tt, (r.0, (r.1, tt)))
  each k (If a b d) r = ((r.0, tt), (r.1, (r.2, tt)))
  each k (While a b) r = ((r.0, tt), (r.1, tt))
  each k Skip r = (tt, tt)

  parts_formed : (k : ℕ) (n : ANode) → node_at bs k ≡ Some n → PartsThere bs k n
  parts_formed k n e = let s = stands_right bs clear k n e in each k n (all_right k (parts n) s.0 s.2)

  -- the class of a new expression
  made : (k : ℕ) (n : ANode) → node_at bs k ≡ Some n → ClassThere (view bs) n
  made k n e c is =
      let s = stands_right bs clear k n e in
      let h = subst (λ n. numbers_right (class_count bs) (name_count bs) (raw_node bs k) n ≡ true) is s.1 in
      let l = ltb-true c (class_count bs) (and_parts (eqb (raw_node bs k).b 0) _ (and_parts (eqb (raw_node bs k).a 0) _ h).1).1 in
      (part bs c, class_there bs c l)

  -- the top root
  top : ExpressionAt (view bs) (root_of (top_strip bs))
  top = let sum = nodes_add_up bs clear in root_there bs clear (top_strip bs) (some_top bs clear) (omega arith) (proper_top bs)

  top_held : holding bs (root_of (top_strip bs)) ≡ None
  top_held =
      let some = some_top bs clear in
      ap (λ o. and_then o (with_class bs)) (ownerless (method_nodes bs) (method_count bs) (root_of (top_strip bs)) (omega arith))

  -- the fields and methods of a class are the file's
  field_is : (c i : ℕ) (p : Part) (f : Name) (t : BType) → (view bs).class c ≡ Some p → slice_get p.fields i ≡ Some (f, t) → (j : ℕ) × (j < field_count bs) × (typed (field_type bs j) ≡ t)
  field_is c i p f t e at =
      let k = class_is bs c p e in
      let r = nth_run (field bs) (total (class_fields bs) c) (class_fields bs c) i (f, t) (subst (λ p. slice_get p.fields i ≡ Some (f, t)) k.1 at) in
      let sum = fields_add_up bs clear in
      let l = among (class_fields bs) c (class_count bs) i k.0 r.0 in
      (total (class_fields bs) c + i, omega arith, ap (λ x. x.1) (sym r.1))

  method_is : (c i : ℕ) (p : Part) (m : Name) (q : Meth) → (view bs).class c ≡ Some p → slice_get p.methods i ≡ Some (m, q)
      → (j : ℕ) × (j < method_count bs) × (method bs j ≡ q) × (owner (class_methods bs) (class_count bs) j ≡ Some c)
  method_is c i p m q e at =
      let k = class_is bs c p e in
      let r = nth_run (named_method bs) (total (class_methods bs) c) (class_methods bs c) i (m, q) (subst (λ p. slice_get p.methods i ≡ Some (m, q)) k.1 at) in
      let sum = methods_add_up bs clear in
      let l = among (class_methods bs) c (class_count bs) i k.0 r.0 in
      let low = r.0 in
      (total (class_methods bs) c + i, omega arith, ap (λ x. x.1) (sym r.1), owned (class_methods bs) c (class_count bs) (total (class_methods bs) c + i) k.0 (omega arith) (omega arith))

  -- types and roots of a method
  module _ (m : ℕ) (h : m < method_count bs) where
    types : TypeThere (view bs) (method bs m).takes × TypeThere (view bs) (method bs m).gives
    types = let r = method_right bs clear m h in (type_there bs _ r.parameter, type_there bs _ r.result)

    roots : CommandAt (view bs) (method bs m).body × ExpressionAt (view bs) (method bs m).result
    roots =
        let r = method_right bs clear m h in
        let sum = nodes_add_up bs clear in
        let fits = total_mono (method_nodes bs) (suc m) (method_count bs) (omega arith) in (
          root_there bs clear (command_strip bs m) r.command (omega arith) (proper_command bs m h),
          root_there bs clear (returned_strip bs m) r.returned (omega arith) (proper_returned bs m h),
        )

    roots_held : (c : ℕ) → owner (class_methods bs) (class_count bs) m ≡ Some c → (holding bs (method bs m).body ≡ Some (c, method bs m)) × (holding bs (method bs m).result ≡ Some (c, method bs m))
    roots_held c o =
        let r = method_right bs clear m h in
        (held bs c m (method bs m).body h o (omega arith) (omega arith), held bs c m (method bs m).result h o (omega arith) (omega arith))

  pub formed : Formed (view bs)
  formed = record {
    all_classes = λ c h. (part bs c, class_there bs c h);
    no_others = no_class bs;
    parts = parts_formed;
    made = made;
    top = top;
    top_held = top_held;
    field_types = λ c i p f t e at.
        let j = field_is c i p f t e at in
        subst (TypeThere (view bs)) j.2 (type_there bs (field_type bs j.0) (field_right bs clear j.0 j.1));
    method_types = λ c i p m q e at.
        let j = method_is c i p m q e at in
        subst (λ q. TypeThere (view bs) q.takes × TypeThere (view bs) q.gives) j.2 (types j.0 j.1);
    roots = λ c i p m q e at.
        let j = method_is c i p m q e at in
        subst (λ q. CommandAt (view bs) q.body × ExpressionAt (view bs) q.result) j.2 (roots j.0 j.1);
    roots_held = λ c i p m q e at.
        let j = method_is c i p m q e at in
        subst (λ q. (holding bs q.body ≡ Some (c, q)) × (holding bs q.result ≡ Some (c, q))) j.2 (roots_held j.0 j.1 c j.3);
  }
