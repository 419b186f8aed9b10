-- What a file clear of all faults has.
use Rattle.std.proofs.Common.{◌≡◌, ℕ, ◌+◌, ◌-◌, ◌<◌, ◌≤◌, Bool, true, false, cond, ◌&&◌, eqb, ltb, List, map, Some, None, Option, sym, refl, ap, ◌∙◌, subst, inl, inr, arith}
use Rattle.std.proofs.lemmas.Bool.{cases_lt, lt-ltb, le-ltb, eqb-true, eqb-false, leb-true, le-leb, eq-eqb, not-false, and_parts, and_from, or_parts, cond-true, cond-false}
use Rattle.std.specs.List.{slice_get}
use Rattle.book.specs.declared.fault.Fault.TheVariants.{Limit, Total, Entry, Node}
use Rattle.book.specs.declared.entry.Strip.{Strip}
use Rattle.book.specs.declared.node.Sort.{Sort}
use Rattle.book.specs.declared.node.Sort.TheVariants.{Expression, Command}
use Rattle.book.specs.declared.node.Raw.{Raw}
use Rattle.book.specs.declared.node.Node.{Node as ANode}
use Rattle.book.specs.Counting.{total}
use Rattle.book.specs.Layout.{class_count, field_count, method_count, node_count, name_count, top_count, class_fields, class_methods, field_type, method_result, method_parameter, command_nodes, returned_nodes, method_nodes, raw_node}
use Rattle.book.specs.Kinds.{decoded, kinds, of_sort, parts, numbers_right}
use Rattle.book.specs.Strips.{holds_node, is_root, node_at}
use Rattle.book.specs.Noted.{Proper}
use Rattle.book.specs.Faults.{Clear, wrong_field, wrong_method, no_type, shape_right, parts_right, uses, use_right}
use Rattle.cool.specs.Book.{is_expression}
use Rattle.cool.specs.View.{run, root_of}
use Rattle.cool.proofs.Base.{no_some, unlike}
use Rattle.cool.proofs.Rows.{nth_map, nth_run}

some : (n : ℕ) → eqb n 0 ≡ false → 0 < n
some n e = elim (cases_lt 0 n) [ inl l ↦ l | inr l ↦ absurd (eqb-false n 0 e (omega arith)) ]

rest : (x y : Bool) → x ≡ true → (x && y) ≡ false → y ≡ false
rest true y e f = f
rest false y e f = unlike e

-- the sort of a node is that of its kind
sort_by_kind : (r : Raw) (n : ANode) → decoded r ≡ Some n → is_expression n ≡ ltb r.kind 11
unfolding decoded
sort_by_kind r n e =
    let sorts : map is_expression (kinds r.a r.b r.d) ≡ run (λ k. ltb k 11) 0 16 = refl in
    let at : slice_get (run (λ k. ltb k 11) 0 16) r.kind ≡ Some (is_expression n) = ap (λ l. slice_get l r.kind) (sym sorts) ∙ nth_map is_expression (kinds r.a r.b r.d) r.kind n e in
    let z : 0 + r.kind ≡ r.kind = omega arith in
    (nth_run (λ k. ltb k 11) 0 16 r.kind (is_expression n) at).1 ∙ ap (λ k. ltb k 11) z

-- a node of a sort
abbrev pub OfSort : Sort → ANode → Type 0
OfSort Expression n = is_expression n ≡ true
OfSort Command n = is_expression n ≡ false

sort_right : (s : Sort) (k : ℕ) (n : ANode) → is_expression n ≡ ltb k 11 → of_sort s k ≡ true → OfSort s n
sort_right Expression k n e h = e ∙ h
sort_right Command k n e h = e ∙ le-ltb k 11 (leb-true 11 k (and_parts _ _ h).0)

pub shaped : (bs : List ℕ) (k : ℕ) (o : Option ANode) → shape_right bs k o ≡ true → (n : ANode) × (o ≡ Some n)
shaped bs k None h = unlike h
shaped bs k (Some n) h = (n, refl)

-- a method has its types, and nodes in both strips
pub record MethodRight (bs : List ℕ) (m : ℕ) : Type 0 where
  pub result : no_type bs (method_result bs m) ≡ false
  pub parameter : no_type bs (method_parameter bs m) ≡ false
  pub command : 0 < command_nodes bs m
  pub returned : 0 < returned_nodes bs m

module _ (bs : List ℕ) (clear : Clear bs) where
  -- counts add up
  pub fields_add_up : total (class_fields bs) (class_count bs) ≡ field_count bs
  fields_add_up = eqb-true _ _ (not-false _ (or_parts _ _ (clear.none (Total 2))).0)

  pub methods_add_up : total (class_methods bs) (class_count bs) ≡ method_count bs
  methods_add_up = eqb-true _ _ (not-false _ (or_parts _ _ (clear.none (Total 3))).0)

  pub nodes_add_up : total (method_nodes bs) (method_count bs) + top_count bs ≡ node_count bs
  nodes_add_up = eqb-true _ _ (not-false _ (or_parts _ _ (clear.none (Total 4))).0)

  pub some_top : 0 < top_count bs
  some_top = some (top_count bs) (or_parts _ _ (clear.none (Limit 11))).0

  -- entries are right
  pub field_right : (j : ℕ) → j < field_count bs → no_type bs (field_type bs j) ≡ false
  field_right j h =
      let i = class_count bs + j in
      let at : i - class_count bs ≡ j = omega arith in
      let no_class = le-ltb i (class_count bs) (omega arith) in
      let a_field = lt-ltb i (class_count bs + field_count bs) (omega arith) in
      let falls = cond-false _ _ _ no_class ∙ cond-true _ _ _ a_field in
      (or_parts _ _ (subst (λ i. wrong_field bs i ≡ false) at (sym falls ∙ clear.none (Entry i)))).1

  pub method_right : (m : ℕ) → m < method_count bs → MethodRight bs m
  method_right m h =
      let i = class_count bs + field_count bs + m in
      let at : i - (class_count bs + field_count bs) ≡ m = omega arith in
      let no_class = le-ltb i (class_count bs) (omega arith) in
      let no_field = le-ltb i (class_count bs + field_count bs) (omega arith) in
      let a_method = lt-ltb i (class_count bs + field_count bs + method_count bs) (omega arith) in
      let falls = cond-false _ _ _ no_class ∙ (cond-false _ _ _ no_field ∙ cond-true _ _ _ a_method) in
      let r = or_parts _ _ (or_parts _ _ (subst (λ i. wrong_method bs i ≡ false) at (sym falls ∙ clear.none (Entry i)))).1 in
      let p = or_parts _ _ r.1 in
      let s = or_parts _ _ p.1 in
      record { result = r.0; parameter = p.0; command = some _ s.0; returned = some _ s.1 }

  -- nodes are right
  pub node_right : (k : ℕ) → k < node_count bs → (shape_right bs k (decoded (raw_node bs k)) ≡ true) × (use_right bs k ≡ true)
  node_right k h = and_parts _ _ (not-false _ (rest _ _ (lt-ltb k (node_count bs) h) (clear.none (Node k))))

  pub stands : (k : ℕ) → k < node_count bs → node_at bs k ≡ decoded (raw_node bs k)
  stands k h = cond-true _ _ _ (lt-ltb k (node_count bs) h)

  -- what stands at a node is right
  pub stands_right : (k : ℕ) (n : ANode) → node_at bs k ≡ Some n
      → (k < node_count bs) × (numbers_right (class_count bs) (name_count bs) (raw_node bs k) n ≡ true) × (parts_right bs k (parts n) ≡ true)
  stands_right k n e =
      elim (cases_lt k (node_count bs)) [
        | inl l ↦ let r = and_parts _ _ (subst (λ o. shape_right bs k o ≡ true) (sym (stands k l) ∙ e) (node_right k l).0) in (l, r.0, r.1)
        | inr l ↦ no_some (sym (cond-false _ _ _ (le-ltb k (node_count bs) l)) ∙ e)
      ]

  -- a node whose kind is of a sort
  pub sort_there : (s : Sort) (k : ℕ) → k < node_count bs → of_sort s (raw_node bs k).kind ≡ true → (n : ANode) × (node_at bs k ≡ Some n) × OfSort s n
  sort_there s k h e =
      let (n, is) = shaped bs k (decoded (raw_node bs k)) (node_right k h).0 in
      (n, stands k h ∙ is, sort_right s (raw_node bs k).kind n (sort_by_kind (raw_node bs k) n is) e)

  -- the root of a strip
  pub root_there : (s : Strip) → 0 < s.nodes → s.first + s.nodes ≤ node_count bs → Proper bs s → (n : ANode) × (node_at bs (root_of s) ≡ Some n) × OfSort s.sort n
  root_there s some fits proper =
      let last : holds_node s (root_of s) ≡ true = and_from _ _ (le-leb s.first (root_of s) (omega arith)) (lt-ltb (root_of s) (s.first + s.nodes) (omega arith)) in
      let is : is_root s (root_of s) ≡ true = eq-eqb (root_of s + 1) (s.first + s.nodes) (omega arith) in
      let used = (node_right (root_of s) (omega arith)).1 in
      let right = subst (λ t. cond (is_root t (root_of s)) (of_sort t.sort (raw_node bs (root_of s)).kind) (eqb (uses bs (root_of s)) 1) ≡ true) (proper (root_of s) last) used in
      sort_there s.sort (root_of s) (omega arith) (sym (cond-true _ _ _ is) ∙ right)
