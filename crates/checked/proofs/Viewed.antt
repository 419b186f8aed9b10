-- The tables of a book that is clear of faults mean the book that its bytes are.
use Rattle.std.proofs.Common.{◌≡◌, ℕ, zero, suc, ◌+◌, ◌<◌, ◌≤◌, Bool, true, false, ltb, List, [], ◌∷◌, map, take, drop, Some, Option, sym, refl, ap, ◌∙◌, subst, inl, inr, arith}
use mathlib.Core.Path.{fun_ext}
use Rattle.std.specs.Option.{option_map}
use Rattle.std.specs.List.{slice_get}
use Rattle.std.proofs.lemmas.Bool.{cases_lt, lt-ltb, le-ltb, ltb-true, ltb-false, or_parts, cond-true, cond-false}
use Rattle.book.specs.declared.fault.Fault.TheVariants.{Limit}
use Rattle.book.specs.declared.entry.Class.{Class}
use Rattle.book.specs.declared.entry.Field.{Field}
use Rattle.book.specs.declared.entry.Method.{Method as MethodEntry}
use Rattle.book.specs.declared.node.Node.{Node}
use Rattle.book.specs.Counting.{total}
use Rattle.book.specs.Layout.{class_count, field_count, method_count, node_count, class_fields, class_methods, class_name, method_nodes, command_nodes, returned_nodes, class_at, field_at, raw_node}
use Rattle.book.specs.Kinds.{decoded}
use Rattle.book.specs.Strips.{method_at, node_at, command_strip, returned_strip, top_strip}
use Rattle.book.specs.Faults.{Clear}
use Rattle.cool.specs.View.{run, root_of, field, named_method as viewed_method, part, view}
use Rattle.cool.specs.Book.{Part, Book}
use Rattle.cool.proofs.Rows.{among}
use Rattle.book.proofs.Counts.{total_mono}
use Rattle.cool.proofs.Clear.{fields_add_up, methods_add_up, nodes_add_up, node_right, shaped, stands}
use Rattle.checked.specs.declared.table.Method.{Method}
use Rattle.checked.specs.Tables.{Tabled, FilledBy, decoded_method, named_field, named_method, part_in, book_in}
use Rattle.checked.proofs.Tables.{tabled}

rest_at : {R : Type 0} (xs : List R) (i : ℕ) (x : R) → slice_get xs i ≡ Some x → drop i xs ≡ x ∷ drop (i + 1) xs
rest_at [] i x h = cc
rest_at (y ∷ xs) zero x h = let e : y ≡ x = cc in ap (λ z. z ∷ xs) e
rest_at (y ∷ xs) (suc i) x h = let e : suc i + 1 ≡ suc (i + 1) = omega arith in rw e (rest_at xs i x h)

-- a part of a table is the run of what it holds
stretch_run : {R A : Type 0} (g : R → A) (f : ℕ → A) (table : List R) (j n : ℕ)
    → ((i : ℕ) → i < n → (x : R) × (slice_get table (j + i) ≡ Some x) × (g x ≡ f (j + i))) → map g (take n (drop j table)) ≡ run f j n
stretch_run g f table j zero h = refl
stretch_run {R} g f table j (suc n) h =
    let z : j + 0 ≡ j = omega arith in
    let here : (x : R) × (slice_get table j ≡ Some x) × (g x ≡ f j) = subst (λ k. (x : R) × (slice_get table k ≡ Some x) × (g x ≡ f k)) z (h 0 (omega arith)) in
    let later = stretch_run g f table (j + 1) n (λ i l. let s : j + suc i ≡ j + 1 + i = omega arith in subst (λ k. (x : R) × (slice_get table k ≡ Some x) × (g x ≡ f k)) s (h (suc i) (omega arith))) in
    rw (rest_at table j here.0 here.1) (ap (λ a. a ∷ map g (take n (drop (j + 1) table))) here.2 ∙ ap (λ xs. f j ∷ xs) later)

module _ (bs : List ℕ) (clear : Clear bs) where
  pub few_classes : class_count bs ≤ 64
  few_classes = ltb-false 64 (class_count bs) (or_parts _ _ (clear.none (Limit 1))).0

  few_fields : field_count bs ≤ 512
  few_fields = ltb-false 512 (field_count bs) (or_parts _ _ (clear.none (Limit 2))).0

  few_methods : method_count bs ≤ 256
  few_methods = ltb-false 256 (method_count bs) (or_parts _ _ (clear.none (Limit 3))).0

  few_nodes : node_count bs ≤ 4000
  few_nodes = ltb-false 4000 (node_count bs) (or_parts _ _ (clear.none (Limit 4))).0

  -- each table holds what there is
  pub classes_tabled : (cs : List Class) → FilledBy (λ i o. o ≡ class_at bs i) 64 cs → Tabled (class_at bs) cs
  classes_tabled cs h =
      tabled (class_at bs) 64 (class_count bs) cs h few_classes
      (λ c low. (_, cond-true _ _ _ (lt-ltb c (class_count bs) low))) (λ c high. cond-false _ _ _ (le-ltb c (class_count bs) high))

  fields_tabled : (fs : List Field) → FilledBy (λ i o. o ≡ field_at bs i) 512 fs → Tabled (field_at bs) fs
  fields_tabled fs h =
      tabled (field_at bs) 512 (field_count bs) fs h few_fields
      (λ j low. (_, cond-true _ _ _ (lt-ltb j (field_count bs) low))) (λ j high. cond-false _ _ _ (le-ltb j (field_count bs) high))

  methods_tabled : (ms : List Method) → FilledBy (λ i o. o ≡ decoded_method bs i) 256 ms → Tabled (decoded_method bs) ms
  methods_tabled ms h =
      tabled (decoded_method bs) 256 (method_count bs) ms h few_methods
      (λ m low. (_, ap (option_map _) (cond-true _ _ _ (lt-ltb m (method_count bs) low)))) (λ m high. ap (option_map _) (cond-false _ _ _ (le-ltb m (method_count bs) high)))

  nodes_tabled : (ns : List Node) → FilledBy (λ i o. o ≡ node_at bs i) 4000 ns → Tabled (node_at bs) ns
  nodes_tabled ns h =
      tabled (node_at bs) 4000 (node_count bs) ns h few_nodes
      (λ k low. let n = shaped bs k (decoded (raw_node bs k)) (node_right bs clear k low).0 in (n.0, stands bs clear k low ∙ n.1))
      (λ k high. cond-false _ _ _ (le-ltb k (node_count bs) high))

  -- the strips of method m lie among the nodes
  strips_low : (m : ℕ) → m < method_count bs → total (method_nodes bs) m + command_nodes bs m + returned_nodes bs m ≤ 4000
  strips_low m h =
      let all = nodes_add_up bs clear in
      let few = few_nodes in
      let more = total_mono (method_nodes bs) (suc m) (method_count bs) h in
      omega arith

  method_read_by : (m : ℕ) (q : MethodEntry) (b : Bool) → ltb m (method_count bs) ≡ b → method_at bs m ≡ Some q
      → (m < method_count bs) × (command_strip bs m ≡ q.command) × (returned_strip bs m ≡ q.returned)
  method_read_by m q true t h = let e = sym (cond-true _ _ _ t) ∙ h in (ltb-true m (method_count bs) t, cc, cc)
  method_read_by m q false t h = cc

  pub roots_low : (m : ℕ) (q : MethodEntry) → method_at bs m ≡ Some q → (q.command.first + q.command.nodes ≤ 4000) × (q.returned.first + q.returned.nodes ≤ 4000)
  roots_low m q h =
      let r = method_read_by m q (ltb m (method_count bs)) refl h in
      let low = strips_low m r.0 in
      let c : command_strip bs m ≡ q.command = r.1 in
      let d : returned_strip bs m ≡ q.returned = r.2 in
      (subst (λ s. s.first + s.nodes ≤ 4000) c (omega arith), subst (λ s. s.first + s.nodes ≤ 4000) d (omega arith))

  pub top_low : (top_strip bs).first + (top_strip bs).nodes ≤ 4000
  top_low = let all = nodes_add_up bs clear in let few = few_nodes in omega arith

  module _ (fs : List Field) (ms : List Method) (fields : Tabled (field_at bs) fs) (methods : Tabled (decoded_method bs) ms) where
    fields_same : (c : ℕ) → c < class_count bs → map named_field (take (class_fields bs c) (drop (total (class_fields bs) c) fs)) ≡ run (field bs) (total (class_fields bs) c) (class_fields bs c)
    fields_same c h =
        stretch_run named_field (field bs) fs _ _ (λ i l.
        let inside = among (class_fields bs) c (class_count bs) i h l in
        let all = fields_add_up bs clear in
        let j = total (class_fields bs) c + i in
        let there : field_at bs j ≡ Some _ = cond-true _ _ _ (lt-ltb j (field_count bs) (omega arith)) in
        (_, fields j ∙ there, refl))

    methods_same : (c : ℕ) → c < class_count bs → map named_method (take (class_methods bs c) (drop (total (class_methods bs) c) ms)) ≡ run (viewed_method bs) (total (class_methods bs) c) (class_methods bs c)
    methods_same c h =
        stretch_run named_method (viewed_method bs) ms _ _ (λ i l.
        let inside = among (class_methods bs) c (class_count bs) i h l in
        let all = methods_add_up bs clear in
        let m = total (class_methods bs) c + i in
        let there : method_at bs m ≡ Some _ = cond-true _ _ _ (lt-ltb m (method_count bs) (omega arith)) in
        (_, methods m ∙ ap (option_map _) there, refl))

    part_same : (c : ℕ) → c < class_count bs → option_map (part_in fs ms) (class_at bs c) ≡ Some (part bs c)
    part_same c h =
        let there : class_at bs c ≡ Some _ = cond-true _ _ _ (lt-ltb c (class_count bs) h) in
        ap (option_map (part_in fs ms)) there
        ∙ (ap (λ xs. Some (record { called = class_name bs c; fields = xs; methods = map named_method (take (class_methods bs c) (drop (total (class_methods bs) c) ms)) })) (fields_same c h)
        ∙ ap (λ xs. Some (record { called = class_name bs c; fields = run (field bs) (total (class_fields bs) c) (class_fields bs c); methods = xs })) (methods_same c h))

    class_same : (c : ℕ) → option_map (part_in fs ms) (class_at bs c) ≡ (view bs).class c
    class_same c =
        elim (cases_lt c (class_count bs)) [
          | inl low ↦ part_same c low ∙ sym (cond-true _ _ _ (lt-ltb c (class_count bs) low))
          | inr high ↦ let f = le-ltb c (class_count bs) high in ap (option_map (part_in fs ms)) (cond-false _ _ _ f) ∙ sym (cond-false _ _ _ f)
        ]

  same_parts : (ns : ℕ → Option Node) (cs : ℕ → Option Part) (r : ℕ) → ns ≡ (view bs).node → cs ≡ (view bs).class → r ≡ (view bs).root
      → ◌≡◌ {A = Book} (record { node = ns; class = cs; classes = class_count bs; root = r; holder = (view bs).holder; text = (view bs).text }) (view bs)
  same_parts ns cs r a b c = rw (a, b, c)

  pub means : (cs : List Class) (fs : List Field) (ms : List Method) (ns : List Node) (root : ℕ)
      → FilledBy (λ i o. o ≡ class_at bs i) 64 cs → FilledBy (λ i o. o ≡ field_at bs i) 512 fs → FilledBy (λ i o. o ≡ decoded_method bs i) 256 ms → FilledBy (λ i o. o ≡ node_at bs i) 4000 ns → root ≡ root_of (top_strip bs)
      → book_in bs cs fs ms ns root ≡ view bs
  means cs fs ms ns root c f m n r =
      same_parts (slice_get ns) (λ i. option_map (part_in fs ms) (slice_get cs i)) root
      (fun_ext (nodes_tabled ns n))
      (fun_ext (λ i. ap (option_map (part_in fs ms)) (classes_tabled cs c i) ∙ class_same fs ms (fields_tabled fs f) (methods_tabled ms m) i))
      r
