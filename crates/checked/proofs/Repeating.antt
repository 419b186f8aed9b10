-- Entries by one name, and their numbers.
use Rattle.std.proofs.Common.{◌≡◌, ℕ, zero, suc, ◌+◌, ◌<◌, ◌≤◌, Bool, true, false, ◌||◌, eqb, ltb, List, [], ◌∷◌, map, length, take, Some, None, Option, sym, refl, ap, ◌∙◌, subst, inl, inr, arith}
use Rattle.std.specs.Option.{option_map, option_or, MatchOption}
use Rattle.std.specs.List.{slice_get, list_any}
use Rattle.std.proofs.lemmas.Bool.{cases_lt, ltb-true, lt-ltb, cond-true, eqb-true, eqb-false, or_parts}
use Rattle.std.proofs.lemmas.Option.{slice_get-map, slice_get_within}
use Rattle.book.specs.declared.entry.Class.{Class}
use Rattle.book.specs.declared.entry.Field.{Field}
use Rattle.book.specs.Counting.{total}
use Rattle.book.specs.Layout.{class_count, field_count, class_fields, class_methods, class_at}
use Rattle.cool.specs.Syntax.{Name}
use Rattle.cool.specs.Book.{Part, fields_of}
use Rattle.cool.specs.View.{run, view}
use Rattle.cool.specs.Accepts.{Distinct, NamesDistinct}
use Rattle.cool.proofs.Clear.{fields_add_up}
use Rattle.checked.specs.declared.base.Decoded.{Decoded}
use Rattle.checked.specs.declared.table.Method.{Method}
use Rattle.checker.specs.declared.fault.TypeFault.TheVariants.{Repeated}
use Rattle.checked.specs.Naming.{AllDistinct, StandsEarlier, MembersDistinct}
use Rattle.checked.specs.Holding.{methods_of, fields_before, methods_before, field_entry, method_entry, same_class, same_field, same_method, Holds}
use Rattle.checked.specs.Checked.{decoded_bytes, own_fields, own_methods, named_field, named_method, part_of, class_there, decoded_book}

pub unmapped : {R A : Type 0} (g : R → A) (xs : List R) (i : ℕ) (y : A) → slice_get (map g xs) i ≡ Some y → (x : R) × (slice_get xs i ≡ Some x) × (g x ≡ y)
unmapped g [] i y h = cc
unmapped g (x ∷ xs) zero y h = (x, refl, cc)
unmapped g (x ∷ xs) (suc i) y h = unmapped g xs i y h

pub mapped : {R A : Type 0} (g : R → A) (xs : List R) (i : ℕ) (x : R) → slice_get xs i ≡ Some x → slice_get (map g xs) i ≡ Some (g x)
mapped g xs i x h = slice_get-map g xs i ∙ ap (option_map g) h

-- what stands among the first n
nth_take : {A : Type 0} (xs : List A) (n i : ℕ) (x : A) → slice_get (take n xs) i ≡ Some x → (i < n) × (slice_get xs i ≡ Some x)
nth_take xs zero i x h = cc
nth_take [] (suc n) i x h = cc
nth_take (y ∷ xs) (suc n) zero x h = (omega arith, h)
nth_take (y ∷ xs) (suc n) (suc i) x h = let r = nth_take xs n i x h in (omega arith, r.1)

take_nth : {A : Type 0} (xs : List A) (n i : ℕ) (x : A) → i < n → slice_get xs i ≡ Some x → slice_get (take n xs) i ≡ Some x
take_nth xs zero i x low h = absurd (omega arith)
take_nth [] (suc n) i x low h = cc
take_nth (y ∷ xs) (suc n) zero x low h = h
take_nth (y ∷ xs) (suc n) (suc i) x low h = take_nth xs n i x (omega arith) h

module _ {R : Type 0} (f : R → Name) (n : Name) where
  any_by : (b : Bool) (x : R) (xs : List R) → eqb n (f x) ≡ b → (list_any (λ e. eqb n (f e)) xs ≡ true → (i : ℕ) × (slice_get (map f xs) i ≡ Some n))
      → (b || list_any (λ e. eqb n (f e)) xs) ≡ true → (i : ℕ) × (slice_get (map f (x ∷ xs)) i ≡ Some n)
  any_by true x xs e later h = (0, ap Some (sym (eqb-true _ _ e)))
  any_by false x xs e later h = let r = later h in (suc r.0, r.1)

  any_found : (xs : List R) → list_any (λ e. eqb n (f e)) xs ≡ true → (i : ℕ) × (slice_get (map f xs) i ≡ Some n)
  any_found [] h = cc
  any_found (x ∷ xs) h = any_by (eqb n (f x)) x xs refl (any_found xs) h

  none_found : (xs : List R) → list_any (λ e. eqb n (f e)) xs ≡ false → (i : ℕ) → slice_get (map f xs) i ≡ Some n → ⊥
  none_found [] h i g = cc
  none_found (x ∷ xs) h zero g = let e : n ≡ f x = cc in eqb-false _ _ (or_parts _ _ h).0 e
  none_found (x ∷ xs) h (suc i) g = none_found xs (or_parts _ _ h).1 i g

-- whether the name of entry j stands among the entries before it
module _ {R : Type 0} (f : R → Name) (xs : List R) (j : ℕ) (x : R) (there : slice_get xs j ≡ Some x) where
  pub stands_earlier : list_any (λ e. eqb (f x) (f e)) (take j xs) ≡ true → StandsEarlier (map f xs) j
  stands_earlier h =
      let r = any_found f (f x) (take j xs) h in
      let u = unmapped f (take j xs) r.0 (f x) r.1 in
      let t = nth_take xs j r.0 u.0 u.1 in
      (r.0, f x, t.0, mapped f xs r.0 u.0 t.1 ∙ ap Some u.2, mapped f xs j x there)

  pub stands_nowhere : list_any (λ e. eqb (f x) (f e)) (take j xs) ≡ false → (i : ℕ) (n : Name) → i < j → slice_get (map f xs) i ≡ Some n → slice_get (map f xs) j ≡ Some n → ⊥
  stands_nowhere h i n low hi hj =
      let u = unmapped f xs i n hi in
      let same : u.2 ≡ u.2 = refl in
      let here = mapped f xs j x there in
      let e : f u.0 ≡ f x = cc in
      none_found f (f x) (take j xs) h i (mapped f (take j xs) i u.0 (take_nth xs j i u.0 low u.1) ∙ ap Some e)

-- no name stands earlier at any place
pub distinct_from : (xs : List Name) (m : ℕ) → length xs ≤ m → ((k i : ℕ) (n : Name) → k < m → i < k → slice_get xs i ≡ Some n → slice_get xs k ≡ Some n → ⊥) → AllDistinct xs
distinct_from xs m all none i j n hi hj =
    let li = slice_get_within xs i n hi in
    let lj = slice_get_within xs j n hj in
    elim (cases_lt i j) [
      | inl low ↦ absurd (none j i n (omega arith) low hi hj)
      | inr high ↦ elim (cases_lt j i) [ inl low ↦ absurd (none i j n (omega arith) low hj hi) | inr also ↦ omega arith ]
    ]

-- entries named by g, whose names alone are told by f
module _ {R A : Type 0} (f : R → Name) (g : R → Name × A) (named : (x : R) → (g x).0 ≡ f x) (xs : List R) where
  name_at : (i : ℕ) (m : Name) (a : A) → slice_get (map g xs) i ≡ Some (m, a) → slice_get (map f xs) i ≡ Some m
  name_at i m a h = let u = unmapped g xs i (m, a) h in mapped f xs i u.0 u.1 ∙ ap Some (sym (named u.0) ∙ ap (λ y. y.0) u.2)

  pub entries_distinct : AllDistinct (map f xs) → Distinct (map g xs)
  entries_distinct d i j m a b hi hj = d i j m (name_at i m a hi) (name_at j m b hj)

  entry_at : (i : ℕ) (m : Name) → slice_get (map f xs) i ≡ Some m → (a : A) × (slice_get (map g xs) i ≡ Some (m, a))
  entry_at i m h =
      let u = unmapped f xs i m h in
      ((g u.0).1, mapped g xs i u.0 u.1 ∙ ap (λ n. Some (n, (g u.0).1)) (named u.0 ∙ u.2))

  pub two_entries : (j : ℕ) → StandsEarlier (map f xs) j → (i : ℕ) × (m : Name) × (a : A) × (b : A) × (slice_get (map g xs) j ≡ Some (m, a)) × (slice_get (map g xs) i ≡ Some (m, b)) × (j ≡ i → ⊥)
  two_entries j (i, m, low, hi, hj) =
      let a = entry_at j m hj in
      let b = entry_at i m hi in
      (i, m, a.0, b.0, a.1, b.1, λ e. absurd (omega arith))

total_same : (f g : ℕ → ℕ) (n : ℕ) → ((i : ℕ) → i < n → f i ≡ g i) → total f n ≡ total g n
total_same f g zero h = refl
total_same f g (suc n) h =
    let a = total_same f g n (λ i l. h i (omega arith)) in
    let b = h n (omega arith) in
    omega arith

length_run : {A : Type 0} (f : ℕ → A) (j n : ℕ) → length (run f j n) ≡ n
length_run f j zero = refl
length_run f j (suc n) = ap suc (length_run f (j + 1) n)

module _ (bs : List ℕ) where
  fields_counted : (c : ℕ) → c ≤ class_count bs → fields_before (view bs) c ≡ total (class_fields bs) c
  fields_counted c h =
      total_same _ _ c (λ d l.
      let e : (view bs).class d ≡ Some _ = cond-true _ _ _ (lt-ltb d (class_count bs) (omega arith)) in
      ap (λ o. length (fields_of o)) e ∙ length_run _ _ _)

  methods_counted : (c : ℕ) → c ≤ class_count bs → methods_before (view bs) c ≡ total (class_methods bs) c
  methods_counted c h =
      total_same _ _ c (λ d l.
      let e : (view bs).class d ≡ Some _ = cond-true _ _ _ (lt-ltb d (class_count bs) (omega arith)) in
      ap (λ o. length (methods_of o)) e ∙ length_run _ _ _)

-- a class of the file: its number is low, and its first field and method are as counted
class_known : (bs : List ℕ) (c : ℕ) (k : Class) (b : Bool) → ltb c (class_count bs) ≡ b → class_at bs c ≡ Some k
    → (c < class_count bs) × (k.first_field ≡ total (class_fields bs) c) × (k.first_method ≡ total (class_methods bs) c)
class_known bs c k true t h = let e = sym (cond-true _ _ _ t) ∙ h in (ltb-true c (class_count bs) t, cc, cc)
class_known bs c k false t h = cc

module _ (d : Decoded) (c : ℕ) (k : Class) (there : class_there d c ≡ Some k) where
  class_part : (decoded_book d).class c ≡ Some (part_of d k)
  class_part = ap (option_map (part_of d)) there

  known : (c < class_count (decoded_bytes d)) × (k.first_field ≡ total (class_fields (decoded_bytes d)) c) × (k.first_method ≡ total (class_methods (decoded_bytes d)) c)
  known = class_known (decoded_bytes d) c k (ltb c (class_count (decoded_bytes d))) refl (sym (d.listed c) ∙ there)

  fields_first : fields_before (decoded_book d) c ≡ k.first_field
  fields_first =
      let low = known.0 in
      ap (λ B. fields_before B c) d.means ∙ (fields_counted (decoded_bytes d) c (omega arith) ∙ sym known.1)

  all_fields : fields_before (decoded_book d) (class_count (decoded_bytes d)) ≡ field_count (decoded_bytes d)
  all_fields =
      ap (λ B. fields_before B (class_count (decoded_bytes d))) d.means
      ∙ (fields_counted (decoded_bytes d) (class_count (decoded_bytes d)) (omega arith) ∙ fields_add_up (decoded_bytes d) d.book.clear)

  methods_first : methods_before (decoded_book d) c ≡ k.first_method
  methods_first =
      let low = known.0 in
      ap (λ B. methods_before B c) d.means ∙ (methods_counted (decoded_bytes d) c (omega arith) ∙ sym known.2)

  -- an entry that shares its name with an earlier one
  field_repeats : (i n : ℕ) → StandsEarlier (map (λ f. f.name) (own_fields d k)) i → n ≡ class_count (decoded_bytes d) + k.first_field + i → Holds (decoded_book d) (Repeated n)
  field_repeats i n h e =
      let two = two_entries (λ f. f.name) named_field (λ f. refl) (own_fields d k) i h in
      let first = fields_first in
      let same : field_entry (decoded_book d) c i ≡ n = omega arith in
      subst (λ m. Holds (decoded_book d) (Repeated m)) same (same_field class_part two.4 two.5 two.6)

  method_repeats : (i n : ℕ) → StandsEarlier (map (λ m. m.name) (own_methods d k)) i → n ≡ class_count (decoded_bytes d) + field_count (decoded_bytes d) + k.first_method + i → Holds (decoded_book d) (Repeated n)
  method_repeats i n h e =
      let two = two_entries (λ m. m.name) named_method (λ m. refl) (own_methods d k) i h in
      let all = all_fields in
      let first = methods_first in
      let same : method_entry (decoded_book d) c i ≡ n = omega arith in
      subst (λ m. Holds (decoded_book d) (Repeated m)) same (same_method class_part two.4 two.5 two.6)

  members_distinct : AllDistinct (map (λ f. f.name) (own_fields d k)) → AllDistinct (map (λ m. m.name) (own_methods d k)) → MembersDistinct (decoded_book d) c
  members_distinct fs ms p h =
      let e : part_of d k ≡ p = cc (class_part, h) in
      subst (λ q. Distinct q.fields × Distinct q.methods) e
      (entries_distinct (λ f. f.name) named_field (λ f. refl) (own_fields d k) fs, entries_distinct (λ m. m.name) named_method (λ m. refl) (own_methods d k) ms)

  -- what was found among the fields and among the methods
  pub members : (first_field first_method : ℕ) (fs : List Field) (ms : List Method) → first_field ≡ class_count (decoded_bytes d) + k.first_field
      → first_method ≡ class_count (decoded_bytes d) + field_count (decoded_bytes d) + k.first_method → fs ≡ own_fields d k → ms ≡ own_methods d k → (a b : Option ℕ)
      → MatchOption a (AllDistinct (map (λ f. f.name) fs)) (λ n. (j : ℕ) × StandsEarlier (map (λ f. f.name) fs) j × (n ≡ first_field + j))
      → MatchOption b (AllDistinct (map (λ m. m.name) ms)) (λ n. (j : ℕ) × StandsEarlier (map (λ m. m.name) ms) j × (n ≡ first_method + j))
      → MatchOption (option_or a b) (MembersDistinct (decoded_book d) c) (λ i. Holds (decoded_book d) (Repeated i))
  members first_field first_method fs ms hf hm ef em (Some n) b (j, earlier, e) q = field_repeats j n (subst (λ xs. StandsEarlier (map (λ f. f.name) xs) j) ef earlier) (omega arith)
  members first_field first_method fs ms hf hm ef em None (Some n) p (j, earlier, e) = method_repeats j n (subst (λ xs. StandsEarlier (map (λ m. m.name) xs) j) em earlier) (omega arith)
  members first_field first_method fs ms hf hm ef em None None p q =
      members_distinct (subst (λ xs. AllDistinct (map (λ f. f.name) xs)) ef p) (subst (λ xs. AllDistinct (map (λ m. m.name) xs)) em q)

-- the classes of a decoded book
class_by : (d : Decoded) (o : Option Class) (p : Part) → option_map (part_of d) o ≡ Some p → (k : Class) × (o ≡ Some k) × (part_of d k ≡ p)
class_by d None p h = cc
class_by d (Some k) p h = (k, refl, cc)

module _ (d : Decoded) where
  class_found : (c : ℕ) (p : Part) → (decoded_book d).class c ≡ Some p → (k : Class) × (class_there d c ≡ Some k) × (part_of d k ≡ p)
  class_found c p h = class_by d (class_there d c) p h

  pub class_repeats : (c : ℕ) → StandsEarlier (map (λ k. k.name) d.classes.items) c → Holds (decoded_book d) (Repeated c)
  class_repeats c (b, n, low, hb, hc) =
      let x = unmapped (λ k. k.name) d.classes.items c n hc in
      let y = unmapped (λ k. k.name) d.classes.items b n hb in
      same_class (class_part d c x.0 x.1) (class_part d b y.0 y.1) (λ e. absurd (omega arith)) (x.2 ∙ sym y.2)

  pub names_distinct : AllDistinct (map (λ k. k.name) d.classes.items) → ((c : ℕ) → c < class_count (decoded_bytes d) → MembersDistinct (decoded_book d) c) → NamesDistinct (decoded_book d)
  names_distinct cs members =
      record {
        classes = λ b c p q hb hc e.
            let x = class_found b p hb in
            let y = class_found c q hc in
            let same : x.0.name ≡ y.0.name = cc (x.2, y.2, e) in
            cs b c y.0.name (mapped (λ k. k.name) _ b x.0 x.1 ∙ ap Some same) (mapped (λ k. k.name) _ c y.0 y.1);
        fields = λ c p h. let x = class_found c p h in (members c (known d c x.0 x.1).0 p h).0;
        methods = λ c p h. let x = class_found c p h in (members c (known d c x.0 x.1).0 p h).1;
      }
