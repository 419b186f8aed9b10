-- Chains of single cells: as they are followed, built and written to.
use Rattle.std.proofs.Common.{◌≡◌, ℕ, zero, suc, ◌+◌, ◌<◌, ◌≤◌, List, [], ◌∷◌, ◌++◌, length, refl, sym, ap, ◌∙◌, subst, inl, inr, suc-add, arith, length-append, get_or-set_same, get_or-set_other}
use Rattle.std.specs.Prelude.{get_or, slice_set}
use Rattle.std.proofs.Math.Path.{fun_ext}
use Rattle.std.proofs.Math.ListN.{get_or-map}
use Rattle.std.proofs.lemmas.Bool.Decides.{eqb_tells}
use Rattle.std.proofs.lemmas.List.{get_or_append_left, get_or_push, length_push, length-map, map-append, map-set, append_assoc, get_or_read}
use Rattle.store.specs.declared.Value.{Value}
use Rattle.store.specs.declared.Value.TheVariants.{Null}
use Rattle.store.specs.declared.chained.Cell.{Cell}
use Rattle.store.specs.Chaining.{at, link, values_in, chained_layout, ChainFrom}
use Rattle.store.specs.Layouts.{held, rewritten, Appends}

-- what was read at p
pub cell_read : (cs : List Cell) (p : ℕ) (x : Cell) → p < length cs → x ≡ get_or cs p x → x ≡ at cs p
cell_read cs p x l e = get_or_read cs p x l e _

-- one cell further along a chain
link_suc : (cs : List Cell) (p k : ℕ) → link cs p (k + 1) ≡ (at cs (link cs p k)).next
link_suc cs p zero = refl
link_suc cs p (suc k) = rw suc-add (link_suc cs (at cs p).next k)

-- a chain whose cells are all there, as it is followed
module _ (cs : List Cell) (first place here k : ℕ) (l : (j : ℕ) → j ≤ place → link cs first j < length (values_in cs)) (m : k < place) (e : here ≡ link cs first k) where
  pub among : here < length cs
  among = let n = length-map cs (λ (x : Cell). x.value) in let b = l k (omega arith) in omega arith

  pub followed : (x : Cell) → x ≡ get_or cs here x → x.next ≡ link cs first (k + 1)
  followed x r = ap (λ (y : Cell). y.next) (cell_read cs here x among r) ∙ ap (λ q. (at cs q).next) e ∙ sym (link_suc cs first k)

-- two lists of cells that agree along a chain of n cells
link_same : (cs ds : List Cell) (n p : ℕ) → ((k : ℕ) → k < n → (at ds (link cs p k)).next ≡ (at cs (link cs p k)).next) → (k : ℕ) → k ≤ n → link ds p k ≡ link cs p k
link_same cs ds n p same zero l = refl
link_same cs ds zero p same (suc k) l = absurd (omega arith)
link_same cs ds (suc n) p same (suc k) l =
    ap (λ q. link ds q k) (same 0 (omega arith)) ∙ link_same cs ds n (at cs p).next (λ j m. same (suc j) (omega arith)) k (omega arith)

value_at_cell : (cs : List Cell) (p : ℕ) → held (values_in cs) p ≡ (at cs p).value
value_at_cell cs p = get_or-map (λ (c : Cell). c.value) cs p (record { value = Null; next = 0 })

-- cells added at the end
next_kept : (cs more : List Cell) (q : ℕ) → q < length cs → (at (cs ++ more) q).next ≡ (at cs q).next
next_kept cs more q l = ap (λ (c : Cell). c.next) (get_or_append_left cs more _ q l)

link_kept : (cs more : List Cell) (n p : ℕ) → ((k : ℕ) → k < n → link cs p k < length cs) → (k : ℕ) → k ≤ n → link (cs ++ more) p k ≡ link cs p k
link_kept cs more n p l = link_same cs (cs ++ more) n p (λ k m. next_kept cs more (link cs p k) (l k m))

-- a cell with v before the chain from p
module _ (old cs : List Cell) (p : ℕ) (vs : List Value) (c : ChainFrom old cs p vs) (v : Value) where
  one : Cell
  one = record { value = v; next = p }

  abbrev grown : List Cell
  grown = cs ++ one ∷ []

  here : at grown (length cs) ≡ one
  here = get_or_push cs one _ (length cs) refl

  further : (k : ℕ) → k < length vs → link grown (length cs) (suc k) ≡ link cs p k
  unfolding one
  further k l =
      ap (λ (x : Cell). link grown x.next k) here
      ∙ link_kept cs (one ∷ []) (length vs) p (λ j m. let b = c.back j m in omega arith) k (omega arith)

  value_kept : (q : ℕ) → q < length cs → held (values_in grown) q ≡ held (values_in cs) q
  value_kept q l = value_at_cell grown q ∙ ap (λ (x : Cell). x.value) (get_or_append_left cs (one ∷ []) _ q l) ∙ sym (value_at_cell cs q)

  holds_more : (k : ℕ) → k < suc (length vs) → held (values_in grown) (link grown (length cs) k) ≡ held (v ∷ vs) k
  unfolding one
  holds_more zero l = value_at_cell grown (length cs) ∙ ap (λ (x : Cell). x.value) here
  holds_more (suc k) l =
      let b = c.back k (omega arith) in
      ap (held (values_in grown)) (further k (omega arith)) ∙ value_kept (link cs p k) (omega arith) ∙ c.holds k (omega arith)

  back_more : (k : ℕ) → k < suc (length vs) → link grown (length cs) k + suc k ≡ length grown
  back_more zero l = rw length_push (omega arith)
  back_more (suc k) l = let b = c.back k (omega arith) in rw (further k (omega arith), length_push) (omega arith)

  pub chain_more : (ds : List Cell) (n : ℕ) → ds ≡ cs ++ record { value = v; next = p } ∷ [] → n ≡ length cs → ChainFrom old ds n (v ∷ vs)
  unfolding one
  chain_more ds n a b =
      rw (a, b)
      record {
        more = c.more ++ one ∷ [];
        adds = ap (λ l. l ++ one ∷ []) c.adds ∙ append_assoc old c.more (one ∷ []);
        count = length_push c.more one ∙ omega (arith, c.count);
        holds = holds_more;
        back = back_more;
      }

pub chain_appends : (old cs : List Cell) (p : ℕ) (vs : List Value) → ChainFrom old cs p vs → Appends (chained_layout old) vs p (chained_layout cs)
chain_appends old cs p vs c =
    let total : length cs ≡ length old + length vs = ap length c.adds ∙ length-append old c.more ∙ omega (arith, c.count) in
    let few = length-map old (λ (x : Cell). x.value) in
    let many = length-map cs (λ (x : Cell). x.value) in
    record {
      more = values_in c.more;
      adds = ap values_in c.adds ∙ map-append (λ (x : Cell). x.value) old c.more;
      count = length-map c.more (λ (x : Cell). x.value) ∙ c.count;
      kept = λ q n l k m. ap (λ ds. link ds q k) c.adds ∙ link_kept old c.more n q (λ j d. let e = l j d in omega arith) k (omega arith);
      holds = c.holds;
      fresh = λ k l. let b = c.back k l in omega arith;
      inside = λ k l. let b = c.back k l in omega arith;
      once = λ j k a b e. let x = c.back j a in let y = c.back k b in omega arith;
      keeps = λ xs d k. refl;
    }

-- another value in the cell p
module _ (cs : List Cell) (p : ℕ) (v : Value) (l : p < length cs) where
  abbrev changed : List Cell
  changed = slice_set cs p (record { value = v; next = (at cs p).next })

  same_next : (q : ℕ) → (at changed q).next ≡ (at cs q).next
  same_next q =
      elim (eqb_tells q p) [
        | inl t ↦ subst (λ (z : ℕ). (at changed z).next ≡ (at cs z).next) (sym t.1) (ap (λ (x : Cell). x.next) (get_or-set_same cs p _ _ l))
        | inr t ↦ ap (λ (x : Cell). x.next) (get_or-set_other cs p q _ _ t.1)
      ]

  link_changed : (q k : ℕ) → link changed q k ≡ link cs q k
  link_changed q zero = refl
  link_changed q (suc k) = ap (λ n. link changed n k) (same_next q) ∙ link_changed (at cs q).next k

  -- the cell y is the one that was read at p
  pub chain_rewritten : (y : Cell) → y ≡ at cs p → chained_layout (slice_set cs p (record { value = v; next = y.next })) ≡ rewritten (chained_layout cs) p v
  chain_rewritten y is =
      let lies : link changed ≡ link cs = fun_ext (λ q. fun_ext (λ k. link_changed q k)) in
      let row : values_in changed ≡ slice_set (values_in cs) p v = map-set (λ (x : Cell). x.value) cs p _ in
      rw (is, row, lies)
