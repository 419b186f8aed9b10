-- One record more in a layout.
use Rattle.std.proofs.Common.{◌≡◌, ℕ, zero, suc, ◌+◌, ◌<◌, ◌≤◌, ◌⊎◌, List, [], ◌∷◌, ◌++◌, length, Some, refl, sym, ap, ◌∙◌, inl, inr, zero-add, arith, length-append}
use Rattle.std.proofs.lemmas.Bool.Decides.{nat_tests}
use Rattle.std.proofs.lemmas.List.{get_or_append_left}
use Rattle.std.specs.List.{slice_get}
use Rattle.store.specs.declared.Value.{Value}
use Rattle.store.specs.declared.Value.TheVariants.{Null}
use Rattle.store.specs.declared.records.Head.{Head}
use Rattle.store.specs.Layouts.{Layout, held, record_of, Place, cell_of, Laid, lens, Appends}
use Rattle.store.specs.Meaning.{Makes, store, made}
use Rattle.store.specs.Numbering.{numbered, counted}
use Rattle.store.specs.Numbered.{not_none, none_past, counts_are}
use Rattle.store.proofs.Stores.{means_of, store_push}
use Rattle.store.proofs.Laid.{free, gathered_same, gathered_is, numbered_push, numbered_same}

lens_push : (xs : List Head) (x : Head) → lens (xs ++ x ∷ []) ≡ lens xs + x.len
lens_push [] x = omega arith
lens_push (y ∷ xs) x = let ih = lens_push xs x in omega arith

nth_push : (xs : List Head) (x : Head) (j : ℕ) (y : Head) → slice_get (xs ++ x ∷ []) j ≡ Some y → (slice_get xs j ≡ Some y) ⊎ ((j ≡ length xs) × (x ≡ y))
nth_push [] x zero y e = inr (refl, cc)
nth_push [] x (suc j) y e = not_none (sym e)
nth_push (w ∷ xs) x zero y e = inl e
nth_push (w ∷ xs) x (suc j) y e = elim (nth_push xs x j y e) [ inl a ↦ inl a | inr a ↦ inr (ap suc a.0, a.1) ]

module _ (L M : Layout) (xs : List Head) (c first : ℕ) (vs : List Value) (laid : Laid xs L) (a : Appends L vs first M) where
  abbrev x : Head
  x = record { class = c; first = first; len = length vs }

  pub longer : length M.row ≡ length L.row + length vs
  longer = let e = ap length a.adds ∙ length-append L.row a.more in omega (arith, a.count)

  -- the cells of an earlier record
  within : (j : ℕ) (y : Head) → slice_get xs j ≡ Some y → (k : ℕ) → k < y.len → L.lies y.first k < length L.row
  within j y e k l = laid.inside (record { handle = j; head = y; is = e; place = k; there = l })

  stay : (j : ℕ) (y : Head) → slice_get xs j ≡ Some y → (k : ℕ) → k < y.len → M.lies y.first k ≡ L.lies y.first k
  stay j y e k l = a.kept y.first y.len (within j y e) k l

  -- a place of an earlier record, or one of the new one
  record Old (b : Place (xs ++ x ∷ [])) : Type 0 where
    was : Place xs
    same_cell : cell_of M b ≡ cell_of L was
    same_handle : was.handle ≡ b.handle
    same_place : was.place ≡ b.place

  record New (b : Place (xs ++ x ∷ [])) : Type 0 where
    last : b.handle ≡ length xs
    short : b.place < length vs
    same_cell : cell_of M b ≡ M.lies first b.place

  which : (b : Place (xs ++ x ∷ [])) → Old b ⊎ New b
  which b =
      elim (nth_push xs x b.handle b.head b.is) [
        | inl e ↦ inl (record {
          was = record { handle = b.handle; head = b.head; is = e; place = b.place; there = b.there };
          same_cell = stay b.handle b.head e b.place b.there;
          same_handle = refl;
          same_place = refl;
        })
        | inr e ↦ inr (record {
          last = e.0;
          short = let t = b.there in let m = ap (λ (y : Head). y.len) e.1 in omega arith;
          same_cell = ap (λ (y : Head). M.lies y.first b.place) (sym e.1);
        })
      ]

  -- an earlier record's cell is none of the new ones
  clash : {P : Type 0} (b d : Place (xs ++ x ∷ [])) → Old b → New d → cell_of M b ≡ cell_of M d → P
  clash b d o w e =
      let l = laid.inside o.was in
      let f = a.fresh d.place w.short in
      absurd (omega (arith, o.same_cell, w.same_cell))

  laid_push : Laid (xs ++ x ∷ []) M
  laid_push =
      record {
        inside = λ b. elim (which b) [
          | inl o ↦ let l = laid.inside o.was in omega (arith, longer, o.same_cell)
          | inr w ↦ let l = a.inside b.place w.short in omega (arith, w.same_cell)
        ];
        apart = λ b d e. elim (which b) [
          | inl o ↦ elim (which d) [
            | inl p ↦ sym o.same_handle ∙ laid.apart o.was p.was (sym o.same_cell ∙ e ∙ p.same_cell) ∙ p.same_handle
            | inr p ↦ clash b d o p e
          ]
          | inr o ↦ elim (which d) [
            | inl p ↦ clash d b p o (sym e)
            | inr p ↦ o.last ∙ sym p.last
          ]
        ];
        once = λ b d e. elim (which b) [
          | inl o ↦ elim (which d) [
            | inl p ↦ sym o.same_place ∙ laid.once o.was p.was (sym o.same_cell ∙ e ∙ p.same_cell) ∙ p.same_place
            | inr p ↦ clash b d o p e
          ]
          | inr o ↦ elim (which d) [
            | inl p ↦ clash d b p o (sym e)
            | inr p ↦ a.once b.place d.place o.short p.short (sym o.same_cell ∙ e ∙ p.same_cell)
          ]
        ];
        total = let l = lens_push xs x in omega (arith, longer, laid.total);
        keeps = a.keeps xs c laid.keeps;
      }

  record_kept : (j : ℕ) (y : Head) → slice_get xs j ≡ Some y → record_of M y ≡ record_of L y
  record_kept j y e =
      ap (λ l. record { class = y.class; values = l })
      (gathered_same L.row M.row (L.lies y.first) (M.lies y.first) y.len
      (λ k l. ap (held M.row) (stay j y e k l) ∙ ap (λ r. held r (L.lies y.first k)) a.adds ∙ get_or_append_left L.row a.more Null (L.lies y.first k) (within j y e k l)))

  record_new : record_of M x ≡ made c vs
  record_new = ap (λ l. record { class = c; values = l }) (gathered_is M.row (M.lies first) vs a.holds)

  pub laid_more : (heads : List Head) → heads ≡ xs ++ record { class = c; first = first; len = length vs } ∷ [] → Laid heads M
  laid_more heads e = rw e laid_push

  pub makes : (r q h : ℕ) (heads : List Head) → heads ≡ xs ++ record { class = c; first = first; len = length vs } ∷ [] → h ≡ length xs → h < r → length L.row + length vs ≤ q → Makes (counted (record_of L) xs r q) c vs (Some h) (counted (record_of M) heads r q)
  makes r q h heads e f few fits =
      let k = counts_are L xs r q laid h f in
      let b : numbered (record_of M) 0 (xs ++ x ∷ []) ≡ numbered (record_of L) 0 xs ++ (length xs, made c vs) ∷ [] = numbered_push (record_of M) 0 xs x ∙ simp (zero-add, numbered_same (record_of L) (record_of M) 0 xs record_kept, record_new) in (
        grind (arith, nat_tests, k),
        rw f (free L xs r q),
        rw (e, f) (ap (λ l. store (means_of l r q)) b ∙ store_push (numbered (record_of L) 0 xs) (length xs) (made c vs) r q (none_past (record_of L) xs (length xs) (omega arith))),
      )
