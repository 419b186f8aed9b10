-- Two records made, the first written to, and both read back.
use Rattle.std.proofs.Common.{◌≡◌, ℕ, Bool, true, cond, [], ◌∷◌, is_some, Some, None, sym, ap, ◌∙◌, inl, inr, arith}
use Rattle.std.proofs.lemmas.Bool.Decides.{nat_tests, eqb_tells}
use Rattle.store.specs.declared.Value.{Value}
use Rattle.store.specs.Meaning.{Rec, Store, room, added, written, made, value_at}
use Rattle.store.specs.Trying.{room_for_two, two_made}
use Rattle.store.specs.Numbered.{not_none}
use Rattle.store.proofs.Stores.{value_added, value_kept, value_written, value_elsewhere}

pub second_fits : (S : Store) (c : ℕ) (old : Value) (T : Store) (h : ℕ) → T ≡ added S h (made c (old ∷ [])) → room_for_two S ≡ true → room T 1 ≡ true
unfolding added
second_fits S c old T h t e = rw t (grind (arith, nat_tests))

-- both records, under h and k, in the store V that is left
pub record Both (S : Store) (c : ℕ) (old new : Value) (h k : ℕ) (V : Store) : Type 0 where
  pub was_free : S.look k ≡ None
  pub another : h ≡ k → ⊥
  pub left : V ≡ two_made S (made c (old ∷ [])) h k new
  pub first : value_at V h 0 ≡ Some new
  pub second : value_at V k 0 ≡ Some old

module _ (S : Store) (c : ℕ) (old new : Value) (h k : ℕ) where
  abbrev x : Rec
  x = made c (old ∷ [])

  not_same : (added S h x).look k ≡ None → h ≡ k → ⊥
  unfolding added
  not_same free s = elim (eqb_tells k h) [ inl e ↦ (let f : Some x ≡ None = rw e.0 at free in not_none f) | inr e ↦ e.1 (sym s) ]

  free_before : (added S h x).look k ≡ None → S.look k ≡ None
  unfolding added
  free_before free = elim (eqb_tells k h) [ inl e ↦ (let f : Some x ≡ None = rw e.0 at free in not_none f) | inr e ↦ rw e.0 at free ]

  -- the stores after the first make, the second, and the write
  pub both : (T U V : Store) (done : Bool) → T ≡ added S h x → T.look k ≡ None → U ≡ added T k x → done ≡ is_some (value_at U h 0) → V ≡ cond done (written U h 0 new) U → Both S c old new h k V
  both T U V done t free u d v =
      let free' : (added S h x).look k ≡ None = rw t at free in
      let n = not_same free' in
      let is : U ≡ added (added S h x) k x = u ∙ ap (λ W. added W k x) t in
      let before : value_at (added (added S h x) k x) h 0 ≡ Some old = value_kept (added S h x) k x h 0 n ∙ value_added S h x 0 in
      let yes : done ≡ true = d ∙ ap (λ W. is_some (value_at W h 0)) is ∙ ap is_some before in
      let left : V ≡ two_made S x h k new = v ∙ ap (λ b. cond b (written U h 0 new) U) yes ∙ ap (λ W. written W h 0 new) is in
      record {
        was_free = free_before free';
        another = n;
        left = left;
        first = ap (λ W. value_at W h 0) left ∙ value_written (added (added S h x) k x) h 0 new old before;
        second = ap (λ W. value_at W k 0) left ∙ value_elsewhere (added (added S h x) k x) h 0 new k 0 (λ s. n (sym s)) ∙ value_added (added S h x) k x 0;
      }
