-- Evaluation loses no object, and none changes its class.
use Rattle.std.proofs.Common.{◌≡◌, Bool, true, false, eqb, List, ℤ, Some, Option, sym, refl, ap, ◌∙◌}
use Rattle.numbers.specs.Rule.{Rule}
use Rattle.store.specs.declared.Value.{Value}
use Rattle.cool.specs.Syntax.{Name, Expr, Com, CE, ◌⟨◌⟼◌⟩}
use Rattle.cool.specs.Dynamic.{Loc, Record, object, Heap, ◌∣◌∣◌⊢◌⇓◌∣◌, ◌∣◌∣◌⊢◌⇓◌, e_literal, e_minus, e_this, e_parameter, e_field, e_call, e_new, e_less, e_equal, e_null, e_object, e_reading, e_assign, e_seq, e_then, e_else, e_stop, e_turn, e_skip}
use Rattle.cool.proofs.Base.{no_some, eqb_eq}

pub record Kept (h h' : Heap) : Type 0 where
  pub kept : (l : Loc) (c : Name) (r : Record) → h l ≡ Some (object c r) → (r' : Record) × (h' l ≡ Some (object c r'))

same : {h : Heap} → Kept h h
same = record { kept = λ l c r e. (r, e) }

after : {h₀ h₁ h₂ : Heap} → Kept h₀ h₁ → Kept h₁ h₂ → Kept h₀ h₂
after a b = record { kept = λ l c r e. let x = a.kept l c r e in b.kept l c x.0 x.1 }

-- a heap written where it has no object, or one of the same class
kept_set : (h h' : Heap) (k : Loc) (d : Name) (s : Record) → h' ≡ h ⟨ k ⟼ object d s ⟩
    → ((c : Name) (r : Record) → h k ≡ Some (object c r) → c ≡ d) → Kept h h'
kept_set h h' k d s e same = record { kept = λ l c r o. go l c r o (eqb l k) refl }
  where
    go : (l : Loc) (c : Name) (r : Record) → h l ≡ Some (object c r) → (b : Bool) → eqb l k ≡ b → (r' : Record) × (h' l ≡ Some (object c r'))
    go l c r o true t =
        let q : l ≡ k = eqb_eq l k t in
        let z : c ≡ d = same c r (sym (ap h q) ∙ o) in
        let w : h' l ≡ (h ⟨ k ⟼ object d s ⟩) l = ap (λ (g : Heap). g l) e in
        (s, w ∙ rw (t, z) refl)
    go l c r o false t = let w : h' l ≡ (h ⟨ k ⟼ object d s ⟩) l = ap (λ (g : Heap). g l) e in (r, w ∙ rw t o)

module _ {ce : CE} {R : Rule} {day : List ℤ} where
  mutual
    pub keeps : {h h' : Heap} {℘ : Option Value} {ℓ : Option Loc} {e : Expr} {v : Value} → ◌∣◌∣◌⊢◌⇓◌∣◌ ce R day h ℘ ℓ e v h' → Kept h h'
    keeps (e_literal w) = same
    keeps (e_minus a b n) = after (keeps a) (keeps b)
    keeps (e_this e) = same
    keeps (e_parameter e) = same
    keeps (e_field a o f) = keeps a
    keeps (e_call a b x y o k m) = after (keeps a) (after (keeps b) (after (keeps_com x) (keeps y)))
    keeps (e_new f e k) = kept_set _ _ _ _ _ e (λ c r o. no_some (sym f ∙ o))
    keeps (e_less a b) = after (keeps a) (keeps b)
    keeps (e_equal a b) = after (keeps a) (keeps b)
    keeps (e_null a) = keeps a
    keeps (e_object a) = keeps a
    keeps (e_reading a d w) = keeps a

    pub keeps_com : {h h' : Heap} {℘ : Option Value} {ℓ : Option Loc} {c : Com} → ◌∣◌∣◌⊢◌⇓◌ ce R day h ℘ ℓ c h' → Kept h h'
    keeps_com (e_assign a b o f e) = after (keeps a) (after (keeps b) (kept_set _ _ _ _ _ e (λ c r q. let z = sym o ∙ q in cc)))
    keeps_com (e_seq a b) = after (keeps_com a) (keeps_com b)
    keeps_com (e_then a b) = after (keeps a) (keeps_com b)
    keeps_com (e_else a b) = after (keeps a) (keeps_com b)
    keeps_com (e_stop a) = keeps a
    keeps_com (e_turn a b c) = after (keeps a) (after (keeps_com b) (keeps_com c))
    keeps_com e_skip = same
