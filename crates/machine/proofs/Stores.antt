-- What is found in a store with a record more, or with another value in a cell.
use Rattle.std.proofs.Common.{◌≡◌, ℕ, Bool, true, false, cond, eqb, ◌⊎◌, List, set, Some, None, sym, refl, ap, ◌∙◌, inl, inr}
use Rattle.std.specs.Option.{option_map}
use Rattle.store.specs.declared.Value.{Value}
use Rattle.store.specs.Meaning.{Rec, Store, added, written, with_cell}
use Rattle.cool.proofs.Base.{no_some, eqb_self, eqb_eq}

abbrev pub rec : ℕ → List Value → Rec
rec c vs = record { class = c; values = vs }

module _ (S : Store) (l : ℕ) where
  pub added_top : (x : Rec) → (added S l x).look l ≡ Some x
  unfolding added
  added_top x = let q = eqb_self l in rw q

  pub added_else : (x : Rec) (i : ℕ) → eqb i l ≡ false → (added S l x).look i ≡ S.look i
  unfolding added
  added_else x i q = rw q

  -- it was there, or is the new one
  pub added_is : (x : Rec) (i : ℕ) (o : Rec) → (added S l x).look i ≡ Some o → (S.look i ≡ Some o) ⊎ (o ≡ x)
  unfolding added
  added_is x i o = by (eqb i l)
    where
      by : (b : Bool) → cond b (Some x) (S.look i) ≡ Some o → (S.look i ≡ Some o) ⊎ (o ≡ x)
      by true e = inr cc
      by false e = inl e

  pub written_top : (j : ℕ) (v : Value) (o : Rec) → S.look l ≡ Some o → (written S l j v).look l ≡ Some (with_cell j v o)
  unfolding written
  written_top j v o e = let q = eqb_self l in rw (q, e)

  pub written_else : (j : ℕ) (v : Value) (i : ℕ) → eqb i l ≡ false → (written S l j v).look i ≡ S.look i
  unfolding written
  written_else j v i q = rw q

  -- it was there, or is the record with its new value
  pub written_is : (j : ℕ) (v : Value) (x : Rec) → S.look l ≡ Some x → (i : ℕ) (o : Rec) → (written S l j v).look i ≡ Some o → (S.look i ≡ Some o) ⊎ (o ≡ with_cell j v x)
  unfolding written
  written_is j v x e i o f = by (eqb i l) refl f
    where
      by : (b : Bool) → eqb i l ≡ b → cond b (option_map (with_cell j v) (S.look i)) (S.look i) ≡ Some o → (S.look i ≡ Some o) ⊎ (o ≡ with_cell j v x)
      by true t f = let z = eqb_eq i l t in let g = ap S.look z ∙ e in let h = rw g at f in inr cc
      by false t f = inl f

-- every record stays, with its class
pub record Stays (S T : Store) : Type 0 where
  pub stays : (l c : ℕ) (vs : List Value) → S.look l ≡ Some (rec c vs) → (ws : List Value) × (T.look l ≡ Some (rec c ws))

pub stays_added : (S : Store) (l : ℕ) (x : Rec) → S.look l ≡ None → Stays S (added S l x)
stays_added S l x n = record { stays = λ i c vs e. by i c vs e (eqb i l) refl }
  where
    by : (i c : ℕ) (vs : List Value) → S.look i ≡ Some (rec c vs) → (b : Bool) → eqb i l ≡ b → (ws : List Value) × ((added S l x).look i ≡ Some (rec c ws))
    by i c vs e true q = let z = eqb_eq i l q in no_some (sym n ∙ (ap S.look (sym z) ∙ e))
    by i c vs e false q = (vs, added_else S l x i q ∙ e)

pub stays_written : (S : Store) (l j : ℕ) (v : Value) → Stays S (written S l j v)
stays_written S l j v = record { stays = λ i c vs e. by i c vs e (eqb i l) refl }
  where
    by : (i c : ℕ) (vs : List Value) → S.look i ≡ Some (rec c vs) → (b : Bool) → eqb i l ≡ b → (ws : List Value) × ((written S l j v).look i ≡ Some (rec c ws))
    by i c vs e true q = let z = eqb_eq i l q in (set vs j v, rw z (written_top S l j v (rec c vs) (rw z at e)))
    by i c vs e false q = (vs, written_else S l j v i q ∙ e)
