-- What a run shows on its slip fits.
use Rattle.std.proofs.Common.{◌≡◌, ℕ, zero, suc, List, Some, refl, subst, arith}
use Rattle.std.specs.List.{slice_get}
use Rattle.book.specs.declared.node.Type.{«Type» as BType}
use Rattle.numbers.specs.Rule.{Rule}
use Rattle.store.specs.declared.Value.{Value}
use Rattle.store.specs.declared.Value.TheVariants.{Handle}
use Rattle.store.specs.Meaning.{Rec, Store}
use Rattle.cool.specs.Syntax.{Name}
use Rattle.cool.specs.Book.{Book}
use Rattle.machine.specs.declared.state.Hand.{Hand}
use Rattle.machine.specs.declared.state.Hand.TheVariants.{Go, Have, Done}
use Rattle.machine.specs.declared.state.End.{End}
use Rattle.machine.specs.declared.state.End.TheVariants.{Unfinished, Finished, NullTarget, NoReading, BeyondEnds, NoRoom, NoPlace}
use Rattle.machine.specs.Ends.{end_number}
use Rattle.machine.specs.Fit.{Fits, fits_int, fits_boolean, fits_null, fits_handle, Cells, no_cells, a_cell, RecordsFit}
use Rattle.slips.specs.Reached.{Reaches, its_own, through, ReachedFit}
use Rattle.slips.specs.Answer.{Shows}

-- a cell's value fits some type
cell_fits : {R : Rule} {S : Store} {fs : List (Name × BType)} {vs : List Value} (i : ℕ) (v : Value) → Cells R S fs vs → slice_get vs i ≡ Some v → (t : BType) × Fits R S v t
cell_fits i v no_cells h = let z : ◌≡◌ {A = ℕ} 0 1 = cc in absurd (omega arith)
cell_fits {R} {S} zero v (a_cell {t = t} {v = w} f c) h = let e : w ≡ v = cc in (t, subst (λ x. Fits R S x t) e f)
cell_fits (suc i) v (a_cell f c) h = cell_fits i v c h

-- a handle that fits a type has a record
there : {R : Rule} {S : Store} {v : Value} {t : BType} (h : ℕ) → Fits R S v t → v ≡ Handle h → (o : Rec) × (S.look h ≡ Some o)
there h (fits_int w) i = let z : ◌≡◌ {A = ℕ} 0 1 = cc in absurd (omega arith)
there h fits_boolean i = let z : ◌≡◌ {A = ℕ} 0 1 = cc in absurd (omega arith)
there h fits_null i = let z : ◌≡◌ {A = ℕ} 0 1 = cc in absurd (omega arith)
there {S = S} h (fits_handle {l = l} {c = c} {vs = vs} e) i = let j : l ≡ h = cc in (record { class = c; values = vs }, rw j at e)

module _ {B : Book} {R : Rule} {S : Store} (records : RecordsFit B R S) where
  -- every record that is reached is there
  found : {v : Value} {t : BType} {h : ℕ} → Fits R S v t → Reaches S v h → (o : Rec) × (S.look h ≡ Some o)
  found f (its_own {h = h}) = there h f refl
  found f (through {h = h} {k = k} {o = o} x e i c) = let p = records.each h o e in there k (cell_fits i (Handle k) p.2 c).1 refl

  pub reached_fit : {v : Value} {t : BType} → Fits R S v t → ReachedFit B R S t v
  reached_fit f = record { value = f; records = λ h x. let o = found f x in let p = records.each h o.0 o.1 in (o.0, o.1, p.0, p.1, p.2) }

  -- what a run shows that is finished only with a value in hand
  pub shows : (t : BType) (e : End) (x : Hand) → (end_number e ≡ 0 → (v : Value) × (x ≡ Have v) × Fits R S v t) → Shows B R S t e x
  shows t Unfinished x h = tt
  shows t Finished (Have v) h = let d = h refl in let i : d.0 ≡ v = cc in reached_fit (subst (λ w. Fits R S w t) i d.2)
  shows t Finished (Go k) h = let d = h refl in let i = d.1 in let z : ◌≡◌ {A = ℕ} 0 1 = cc in omega arith
  shows t Finished Done h = let d = h refl in let i = d.1 in let z : ◌≡◌ {A = ℕ} 0 1 = cc in omega arith
  shows t (NullTarget k) x h = tt
  shows t (NoReading k) x h = tt
  shows t (BeyondEnds k) x h = tt
  shows t (NoRoom k) x h = tt
  shows t (NoPlace k) x h = tt
