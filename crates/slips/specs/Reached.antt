-- Which records are reached from a value, and what it is to list them in order of finding.
use Rattle.std.specs.Prelude.{◌≡◌, ℕ, suc, true, List, [], Some, None}
use Rattle.std.specs.List.{slice_get}
use Rattle.book.specs.declared.node.Type.{«Type» as BType}
use Rattle.numbers.specs.Rule.{Rule}
use Rattle.store.specs.declared.Value.{Value}
use Rattle.store.specs.declared.Value.TheVariants.{Handle}
use Rattle.store.specs.Meaning.{Rec, Store}
use Rattle.cool.specs.Book.{Part, Book}
use Rattle.machine.specs.Fit.{Fits, Cells}
use Rattle.slips.specs.Slip.{has, noted, all_noted, values_of, label}

-- The handle is the value's own, or lies in a cell of a record that is reached.
pub data Reaches (S : Store) : Value → ℕ → Type 0 where
  its_own : {h : ℕ} → Reaches S (Handle h) h
  through : {v : Value} {h k : ℕ} {o : Rec} → Reaches S v h → S.look h ≡ Some o → (i : ℕ) → slice_get o.values i ≡ Some (Handle k) → Reaches S v k

-- A record is there, its class too, and it holds a value for each field of its class, of that field's type.
abbrev pub RecordFits : Book → Rule → Store → ℕ → Type 0
RecordFits B R S h = (o : Rec) × (S.look h ≡ Some o) × (p : Part) × (B.class o.class ≡ Some p) × Cells R S p.fields o.values

-- A value fits the type t, and every record reached from it fits.
pub record ReachedFit (B : Book) (R : Rule) (S : Store) (t : BType) (v : Value) : Type 0 where
  pub value : Fits R S v t
  pub records : (h : ℕ) → Reaches S v h → RecordFits B R S h

-- Going through the records at the places from i on, in order, where ks have been found: each handle in a cell that was
-- not found before comes last; at the end of the list all are found.
pub data GoesThrough (S : Store) : List ℕ → ℕ → List ℕ → Type 0 where
  at_end : {ks : List ℕ} {i : ℕ} → slice_get ks i ≡ None → GoesThrough S ks i ks
  onward : {ks all : List ℕ} {i h : ℕ} → slice_get ks i ≡ Some h → GoesThrough S (all_noted ks (values_of (S.look h))) (suc i) all → GoesThrough S ks i all

-- The handles reached from a value, in order of finding.
pub record Listed (S : Store) (v : Value) (all : List ℕ) : Type 0 where
  -- exactly the reached ones
  pub reached : (h : ℕ) → has all h ≡ true → Reaches S v h
  pub every : (h : ℕ) → Reaches S v h → has all h ≡ true
  -- each once
  pub once : (i j h : ℕ) → slice_get all i ≡ Some h → slice_get all j ≡ Some h → i ≡ j
  -- each by its label
  pub labelled : (h : ℕ) → has all h ≡ true → slice_get all (label all h) ≡ Some h
  -- the value's own first, then line by line through the records already listed
  pub order : GoesThrough S (noted [] v) 0 all
