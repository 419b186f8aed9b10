-- The cells of a record.
use Rattle.std.proofs.Common.{◌≡◌, ℕ, ◌<◌, ◌≤◌, leb, List, map, length, get_or, Some, None, Option, sym, refl, ap, ◌∙◌, arith}
use Rattle.std.specs.Option.{option_map}
use Rattle.std.specs.List.{slice_get}
use Rattle.std.proofs.lemmas.Bool.{leb-true, and_parts}
use Rattle.std.proofs.lemmas.Option.{slice_get-map, slice_get-get_or, slice_get_past}
use Rattle.book.specs.declared.entry.Field.{Field}
use Rattle.book.specs.declared.node.Type.{«Type» as BType}
use Rattle.store.specs.declared.Value.{Value}
use Rattle.store.specs.Meaning.{Rec, Store, Means, Sound, store, value_in, value_at}
use Rattle.cool.specs.Syntax.{Name}
use Rattle.checked.specs.Checked.{named_field}
use Rattle.slips.specs.Slip.{values_of}

cell_there : (S : Store) (h i : ℕ) → value_at S h i ≡ slice_get (values_of (S.look h)) i
unfolding value_at
cell_there S h i = by (S.look h)
  where
    by : (o : Option Rec) → value_in o i ≡ slice_get (values_of o) i
    by None = refl
    by (Some o) = refl

pub cell_read : (S : Store) (h i : ℕ) (v : Option Value) → v ≡ value_at S h i → slice_get (values_of (S.look h)) i ≡ v
cell_read S h i v e = sym (e ∙ cell_there S h i)

-- there are few records
pub few_records : (m : Means) → Sound m → (store m).count ≤ 4096
unfolding store
few_records m s =
    let b = s.bounded.few_records in
    let c = leb-true m.most_records 4096 (and_parts (leb m.most_records 4096) (leb m.most_cells 65535) s.bounded.bounds).0 in
    omega arith

-- the field at a place of a class, and none past the last
module _ (xs : List Field) (fs : List (Name × BType)) (i : ℕ) (is : map named_field xs ≡ fs) where
  same : slice_get fs i ≡ option_map named_field (slice_get xs i)
  same = ap (λ l. slice_get l i) (sym is) ∙ slice_get-map named_field xs i

  pub field_here : (d : Field) → i < length xs → slice_get fs i ≡ Some (named_field (get_or xs i d))
  field_here d l = same ∙ ap (option_map named_field) (slice_get-get_or xs i d l)

  pub no_field_here : length xs ≤ i → slice_get fs i ≡ None
  no_field_here l = same ∙ ap (option_map named_field) (slice_get_past xs i l)
