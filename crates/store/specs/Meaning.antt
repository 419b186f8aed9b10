-- What an object store means: records with distinct handles, and two limits.
use Rattle.std.specs.Prelude.{◌≡◌, ℕ, ◌+◌, ◌^◌, ◌<◌, ◌≤◌, Bool, true, false, cond, ◌&&◌, List, [], ◌∷◌, map, length, is_some, Some, None, Ok, Err, Option, Result, ◌==◌, nat_le, nat_lt, slice_set, refl}
use Rattle.std.specs.Option.{option_map}
use Rattle.std.specs.List.{slice_get}
use Rattle.store.specs.declared.StoreError.{StoreError}
use Rattle.store.specs.declared.StoreError.TheVariants.{BeyondBounds, NoMemory}
use Rattle.store.specs.declared.Value.{Value}

-- A record: its class number and its values, one a field.
pub record Rec : Type 0 where
  pub class : ℕ
  pub values : List Value

-- A store without the order of its records: what each handle looks up to, how many records and cells there are
-- (a cell holds one value), and the two limits. This is what rules and calls speak of.
pub record Store : Type 0 where
  pub look : ℕ → Option Rec
  pub count : ℕ
  pub used : ℕ
  pub most_records : ℕ
  pub most_cells : ℕ

-- There is room for one more record with n values.
abbrev pub room : Store → ℕ → Bool
room S n = nat_lt S.count S.most_records && nat_le (S.used + n) S.most_cells

-- One record more, under the handle h.
unfoldable pub added : Store → ℕ → Rec → Store
added S h x = record { look = λ q. cond (q == h) (Some x) (S.look q); count = S.count + 1; used = S.used + length x.values; most_records = S.most_records; most_cells = S.most_cells }

abbrev pub with_cell : ℕ → Value → Rec → Rec
with_cell i v x = record { class = x.class; values = slice_set x.values i v }

-- The cell at place i of the record with the handle h holds v.
unfoldable pub written : Store → ℕ → ℕ → Value → Store
written S h i v = record { look = λ q. cond (q == h) (option_map (with_cell i v) (S.look q)) (S.look q); count = S.count; used = S.used; most_records = S.most_records; most_cells = S.most_cells }

-- No records, and these limits.
abbrev pub nothing : ℕ → ℕ → Store
nothing r q = record { look = λ h. None; count = 0; used = 0; most_records = r; most_cells = q }

-- What a store means: its records in some order, each under its handle, and the two limits. Of the order nothing is
-- promised, but that it stays while no record is made.
pub record Means : Type 0 where
  pub records : List (ℕ × Rec)
  pub most_records : ℕ
  pub most_cells : ℕ

-- The record under the handle q.
abbrev pub find : List (ℕ × Rec) → ℕ → Option Rec
find [] q = None
find (x ∷ xs) q = cond (q == x.0) (Some x.1) (find xs q)

-- How many cells the records take.
abbrev pub cells : List (ℕ × Rec) → ℕ
cells [] = 0
cells (x ∷ xs) = length x.1.values + cells xs

-- What a store means, without the order of its records.
unfoldable pub store : Means → Store
store m = record { look = find m.records; count = length m.records; used = cells m.records; most_records = m.most_records; most_cells = m.most_cells }

-- The handles, in the order of the records.
unfoldable pub handles : Means → List ℕ
handles m = map (λ x. x.0) m.records

-- The list of handles has each record's handle, once.
pub record EachOnce (m : Means) : Type 0 where
  pub many : length (handles m) ≡ (store m).count
  pub there : (n h : ℕ) → slice_get (handles m) n ≡ Some h → is_some ((store m).look h) ≡ true
  pub listed : (h : ℕ) → is_some ((store m).look h) ≡ true → (n : ℕ) × (slice_get (handles m) n ≡ Some h)
  pub once : (n k h : ℕ) → slice_get (handles m) n ≡ Some h → slice_get (handles m) k ≡ Some h → n ≡ k

-- The bounds of the limits: 4,096 records and 65,535 cells.
abbrev pub allowed : ℕ → ℕ → Bool
allowed r q = nat_le r 4096 && nat_le q 65535

-- What every store keeps: 32-bit handles, as many records and cells as its limits let it have, limits within their
-- bounds.
pub record Bounded (S : Store) : Type 0 where
  pub low_handles : (h : ℕ) (x : Rec) → S.look h ≡ Some x → h < 2 ^ 32
  pub few_records : S.count ≤ S.most_records
  pub few_cells : S.used ≤ S.most_cells
  pub bounds : allowed S.most_records S.most_cells ≡ true

-- What every store owes of what it means.
pub record Sound (m : Means) : Type 0 where
  pub each_once : EachOnce m
  pub bounded : Bounded (store m)

-- The record that make makes of a class and first values.
abbrev pub made : ℕ → List Value → Rec
made c vs = record { class = c; values = vs }

-- What make answers for the class c and the values vs in a store that means m, and what the store then means, n: none,
-- and m, exactly when there is no room; else a handle that was free, and m with that record under it.
abbrev pub Makes : Means → ℕ → List Value → Option ℕ → Means → Type 0
Makes m c vs None n = (room (store m) (length vs) ≡ false) × (n ≡ m)
Makes m c vs (Some h) n = (room (store m) (length vs) ≡ true) × ((store m).look h ≡ None) × (store n ≡ added (store m) h (made c vs))

-- The class of the record with the handle h, if there is one.
unfoldable pub class_at : Store → ℕ → Option ℕ
class_at S h = option_map (λ x. x.class) (S.look h)

abbrev pub value_in : Option Rec → ℕ → Option Value
value_in None i = None
value_in (Some x) i = slice_get x.values i

-- The value at place i of the record with the handle h, if both are there.
unfoldable pub value_at : Store → ℕ → ℕ → Option Value
value_at S h i = value_in (S.look h) i

-- What put of the value v at place i of the handle h answers in a store that means m, and what the store then means, n:
-- true exactly when both are there, and then that one cell is written; else nothing changes. The order stays.
pub record Puts (m : Means) (h i : ℕ) (v : Value) (done : Bool) (n : Means) : Type 0 where
  pub answer : done ≡ is_some (value_at (store m) h i)
  pub after : store n ≡ cond done (written (store m) h i v) (store m)
  pub order : handles n ≡ handles m
  pub refused : done ≡ false → n ≡ m

-- What a store with no records and these limits means.
abbrev pub empty : ℕ → ℕ → Means
empty r q = record { records = []; most_records = r; most_cells = q }

pub store_empty : (r q : ℕ) → store (empty r q) ≡ nothing r q
unfolding store
store_empty r q = refl

-- What opening a store with the limits r and q answers, where s means meant s: an empty store with these limits, or
-- that a limit is beyond its bound, or, within the bounds, that there was no memory.
abbrev pub Opens : {S : Type 0} → (S → Means) → ℕ → ℕ → Result S StoreError → Type 0
Opens meant r q (Ok s) = (allowed r q ≡ true) × (meant s ≡ empty r q)
Opens meant r q (Err BeyondBounds) = allowed r q ≡ false
Opens meant r q (Err NoMemory) = allowed r q ≡ true
