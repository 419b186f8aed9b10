-- How the values of records lie in cells, each of which holds one value.
use Rattle.std.specs.Prelude.{◌≡◌, ℕ, zero, suc, ◌+◌, ◌<◌, ◌≤◌, Bool, true, cond, List, [], ◌∷◌, ◌++◌, length, Some, None, Option, nat_lt, slice_index_or, slice_set}
use Rattle.std.specs.List.{slice_get}
use Rattle.store.specs.declared.Value.{Value}
use Rattle.store.specs.declared.Value.TheVariants.{Null}
use Rattle.store.specs.declared.records.Head.{Head}
use Rattle.store.specs.Meaning.{Rec}

-- A layout: the values of all cells in a row; by where a record begins and a place of it, the cell of that place; and
-- whether records with these heads lie as the layout has them lie.
pub record Layout : Type 0 where
  pub row : List Value
  pub lies : ℕ → ℕ → ℕ
  pub keeps : List Head → Bool

-- The value that the cell p of the row holds.
abbrev pub held : List Value → ℕ → Value
held row p = slice_index_or row p Null

-- The values of n cells of the row: the one at `spot 0` first.
abbrev pub gathered : List Value → (ℕ → ℕ) → ℕ → List Value
gathered row spot zero = []
gathered row spot (suc n) = held row (spot 0) ∷ gathered row (λ k. spot (suc k)) n

-- The record of a head.
abbrev pub record_of : Layout → Head → Rec
record_of L x = record { class = x.class; values = gathered L.row (L.lies x.first) x.len }

-- A place of a record: its handle and head, and a place that the record has.
pub record Place (xs : List Head) : Type 0 where
  pub handle : ℕ
  pub head : Head
  pub is : slice_get xs handle ≡ Some head
  pub place : ℕ
  pub there : place < head.len

-- The cell at a place.
abbrev pub cell_of : {xs : List Head} → Layout → Place xs → ℕ
cell_of L a = L.lies a.head.first a.place

-- Every cell of every record is there.
abbrev pub Inside : List Head → Layout → Type 0
Inside xs L = (a : Place xs) → cell_of L a < length L.row

-- No cell serves two records.
abbrev pub Apart : List Head → Layout → Type 0
Apart xs L = (a b : Place xs) → cell_of L a ≡ cell_of L b → a.handle ≡ b.handle

-- No cell serves two places.
abbrev pub Once : List Head → Layout → Type 0
Once xs L = (a b : Place xs) → cell_of L a ≡ cell_of L b → a.place ≡ b.place

-- How many cells the records have.
abbrev pub lens : List Head → ℕ
lens [] = 0
lens (x ∷ xs) = x.len + lens xs

-- How the records of a store lie: no two places share a cell, and every cell has one.
pub record Laid (xs : List Head) (L : Layout) : Type 0 where
  pub inside : Inside xs L
  pub apart : Apart xs L
  pub once : Once xs L
  pub total : lens xs ≡ length L.row
  pub keeps : L.keeps xs ≡ true

-- The cell at a place of a head's record, if both are there.
abbrev pub spot_in : Layout → Option Head → ℕ → Option ℕ
spot_in L None i = None
spot_in L (Some x) i = cond (nat_lt i x.len) (Some (L.lies x.first i)) None

-- The same for the head at the handle h.
abbrev pub spot_of : Layout → List Head → ℕ → ℕ → Option ℕ
spot_of L xs h i = spot_in L (slice_get xs h) i

-- What lies at a spot.
abbrev pub lying : List Value → Option ℕ → Option Value
lying row None = None
lying row (Some p) = slice_get row p

-- No cells and no records.
abbrev pub IsEmpty : Layout → Type 0
IsEmpty L = (L.row ≡ []) × (L.keeps [] ≡ true)

-- The cell p holds v.
abbrev pub rewritten : Layout → ℕ → Value → Layout
rewritten L p v = record { row = slice_set L.row p v; lies = L.lies; keeps = L.keeps }

-- M is L with cells for one record more, which begins at `first` and has the values vs: none of its cells was there, and
-- no two of its places share one. Earlier records keep their cells.
pub record Appends (L : Layout) (vs : List Value) (first : ℕ) (M : Layout) : Type 0 where
  pub more : List Value
  pub adds : M.row ≡ L.row ++ more
  pub count : length more ≡ length vs
  pub kept : (p n : ℕ) → ((k : ℕ) → k < n → L.lies p k < length L.row) → (k : ℕ) → k < n → M.lies p k ≡ L.lies p k
  pub holds : (k : ℕ) → k < length vs → held M.row (M.lies first k) ≡ held vs k
  pub fresh : (k : ℕ) → k < length vs → length L.row ≤ M.lies first k
  pub inside : (k : ℕ) → k < length vs → M.lies first k < length M.row
  pub once : (j k : ℕ) → j < length vs → k < length vs → M.lies first j ≡ M.lies first k → j ≡ k
  pub keeps : (xs : List Head) (c : ℕ) → L.keeps xs ≡ true → M.keeps (xs ++ record { class = c; first = first; len = length vs } ∷ []) ≡ true
