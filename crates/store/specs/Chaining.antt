-- Records as chains of single cells, each with one value and the index of the next cell.
use Rattle.std.specs.Prelude.{◌≡◌, ℕ, zero, suc, ◌+◌, ◌<◌, true, List, ◌++◌, map, length, slice_index_or}
use Rattle.store.specs.declared.Value.{Value}
use Rattle.store.specs.declared.Value.TheVariants.{Null}
use Rattle.store.specs.declared.chained.Cell.{Cell}
use Rattle.store.specs.Layouts.{Layout, held}

-- The cell with the index p.
abbrev pub at : List Cell → ℕ → Cell
at cs p = slice_index_or cs p (record { value = Null; next = 0 })

-- The index of the k-th cell of the chain from p.
abbrev pub link : List Cell → ℕ → ℕ → ℕ
link cs p zero = p
link cs p (suc k) = link cs (at cs p).next k

abbrev pub values_in : List Cell → List Value
values_in cs = map (λ c. c.value) cs

-- The cell at a place of a record is that many links from its first.
abbrev pub chained_layout : List Cell → Layout
chained_layout cs = record { row = values_in cs; lies = link cs; keeps = λ xs. true }

-- What is added to the cells: a chain from p with these values, the last value's cell first.
pub record ChainFrom (old cs : List Cell) (p : ℕ) (vs : List Value) : Type 0 where
  pub more : List Cell
  pub adds : cs ≡ old ++ more
  pub count : length more ≡ length vs
  pub holds : (k : ℕ) → k < length vs → held (values_in cs) (link cs p k) ≡ held vs k
  pub back : (k : ℕ) → k < length vs → link cs p k + suc k ≡ length cs
