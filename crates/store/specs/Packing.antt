-- Records packed end to end in one row of cells.
use Rattle.std.specs.Prelude.{ℕ, ◌+◌, Bool, ◌&&◌, List, [], ◌∷◌, length, ◌==◌}
use Rattle.store.specs.declared.Value.{Value}
use Rattle.store.specs.declared.records.Head.{Head}
use Rattle.store.specs.Layouts.{Layout}

-- Each head's cells start where those of the one before it end, the first's at p, and the last's end at n.
abbrev pub packed : ℕ → List Head → ℕ → Bool
packed p [] n = p == n
packed p (x ∷ xs) n = x.first == p && packed (p + x.len) xs n

-- The cell at a place of a record is as far from its first.
abbrev pub packed_layout : List Value → Layout
packed_layout row = record { row = row; lies = λ first k. first + k; keeps = λ xs. packed 0 xs (length row) }
