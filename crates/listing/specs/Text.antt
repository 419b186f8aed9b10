-- Pieces of text one after another.
use Rattle.std.specs.Prelude.{ℕ, zero, suc, ◌+◌, List, [], ◌++◌, decimal}

-- f first, f (first + 1), … : n pieces
abbrev pub each : (ℕ → List ℕ) → ℕ → ℕ → List ℕ
each f first zero = []
each f first (suc n) = each f first n ++ f (first + n)

-- A number behind its label.
abbrev pub labelled : List ℕ → ℕ → List ℕ
labelled label n = label ++ decimal n
