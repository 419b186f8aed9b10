-- Sums and searches over numbers.
use Rattle.std.specs.Prelude.{◌≡◌, ℕ, zero, suc, ◌+◌, ◌<◌, Bool, true, false, cond, ◌&&◌, ◌||◌, List, [], ◌∷◌, Some, None, Option, ◌==◌}

-- f 0 + f 1 + … + f (n - 1)
abbrev pub total : (ℕ → ℕ) → ℕ → ℕ
total f zero = 0
total f (suc n) = total f n + f n

-- Whether the test holds of a number below n.
abbrev pub any_below : ℕ → (ℕ → Bool) → Bool
any_below zero t = false
any_below (suc n) t = any_below n t || t n

-- A table of tests by place: whether the test at place p holds. A place that the table lacks has none.
abbrev pub at_place : List (ℕ × Bool) → ℕ → Bool
at_place [] p = false
at_place (x ∷ xs) p = (p == x.0 && x.1) || at_place xs p

-- The first place of a table whose test holds.
abbrev pub first_place : List (ℕ × Bool) → Option ℕ
first_place [] = None
first_place (x ∷ xs) = cond x.1 (Some x.0) (first_place xs)

-- The lowest number of which the test holds, or none.
abbrev pub Lowest : (ℕ → Bool) → Option ℕ → Type 0
Lowest t None = (q : ℕ) → t q ≡ false
Lowest t (Some p) = (t p ≡ true) × ((q : ℕ) → q < p → t q ≡ false)
