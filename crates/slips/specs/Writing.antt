-- What a writer holds after text was put.
use Rattle.std.specs.Prelude.{◌≡◌, ℕ, ◌+◌, ◌-◌, ◌^◌, ◌<◌, ◌≤◌, List, ◌++◌, length, take, drop, min}
use Rattle.slips.specs.declared.writer.Writer.{Writer}

-- A number of bytes as 64 bits tell it: the greatest number of 64 bits where there are more.
abbrev pub told : ℕ → ℕ
told n = min n (2 ^ 64 - 1)

-- The bytes s over those from place i on.
abbrev pub over : List ℕ → ℕ → List ℕ → List ℕ
over bs i s = take i bs ++ (s ++ drop (i + length s) bs)

-- The text was counted, and written where there is room for all of it.
pub record Puts (old new : Writer) (text : List ℕ) : Type 0 where
  pub lent : new.out.ghost_name ≡ old.out.ghost_name
  pub size : length new.out.now ≡ length old.out.now
  pub count : told new.at ≡ told (old.at + length text)
  pub written : old.at + length text ≤ length old.out.now → old.at + length text < 2 ^ 64 - 1 → new.out.now ≡ over old.out.now old.at text
