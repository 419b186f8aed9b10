-- What a pile holds.
use Rattle.std.specs.Prelude.{◌≡◌, ℕ, ◌-◌, List, length, take, Option}
use Rattle.std.specs.List.{slice_get}
use Rattle.pile.specs.declared.base.Pile.{Pile}

-- The items, the first put on first. What the places above the height hold is the caller's, and loose: no contract
-- speaks of it, but that a refused call changes no place at all.
abbrev pub items : {T : Type 0} → Pile T → List T
items p = take p.height p.places.now

-- The number of its places, so the most items that it can hold.
abbrev pub size : {T : Type 0} → Pile T → ℕ
size p = length p.places.now

-- The top item, if there is one.
abbrev pub last : {T : Type 0} → List T → Option T
last xs = slice_get xs (length xs - 1)

-- All but the top item.
abbrev pub without_last : {T : Type 0} → List T → List T
without_last xs = take (length xs - 1) xs

-- The places are the same stretch of the same caller's.
pub record Kept {T : Type 0} (p q : Pile T) : Type 0 where
  pub lent : q.places.ghost_name ≡ p.places.ghost_name
  pub same_size : size q ≡ size p
