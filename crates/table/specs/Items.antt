-- A table of test cases: items one after another, each behind its length in four bytes, low byte first.
use Rattle.std.specs.Prelude.{ℕ, ◌+◌, ◌*◌, Bool, ◌||◌, List, length, take, drop, nat_lt, slice_index}

-- The length of the first item.
abbrev pub item_length : List ℕ → ℕ
item_length bs = slice_index bs 0 + slice_index bs 1 * 256 + slice_index bs 2 * 65536 + slice_index bs 3 * 16777216

-- There is no whole item: fewer than four bytes, or fewer after them than the length says.
abbrev pub no_item : List ℕ → Bool
no_item bs = nat_lt (length bs) 4 || nat_lt (length bs) (4 + item_length bs)

-- The bytes of the first item, and all that follow it.
abbrev pub item_bytes : List ℕ → List ℕ
item_bytes bs = take (item_length bs) (drop 4 bs)

abbrev pub after_item : List ℕ → List ℕ
after_item bs = drop (4 + item_length bs) bs
