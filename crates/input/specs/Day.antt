-- What a program is given: a count, that many readings, and a book.
use Rattle.std.specs.Prelude.{ℕ, ◌+◌, ◌*◌, Bool, ◌||◌, List, map, length, drop, ℤ, nat_lt, slice_index}
use Rattle.std.specs.List.{range_with_len}
use Rattle.book.specs.Kinds.{signed32}

-- The count of readings: 16 bits, low byte first.
abbrev pub reading_count : List ℕ → ℕ
reading_count bs = slice_index bs 0 + 256 * slice_index bs 1

-- Refused, number 9 at place 0: under 2 bytes, a count above 4,096, or readings cut. A reading has 4 bytes.
abbrev pub wrong_input : List ℕ → Bool
wrong_input bs = nat_lt (length bs) 2 || (nat_lt 4096 (reading_count bs) || nat_lt (length bs) (2 + 4 * reading_count bs))

-- The bytes of the book: all that follow the readings.
abbrev pub book_bytes : List ℕ → List ℕ
book_bytes bs = drop (2 + 4 * reading_count bs) bs

-- Two bytes, low byte first.
abbrev pub half : List ℕ → ℕ → ℕ
half bs i = slice_index bs i + 256 * slice_index bs (i + 1)

-- Reading i: 32 bits, low byte first, two's complement.
abbrev pub reading : List ℕ → ℕ → ℤ
reading bs i = signed32 (half bs (2 + 4 * i) + 65536 * half bs (4 + 4 * i))

-- The day's readings.
abbrev pub readings : List ℕ → List ℤ
readings bs = map (reading bs) (range_with_len 0 (reading_count bs))
