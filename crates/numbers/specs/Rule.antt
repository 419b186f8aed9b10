-- Number rules: two ends, and a difference of two numbers that lies between them, or none.
use Rattle.std.specs.Prelude.{◌≡◌, Bool, ◌&&◌, ℤ, pos, negsuc, ◌≤ℤ◌, Some, Option, int_le}

-- The ends of 32 signed bits.
abbrev pub least32 : ℤ
least32 = negsuc 2147483647

abbrev pub most32 : ℤ
most32 = pos 2147483647

-- z lies between the ends low and high.
abbrev pub Within : ℤ → ℤ → ℤ → Type 0
Within low high z = (low ≤ℤ z) × (z ≤ℤ high)

-- The same as a test.
abbrev pub between : ℤ → ℤ → ℤ → Bool
between low high z = int_le low z && int_le z high

-- A number rule. Its difference is a function of the two numbers alone.
pub record Rule : Type 0 where
  pub low : ℤ
  pub high : ℤ
  pub difference : ℤ → ℤ → Option ℤ
  -- 0 lies between the ends, and the ends within 32 signed bits
  pub zero : Within low high (pos 0)
  pub low_fits : least32 ≤ℤ low
  pub high_fits : high ≤ℤ most32
  -- a difference lies between the ends, and only two numbers between the ends have one
  pub stays : (m n d : ℤ) → difference m n ≡ Some d → Within low high d
  pub only_within : (m n d : ℤ) → difference m n ≡ Some d → Within low high m × Within low high n

-- Whether a number lies between a rule's ends.
unfoldable pub within : Rule → ℤ → Bool
within R z = between R.low R.high z
