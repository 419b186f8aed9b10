-- The three number rules that are built.
use Rattle.std.specs.Prelude.{◌≡◌, ℕ, Bool, true, false, cond, ◌&&◌, T, ℤ, pos, ◌-ℤ◌, ◌≤ℤ◌, Some, None, Option, int_le}
use Rattle.std.proofs.Common.{subst, arith}
use Rattle.std.specs.Int.Signed.{le_z_yes}
use Rattle.std.specs.Int.{int_rem_euclid, int_wrap, w32}
use Rattle.numbers.specs.Rule.{Rule, Within, between, least32, most32}

-- d where m, n and d lie between the ends, else none.
abbrev pub kept : ℤ → ℤ → ℤ → ℤ → ℤ → Option ℤ
kept low high m n d = cond (between low high m && (between low high n && between low high d)) (Some d) None

all_true : (a b c : Bool) (v d : ℤ) → cond (a && (b && c)) (Some v) None ≡ Some d → T a × T b × T c × (v ≡ d)
all_true true true true v d e = (tt, tt, tt, cc)
all_true true true false v d e = let z : ◌≡◌ {A = ℕ} 0 1 = cc in absurd (omega arith)
all_true true false c v d e = let z : ◌≡◌ {A = ℕ} 0 1 = cc in absurd (omega arith)
all_true false b c v d e = let z : ◌≡◌ {A = ℕ} 0 1 = cc in absurd (omega arith)

both_true : (a b : Bool) → T (a && b) → T a × T b
both_true true true t = (tt, tt)
both_true true false t = absurd t
both_true false b t = absurd t

lies_within : (low high z : ℤ) → T (between low high z) → Within low high z
lies_within low high z t = let p = both_true (int_le low z) (int_le z high) t in (le_z_yes p.0, le_z_yes p.1)

-- A difference that is kept lies between the ends, as do its two numbers.
pub kept_within : (low high m n v d : ℤ) → kept low high m n v ≡ Some d → Within low high m × Within low high n × Within low high d
kept_within low high m n v d e =
    let t = all_true (between low high m) (between low high n) (between low high v) v d e in
    (lies_within low high m t.0, lies_within low high n t.1, subst (Within low high) t.3 (lies_within low high v t.2))

-- The rule with these ends that keeps minus m n as the difference of m and n.
abbrev pub keeping : (low high : ℤ) → (ℤ → ℤ → ℤ) → Within low high (pos 0) → least32 ≤ℤ low → high ≤ℤ most32 → Rule
keeping low high minus zero low_fits high_fits =
    record {
      low = low;
      high = high;
      difference = λ m n. kept low high m n (minus m n);
      zero = zero;
      low_fits = low_fits;
      high_fits = high_fits;
      stays = λ m n d e. (kept_within low high m n (minus m n) d e).2;
      only_within = λ m n d e. let w = kept_within low high m n (minus m n) d e in (w.0, w.1);
    }

-- Strict: all 32 bits, and the plain difference, so that there is none where it does not fit.
abbrev pub strict : Rule
strict = keeping least32 most32 (λ m n. m -ℤ n) (le_z_yes tt, le_z_yes tt) (le_z_yes tt) (le_z_yes tt)

-- The difference modulo 2^32, as the signed number of 32 bits that it is congruent to.
abbrev pub minus_in_32_bits : ℤ → ℤ → ℤ
minus_in_32_bits m n = int_wrap w32 (m -ℤ n)

-- Java: all 32 bits, and the difference modulo 2^32.
abbrev pub java : Rule
java = keeping least32 most32 minus_in_32_bits (le_z_yes tt, le_z_yes tt) (le_z_yes tt) (le_z_yes tt)

-- The difference modulo 1440, never negative.
abbrev pub minus_in_a_day : ℤ → ℤ → ℤ
minus_in_a_day m n = int_rem_euclid (m -ℤ n) (pos 1440)

-- Clock: the minutes of a day, 0 to 1439, and the difference modulo 1440.
abbrev pub clock : Rule
clock = keeping (pos 0) (pos 1439) minus_in_a_day (le_z_yes tt, le_z_yes tt) (le_z_yes tt) (le_z_yes tt)
