-- The name part: each name is a length byte from 1 to 31 and then that many bytes.
use Rattle.std.specs.Prelude.{ℕ, zero, suc, Bool, false, cond, ◌&&◌, ◌||◌, List, [], ◌∷◌, length, take, drop, Some, None, Option, ◌==◌, nat_le, nat_lt}
use Rattle.std.specs.List.{list_all}
use Rattle.std.specs.Option.{option_map}
use Rattle.std.specs.Str.{bytes_eq}
use Rattle.book.specs.Counting.{any_below}
use Rattle.book.specs.Layout.{name_count, name_bytes}

-- An ASCII letter or an underscore.
abbrev pub letter : ℕ → Bool
letter b = (nat_le 97 b && nat_le b 122) || ((nat_le 65 b && nat_le b 90) || b == 95)

abbrev pub letter_or_digit : ℕ → Bool
letter_or_digit b = letter b || (nat_le 48 b && nat_le b 57)

abbrev pub letters_or_digits : List ℕ → Bool
letters_or_digits bs = list_all letter_or_digit bs

-- The bytes of a name: letters, digits and underscores, no digit first.
abbrev pub spelled : List ℕ → Bool
spelled [] = false
spelled (b ∷ bs) = letter b && letters_or_digits bs

-- A name at the front of some bytes, and the bytes after it; none where it is faulty or cut.
abbrev pub cut : List ℕ → Option (List ℕ × List ℕ)
cut [] = None
cut (l ∷ rest) = cond ((nat_le l 31 && nat_le l (length rest)) && spelled (take l rest)) (Some (take l rest, drop l rest)) None

abbrev pub and_then : {A B : Type 0} → Option A → (A → Option B) → Option B
and_then None f = None
and_then (Some x) f = f x

-- The bytes after the first n names; none where one of these is faulty or cut.
abbrev pub after_names : ℕ → List ℕ → Option (List ℕ)
after_names zero bs = Some bs
after_names (suc n) bs = and_then (cut bs) (λ p. after_names n p.1)

-- Name n of some bytes.
abbrev pub nth_name : ℕ → List ℕ → Option (List ℕ)
nth_name n bs = and_then (after_names n bs) (λ rest. option_map (λ p. p.0) (cut rest))

abbrev pub same_name : Option (List ℕ) → Option (List ℕ) → Bool
same_name None y = false
same_name (Some x) None = false
same_name (Some x) (Some y) = bytes_eq x y

-- Name n is the same as an earlier one.
abbrev pub repeats : List ℕ → ℕ → Bool
repeats bs n = any_below n (λ m. same_name (nth_name m bs) (nth_name n bs))

abbrev pub some_left : Option (List ℕ) → Bool
some_left None = false
some_left (Some rest) = nat_lt 0 (length rest)

-- The name with a number, of a whole book.
abbrev pub name_at : List ℕ → ℕ → Option (List ℕ)
name_at bs n = cond (nat_lt n (name_count bs)) (nth_name n (name_bytes bs)) None
