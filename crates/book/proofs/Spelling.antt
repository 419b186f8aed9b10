-- A spelled name is text.
use Rattle.std.proofs.Common.{◌≡◌, ℕ, zero, suc, ◌<◌, true, ◌&&◌, leb, List, [], ◌∷◌, length, take, Some, None, Option, sym, refl, subst, inl, inr, arith}
use Rattle.std.specs.Prelude.{MatchOption, ⊤}
use Rattle.std.specs.Option.{option_map}
use Rattle.std.specs.Str.{IsUtf8, IsAscii}
use Rattle.std.proofs.lemmas.Bool.{cases_Bool, and_parts, cond-true, cond-false}
use Rattle.std.proofs.lemmas.Bool.Decides.{nat_tests}
use Rattle.std.proofs.lemmas.Str.{IsUtf8-from_ascii}
use Rattle.book.specs.Names.{letter, letter_or_digit, letters_or_digits, spelled, cut, and_then, after_names, nth_name}

letter_ascii : (b : ℕ) → letter b ≡ true → b < 128
letter_ascii b h = grind (arith, nat_tests)

letter_or_digit_ascii : (b : ℕ) → letter_or_digit b ≡ true → b < 128
letter_or_digit_ascii b h = grind (arith, nat_tests)

letters_or_digits_ascii : (bs : List ℕ) → letters_or_digits bs ≡ true → IsAscii bs
letters_or_digits_ascii [] h i = omega arith
letters_or_digits_ascii (b ∷ bs) h zero = letter_or_digit_ascii b (and_parts _ _ h).0
letters_or_digits_ascii (b ∷ bs) h (suc i) = letters_or_digits_ascii bs (and_parts _ _ h).1 i

spelled_ascii : (bs : List ℕ) → spelled bs ≡ true → IsAscii bs
spelled_ascii [] h i = omega arith
spelled_ascii (b ∷ bs) h zero = letter_ascii b (and_parts _ _ h).0
spelled_ascii (b ∷ bs) h (suc i) = letters_or_digits_ascii bs (and_parts _ _ h).1 i

pub spelled_utf8 : (bs : List ℕ) → spelled bs ≡ true → IsUtf8 bs
spelled_utf8 bs h = IsUtf8-from_ascii bs (spelled_ascii bs h)

-- so a name is text
cut_spelled : (bs : List ℕ) (o : Option (List ℕ × List ℕ)) → cut bs ≡ o → MatchOption o ⊤ (λ p. IsUtf8 p.0)
cut_spelled [] o e = subst (λ w. MatchOption w ⊤ (λ p. IsUtf8 p.0)) e tt
cut_spelled (l ∷ rest) o e =
    subst (λ w. MatchOption w ⊤ (λ p. IsUtf8 p.0)) e
    (elim (cases_Bool ((leb l 31 && leb l (length rest)) && spelled (take l rest))) [
      | inl yes' ↦ subst (λ w. MatchOption w ⊤ (λ p. IsUtf8 p.0)) (sym (cond-true _ _ _ yes')) (spelled_utf8 (take l rest) (and_parts _ _ yes').1)
      | inr no' ↦ subst (λ w. MatchOption w ⊤ (λ p. IsUtf8 p.0)) (sym (cond-false _ _ _ no')) tt
    ])

first_utf8 : (o : Option (List ℕ × List ℕ)) (x : List ℕ) → MatchOption o ⊤ (λ p. IsUtf8 p.0) → option_map (λ p. p.0) o ≡ Some x → IsUtf8 x
first_utf8 None x h e = cc
first_utf8 (Some p) x h e = let same : p.0 ≡ x = cc in subst IsUtf8 same h

name_utf8_in : (o : Option (List ℕ)) (x : List ℕ) → and_then o (λ rest. option_map (λ p. p.0) (cut rest)) ≡ Some x → IsUtf8 x
name_utf8_in None x e = cc
name_utf8_in (Some rest) x e = first_utf8 (cut rest) x (cut_spelled rest (cut rest) refl) e

pub name_utf8 : (n : ℕ) (bs x : List ℕ) → nth_name n bs ≡ Some x → IsUtf8 x
name_utf8 n bs x e = name_utf8_in (after_names n bs) x e
