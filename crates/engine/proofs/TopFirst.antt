-- A pile's items have the top row last, the machine's rows have it first.
use Rattle.std.proofs.Common.{◌≡◌, ◌-◌, true, cond, ltb, List, [], ◌∷◌, ◌++◌, reverse, length, set, Some, None, Option, sym, refl, ap, ◌∙◌, arith}
use Rattle.std.proofs.lemmas.List.{reverse-append, reverse-reverse, length_push, take_at, set_at}
use Rattle.std.proofs.lemmas.Bool.Decides.{nat_tests}
use Rattle.std.specs.List.{slice_get}
use Rattle.pile.specs.Pile.{last, without_last}
use Rattle.machine.specs.declared.state.Row.{Row}
use Rattle.engine.specs.Moves.{below}

-- the top row, if there is one
abbrev pub top_of : List Row → Option Row
top_of [] = None
top_of (q ∷ ρ) = Some q

nth_push : (zs : List Row) (y : Row) → slice_get (zs ++ y ∷ []) (length zs) ≡ Some y
nth_push [] y = refl
nth_push (z ∷ zs) y = nth_push zs y

last_place : (zs : List Row) (y : Row) → length (zs ++ y ∷ []) - 1 ≡ length zs
last_place zs y = omega (arith, length_push zs y)

no_items : (xs : List Row) → reverse xs ≡ [] → xs ≡ []
no_items xs e = sym (reverse-reverse xs) ∙ ap reverse e

top_last : (xs : List Row) (y : Row) (ys : List Row) → reverse xs ≡ y ∷ ys → xs ≡ reverse ys ++ y ∷ []
top_last xs y ys e = sym (reverse-reverse xs) ∙ ap reverse e ∙ reverse-append (y ∷ []) ys

pub top_is : (xs ys : List Row) → reverse xs ≡ ys → last xs ≡ top_of ys
top_is xs [] e = ap last (no_items xs e)
top_is xs (y ∷ ys) e = ap last (top_last xs y ys e) ∙ ap (slice_get (reverse ys ++ y ∷ [])) (last_place (reverse ys) y) ∙ nth_push (reverse ys) y

pub off_is : (xs ys : List Row) → reverse xs ≡ ys → reverse (without_last xs) ≡ below ys
off_is xs [] e = ap (λ v. reverse (without_last v)) (no_items xs e)
off_is xs (y ∷ ys) e =
    ap (λ v. reverse (without_last v)) (top_last xs y ys e)
    ∙ ap reverse (take_at (reverse ys) (y ∷ []) _ (sym (last_place (reverse ys) y)))
    ∙ reverse-reverse ys

push_is : (xs : List Row) (x : Row) → reverse (xs ++ x ∷ []) ≡ x ∷ reverse xs
push_is xs x = reverse-append xs (x ∷ [])

set_last : (zs : List Row) (x y : Row) → set (zs ++ y ∷ []) (length (zs ++ y ∷ []) - 1) x ≡ zs ++ x ∷ []
set_last zs x y = set_at zs y [] x _ (sym (last_place zs y))

some_items : (zs : List Row) (y : Row) → ltb 0 (length (zs ++ y ∷ [])) ≡ true
some_items zs y = let e = length_push zs y in grind (arith, nat_tests)

pub replaced_is : (xs ys : List Row) (x y : Row) → reverse xs ≡ y ∷ ys → reverse (cond (ltb 0 (length xs)) (set xs (length xs - 1) x) xs) ≡ x ∷ ys
replaced_is xs ys x y e =
    let zs = reverse ys in
    ap (λ v. reverse (cond (ltb 0 (length v)) (set v (length v - 1) x) v)) (top_last xs y ys e)
    ∙ ap (λ b. reverse (cond b (set (zs ++ y ∷ []) (length (zs ++ y ∷ []) - 1) x) (zs ++ y ∷ []))) (some_items zs y)
    ∙ ap reverse (set_last zs x y)
    ∙ push_is zs x
    ∙ ap (λ v. x ∷ v) (reverse-reverse ys)
