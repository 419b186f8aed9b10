use Rattle.std.proofs.Common.{◌≡◌, ℕ, ◌<◌, ◌≤◌, ltb, List, length, get_or, take, ℤ, pos, negsuc, Some, None, Option, Ok, Err, Result, Bor, sym, refl, ap, ◌∙◌, nat_abs, arith, w32, SFits, rules}
use Rattle.std.proofs.lemmas.Bool.Decides.{nat_tests}
use Rattle.std.proofs.lemmas.Int.{to_z-of_z}
use Rattle.std.proofs.lemmas.List.{take_min}
use Rattle.std.proofs.lemmas.Option.{slice_get_read, slice_get_past}
use Rattle.std.specs.List.{slice_get}
use Rattle.std.specs.Option.{is_some, option_copied, IfSome}
use Rattle.std.specs.Result.{OkIff, result_ok}
use Rattle.std.specs.Int.{FitsUnsignedBits}
use Rattle.cool.specs.Dynamic.{reading_at}
use Rattle.engine.proofs.readings.reading_at.Goals as goal

copied_is : (xs : List ℤ) (i : ℕ) (r : Option (Bor ℤ)) → is_some r ≡ ltb i (length xs) → IfSome r (λ x. x.now ≡ get_or xs i x.now) → option_copied r ≡ slice_get xs i
copied_is xs i None b h = let past : length xs ≤ i = grind (arith, nat_tests) in sym (slice_get_past xs i past)
copied_is xs i (Some x) b h = let within : i < length xs = grind (arith, nat_tests) in sym (slice_get_read xs (length xs) i x.now refl within h)

told : {E : Type 0} (i : ℤ) (k : ℕ) (r : Result ℕ E) → OkIff r (FitsUnsignedBits 64 i) (nat_abs i) → Some k ≡ result_ok r → i ≡ pos k
told (pos n) k (Ok x) h e = let z : x ≡ n = h.1 in cc
told (pos n) k (Err f) h e = cc
told (negsuc n) k (Ok x) h e = absurd h.0
told (negsuc n) k (Err f) h e = cc

pub returns : goal.returns
returns c =
    let day = c.args.day.now in
    let k = c.in_ok-place.place in
    let f : SFits w32 c.args.i = search rules in
    let z = told c.args.i k c.try_from.result (simp to_z-of_z at c.try_from.ensures) c.in_ok-place.ensures.value in
    c.copied.ensures
    ∙ copied_is (take c.min.result day) k c.get.result c.get.ensures.lookup.0 c.get.ensures.lookup.1
    ∙ ap (λ n. slice_get (take n day) k) c.min.ensures
    ∙ ap (λ xs. slice_get xs k) (take_min 4096 day)
    ∙ sym (ap (reading_at day) z)
