-- One record more at the end of a packed row.
use Rattle.std.proofs.Common.{◌≡◌, ℕ, ◌+◌, true, List, [], ◌∷◌, ◌++◌, length, refl, arith, length-append}
use Rattle.std.proofs.lemmas.Bool.Decides.{nat_tests}
use Rattle.std.proofs.lemmas.List.{get_or-append-add}
use Rattle.store.specs.declared.Value.{Value}
use Rattle.store.specs.declared.Value.TheVariants.{Null}
use Rattle.store.specs.declared.records.Head.{Head}
use Rattle.store.specs.Layouts.{Appends}
use Rattle.store.specs.Packing.{packed, packed_layout}

packed_push : (p : ℕ) (xs : List Head) (n : ℕ) (x : Head) → packed p xs n ≡ true → x.first ≡ n → packed p (xs ++ x ∷ []) (n + x.len) ≡ true
packed_push p [] n x a e = grind (arith, nat_tests)
packed_push p (y ∷ xs) n x a e =
    let rest : packed (p + y.len) xs n ≡ true = grind (arith, nat_tests) in
    let ih = packed_push (p + y.len) xs n x rest e in
    grind (arith, nat_tests)

pub appended : (row vs new : List Value) (first : ℕ) → new ≡ row ++ vs → first ≡ length row → Appends (packed_layout row) vs first (packed_layout new)
appended row vs new first e f =
    let n = length-append row vs in
    rw (e, f)
    record {
      more = vs;
      adds = refl;
      count = refl;
      kept = λ p n l k m. refl;
      holds = λ k l. get_or-append-add row vs k Null;
      fresh = λ k l. omega arith;
      inside = λ k l. omega (arith, n);
      once = λ j k a b c. omega arith;
      keeps = λ xs c k. rw n (packed_push 0 xs (length row) (record { class = c; first = length row; len = length vs }) k refl);
    }
