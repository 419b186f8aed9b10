use Rattle.std.proofs.Common.{◌≡◌, ℕ, ◌<◌, List, length, get_or, Some, Ok, sym, ◌∙◌, subst, inl, inr, arith}
use Rattle.std.proofs.lemmas.Option.{slice_get-get_or, slice_get_within}
use Rattle.std.proofs.lemmas.Result.{err_from_is_err_and}
use Rattle.std.proofs.lemmas.Bool.{cases_eq}
use Rattle.std.specs.List.{slice_get}
use Rattle.checked.specs.declared.table.Method.{Method}
use Rattle.checked.specs.Methods.{method_in}
use Rattle.checked.specs.Checked.{decoded_book, meth}
use Rattle.checked.proofs.methods.check_methods.Goals as goal

-- what holds of the entry that was read holds of the entry that stands there
typed_here : (xs : List Method) (i : ℕ) (d m : Method) → i < length xs → slice_get xs i ≡ Some m → (P : Method → Type 0) → P (get_or xs i d) → P m
typed_here xs i d m low h P x = let here = slice_get-get_or xs i d low in let e : get_or xs i d ≡ m = cc in subst P e x

pub returns-in_err-check_method : goal.returns-in_err-check_method
returns-in_err-check_method c =
    let p = err_from_is_err_and c.from_residual.result c.from_residual.ensures.1 in
    rw (p.1, p.2) (c.loop-method.method-index, _, slice_get-get_or c.args.methods.now c.loop-method.method-index _ c.loop-method-test.true, sym c.check_method.ensures ∙ c.in_err-check_method.was)

pub loop-method-preserved : goal.loop-method-preserved
loop-method-preserved c k m low h =
    elim (cases_eq k c.loop-method.method-index) [
      | inl same ↦
          typed_here c.args.methods.now c.loop-method.method-index _ m c.loop-method-test.true (rw same at h) (λ q. method_in (decoded_book c.args.book.now) c.args.c (meth q) ≡ Ok tt)
          (sym c.check_method.ensures ∙ c.in_ok-check_method.was)
      | inr other ↦ c.loop-method.invariant k m (omega arith) h
    ]

pub returns : goal.returns
returns c i m h = let l = slice_get_within c.args.methods.now i m h in c.loop-method.invariant i m (omega arith) h
