use Rattle.std.proofs.Common.{ℕ, ◌<◌, sym, ◌∙◌, subst}
use Rattle.std.proofs.lemmas.Result.{err_from_is_err_and}
use Rattle.book.specs.Books.{bytes_of}
use Rattle.cool.specs.Accepts.{NamesDistinct}
use Rattle.checked.specs.Methods.{MethodsTyped, TopTyped}
use Rattle.checked.specs.Typing.{type_at}
use Rattle.checked.proofs.Accepting.{repeated, untyped, top_untyped, accepted}
use Rattle.checked.proofs.check.Goals as goal

pub returns-in-Some-clause-answer : goal.returns-in-Some-clause-answer
returns-in-Some-clause-answer c = repeated c.decode-decoded.result (bytes_of c.args.book) c.decode-decoded.ensures c.in-Some.entry c.in-Some.ensures

pub returns-in_err-check_classes-clause-answer : goal.returns-in_err-check_classes-clause-answer
returns-in_err-check_classes-clause-answer c =
    let p = err_from_is_err_and c.from_residual.result c.from_residual.ensures.1 in
    rw (p.1, p.2) (untyped c.decode-decoded.result (bytes_of c.args.book) c.decode-decoded.ensures _ c.in_default.ensures c.in_err-check_classes.ensures)

pub returns-in_err-top-clause-answer : goal.returns-in_err-top-clause-answer
unfolding type_at
returns-in_err-top-clause-answer c =
    let p = err_from_is_err_and c.from_residual-in_err-top.result c.from_residual-in_err-top.ensures.1 in
    rw (p.1, p.2) (top_untyped c.decode-decoded.result (bytes_of c.args.book) c.decode-decoded.ensures _ (sym c.type_of.ensures ∙ c.in_err-top.was))

pub invariant_of-result : goal.invariant_of-result
unfolding type_at
invariant_of-result c =
    let viewed = c.decode-decoded.result.means in
    record {
      names = subst NamesDistinct viewed c.in_default.ensures;
      methods = subst (λ B. (k : ℕ) → k < B.classes → MethodsTyped B k) viewed c.in_ok-check_classes.ensures;
      top_typed = subst (λ B. TopTyped B c.in_ok-top.top) viewed (sym c.type_of.ensures ∙ c.in_ok-top.was);
    }

pub returns-clause-answer : goal.returns-clause-answer
unfolding type_at
returns-clause-answer c =
    accepted c.decode-decoded.result (bytes_of c.args.book) c.decode-decoded.ensures c.in_ok-top.top c.in_default.ensures c.in_ok-check_classes.ensures (sym c.type_of.ensures ∙ c.in_ok-top.was)
