use Rattle.std.proofs.Common.{sym, ap, ◌∙◌}
use Rattle.std.specs.Option.{option_map}
use Rattle.std.specs.List.{slice_get}
use Rattle.std.proofs.lemmas.Result.{MatchResult-weaker}
use Rattle.checked.specs.Holding.{methods_of}
use Rattle.checked.specs.Methods.{method_in}
use Rattle.checked.specs.Checked.{decoded_book, own_methods, named_method, part_of}
use Rattle.checked.proofs.Repeating.{unmapped, mapped}
use Rattle.checked.proofs.methods.check_class.Goals as goal

pub returns-in-Some : goal.returns-in-Some
returns-in-Some c =
    let there = ap (λ o. methods_of (option_map (part_of c.args.book.now) o)) (sym c.in-Some.is ∙ c.class.ensures) in
    MatchResult-weaker c.check_methods.result c.check_methods.ensures
    (λ x all i m q h.
    let u = unmapped named_method (own_methods c.args.book.now c.in-Some.class) i (m, q) (ap (λ xs. slice_get xs i) there ∙ h) in
    ap (λ y. method_in (decoded_book c.args.book.now) c.args.c y.1) (sym u.2) ∙ all i u.0 (ap (λ xs. slice_get xs i) c.methods_of.ensures.value ∙ u.1))
    (λ e wrong.
    (wrong.0, _, _, ap (λ xs. slice_get xs wrong.0) (sym there) ∙ mapped named_method (own_methods c.args.book.now c.in-Some.class) wrong.0 wrong.1 (ap (λ xs. slice_get xs wrong.0) (sym c.methods_of.ensures.value) ∙ wrong.2), wrong.3))
