use Rattle.std.proofs.Common.{rules, tests, ◌≡◌, map, eqb, sym, ap, ◌∙◌}
use Rattle.std.specs.Option.{option_map}
use Rattle.std.proofs.lemmas.Iterator.{YieldsList-from_slice}
use Rattle.std.proofs.lemmas.Iterator.Search.{find_from_yields_List}
use Rattle.cool.specs.Syntax.{find}
use Rattle.cool.specs.Book.{method_of}
use Rattle.checked.specs.Checked.{named_method, meth, part_of}
use Rattle.checked.proofs.Searching.{found}
use Rattle.checked.proofs.base.Decoded.method.Goals as goal

pub returns : goal.returns
returns c =
    let looked = find_from_yields_List (λ m. eqb c.args.name m.name) _ _ c.find.result c.find.ensures.ran (YieldsList-from_slice _ c.iter.ensures.rest) (λ x b q k. search (rules, tests)) in
    let copied : c.copied.result ≡ option_map (λ x. x.now) c.find.result = search rules in
    ap (option_map meth) (copied ∙ looked)
    ∙ (found (λ m. m.name) meth c.methods_of-methods.result.now c.args.name
    ∙ (ap (λ ms. find (map named_method ms) c.args.name) c.methods_of-methods.ensures.value
    ∙ ap (λ o. method_of (option_map (part_of c.args.self.now) o) c.args.name) (sym c.in_ok-class.was ∙ c.class.ensures)))
