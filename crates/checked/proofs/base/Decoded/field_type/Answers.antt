use Rattle.std.proofs.Common.{rules, tests, ◌≡◌, map, eqb, sym, ap, ◌∙◌}
use Rattle.std.specs.Option.{option_map}
use Rattle.std.proofs.lemmas.Iterator.{YieldsList-from_slice}
use Rattle.std.proofs.lemmas.Iterator.Search.{find_from_yields_List}
use Rattle.cool.specs.Syntax.{find}
use Rattle.cool.specs.Book.{fields_of}
use Rattle.checked.specs.Checked.{named_field, part_of}
use Rattle.checked.proofs.Searching.{found}
use Rattle.checked.proofs.base.Decoded.field_type.Goals as goal

pub returns : goal.returns
returns c =
    let looked = find_from_yields_List (λ f. eqb c.args.name f.name) _ _ c.find-field.result c.find-field.ensures.ran (YieldsList-from_slice _ c.iter.ensures.rest) (λ x b q k. search (rules, tests)) in
    let typed : c.map.result ≡ option_map (λ f. f.typed) (option_map (λ x. x.now) c.find-field.result) = search rules in
    typed
    ∙ (ap (option_map (λ f. f.typed)) looked
    ∙ (found (λ f. f.name) (λ f. f.typed) c.fields_of-fields.result.now c.args.name
    ∙ (ap (λ fs. find (map named_field fs) c.args.name) c.fields_of-fields.ensures.value
    ∙ ap (λ o. find (fields_of (option_map (part_of c.args.self.now) o)) c.args.name) (sym c.in_ok-class.was ∙ c.class.ensures))))
