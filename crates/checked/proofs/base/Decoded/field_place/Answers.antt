use Rattle.std.proofs.Common.{rules, tests, map, eqb, sym, ap, ◌∙◌}
use Rattle.std.specs.Option.{option_map}
use Rattle.std.proofs.lemmas.Iterator.{YieldsList-from_slice}
use Rattle.std.proofs.lemmas.Iterator.Search.{position_from_yields_List}
use Rattle.cool.specs.Book.{fields_of, place}
use Rattle.checked.specs.Checked.{named_field, part_of}
use Rattle.checked.proofs.Searching.{placed}
use Rattle.checked.proofs.base.Decoded.field_place.Goals as goal

pub returns : goal.returns
returns c =
    position_from_yields_List (λ f. eqb c.args.name f.name) _ _ _ c.position.ensures.ran (YieldsList-from_slice _ c.iter.ensures.rest) (λ x b q k. search (rules, tests))
    ∙ (placed c.fields_of-fields.result.now c.args.name
    ∙ (ap (λ fs. place (map named_field fs) c.args.name) c.fields_of-fields.ensures.value
    ∙ ap (λ o. place (fields_of (option_map (part_of c.args.self.now) o)) c.args.name) (sym c.in_ok-class.was ∙ c.class.ensures)))
