use Rattle.std.proofs.Common.{◌≡◌, ◌<◌, ◌≤◌, [], ◌∷◌, ◌++◌, map, length, take, sym, ap, ◌∙◌, arith}
use Rattle.std.proofs.lemmas.List.{take_more, take_more_set, take_all}
use Rattle.store.specs.declared.Value.TheVariants.{Null}
use Rattle.checked.specs.Checked.{named_field}
use Rattle.machine.specs.Fields.{first_values}
use Rattle.engine.proofs.Made.{first_length, first_at}
use Rattle.engine.proofs.make.fill.Goals as goal

pub loop-i-preserved : goal.loop-i-preserved
loop-i-preserved c =
    let fs = c.args.fields.now in
    let i = c.loop-i.i in
    let v = c.first_value.result in
    let vs = first_values (map named_field fs) in
    let here : i < length c.loop-i.values = omega arith in
    let there : i < length vs = omega (arith, first_length fs) in
    take_more_set c.loop-i.values i v here
    ∙ ap (λ xs. xs ++ v ∷ []) c.loop-i.invariant
    ∙ ap (λ w. take i vs ++ w ∷ []) (c.first_value.ensures ∙ sym (first_at fs i _ Null c.loop-i-test.true))
    ∙ sym (take_more vs i Null there)

pub returns : goal.returns
returns c =
    let fs = c.args.fields.now in
    let i = c.loop-i.i in
    let vs = first_values (map named_field fs) in
    let all : length fs ≡ i = omega arith in
    let whole : length vs ≤ i = omega (arith, first_length fs) in
    ap (λ n. take n c.loop-i.values) all ∙ c.loop-i.invariant ∙ take_all i vs whole
