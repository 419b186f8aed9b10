use Rattle.std.proofs.Common.{refl, pos, arith, rules}
use Rattle.std.proofs.lemmas.List.FromFn.{fill_by_all}
use Rattle.input.specs.Day.{reading}
use Rattle.input.proofs.Filling.{filled_at}
use Rattle.input.proofs.reading_places.Goals as goal

pub returns : goal.returns
returns c =
    fill_by_all (reading c.args.bytes.now) c.from_fn.result 4096 (pos 0) c.from_fn.ensures.items.long
    (λ k low. filled_at _ _ (reading c.args.bytes.now) c.from_fn.result 4096 (λ i y q l called. search rules) 4096 0 _ refl (omega arith) c.from_fn.ensures.items.each k (pos 0) (omega arith) (omega arith))
