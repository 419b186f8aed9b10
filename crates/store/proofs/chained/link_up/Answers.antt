use Rattle.std.proofs.Common.{[], ◌∷◌, ◌++◌, length, sym, ap, ◌∙◌, arith}
use Rattle.std.proofs.lemmas.List.{append_assoc, length_push}
use Rattle.std.specs.Iterator.Adapters.{rev_source}
use Rattle.std.specs.Slice.Iter.{iter_rest}
use Rattle.store.proofs.Chains.{chain_more}
use Rattle.store.proofs.chained.link_up.Goals as goal

pub loop-value-preserved : goal.loop-value-preserved
loop-value-preserved c =
    let i = c.loop-value.invariant in
    let vs = i.linked.0 in
    let rest = iter_rest (rev_source c.next.new.self) in
    let v = c.in-Some.value.now in
    let e = c.in-Some.ensures.steps in
    let n = ap length e ∙ length_push rest v in
    record {
      capacity = c.push_reserved.ensures.capacity ∙ i.capacity;
      count = omega (arith, n, i.count, c.push_reserved.ensures.len);
      linked = (v ∷ vs, sym (append_assoc rest (v ∷ []) vs) ∙ ap (λ xs. xs ++ vs) (sym e) ∙ i.linked.1, chain_more _ _ _ _ i.linked.2 v _ _ c.push_reserved.ensures.items (c.len-here.ensures ∙ c.loop-value.cells.ok.0));
    }
