use Rattle.std.proofs.Common.{◌∙◌, arith}
use Rattle.store.proofs.More.{laid_more, makes}
use Rattle.store.proofs.records.RecordsObjectStore.make.Goals as goal

pub invariant_of-self-clause-laid : goal.invariant_of-self-clause-laid
invariant_of-self-clause-laid g c = laid_more _ _ _ _ _ _ c.args.self.now.laid c.append-first.ensures.appends _ c.push_reserved.ensures.items

pub returns : goal.returns
returns g c = let s = c.args.self.now in makes _ _ _ _ _ _ s.laid c.append-first.ensures.appends _ _ _ _ c.push_reserved.ensures.items (c.len-handle.ensures ∙ s.heads.ok.0) (omega arith) (omega (arith, c.count.ensures, s.few.1))
