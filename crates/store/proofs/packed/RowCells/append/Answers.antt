use Rattle.std.proofs.Common.{◌≡◌, true, is_ok, ◌∙◌, rules}
use Rattle.store.proofs.Packs.{appended}
use Rattle.store.proofs.packed.RowCells.append.Goals as goal

pub returns-clause-appends : goal.returns-clause-appends
returns-clause-appends c =
    let ok : is_ok c.extend_from_slice.result ≡ true = search rules in
    appended _ _ _ _ (rw ok at c.extend_from_slice.ensures.items) (c.len-first.ensures ∙ c.args.self.now.values.ok.0)
