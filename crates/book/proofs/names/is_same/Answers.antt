use Rattle.std.proofs.Common.{rules}
use Rattle.std.proofs.lemmas.Bool.Decides.{Decides-eqb}
use Rattle.std.proofs.lemmas.Slice.Eq.{slice_eq-Decides}
use Rattle.book.proofs.names.is_same.Goals as goal

pub returns : goal.returns
returns c = let h = slice_eq-Decides Decides-eqb c.args.x.now c.args.y.now _ c.eq.ensures in search rules
