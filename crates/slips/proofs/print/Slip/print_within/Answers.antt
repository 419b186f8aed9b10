use Rattle.std.proofs.Common.{◌≡◌, length, refl, arith, rules}
use Rattle.slips.specs.Slip.{text_of}
use Rattle.slips.proofs.Pieces.{printed_all}
use Rattle.slips.proofs.print.Slip.print_within.Goals as goal

pub returns-then-out-length : goal.returns-then-out-length
returns-then-out-length g c = (omega arith, refl)

pub returns : goal.returns
returns g c =
    let text = text_of g.S.ObjectStore.means c.args.self.now in
    let same : c.measure-length.result ≡ length text = omega arith in
    let all = printed_all text c.print.ensures refl (omega arith) (omega arith) in
    (same, c.if-out-length.false, search (rules, all))
