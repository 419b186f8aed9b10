use Rattle.std.proofs.Common.{to_z-of_z, w32, SFits, rules}
use Rattle.std.specs.Fmt.{signed_decimal}
use Rattle.slips.specs.Writing.{Puts}
use Rattle.slips.specs.Slip.{cell_words}
use Rattle.slips.proofs.Pieces.{no_more, ◌▸◌}
use Rattle.slips.proofs.print.Slip.put_cell.Goals as goal

pub returns-in-Int : goal.returns-in-Int
unfolding cell_words
returns-in-Int g c =
    let fits : SFits w32 c.in-Int.n = search rules in
    let n : Puts c.args.w.now c.put_decimal.new.self (signed_decimal c.in-Int.n) = search (rules, to_z-of_z, c.put_decimal.ensures) in
    let e = c.in-Int.is in
    rw e n

pub returns-in-Boolean : goal.returns-in-Boolean
unfolding cell_words
returns-in-Boolean g c =
    let e = c.in-Boolean.is in
    let b = rw c.truth_word.ensures at c.put.ensures in
    rw e b

pub returns-in-Null : goal.returns-in-Null
unfolding cell_words
returns-in-Null g c = let e = c.in-Null.is in rw e c.put-in-Null.ensures

pub returns-in-Handle : goal.returns-in-Handle
unfolding cell_words
returns-in-Handle g c =
    let e = c.in-Handle.is in
    let n = rw c.label_of.ensures at c.put_decimal-in-Handle.ensures in
    rw e (c.put-in-Handle.ensures ▸ n ▸ no_more).are
