use Rattle.std.proofs.Common.{to_z-of_z, w32, SFits, rules}
use Rattle.std.specs.Fmt.{signed_decimal}
use Rattle.slips.specs.Writing.{Puts}
use Rattle.slips.specs.Slip.{value_words}
use Rattle.slips.proofs.Pieces.{no_more, ◌▸◌}
use Rattle.slips.proofs.print.put_words.Goals as goal

pub returns-in-Int : goal.returns-in-Int
unfolding value_words
returns-in-Int c =
    let fits : SFits w32 c.in-Int.n = search rules in
    let n : Puts c.put.new.self c.put_decimal.new.self (signed_decimal c.in-Int.n) = search (rules, to_z-of_z, c.put_decimal.ensures) in
    let e = c.in-Int.is in
    rw e (c.put.ensures ▸ n ▸ no_more).are

pub returns-in-Boolean : goal.returns-in-Boolean
unfolding value_words
returns-in-Boolean c =
    let e = c.in-Boolean.is in
    let b = rw c.truth_word.ensures at c.put-in-Boolean-2.ensures in
    rw e (c.put-in-Boolean.ensures ▸ b ▸ no_more).are

pub returns-in-Null : goal.returns-in-Null
unfolding value_words
returns-in-Null c = let e = c.in-Null.is in rw e c.put-in-Null.ensures

pub returns-in-Handle : goal.returns-in-Handle
unfolding value_words
returns-in-Handle c = let e = c.in-Handle.is in rw e c.put-in-Handle.ensures
