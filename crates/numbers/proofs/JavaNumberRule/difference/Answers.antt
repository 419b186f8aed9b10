use Rattle.std.proofs.Common.{w32, rules, ◌-ℤ◌}
use Rattle.std.proofs.lemmas.Int.{wrapping_sub_is, SFits-int_wrap}
use Rattle.numbers.proofs.JavaNumberRule.difference.Goals as goal

pub returns : goal.returns
returns c =
    let fits = SFits-int_wrap w32 (c.args.a -ℤ c.args.b) in
    let wrapped = wrapping_sub_is w32 c.args.a c.args.b c.ranges.a c.ranges.b in
    search (rules, wrapped)
