use Rattle.std.proofs.Common.{◌-◌, cond, reverse, length, set, ap, ◌∙◌}
use Rattle.pile.specs.Pile.{items}
use Rattle.machine.specs.Machine.{row}
use Rattle.engine.proofs.TopFirst.{replaced_is}
use Rattle.engine.proofs.perform.stay.Goals as goal

pub returns-clause-after : goal.returns-clause-after
returns-clause-after c = λ ρ is.
    let xs = items c.args.rows.now in
    let x = row c.args.top.node c.args.stage in
    ap reverse c.replace_top.ensures.after
    ∙ ap (λ b. reverse (cond b (set xs (length xs - 1) x) xs)) c.replace_top.ensures.answer
    ∙ replaced_is xs _ x _ is
