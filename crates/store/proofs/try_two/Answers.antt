use Rattle.std.proofs.Common.{◌≡◌, true, sym, ◌∙◌}
use Rattle.store.specs.Meaning.{store}
use Rattle.store.specs.Trying.{room_for_two}
use Rattle.store.specs.Numbered.{not_none, not_refused}
use Rattle.store.proofs.Trying.{Both, second_fits, both}
use Rattle.store.proofs.try_two.Goals.{After-put, In_ok-first}
use Rattle.store.proofs.try_two.Goals as goal

roomy : (g : _) (c : In_ok-first g) → room_for_two (store (g.S.ObjectStore.means c.args.objects.now)) ≡ true
roomy g c = sym c.has_room_for_two.ensures ∙ c.if-not-has_room_for_two.false

made : (g : _) (c : After-put g) → Both (store (g.S.ObjectStore.means c.args.objects.now)) c.args.class c.args.old c.args.new c.in_ok-first.first c.in_ok-second.second (store (g.S.ObjectStore.means c.put.new.self))
made g c = let second = c.in_ok-second.ensures in both _ _ _ _ _ _ _ _ _ _ c.in_ok-first.ensures.2 second.1 second.2 c.put.ensures.answer c.put.ensures.after

pub returns-in_err-second : goal.returns-in_err-second
returns-in_err-second g c = not_refused (sym (second_fits _ _ _ _ _ c.in_ok-first.ensures.2 (roomy g (goal.at.returns-in_err-second g c).In_ok-first)) ∙ c.in_err-second.ensures.0)

pub returns-in_err-value_at : goal.returns-in_err-value_at
returns-in_err-value_at g c = not_none (sym (c.in_err-value_at.ensures ∙ (made g (goal.at.returns-in_err-value_at g c).After-put).first))

pub returns-in_err-value_at-2 : goal.returns-in_err-value_at-2
returns-in_err-value_at-2 g c = not_none (sym (c.in_err-value_at-2.ensures ∙ (made g (goal.at.returns-in_err-value_at-2 g c).After-put).second))

pub returns : goal.returns
returns g c =
    let b = made g (goal.at.returns g c).After-put in
    (roomy g (goal.at.returns g c).In_ok-first, (cc (c.in_ok-value_at.ensures, b.first)), (cc (c.in_ok-value_at-2.ensures, b.second)), (_, _, c.in_ok-first.ensures.1, b.was_free, b.another, b.left))
