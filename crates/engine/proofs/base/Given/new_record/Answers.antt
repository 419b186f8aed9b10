use Rattle.std.proofs.Common.{map, sym, refl, ap, ◌∙◌}
use Rattle.std.specs.Option.{option_map}
use Rattle.store.specs.Meaning.{store}
use Rattle.checked.specs.Checked.{part_of, named_field}
use Rattle.engine.specs.Runs.{given_by}
use Rattle.engine.proofs.Made.{no_class, no_room, makes_one}
use Rattle.engine.proofs.base.Given.new_record.Goals as goal

pub returns-in_err-class : goal.returns-in_err-class
returns-in_err-class g c = λ R n ρ is.
    let m = g.S.ObjectStore.means c.args.objects.now in
    let d = c.args.self.now.book.now.decoded in
    rw c.from_residual.ensures (no_class (given_by R c.args.self.now n) c.args.k c.args.class c.args.around ρ is (store m) (sym c.class.ensures ∙ ap (option_map (part_of d)) c.in_err-class.was), refl, refl)

pub returns-in-Some : goal.returns-in-Some
returns-in-Some g c = λ R n ρ is.
    let p = part_of c.args.self.now.book.now.decoded c.in_ok-class.field-0 in
    makes_one (given_by R c.args.self.now n) c.args.k c.args.class c.args.around ρ is p (map named_field c.fields.result.now) c.in_ok-class.ensures c.fields.ensures.value
    (g.S.ObjectStore.means c.args.objects.now) (g.S.ObjectStore.means c.make.new.objects) c.in-Some.handle c.in-Some.ensures (g.met.S.ObjectStore.sound c.make.new.objects).bounded

pub returns-in-None : goal.returns-in-None
returns-in-None g c = λ R n ρ is.
    let p = part_of c.args.self.now.book.now.decoded c.in_ok-class.field-0 in
    let refused = c.in-None.ensures in (
      no_room (given_by R c.args.self.now n) c.args.k c.args.class c.args.around ρ is p (map named_field c.fields.result.now) c.in_ok-class.ensures c.fields.ensures.value
          (g.S.ObjectStore.means c.args.objects.now) (g.S.ObjectStore.means c.make.new.objects) refused,
      refl,
      ap store refused.1,
    )
