use Rattle.std.proofs.Common.{sym, ◌∙◌}
use Rattle.store.specs.Meaning.{store}
use Rattle.checked.specs.Checked.{book_of}
use Rattle.engine.proofs.Recorded.{no_place, a_place}
use Rattle.engine.proofs.base.Given.place_of.Goals as goal

pub returns-in_err-class : goal.returns-in_err-class
returns-in_err-class g c = c.from_residual.ensures ∙ sym (no_place (book_of c.args.self.now.book.now) (store (g.S.ObjectStore.means c.args.objects.now)) c.args.handle c.args.name (sym c.class_of.ensures ∙ c.in_err-class.was))

pub returns : goal.returns
returns g c = c.field_place.ensures ∙ sym (a_place (book_of c.args.self.now.book.now) (store (g.S.ObjectStore.means c.args.objects.now)) c.args.handle c.in_ok-class.class c.args.name (sym c.class_of.ensures ∙ c.in_ok-class.was))
