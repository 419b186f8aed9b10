use Rattle.std.proofs.Common.{sym, ap, ◌∙◌}
use Rattle.store.specs.Meaning.{store}
use Rattle.checked.specs.Checked.{book_of, meth}
use Rattle.std.specs.Option.{option_map}
use Rattle.engine.proofs.Recorded.{no_method, a_method}
use Rattle.engine.proofs.base.Given.method_of.Goals as goal

pub returns-in_err-class : goal.returns-in_err-class
returns-in_err-class g c = ap (option_map meth) c.from_residual.ensures ∙ sym (no_method (book_of c.args.self.now.book.now) (store (g.S.ObjectStore.means c.args.objects.now)) c.args.handle c.args.name (sym c.class_of.ensures ∙ c.in_err-class.was))

pub returns : goal.returns
returns g c = c.method.ensures ∙ sym (a_method (book_of c.args.self.now.book.now) (store (g.S.ObjectStore.means c.args.objects.now)) c.args.handle c.in_ok-class.class c.args.name (sym c.class_of.ensures ∙ c.in_ok-class.was))
