use Rattle.std.proofs.Common.{sym, ◌∙◌}
use Rattle.book.specs.Books.{bytes_of}
use Rattle.checked.proofs.Viewed.{roots_low}
use Rattle.checked.proofs.decode.method_at.Goals as goal

pub root_of-requires : goal.root_of-requires
root_of-requires c = (roots_low (bytes_of c.args.book.now) c.args.book.now.clear c.args.m c.in_ok-method.method (sym c.method.ensures ∙ c.in_ok-method.was)).0

pub root_of-requires-2 : goal.root_of-requires-2
root_of-requires-2 c = (roots_low (bytes_of c.args.book.now) c.args.book.now.clear c.args.m c.in_ok-method.method (sym c.method.ensures ∙ c.in_ok-method.was)).1
