use Rattle.std.proofs.Common.{arith, below_more}
use Rattle.checked.specs.Checked.{decoded_book}
use Rattle.checked.specs.Methods.{MethodsTyped}
use Rattle.checked.proofs.methods.check_classes.Goals as goal

pub loop-c-preserved : goal.loop-c-preserved
loop-c-preserved c = below_more (MethodsTyped (decoded_book c.args.book.now)) c.loop-c.c c.loop-c.invariant c.in_ok-check_class.ensures

pub returns : goal.returns
returns c k low = c.loop-c.invariant k (omega arith)
