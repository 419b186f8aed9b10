use Rattle.std.proofs.Common.{◌≡◌, Some, sym, subst, arith, eqb-true}
use borrow.Author.Tests.{eqb-false}
use Rattle.book.specs.Names.{after_names}
use Rattle.book.specs.Faults.{wrong_name_in}
use Rattle.book.proofs.Counts.{none_more}
use Rattle.book.proofs.Firsts.{after_more, name_right, names_left, names_over}
use Rattle.book.proofs.names.check_names_in.Goals as goal

pub loop-n-preserved : goal.loop-n-preserved
loop-n-preserved c = (
  after_more c.loop-n.n c.args.bytes.now _ _ _ c.loop-n.invariant.0 c.in-Some.ensures.steps,
  none_more (wrong_name_in c.args.count c.args.bytes.now) c.loop-n.n c.loop-n.invariant.1
      (name_right c.args.count c.loop-n.n c.args.bytes.now _ _ _ (omega arith) c.loop-n.invariant.0 c.in-Some.ensures.steps (sym c.if-is_among.ensures)),
)

pub returns-then-is_empty : goal.returns-then-is_empty
returns-then-is_empty c =
    let all : c.loop-n.n ≡ c.args.count = omega arith in
    let here = subst (λ n. after_names n c.args.bytes.now ≡ Some c.loop-n.names.rest.now) all c.loop-n.invariant.0 in
    names_over c.args.count c.args.bytes.now c.loop-n.names.rest.now here (eqb-true _ _ (sym c.if-is_empty.ensures)) (λ k low. c.loop-n.invariant.1 k (omega arith))

pub returns-else-is_empty : goal.returns-else-is_empty
returns-else-is_empty c =
    let all : c.loop-n.n ≡ c.args.count = omega arith in
    let here = subst (λ n. after_names n c.args.bytes.now ≡ Some c.loop-n.names.rest.now) all c.loop-n.invariant.0 in
    (names_left c.args.count c.args.bytes.now c.loop-n.names.rest.now here (omega (arith, eqb-false _ _ (sym c.if-is_empty.ensures))), λ k low. c.loop-n.invariant.1 k (omega arith))
