use Rattle.std.proofs.Common.{sym, ap, ◌∙◌, arith}
use Rattle.checked.proofs.Repeating.{members}
use Rattle.checked.proofs.names.repeated_member.Goals as goal

pub returns : goal.returns
returns c =
    let all = ap (λ n. n.classes) c.counts-counts.ensures in
    let own = ap (λ n. n.fields) c.counts-counts.ensures in
    rw c.or.ensures
    (members c.args.book.now c.args.c c.in_ok-class.class (sym c.class.ensures ∙ c.in_ok-class.was) _ _ _ _ (omega arith) (omega arith) c.fields_of.ensures.value c.methods_of.ensures.value c.repeated_from-field.result c.repeated_from-method.result c.repeated_from-field.ensures c.repeated_from-method.ensures)
