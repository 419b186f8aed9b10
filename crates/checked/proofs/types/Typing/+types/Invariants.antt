use Rattle.std.proofs.Common.{◌+◌, ◌*◌, max}
use Rattle.checked.proofs.types.Typing.+types.Given as goal

-- a call lies between its node and the parts that it looks at, and a part's test between a call and the part
abbrev pub decreases-call : goal.decreases-call
decreases-call l = 3 * max l.target l.argument + 2

abbrev pub decreases-class_part : goal.decreases-class_part
decreases-class_part l = 3 * l.part + 1

abbrev pub decreases-type_of : goal.decreases-type_of
decreases-type_of l = 3 * l.k

abbrev pub decreases-typed_part : goal.decreases-typed_part
decreases-typed_part l = 3 * l.part + 1
