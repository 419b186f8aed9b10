use Rattle.std.proofs.Common.{◌≡◌, map, take}
use Rattle.checked.specs.Checked.{named_field}
use Rattle.machine.specs.Fields.{first_values}
use Rattle.engine.proofs.make.fill.Given as goal

abbrev pub invariant-loop-i : goal.invariant-loop-i
invariant-loop-i l = take l.i l.values ≡ take l.i (first_values (map named_field l.fields))
