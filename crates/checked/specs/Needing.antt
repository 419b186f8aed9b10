-- A type that must be the one that is wanted.
use Rattle.std.specs.Prelude.{cond, Ok, Err, Result}
use Rattle.book.specs.declared.node.«Type».{«Type» as BType}
use Rattle.checker.specs.declared.fault.TypeFault.{TypeFault}
use Rattle.checker.specs.Checking.{same}

-- What was found must be the type u; else there is the fault f.
abbrev pub needs : Result BType TypeFault → BType → TypeFault → Result (Unit {0}) TypeFault
needs (Err e) u f = Err e
needs (Ok t) u f = cond (same t u) (Ok tt) (Err f)
