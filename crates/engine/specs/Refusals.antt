-- The refusals of begin and advance, each with its number and its place.
use Rattle.std.specs.Prelude.{ℕ}
use Rattle.book.specs.declared.fault.Refusal.{Refusal}
use Rattle.engine.specs.declared.refused.Refused.{Refused}
use Rattle.engine.specs.declared.refused.Refused.TheVariants.{StoreHasRecords, WrongRows, Misfit, TooFar}

abbrev pub number : Refused → ℕ
number StoreHasRecords = 21
number WrongRows = 22
number Misfit = 23
number TooFar = 24

-- What a caller brings on has the place 0.
abbrev pub refusal : Refused → Refusal
refusal f = record { number = number f; place = 0 }
