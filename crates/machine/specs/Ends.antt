-- The ends of a run, each with its number and its node.
use Rattle.std.specs.Prelude.{ℕ, cond, Option, Some, None, nat_lt}
use Rattle.machine.specs.declared.state.End.{End}
use Rattle.machine.specs.declared.state.End.TheVariants.{Unfinished, Finished, NullTarget, NoReading, BeyondEnds, NoRoom, NoPlace}

-- 0 is finished, 1 not ended yet.
abbrev pub end_number : End → ℕ
end_number Unfinished = 1
end_number Finished = 0
end_number (NullTarget k) = 31
end_number (NoReading k) = 32
end_number (BeyondEnds k) = 33
end_number (NoRoom k) = 34
end_number (NoPlace k) = 35

-- The node of an end; 0 below end 31.
abbrev pub end_node : End → ℕ
end_node Unfinished = 0
end_node Finished = 0
end_node (NullTarget k) = k
end_node (NoReading k) = k
end_node (BeyondEnds k) = k
end_node (NoRoom k) = k
end_node (NoPlace k) = k

-- The node of an end; none below end 31.
abbrev pub ended_at : End → Option ℕ
ended_at e = cond (nat_lt (end_number e) 31) None (Some (end_node e))
