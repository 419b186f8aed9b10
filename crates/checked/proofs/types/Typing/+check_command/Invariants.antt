use Rattle.checked.proofs.types.Typing.+check_command.Given as goal

abbrev pub decreases-check_command : goal.decreases-check_command
decreases-check_command l = l.k
