use Rattle.std.proofs.Common.{refl}
use Rattle.std.specs.Fmt.{digits}
use Rattle.store.specs.Meaning.{store}
use Rattle.slips.specs.Text.{joined, each}
use Rattle.slips.specs.Slip.{has, noted, all_noted, turns, label, cell_words, cell_text, record_line, value_words, value_lines, first_line, printed}
use Rattle.slips.proofs.specimens_are_printed.Goals as goal

pub returns : goal.returns
unfolding digits store joined each has noted all_noted turns label cell_words cell_text record_line value_words value_lines first_line printed
returns c = record { unfinished = refl; on_null = refl; negative = refl; truth = refl; nothing = refl; tide = refl; bytes = refl; turns = refl }
