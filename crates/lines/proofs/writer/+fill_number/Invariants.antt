use Rattle.lines.proofs.writer.+fill_number.Given as goal

-- proposed from what the function passes where it calls itself
abbrev pub decreases-fill_number : goal.decreases-fill_number
decreases-fill_number l = l.v
