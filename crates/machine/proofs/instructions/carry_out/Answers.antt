-- An operation's clause holds at any position behind it.
use Rattle.machine.proofs.instructions.carry_out.Goals as goal

pub returns-in-6-to-10 : goal.returns-in-6-to-10
returns-in-6-to-10 c = c.asked.ensures _
