use Rattle.std.proofs.Common.{length}
use Rattle.reh_commands.proofs.words.+can_name.Given as goal

-- proposed from what the function passes where it calls itself
abbrev pub decreases-can_name : goal.decreases-can_name
decreases-can_name l = length l.roles.now
