use Rattle.std.proofs.Common.{length}
use Rattle.reh_commands.proofs.words.+read_words.Given as goal

-- proposed from what the function passes where it calls itself
abbrev pub decreases-read_words : goal.decreases-read_words
decreases-read_words l = length l.roles.now
