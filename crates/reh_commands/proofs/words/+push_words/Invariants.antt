use Rattle.std.proofs.Common.{length}
use Rattle.reh_commands.proofs.words.+push_words.Given as goal

-- proposed from what the function passes where it calls itself
abbrev pub decreases-push_words : goal.decreases-push_words
decreases-push_words l = length l.roles.now
