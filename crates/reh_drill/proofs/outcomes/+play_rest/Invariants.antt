use Rattle.std.proofs.Common.{vec_len}
use Rattle.reh_drill.proofs.outcomes.+play_rest.Given as goal

abbrev pub decreases-play_rest : goal.decreases-play_rest
decreases-play_rest g l = vec_len l.seats.now
