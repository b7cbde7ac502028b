use Rattle.std.proofs.Common.{length}
use Rattle.reh_drill.proofs.drills.+write_transcripts.Given as goal

abbrev pub decreases-write_transcripts : goal.decreases-write_transcripts
decreases-write_transcripts g l = length l.outcomes.now
