use Rattle.std.proofs.Common.{◌≡◌, ◌∷◌, ◌++◌, ◌+◌, map, codes, decimal}
use Rattle.reh_drill.specs.Drills.{transcript_of, transcripts_from}
use Rattle.reh_drill.proofs.Writing.{writes_failed, writes_then}
use Rattle.reh_drill.proofs.drills.+write_transcripts.Goals as goal

pub returns-in_err-write_heading-clause-written : goal.returns-in_err-write_heading-clause-written
returns-in_err-write_heading-clause-written g t c =
    let split : c.args.outcomes.now ≡ c.in-Some.outcome.now ∷ c.in-Some.others.now = c.in-Some.ensures.cases.0 in
    rw split
    (writes_failed _ c.from_residual.result c.in_err-write_heading.field-0.0
    (codes "operator " ++ (decimal c.args.number ++ codes "\n"))
    (transcript_of c.in-Some.outcome.now
    ++ transcripts_from (c.args.number + 1) (map transcript_of c.in-Some.others.now)) _ _ c.from_residual.ensures.1
    c.in_err-write_heading.ensures.written)

pub returns-in_err-write_transcript-clause-written : goal.returns-in_err-write_transcript-clause-written
returns-in_err-write_transcript-clause-written g t c =
    let split : c.args.outcomes.now ≡ c.in-Some.outcome.now ∷ c.in-Some.others.now = c.in-Some.ensures.cases.0 in
    rw split
    (writes_then c.from_residual-in_err-write_transcript.result
    (codes "operator " ++ (decimal c.args.number ++ codes "\n"))
    (transcript_of c.in-Some.outcome.now
    ++ transcripts_from (c.args.number + 1) (map transcript_of c.in-Some.others.now)) _ _ _
    c.in_ok-write_heading.ensures.written
    (writes_failed _ c.from_residual-in_err-write_transcript.result c.in_err-write_transcript.field-0.0
    (transcript_of c.in-Some.outcome.now)
    (transcripts_from (c.args.number + 1) (map transcript_of c.in-Some.others.now)) _ _
    c.from_residual-in_err-write_transcript.ensures.1 c.in_err-write_transcript.ensures.written))

pub returns-clause-written : goal.returns-clause-written
returns-clause-written g t c =
    let split : c.args.outcomes.now ≡ c.in-Some.outcome.now ∷ c.in-Some.others.now = c.in-Some.ensures.cases.0 in
    rw split
    (writes_then c.write_transcripts.result (codes "operator " ++ (decimal c.args.number ++ codes "\n"))
    (transcript_of c.in-Some.outcome.now
    ++ transcripts_from (c.args.number + 1) (map transcript_of c.in-Some.others.now)) _ _ _
    c.in_ok-write_heading.ensures.written
    (writes_then c.write_transcripts.result (transcript_of c.in-Some.outcome.now)
    (transcripts_from (c.args.number + 1) (map transcript_of c.in-Some.others.now)) _ _ _
    c.in_ok-write_transcript.ensures.written c.write_transcripts.ensures.written))
