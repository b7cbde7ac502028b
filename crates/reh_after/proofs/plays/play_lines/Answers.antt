-- One line more was accepted, or it is the first that isn't.
use Rattle.std.proofs.Common.{sym, arith}
use Rattle.reh_after.proofs.AfterLaws.{all_accepted, first_refused, none_before, none_left, one_more, passed_on}
use Rattle.reh_after.proofs.plays.play_lines.Goals as goal

pub loop-rest-init : goal.loop-rest-init
loop-rest-init c = (none_before _ _ _, omega (arith))

pub loop-rest-preserved : goal.loop-rest-preserved
loop-rest-preserved c = (
  one_more _ _ _ _ _ _ _ _ _ c.loop-rest.invariant.0 c.first_line.ensures.lines c.in_ok-play_line.ensures.played,
  omega (arith, c.loop-rest.invariant.1, c.first_line.ensures.shorter),
)

pub returns-in_err-play_line-clause-fault : goal.returns-in_err-play_line-clause-fault
returns-in_err-play_line-clause-fault c =
    passed_on c.from_residual.result _ c.in_err-play_line.field-0.0 c.from_residual.ensures.1
    (first_refused _ _ _ _ _ _ _ _ _ c.loop-rest.invariant.0 c.first_line.ensures.lines c.in_err-play_line.ensures.fault)

pub returns-clause-played : goal.returns-clause-played
returns-clause-played c = all_accepted _ _ _ _ _ _ c.loop-rest.invariant.0 (none_left c.loop-rest.rest.now (sym c.loop-rest-test.ensures))
