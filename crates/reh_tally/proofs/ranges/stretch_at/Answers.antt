use Rattle.std.proofs.Common.{◌∙◌, ◌+◌, ◌≤◌, get_or, arith}
use Rattle.reh_census.specs.declared.ledgers.Range.{Range}
use Rattle.reh_tally.proofs.RangeLaws.{all-passed, begun, first-decides}
use Rattle.reh_tally.proofs.ranges.stretch_at.Goals as goal

pub returns-then-index-ranges-clause-same : goal.returns-then-index-ranges-clause-same
returns-then-index-ranges-clause-same c =
    let z : Range = record { first = 0; last = 0 } in
    let range : Range = get_or c.args.ranges.now c.args.index z in
    let here : c.args.at ≤ range.last = c.requires.here z c.if-index-ranges.true in
    let near : c.next_after.result ≤ range.last + 1 =
    c.next_after.ensures.near (c.requires.rising.some c.args.index z c.if-index-ranges.true) here in
    record {
      passed = c.requires.passed;
      same = λ entry from below.
          first-decides c.args.ranges.now c.args.index c.args.at entry z c.requires.rising c.if-index-ranges.true c.requires.passed from
          (omega (arith, below, near))
          ∙ c.next_after.ensures.same entry from below
          ∙ begun range.first range.last c.args.at here;
    }

pub returns-clause-same : goal.returns-clause-same
returns-clause-same c = record {
  passed = c.requires.passed;
  same = λ entry from below.
      all-passed c.args.ranges.now c.args.index c.args.at entry c.if-index-ranges.false c.requires.passed from;
}
