use Rattle.std.proofs.Common.{rules, arith}
use Rattle.reh_lines.proofs.ReadingOn.{reads_lines, reads_quiet, reads_past, given_front, quiet_until}
use Rattle.reh_lines.proofs.readings.read_on.Goals as goal

pub returns-then-ended-gt0-clause-read : goal.returns-then-ended-gt0-clause-read
returns-then-ended-gt0-clause-read g c =
    let was = c.loop-block.invariant.given in
    reads_lines c.args.script.now.items c.loop-block.script.items was.0 _ c.extend_from_slice.new.self.items
    c.whole_lines-ended.result.now c.len-before.result _ _ _ _ was.1 c.in_ok-extend_from_slice.ensures.items
    c.whole_lines-ended.ensures (search rules) (omega arith) was.2
    (given_front _ _ _ _ _ c.in-Ok.ensures.bound.0 c.in-Ok.ensures.bytes.0) (search rules)

pub loop-block-preserved : goal.loop-block-preserved
loop-block-preserved g c =
    let was = c.loop-block.invariant.given in
    record {
      given = reads_quiet c.args.script.now.items c.loop-block.script.items was.0 _ c.extend_from_slice.new.self.items
          c.whole_lines-ended.result.now _ _ _ was.1 c.in_ok-extend_from_slice.ensures.items
          c.whole_lines-ended.ensures (omega arith) was.2 was.3
          (given_front _ _ _ _ _ c.in-Ok.ensures.bound.0 c.in-Ok.ensures.bytes.0);
      fine = search rules;
      few = search rules;
      calls = search rules;
    }

pub returns-clause-read : goal.returns-clause-read
returns-clause-read g c =
    let was = c.loop-block.invariant.given in
    reads_past _ _ _ was.0 _ _ _ _ was.1 was.2 was.3 (omega arith) c.read_past.ensures.past

pub returns-in_default-clause-quiet : goal.returns-in_default-clause-quiet
returns-in_default-clause-quiet g c =
    quiet_until _ _ _ c.loop-block.invariant.given.0 c.loop-block.invariant.given.2 c.loop-block.invariant.given.3
    c.take.ensures.last

pub returns-then-count-eq0-clause-quiet : goal.returns-then-count-eq0-clause-quiet
returns-then-count-eq0-clause-quiet g c =
    quiet_until _ _ _ c.loop-block.invariant.given.0 c.loop-block.invariant.given.2 c.loop-block.invariant.given.3
    c.take.ensures.last

pub returns-in_err-extend_from_slice-clause-quiet : goal.returns-in_err-extend_from_slice-clause-quiet
returns-in_err-extend_from_slice-clause-quiet g c =
    quiet_until _ _ _ c.loop-block.invariant.given.0 c.loop-block.invariant.given.2 c.loop-block.invariant.given.3
    c.take.ensures.last

pub returns-then-ended-gt0-clause-quiet : goal.returns-then-ended-gt0-clause-quiet
returns-then-ended-gt0-clause-quiet g c =
    quiet_until _ _ _ c.loop-block.invariant.given.0 c.loop-block.invariant.given.2 c.loop-block.invariant.given.3
    c.take.ensures.last

pub returns-clause-quiet : goal.returns-clause-quiet
returns-clause-quiet g c =
    quiet_until _ _ _ c.loop-block.invariant.given.0 c.loop-block.invariant.given.2 c.loop-block.invariant.given.3
    c.read_past.ensures.last
