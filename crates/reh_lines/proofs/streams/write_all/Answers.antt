use Rattle.std.proofs.Common.{◌++◌, take, rules}
use Rattle.std.proofs.KnownBytes.{Appends-trans}
use Rattle.reh_lines.proofs.Gathering.{grows_on, sent_more}
use Rattle.reh_lines.proofs.streams.write_all.Goals as goal

pub loop-rest-preserved : goal.loop-rest-preserved
loop-rest-preserved g c =
    let was = c.loop-rest.invariant.sent in
    record {
      sent = (
        was.0 ++ take c.in_ok-count.count c.loop-rest.rest.now,
        sent_more was.0 c.loop-rest.rest.now _ c.in_ok-count.count was.1,
        Appends-trans _ _ _ _ _ was.2 c.in_ok-count.ensures.bytes,
      );
      seen = grows_on _ _ _ c.loop-rest.invariant.seen c.put.ensures.seen;
      fine = search rules;
    }

pub returns-in_err-count-clause-seen : goal.returns-in_err-count-clause-seen
returns-in_err-count-clause-seen g c = grows_on _ _ _ c.loop-rest.invariant.seen c.put.ensures.seen
