use Rattle.std.proofs.Common.{rules}
use Rattle.std.proofs.KnownBytes.{Keeps-trans}
use Rattle.reh_lines.proofs.Gathering.{grows_on, gathered_sent}
use Rattle.reh_lines.proofs.gathered.Gathered.send.Goals as goal

pub returns-in_err-count-clause-seen : goal.returns-in_err-count-clause-seen
returns-in_err-count-clause-seen g c = grows_on _ _ _ c.loop-self.invariant.seen c.put.ensures.seen

pub loop-self-preserved : goal.loop-self-preserved
loop-self-preserved g c = record {
  bytes = rw c.remove_front.ensures (Keeps-trans _ _ _ c.loop-self.invariant.bytes
      (gathered_sent _ _ c.loop-self.self.kept.items c.in_ok-count.count
      (rw c.deref.ensures.value at c.in_ok-count.ensures.bytes)));
  seen = grows_on _ _ _ c.loop-self.invariant.seen c.put.ensures.seen;
  fine = search rules;
}
