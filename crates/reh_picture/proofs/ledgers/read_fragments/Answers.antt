-- One fragment more is read, and its first entry is within the limit.
use Rattle.std.proofs.Common.{◌<◌}
use Rattle.std.proofs.lemmas.List.Elements.{All-push}
use Rattle.reh_types.specs.declared.limits.TheConstants.{ENTRY_END}
use Rattle.reh_picture.proofs.Lists.{HasMade-next}
use Rattle.reh_picture.proofs.ledgers.read_fragments.Goals as goal

pub loop-i-preserved : goal.loop-i-preserved
loop-i-preserved c = record {
  made =
      HasMade-next _ _ c.args.values.now c.loop-i.i c.index-values-i.result c.loop-i-test.true c.index-values-i.is
      c.loop-i.fragments.items _ c.loop-i.invariant.made c.in_ok-read_fragment.ensures.fault
      (rw (← c.in_ok-read_fragment.ensures.fragment) c.in_ok-push.ensures.items);
  firsts =
      rw c.in_ok-push.ensures.items
      (All-push (λ f. f.first < ENTRY_END) c.loop-i.fragments.items _ c.loop-i.invariant.firsts
      c.in_ok-read_fragment.ensures.first);
}
