-- One flag more; there are as many as bookies.
use Rattle.std.proofs.Common.{◌∙◌, ◌++◌, ◌∷◌, [], sym, ap, map, length, arith, ◌-◌}
use Rattle.std.proofs.lemmas.List.FromFn.{length-range_with_len}
use Rattle.std.proofs.lemmas.List.{length-map, map-append}
use Rattle.reh_census.specs.Striping.{range}
use Rattle.reh_inputs.proofs.RangeLaws.{range-more}
use Rattle.reh_stop.specs.Named.{is_stopped}
use Rattle.reh_stop.proofs.named.stopped_of.Goals as goal

pub loop-bookie-preserved : goal.loop-bookie-preserved
loop-bookie-preserved c =
    let test = is_stopped c.args.cluster.now c.args.words.now c.args.racks.now in
    let b = c.loop-bookie.bookie in
    c.in_ok-push.ensures.items
    ∙ (λ i. c.loop-bookie.invariant i ++ c.is_stopped.ensures i ∷ [])
    ∙ sym (ap (map test) (range-more b) ∙ map-append test (range 0 b) (b ∷ []))

pub of-requires : goal.of-requires
of-requires c =
    let test = is_stopped c.args.cluster.now c.args.words.now c.args.racks.now in
    let b = c.loop-bookie.bookie in
    omega (
      arith,
      ap length c.loop-bookie.invariant,
      length-map (range 0 b) test,
      length-range_with_len 0 (b - 0),
      c.loop-bookie.auto.bookie-end,
      c.len-bookie-end.ensures.count,
      c.len-bookie-end.ensures.limit,
    )
