-- One bookie more is written.
use Rattle.std.proofs.Common.{◌∙◌, ◌++◌, ◌∷◌, [], sym, arith}
use Rattle.std.proofs.lemmas.List.{map-append}
use Rattle.std.proofs.lemmas.List.FromFn.{map-range_with_len_more}
use Rattle.serde_json.specs.View.{view}
use Rattle.reh_picture_out.specs.Written.{bookie_data_at}
use Rattle.reh_picture_out.proofs.bookies.bookie_values.Goals as goal

pub loop-bookie-preserved : goal.loop-bookie-preserved
loop-bookie-preserved c =
    rw c.in_ok-push.ensures.items
    (map-append view c.loop-bookie.values.items _
    ∙ (λ i. c.loop-bookie.invariant i ++ c.in_ok-bookie_value_at.ensures i ∷ [])
    ∙ sym (map-range_with_len_more (bookie_data_at c.args.state.now c.args.marks.now) 0 c.loop-bookie.bookie c.loop-bookie.bookie (omega arith)))
