-- The parts are counted, and looked for among the names.
use Rattle.std.proofs.Common.{◌∙◌, ap, sym, arith}
use Rattle.std.specs.List.{list_all}
use Rattle.reh_stop.specs.Named.{is_name}
use Rattle.reh_stop.proofs.WordLaws.{alone, no-more, several}
use Rattle.reh_stop.proofs.named.is_ambiguous.Goals.{then-len-gt1, else-len-gt1}
use Rattle.reh_stop.proofs.named.is_ambiguous.Goals as goal

pub returns : goal.returns
returns c =
    let names = c.args.names.now in
    let word = c.args.word.now in
    let parts = c.in_ok-parts.parts.items in
    let named = sym c.if-not-is_name.ensures in
    elim c.if-len-gt1.branch [
      | then-len-gt1 w ↦ w.result-is ∙ w.are_names.ensures
          ∙ ap (λ ps. list_all (λ part. is_name names part.now) ps) w.deref.ensures.value
          ∙ sym (several names word parts named c.in_ok-parts.ensures (omega (arith, w.if-len-gt1.true, c.len.ensures)))
      | else-len-gt1 w ↦ w.result-is ∙ no-more c.len.result (omega (arith, w.if-len-gt1.false))
          ∙ sym (alone names word parts named c.in_ok-parts.ensures (omega (arith, w.if-len-gt1.false, c.len.ensures)))
    ]
