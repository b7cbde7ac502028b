-- One number more.
use Rattle.std.proofs.Common.{[], ◌∷◌, ◌++◌, ◌∙◌, ap, sym, map, get_or, take, arith}
use Rattle.std.proofs.lemmas.List.{map-append, take_more}
use Rattle.reh_inputs.specs.United.{number_of}
use Rattle.reh_inputs.proofs.RangeLaws.{at_place}
use Rattle.reh_inputs.proofs.files.numbers_in.Goals as goal

pub loop-bookie-preserved : goal.loop-bookie-preserved
loop-bookie-preserved c =
    let names = c.args.names.now in
    let named = c.args.named.now in
    let k = c.loop-bookie.bookie in
    c.in_ok-push.ensures.items
    ∙ (λ i. c.loop-bookie.invariant i
    ++ (c.number_at.ensures ∙ at_place (number_of names) 65535 [] named k (omega (arith, c.loop-bookie-test.true, c.len-bookie-end.ensures.count))) i ∷ [])
    ∙ sym (ap (map (number_of names)) (take_more named k [] (omega (arith, c.loop-bookie-test.true, c.len-bookie-end.ensures.count)))
    ∙ map-append (number_of names) (take k named) (get_or named k [] ∷ []))
