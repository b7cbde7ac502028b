use Rattle.std.proofs.Common.{◌∙◌, ◌∷◌, ◌++◌, [], List, ap, sym, subst, take}
use Rattle.std.proofs.lemmas.List.{take_more}
use Rattle.reh_census.specs.Counting.{count_in}
use Rattle.reh_census.specs.declared.classes.Counted.{Counted}
use Rattle.reh_waves.specs.Fewest.{AreFewest}
use Rattle.reh_waves.proofs.fewest.fewest_copies.Goals as goal

pub loop-counted-preserved : goal.loop-counted-preserved
loop-counted-preserved c =
    subst (λ (entries : List Counted). AreFewest (count_in entries) c.fewest_with-fewest.result)
    (ap (λ (x : Counted). take c.loop-counted.counted-index c.args.entries.now ++ x ∷ []) c.counted-item.is
    ∙ sym (take_more c.args.entries.now c.loop-counted.counted-index c.counted-item.result c.loop-counted-test.true))
    (c.fewest_with-fewest.ensures (take c.loop-counted.counted-index c.args.entries.now) c.loop-counted.invariant)
