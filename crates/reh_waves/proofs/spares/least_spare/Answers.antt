use Rattle.std.proofs.Common.{◌∙◌, ◌∷◌, ◌++◌, [], List, ap, sym, subst, take}
use Rattle.std.proofs.lemmas.List.{take_more}
use Rattle.reh_census.specs.Bookies.{bookies_of}
use Rattle.reh_census.specs.Counting.{count_tails_in}
use Rattle.reh_census.specs.declared.censuses.CountedTail.{CountedTail}
use Rattle.reh_waves.specs.Fewest.{AreLeastSpare}
use Rattle.reh_waves.proofs.spares.least_spare.Goals as goal

pub loop-counted-preserved : goal.loop-counted-preserved
loop-counted-preserved c =
    subst (λ (tails : List CountedTail). AreLeastSpare (count_tails_in tails) (bookies_of c.args.bookies.now) c.least_with-least.result)
    (ap (λ (x : CountedTail). take c.loop-counted.counted-index c.args.tails.now ++ x ∷ []) c.counted-item.is
    ∙ sym (take_more c.args.tails.now c.loop-counted.counted-index c.counted-item.result c.loop-counted-test.true))
    (c.least_with-least.ensures (take c.loop-counted.counted-index c.args.tails.now) c.loop-counted.invariant)
