use Rattle.std.proofs.Common.{◌∙◌, List, map, ap, take_all}
use Rattle.reh_census.specs.Bookies.{bookies_of}
use Rattle.reh_census.specs.Counting.{counting_in, not_judged}
use Rattle.reh_waves.specs.Losses.{loss_on}
use Rattle.reh_waves.specs.declared.losses.Lost.{Lost}
use Rattle.reh_waves.proofs.RankLaws.{loss-more}
use Rattle.reh_waves.proofs.losses.losses_of.Goals as goal

pub loop-one-preserved : goal.loop-one-preserved
loop-one-preserved c =
    c.in_ok-push.ensures.items
    ∙ loss-more (counting_in c.args.census.now) (bookies_of c.args.bookies.now) c.args.question.now (not_judged c.args.census.now.judged)
    c.args.lost.now c.loop-one.one-index _ c.loop-one.losses.items c.in_ok-numbers.numbers c.loop-one-test.true c.loop-one.invariant
    c.in_ok-numbers.ensures

pub returns : goal.returns
returns c =
    c.loop-one.invariant
    ∙ ap (λ (lost : List Lost). map (loss_on (counting_in c.args.census.now) (bookies_of c.args.bookies.now) c.args.question.now (not_judged c.args.census.now.judged)) lost)
    (take_all c.loop-one.one-index c.args.lost.now c.loop-one-test.false)
