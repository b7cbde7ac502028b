use Rattle.std.proofs.Common.{◌∙◌, ℕ, All, List, map, ap, sym, subst, length}
use Rattle.reh_census.specs.Bookies.{bookies_of, holders}
use Rattle.reh_census.specs.Counting.{Counting, count_in, count_tails_in, counting_in, not_judged}
use Rattle.reh_census.specs.declared.censuses.CountedTail.{CountedTail}
use Rattle.reh_census.specs.declared.classes.Counted.{Counted}
use Rattle.reh_waves.specs.Fewest.{AreFewest, AreLeastSpare}
use Rattle.reh_waves.specs.Losses.{AreRanked, IsWithin, loss_on}
use Rattle.reh_waves.specs.Risk.{IsRisk, pairs_if}
use Rattle.reh_waves.specs.declared.losses.Loss.{Loss}
use Rattle.reh_waves.specs.declared.losses.Lost.{Lost}
use Rattle.reh_waves.specs.declared.losses.Lost.TheVariants.{Bookie}
use Rattle.reh_waves.proofs.RiskLaws.{bookies-within, counting-same, loss-once, pairs-within, racks-within}
use Rattle.reh_waves.proofs.risk.risk_of.Goals as goal

pub rank-requires-clause-lost : goal.rank-requires-clause-lost
rank-requires-clause-lost c =
    subst (λ (lost : List Lost). All (IsWithin (length c.args.bookies.now)) lost)
    (sym
    (c.in_ok-each_two.ensures
    ∙ ap (λ (bs : List ℕ). pairs_if c.args.with_pairs bs) (c.deref.ensures.value ∙ c.in_ok-registered.ensures)))
    (pairs-within c.args.bookies.now c.args.order.now c.args.with_pairs)

pub rank-requires-2-clause-lost : goal.rank-requires-2-clause-lost
rank-requires-2-clause-lost c =
    subst (λ (lost : List Lost). All (IsWithin (length c.args.bookies.now)) lost)
    (sym
    (c.in_ok-each_one.ensures
    ∙ ap (λ (bs : List ℕ). map (λ b. Bookie b) bs) (c.deref-2.ensures.value ∙ c.in_ok-registered.ensures)))
    (bookies-within c.args.bookies.now c.args.order.now)

pub rank-requires-3-clause-lost : goal.rank-requires-3-clause-lost
rank-requires-3-clause-lost c =
    subst (λ (lost : List Lost). All (IsWithin (length c.args.bookies.now)) lost) (sym c.in_ok-by_rack.ensures)
    (racks-within (length c.args.bookies.now) c.args.racks.now)

pub rank-requires-3-clause-largest : goal.rank-requires-3-clause-largest
rank-requires-3-clause-largest c = c.largest_of-largest.ensures.largest

pub rank-requires-3-clause-well_formed : goal.rank-requires-3-clause-well_formed
rank-requires-3-clause-well_formed c = c.largest_of-largest.ensures.well_formed

pub rank-requires-clause-largest : goal.rank-requires-clause-largest
rank-requires-clause-largest c = c.largest_of-largest.ensures.largest

pub rank-requires-clause-well_formed : goal.rank-requires-clause-well_formed
rank-requires-clause-well_formed c = c.largest_of-largest.ensures.well_formed

pub rank-requires-2-clause-largest : goal.rank-requires-2-clause-largest
rank-requires-2-clause-largest c = c.largest_of-largest.ensures.largest

pub rank-requires-2-clause-well_formed : goal.rank-requires-2-clause-well_formed
rank-requires-2-clause-well_formed c = c.largest_of-largest.ensures.well_formed

pub returns-clause-census : goal.returns-clause-census
returns-clause-census c =
    let f : Lost → Loss =
    loss_on (counting_in c.args.census.now) (bookies_of c.args.bookies.now) c.args.question.now (not_judged c.args.census.now.judged) in
    record {
      fewest =
          subst (λ (entries : List Counted). AreFewest (count_in entries) c.fewest_copies.result) c.entries.ensures.entries c.fewest_copies.ensures;
      fewest_tails =
          subst (λ (tails : List CountedTail). AreLeastSpare (count_tails_in tails) (bookies_of c.args.bookies.now) c.least_spare.result)
          c.tails.ensures.tails c.least_spare.ensures;
      each_bookie =
          subst (λ (lost : List Lost). AreRanked (map f lost) c.in_ok-alone.alone.items)
          (c.in_ok-each_one.ensures
          ∙ ap (λ (bs : List ℕ). map (λ b. Bookie b) bs) (c.deref-2.ensures.value ∙ c.in_ok-registered.ensures))
          c.in_ok-alone.ensures;
      each_rack =
          subst (λ (lost : List Lost). AreRanked (map f lost) c.in_ok-rank.field-0.items) c.in_ok-by_rack.ensures
          c.in_ok-rank.ensures;
      each_pair =
          subst (λ (lost : List Lost). AreRanked (map f lost) c.in_ok-pairs.pairs.items)
          (c.in_ok-each_two.ensures
          ∙ ap (λ (bs : List ℕ). pairs_if c.args.with_pairs bs) (c.deref.ensures.value ∙ c.in_ok-registered.ensures))
          c.in_ok-pairs.ensures;
      unjudged = c.not_judged.ensures;
    }

pub returns-clause-ledgers : goal.returns-clause-ledgers
returns-clause-ledgers c ledgers counts =
    subst
    (λ (counting : Counting). IsRisk counting (bookies_of c.args.bookies.now) c.args.question.now (not_judged c.args.census.now.judged)
    c.args.order.now c.args.racks.now c.args.with_pairs (record {
      fewest_copies = c.fewest_copies.result;
      fewest_in_tails = c.least_spare.result;
      bookies = c.in_ok-alone.alone;
      racks = c.in_ok-rank.field-0;
      pairs = c.in_ok-pairs.pairs;
      not_judged = c.not_judged.result;
    }))
    (counting-same c.args.census.now (holders (bookies_of c.args.bookies.now)) ledgers counts)
    (returns-clause-census c)

pub returns-clause-once : goal.returns-clause-once
returns-clause-once c b =
    loss-once (counting_in c.args.census.now) c.args.bookies.now c.args.question.now (not_judged c.args.census.now.judged) c.args.order.now
    c.in_ok-alone.alone.items c.requires (returns-clause-census c).each_bookie.permutation b
