-- A census counts as much as was found not to be too much.
use Rattle.std.proofs.Common.{◌≤◌, ◌^◌, true, arith}
use Rattle.reh_census.specs.Counting.{count_ensembles_in, count_in, count_tails_in}
use Rattle.reh_tally.proofs.counts.census_of_few_counts.Goals as goal

pub of-requires : goal.of-requires
of-requires c =
    let entries : count_in c.in_ok-entries.entries.items (λ _. true) ≤ 2 ^ 63 =
    omega (arith, c.in_ok-entries.ensures.counts (λ _. true), c.requires.few.entries) in
    let tails : count_tails_in c.in_ok-tails.tails.items (λ _. true) ≤ 2 ^ 63 =
    omega (arith, c.in_ok-tails.ensures.counts (λ _. true), c.requires.few.tails) in
    let ensembles : count_ensembles_in c.in_ok-ensembles.ensembles.items (λ _. true) ≤ 2 ^ 63 =
    omega (arith, c.in_ok-ensembles.ensures.counts (λ _. true), c.requires.few.ensembles) in
    record {
      entries = entries;
      tails = tails;
      ensembles = ensembles;
      not_judged = c.requires.not_judged;
      well_formed = c.in_ok-tails.ensures.well_formed;
    }
