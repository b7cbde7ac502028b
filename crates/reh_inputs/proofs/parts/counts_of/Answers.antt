-- A census counts so much, and joining keeps the counts.
use Rattle.std.proofs.Common.{◌∙◌, refl, sym, true, true≢false, arith}
use Rattle.reh_census.specs.Bookies.{bookies_of, holders}
use Rattle.reh_tally.specs.Few.{AreFew}
use Rattle.reh_inputs.proofs.parts.counts_of.Goals as goal

pub merged-requires : goal.merged-requires
merged-requires c =
    let few : AreFew (holders (bookies_of c.args.bookies.now)) c.args.ledgers.now =
    (c.if-not-are_few.ensures (holders (bookies_of c.args.bookies.now))).0 refl in
    omega (arith, c.in_ok-entries_of.ensures (λ _. true), few.entries)

pub merged_tails-requires-clause-within : goal.merged_tails-requires-clause-within
merged_tails-requires-clause-within c =
    let few : AreFew (holders (bookies_of c.args.bookies.now)) c.args.ledgers.now =
    (c.if-not-are_few.ensures (holders (bookies_of c.args.bookies.now))).0 refl in
    omega (arith, c.in_ok-tails_of.ensures.counts (λ _. true), few.tails)

pub merged_ensembles-requires : goal.merged_ensembles-requires
merged_ensembles-requires c =
    let few : AreFew (holders (bookies_of c.args.bookies.now)) c.args.ledgers.now =
    (c.if-not-are_few.ensures (holders (bookies_of c.args.bookies.now))).0 refl in
    omega (arith, c.in_ok-ensembles_of.ensures (λ _. true), few.ensembles)

pub returns-clause-entries : goal.returns-clause-entries
returns-clause-entries c test = c.in_ok-entries.ensures.counts test ∙ c.in_ok-entries_of.ensures test

pub returns-clause-tails : goal.returns-clause-tails
returns-clause-tails c test = c.in_ok-tails.ensures.counts test ∙ c.in_ok-tails_of.ensures.counts test

pub returns-clause-ensembles : goal.returns-clause-ensembles
returns-clause-ensembles c test = c.in_ok-ensembles.ensures.counts test ∙ c.in_ok-ensembles_of.ensures test

pub returns-then-not-are_few-clause-fault : goal.returns-then-not-are_few-clause-fault
returns-then-not-are_few-clause-fault c = λ few.
    absurd (true≢false (sym ((c.if-not-are_few.ensures (holders (bookies_of c.args.bookies.now))).1 few)))
