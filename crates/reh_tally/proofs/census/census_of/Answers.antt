use Rattle.std.proofs.Common.{◌≡◌, Err, refl, rules}
use Rattle.std.proofs.lemmas.Bool.{false≢true}
use Rattle.reh_census.specs.Bookies.{bookies_of, holders}
use Rattle.reh_tally.specs.declared.census.TallyFault.TheVariants.{TooMany}
use Rattle.reh_tally.proofs.census.census_of.Goals as goal

pub returns-then-not-are_few-clause-too_many : goal.returns-then-not-are_few-clause-too_many
returns-then-not-are_few-clause-too_many c =
    (λ same few. false≢true ((c.if-not-are_few.ensures (holders (bookies_of c.args.bookies.now))).1 few), λ none. refl)

pub census_of_few-requires-clause-few : goal.census_of_few-requires-clause-few
census_of_few-requires-clause-few c = (c.if-not-are_few.ensures (holders (bookies_of c.args.bookies.now))).0 refl

pub returns-in_err-census-clause-too_many : goal.returns-in_err-census-clause-too_many
returns-in_err-census-clause-too_many c =
    let other : c.from_residual.result ≡ Err TooMany → ⊥ = search rules in
    (λ same few. other same, λ none. absurd (none ((c.if-not-are_few.ensures (holders (bookies_of c.args.bookies.now))).0 refl)))

pub returns-clause-too_many : goal.returns-clause-too_many
returns-clause-too_many c =
    (λ same few. cc, λ none. absurd (none ((c.if-not-are_few.ensures (holders (bookies_of c.args.bookies.now))).0 refl)))
