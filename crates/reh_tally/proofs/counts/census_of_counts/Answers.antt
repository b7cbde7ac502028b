use Rattle.std.proofs.Common.{◌≡◌, Err, refl, rules, sym}
use Rattle.std.proofs.lemmas.Bool.{false≢true}
use Rattle.reh_tally.specs.Few.{AreFewCounts}
use Rattle.reh_tally.specs.declared.census.TallyFault.TheVariants.{TooMany}
use Rattle.reh_tally.proofs.FewLaws.{few_counts-same}
use Rattle.reh_tally.proofs.counts.census_of_counts.Goals as goal

pub returns-then-not-are_few_counts-clause-too_many : goal.returns-then-not-are_few_counts-clause-too_many
returns-then-not-are_few_counts-clause-too_many c = (
  λ same few. false≢true
      (c.if-not-are_few_counts.ensures.1
      (few_counts-same (sym c.deref.ensures.value) (sym c.deref-2.ensures.value) (sym c.deref-3.ensures.value) few)),
  λ none. refl,
)

pub census_of_few_counts-requires-clause-few : goal.census_of_few_counts-requires-clause-few
census_of_few_counts-requires-clause-few c =
    few_counts-same c.deref.ensures.value c.deref-2.ensures.value c.deref-3.ensures.value (c.if-not-are_few_counts.ensures.0 refl)

pub returns-in_err-census-clause-too_many : goal.returns-in_err-census-clause-too_many
returns-in_err-census-clause-too_many c =
    let few : AreFewCounts c.args.entries.items c.args.tails.items c.args.ensembles.items =
    few_counts-same c.deref.ensures.value c.deref-2.ensures.value c.deref-3.ensures.value (c.if-not-are_few_counts.ensures.0 refl) in
    let other : c.from_residual.result ≡ Err TooMany → ⊥ = search rules in
    (λ same few. other same, λ none. absurd (none few))

pub returns-clause-too_many : goal.returns-clause-too_many
returns-clause-too_many c =
    let few : AreFewCounts c.args.entries.items c.args.tails.items c.args.ensembles.items =
    few_counts-same c.deref.ensures.value c.deref-2.ensures.value c.deref-3.ensures.value (c.if-not-are_few_counts.ensures.0 refl) in
    (λ same few. cc, λ none. absurd (none few))
