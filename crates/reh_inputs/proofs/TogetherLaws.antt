-- What is too much of a part is too much of all inputs together.
use Rattle.std.proofs.Common.{◌≡◌, ℕ, Bool, true, List, length, sym, subst, arith}
use Rattle.std.specs.Prelude.{slice_get}
use Rattle.std.specs.Option.{IsSomeAnd}
use Rattle.std.proofs.lemmas.List.Sums.{sum_by-append}
use Rattle.reh_census.specs.declared.censuses.CountedEnsemble.{CountedEnsemble}
use Rattle.reh_census.specs.declared.censuses.CountedTail.{CountedTail}
use Rattle.reh_census.specs.declared.censuses.Judged.{Judged}
use Rattle.reh_census.specs.declared.classes.Counted.{Counted}
use Rattle.reh_census.specs.Counting.{Census as Counts, count_ensembles, count_entries, count_tails, ensembles_in, entries_in, judged_sum, tails_in}
use Rattle.reh_inputs.specs.declared.gathered.GatherFault.{GatherFault}
use Rattle.reh_inputs.specs.declared.gathered.GatherFault.TheVariants as gather
use Rattle.reh_inputs.specs.declared.inputs.Input.{Input}
use Rattle.reh_inputs.specs.declared.parts.Part.{Part}
use Rattle.reh_inputs.specs.Faults.{IsGatherFault}
use Rattle.reh_inputs.specs.Gathered.{holders_of, ledgers_of, reading_of}
use Rattle.reh_inputs.specs.Parts.{IsPart}
use Rattle.reh_inputs.specs.Renumbered.{files_of, judged_by}
use Rattle.reh_inputs.specs.Uncounted.{AreFewIn, AreFewTogether, AreFewWith, InputHasUnfit, IsFewJudged, IsPartFault, IsTooMuch}
use Rattle.reh_inputs.specs.United.{united}

module _ (inputs : List Input) (strict : Bool) where
  few_in : AreFewTogether inputs strict → AreFewIn (holders_of inputs) (united inputs).names strict inputs
  few_in are = record {
    counts = record {
      entries = omega (arith, are.entries);
      tails = omega (arith, are.tails);
      ensembles = omega (arith, are.ensembles);
    };
    assumed = omega (arith, are.judged.assumed);
  }

  pub part_fault : (fault : GatherFault)
      → IsPartFault (holders_of inputs) (united inputs).names strict 0 inputs fault → IsGatherFault inputs strict fault
  part_fault gather.TooMany is = λ are. is (few_in are)
  part_fault (gather.Unfit input id) is =
      let here : is.0 ≡ input = omega (arith, is.1) in
      subst (λ (n : ℕ).
      IsSomeAnd (slice_get inputs n) (λ one. InputHasUnfit (united inputs).names (reading_of strict) one id))
      here is.2
  part_fault gather.NoMemory is = tt
  part_fault other is = absurd is

  -- what was counted of the ledgers, and what the files count
  few_with : (part : Part) → IsPart (holders_of inputs) (united inputs).names strict inputs part
      → AreFewTogether inputs strict
      → AreFewWith part.counts.entries.items part.counts.tails.items part.counts.ensembles.items
      (judged_by (length part.ledgers.items) part.assumed) (files_of (united inputs).names inputs)
  few_with part is are =
      let files : Counts = files_of (united inputs).names inputs in
      let ledgers = ledgers_of (reading_of strict) inputs in
      let entries : entries_in part.counts.entries.items ≡ count_entries (holders_of inputs) ledgers (λ class. true) =
      is.entries (λ class. true) in
      let tails : tails_in part.counts.tails.items ≡ count_tails ledgers (λ tail. true) = is.tails (λ tail. true) in
      let ensembles : ensembles_in part.counts.ensembles.items ≡ count_ensembles ledgers (λ members. true) =
      is.ensembles (λ members. true) in
      record {
        counts = record {
          entries =
              omega (
                arith,
                are.entries,
                entries,
                sum_by-append (λ (c : Counted). c.count) part.counts.entries.items files.entries,
              );
          tails =
              omega (
                arith,
                are.tails,
                tails,
                sum_by-append (λ (c : CountedTail). c.count) part.counts.tails.items files.tails,
              );
          ensembles =
              omega (
                arith,
                are.ensembles,
                ensembles,
                sum_by-append (λ (c : CountedEnsemble). c.count) part.counts.ensembles.items files.ensembles,
              );
        };
        judged =
            subst (λ (own : Judged). IsFewJudged (judged_sum own files.judged))
            (sym (λ i. judged_by (length (is.ledgers i)) (is.assumed i))) are.judged;
      }

  pub few_together : (part : Part) → IsPart (holders_of inputs) (united inputs).names strict inputs part
      → AreFewWith part.counts.entries.items part.counts.tails.items part.counts.ensembles.items
      (judged_by (length part.ledgers.items) part.assumed) (files_of (united inputs).names inputs)
      → AreFewTogether inputs strict
  few_together part is are =
      let files : Counts = files_of (united inputs).names inputs in
      let ledgers = ledgers_of (reading_of strict) inputs in
      let entries : entries_in part.counts.entries.items ≡ count_entries (holders_of inputs) ledgers (λ class. true) =
      is.entries (λ class. true) in
      let tails : tails_in part.counts.tails.items ≡ count_tails ledgers (λ tail. true) = is.tails (λ tail. true) in
      let ensembles : ensembles_in part.counts.ensembles.items ≡ count_ensembles ledgers (λ members. true) =
      is.ensembles (λ members. true) in
      record {
        entries =
            omega (
              arith,
              are.counts.entries,
              entries,
              sum_by-append (λ (c : Counted). c.count) part.counts.entries.items files.entries,
            );
        tails =
            omega (
              arith,
              are.counts.tails,
              tails,
              sum_by-append (λ (c : CountedTail). c.count) part.counts.tails.items files.tails,
            );
        ensembles =
            omega (
              arith,
              are.counts.ensembles,
              ensembles,
              sum_by-append (λ (c : CountedEnsemble). c.count) part.counts.ensembles.items files.ensembles,
            );
        judged =
            subst (λ (own : Judged). IsFewJudged (judged_sum own files.judged))
            (λ i. judged_by (length (is.ledgers i)) (is.assumed i)) are.judged;
      }

  pub census_fault : (part : Part) → IsPart (holders_of inputs) (united inputs).names strict inputs part
      → (fault : GatherFault)
      → IsTooMuch
      (AreFewWith part.counts.entries.items part.counts.tails.items part.counts.ensembles.items
      (judged_by (length part.ledgers.items) part.assumed) (files_of (united inputs).names inputs))
      fault
      → IsGatherFault inputs strict fault
  census_fault part is gather.TooMany too_much = λ are. too_much (few_with part is are)
  census_fault part is gather.NoMemory too_much = tt
  census_fault part is other too_much = absurd too_much
