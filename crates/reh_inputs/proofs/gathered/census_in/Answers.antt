-- The census of what the inputs show, whose bookies and their names are these.
use Rattle.std.proofs.Common.{◌≡◌, ◌∙◌, ◌+◌, ℕ, Bool, List, ap, length, subst}
use Rattle.reh_census.specs.declared.bookies.Bookie.{Bookie}
use Rattle.reh_census.specs.declared.censuses.Judged.{Judged}
use Rattle.reh_census.specs.Bookies.{bookies_of as census_bookies, holders}
use Rattle.reh_census.specs.Ledgers.{Ledger as CensusLedger}
use Rattle.reh_census.specs.Counting.{count_ensembles_in, count_in, count_tails_in, judged_sum}
use Rattle.reh_inputs.specs.declared.inputs.Input.{Input}
use Rattle.reh_inputs.specs.declared.parts.Part.{Part}
use Rattle.reh_inputs.specs.Cluster.{bookies_of}
use Rattle.reh_inputs.specs.Gathered.{holders_of}
use Rattle.reh_inputs.specs.Parts.{IsPart}
use Rattle.reh_inputs.specs.Renumbered.{files_of, judged_by}
use Rattle.reh_inputs.specs.United.{united}
use Rattle.reh_inputs.specs.Uncounted.{AreFewWith, IsPartFault, IsTooMuch}
use Rattle.reh_inputs.proofs.FaultLaws.{passed_on}
use Rattle.reh_inputs.proofs.TogetherLaws.{census_fault, few_together, part_fault}
use Rattle.reh_inputs.proofs.gathered.census_in.Goals as goal

of_inputs : (P : List ℕ → List (List ℕ) → Type 0) (inputs : List Input) (bookies : List Bookie) (names : List (List ℕ))
    → bookies ≡ bookies_of (united inputs) → names ≡ (united inputs).names
    → P (holders (census_bookies bookies)) names → P (holders_of inputs) (united inputs).names
of_inputs P inputs bookies names are named is =
    subst (λ (bs : List Bookie). P (holders (census_bookies bs)) (united inputs).names) are
    (subst (λ (ns : List (List ℕ)). P (holders (census_bookies bookies)) ns) named is)

shown : (inputs : List Input) (strict : Bool) (part : Part) (bookies : List Bookie) (names : List (List ℕ))
    → bookies ≡ bookies_of (united inputs) → names ≡ (united inputs).names
    → IsPart (holders (census_bookies bookies)) names strict inputs part
    → IsPart (holders_of inputs) (united inputs).names strict inputs part
shown inputs strict part = of_inputs (λ held ns. IsPart held ns strict inputs part) inputs

pub returns-in_err-part-clause-fault : goal.returns-in_err-part-clause-fault
returns-in_err-part-clause-fault g c =
    let inputs = c.args.inputs.now in
    let strict = c.args.strict in
    let fault = c.in_err-part.field-0.0 in
    passed_on _ _ c.from_residual.result fault c.from_residual.ensures.1
    (part_fault inputs strict fault
    (of_inputs (λ held ns. IsPartFault held ns strict 0 inputs fault) inputs c.args.bookies.now c.args.names.now c.requires.bookies
    c.requires.names c.in_err-part.ensures))

pub returns-in_err-census-clause-fault : goal.returns-in_err-census-clause-fault
returns-in_err-census-clause-fault g c =
    let inputs = c.args.inputs.now in
    let part = c.in_ok-part.part in
    let fault = c.in_err-census.field-0.0 in
    passed_on _ _ c.from_residual-in_err-census.result fault c.from_residual-in_err-census.ensures.1
    (census_fault inputs c.args.strict part
    (shown inputs c.args.strict part c.args.bookies.now c.args.names.now c.requires.bookies c.requires.names c.in_ok-part.ensures) fault
    (subst (λ (own : Judged).
    IsTooMuch
    (AreFewWith part.counts.entries.items part.counts.tails.items part.counts.ensembles.items own
    (files_of (united inputs).names inputs))
    fault)
    (c.judged_by-judged.ensures ∙ ap (λ (gs : List CensusLedger). judged_by (length gs) part.assumed) c.deref.ensures.value)
    (subst (λ (names : List (List ℕ)).
    IsTooMuch
    (AreFewWith part.counts.entries.items part.counts.tails.items part.counts.ensembles.items c.judged_by-judged.result
    (files_of names inputs))
    fault)
    c.requires.names c.in_err-census.ensures.fault)))

pub returns-clause-ledgers : goal.returns-clause-ledgers
returns-clause-ledgers g c =
    let part = c.in_ok-part.part in
    (shown c.args.inputs.now c.args.strict part c.args.bookies.now c.args.names.now c.requires.bookies c.requires.names
    c.in_ok-part.ensures).ledgers

pub returns-clause-counts : goal.returns-clause-counts
returns-clause-counts g c =
    let inputs = c.args.inputs.now in
    let part = c.in_ok-part.part in
    let is : IsPart (holders_of inputs) (united inputs).names c.args.strict inputs part =
    shown inputs c.args.strict part c.args.bookies.now c.args.names.now c.requires.bookies c.requires.names c.in_ok-part.ensures in
    let files : files_of c.args.names.now inputs ≡ files_of (united inputs).names inputs =
    ap (λ (names : List (List ℕ)). files_of names inputs) c.requires.names in
    record {
      entries = λ test. c.in_ok-census.ensures.entries test ∙ (λ i. is.entries test i + count_in (files i).entries test);
      tails = λ test. c.in_ok-census.ensures.tails test ∙ (λ i. is.tails test i + count_tails_in (files i).tails test);
      ensembles = λ test.
          c.in_ok-census.ensures.ensembles test ∙ (λ i. is.ensembles test i + count_ensembles_in (files i).ensembles test);
    }

pub returns-clause-judged : goal.returns-clause-judged
returns-clause-judged g c =
    let inputs = c.args.inputs.now in
    let part = c.in_ok-part.part in
    let is : IsPart (holders_of inputs) (united inputs).names c.args.strict inputs part =
    shown inputs c.args.strict part c.args.bookies.now c.args.names.now c.requires.bookies c.requires.names c.in_ok-part.ensures in
    let files : files_of c.args.names.now inputs ≡ files_of (united inputs).names inputs =
    ap (λ (names : List (List ℕ)). files_of names inputs) c.requires.names in
    c.in_ok-census.ensures.judged
    ∙ (λ i. judged_sum ((c.judged_by-judged.ensures
    ∙ (λ j. judged_by (length ((c.deref.ensures.value ∙ is.ledgers) j)) (is.assumed j))) i) (files i).judged)

pub returns-clause-few : goal.returns-clause-few
returns-clause-few g c =
    let inputs = c.args.inputs.now in
    let part = c.in_ok-part.part in
    few_together inputs c.args.strict part
    (shown inputs c.args.strict part c.args.bookies.now c.args.names.now c.requires.bookies c.requires.names c.in_ok-part.ensures)
    (subst (λ (own : Judged).
    AreFewWith part.counts.entries.items part.counts.tails.items part.counts.ensembles.items own
    (files_of (united inputs).names inputs))
    (c.judged_by-judged.ensures ∙ ap (λ (gs : List CensusLedger). judged_by (length gs) part.assumed) c.deref.ensures.value)
    (subst (λ (names : List (List ℕ)).
    AreFewWith part.counts.entries.items part.counts.tails.items part.counts.ensembles.items c.judged_by-judged.result
    (files_of names inputs))
    c.requires.names c.in_ok-census.ensures.few))
