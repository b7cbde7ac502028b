-- What a run of inputs shows, once the cluster is known.
use Rattle.std.specs.Prelude.{◌≡◌, ℕ, Bool, List, All}
use Rattle.reh_census.specs.Counting.{CountsEnsembles, CountsEntries, CountsTails}
use Rattle.reh_census.specs.Tails.{IsTail}
use Rattle.reh_inputs.specs.declared.inputs.Input.{Input}
use Rattle.reh_inputs.specs.declared.parts.Part.{Part}
use Rattle.reh_inputs.specs.Gathered.{assumed_of, ledgers_among, reading_of}

-- the ledgers of the pictures among the inputs, in a cluster whose bookies have these names; what is counted of these ledgers,
-- where copies are on these bookies; and how many of the entries rest on an assumption
pub record IsPart (holders : List ℕ) (names : List (List ℕ)) (strict : Bool) (inputs : List Input) (part : Part) : Type 0 where
  pub ledgers : part.ledgers.items ≡ ledgers_among names (reading_of strict) inputs
  pub entries : CountsEntries part.counts.entries.items holders (ledgers_among names (reading_of strict) inputs)
  pub tails : CountsTails part.counts.tails.items (ledgers_among names (reading_of strict) inputs)
  pub ensembles : CountsEnsembles part.counts.ensembles.items (ledgers_among names (reading_of strict) inputs)
  pub well_formed : All (λ t. IsTail t.tail) part.counts.tails.items
  pub assumed : part.assumed ≡ assumed_of strict holders names inputs
