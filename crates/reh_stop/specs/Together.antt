-- The ledgers of inputs that are judged together.
use Rattle.std.specs.Prelude.{◌≡◌, Bool, List, ◌++◌}
use Rattle.reh_census.specs.Bookies.{bookies_of, holders}
use Rattle.reh_census.specs.Counting.{IsCensus}
use Rattle.reh_census.specs.Ledgers.{Ledger}
use Rattle.reh_inputs.specs.Gathered.{Gathers, ledgers_of, reading_of}
use Rattle.reh_inputs.specs.Renumbered.{files_of}
use Rattle.reh_inputs.specs.declared.inputs.Input.{Input}
use Rattle.reh_inputs.specs.declared.together.Gathered.{Gathered}

-- the ledgers of the pictures among the inputs, and after them whatever ledgers the census files among them counted
pub record AreLedgersOf (g : Gathered) (ledgers : List Ledger) : Type 0 where
  pub inputs : List Input
  pub strict : Bool
  pub gathers : Gathers inputs strict g
  pub others : List Ledger
  pub counted : IsCensus (files_of g.cluster.names inputs) (holders (bookies_of g.bookies)) others
  pub all : ledgers ≡ ledgers_of (reading_of strict) inputs ++ others
