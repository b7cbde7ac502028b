-- What inputs show together.
use Rattle.std.specs.Prelude.{◌≡◌, ℕ, ◌+◌, All, Bool, false, not, nat_eq, nat_lt, if◌then◌else◌, List, map, length, position, Option, None}
use Rattle.std.specs.Bool.{beq}
use Rattle.std.specs.List.{flat_map, list_any, IsDistinct}
use Rattle.reh_census.specs.declared.classes.Class.{Class}
use Rattle.reh_census.specs.Bookies.{bookies_of as census_bookies, holders}
use Rattle.reh_census.specs.declared.censuses.Tail.{Tail}
use Rattle.reh_census.specs.Counting.{Census as Counts, count_ensembles, count_ensembles_in, count_entries, count_in, count_tails}
use Rattle.reh_census.specs.Counting.{count_tails_in, judged_sum}
use Rattle.reh_census.specs.Order.{InOrder, IsInOrder, names_cmp}
use Rattle.reh_census.specs.Ledgers.{Ledger}
use Rattle.reh_tally.specs.declared.census.TallyFault.{TallyFault}
use Rattle.reh_tally.specs.declared.census.TallyFault.TheVariants.{TooMany, NoMemory}
use Rattle.reh_model.specs.Cluster.{Ledger as PicturedLedger}
use Rattle.reh_picture.specs.declared.listings.Listed.{Listed}
use Rattle.reh_inputs.specs.declared.gathered.GatherFault.{GatherFault}
use Rattle.reh_inputs.specs.declared.gathered.GatherFault.TheVariants as fault
use Rattle.reh_inputs.specs.declared.together.Gathered.{Gathered}
use Rattle.reh_inputs.specs.declared.ledgers.Reading.{Reading}
use Rattle.reh_inputs.specs.declared.ledgers.Reading.TheVariants as reading
use Rattle.reh_inputs.specs.declared.inputs.Input.{Input}
use Rattle.reh_inputs.specs.declared.inputs.Input.TheVariants.{Picture, Census}
use Rattle.reh_inputs.specs.Cluster.{bookies_of}
use Rattle.reh_inputs.specs.Inputs.{of_picture}
use Rattle.reh_inputs.specs.Ledgers.{ledger_of}
use Rattle.reh_inputs.specs.Renumbered.{files_of, judged_by}
use Rattle.reh_inputs.specs.United.{AreAlike, number_of, united}

abbrev pub fault_of_tally : TallyFault → GatherFault
fault_of_tally TooMany = fault.TooMany
fault_of_tally NoMemory = fault.NoMemory

-- the ids of an input's ledgers
abbrev pub ids_in : Listed → List ℕ
ids_in l = map (λ g. g.id) l.listing.ledgers.items

-- a ledger of an input whose bookies have these numbers in the cluster
abbrev pub ledger_in : List ℕ → Reading → Listed → PicturedLedger → Ledger
ledger_in numbers reading l g = ledger_of numbers reading l.listing.holdings.items g.id g.metadata

-- the ledgers of an input, in a cluster whose bookies have these names
abbrev pub ledgers_in : List (List ℕ) → Reading → Listed → List Ledger
ledgers_in names reading l =
    map (ledger_in (map (number_of names) l.listing.names) reading l) l.listing.ledgers.items

-- the ledgers of the pictures among inputs, in a cluster whose bookies have these names
abbrev pub ledgers_among : List (List ℕ) → Reading → List Input → List Ledger
ledgers_among names reading inputs = flat_map (of_picture (ledgers_in names reading)) inputs

abbrev pub ledgers_of : Reading → List Input → List Ledger
ledgers_of reading inputs = ledgers_among (united inputs).names reading inputs

-- whether an entry has a known copy
abbrev pub is_held : Class → Bool
is_held class = nat_lt 0 (length class.known)

-- with `strict`, what is assumed counts as untold
abbrev pub reading_of : Bool → Reading
reading_of strict = if strict then reading.Told else reading.All

-- how many entries rest on an assumption: some bookie that may hold copies is assumed to hold them
abbrev pub assumed_among : List ℕ → List (List ℕ) → List Input → ℕ
assumed_among holders names inputs = count_entries holders (ledgers_among names reading.Assumed inputs) is_held

-- whether something is assumed in an input
abbrev pub is_assumed_in : Input → Bool
is_assumed_in (Picture l) = list_any (λ h. h.is_assumed) l.listing.holdings.items
is_assumed_in (Census c) = false

abbrev pub assumed_of : Bool → List ℕ → List (List ℕ) → List Input → ℕ
assumed_of strict holders names inputs = if strict then 0 else assumed_among holders names inputs

-- the bookies that may hold copies
abbrev pub holders_of : List Input → List ℕ
holders_of inputs = holders (census_bookies (bookies_of (united inputs)))

-- whether the input is a census of the other kind: one that was made with `--strict`, and is to be one without, or the other
-- way round
abbrev pub is_other : Bool → Input → Bool
is_other strict (Picture l) = false
is_other strict (Census c) = not (beq c.is_strict strict)

abbrev pub first_other : Bool → List Input → Option ℕ
first_other strict inputs = position (is_other strict) inputs

-- of every test, as many pass it in the census as of these ledgers, and of what the files count
pub record AddsUp (census : Counts) (holders : List ℕ) (ledgers : List Ledger) (files : Counts) : Type 0 where
  pub entries : (test : Class → Bool)
      → count_in census.entries test ≡ count_entries holders ledgers test + count_in files.entries test
  pub tails : (test : Tail → Bool)
      → count_tails_in census.tails test ≡ count_tails ledgers test + count_tails_in files.tails test
  pub ensembles : (test : List ℕ → Bool)
      → count_ensembles_in census.ensembles test ≡ count_ensembles ledgers test + count_ensembles_in files.ensembles test

-- what the inputs show together: the bookies, in the order of their names, each as every input shows it; the pictures' ledgers; and the census of these
-- and of what the census files count
pub record Gathers (inputs : List Input) (strict : Bool) (gathered : Gathered) : Type 0 where
  pub cluster : gathered.cluster ≡ united inputs
  pub names : InOrder names_cmp (united inputs).names
  pub agree : All (AreAlike (united inputs)) inputs
  pub bookies : gathered.bookies ≡ bookies_of (united inputs)
  pub ids : gathered.ids.items ≡ flat_map (of_picture ids_in) inputs
  pub each_once : IsDistinct nat_eq gathered.ids.items
  pub ledgers : gathered.ledgers.items ≡ ledgers_of (reading_of strict) inputs
  pub counts : AddsUp gathered.census (holders_of inputs) (ledgers_of (reading_of strict) inputs)
      (files_of (united inputs).names inputs)
  pub order : IsInOrder gathered.census
  pub judged : gathered.census.judged
      ≡ judged_sum
      (judged_by (length (ledgers_of (reading_of strict) inputs))
      (assumed_of strict (holders_of inputs) (united inputs).names inputs))
      (files_of (united inputs).names inputs).judged
  pub alike : first_other strict inputs ≡ None
