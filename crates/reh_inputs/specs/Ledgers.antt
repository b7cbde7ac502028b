-- The ledgers of a picture, as a census counts them.
use Rattle.std.specs.Prelude.{ℕ, ◌+◌, max, Bool, false, ◌&&◌, ◌==◌, List, [], map, length, fold, if◌then◌else◌}
use Rattle.std.specs.Prelude.{slice_get, slice_index_or, unwrap_or}
use Rattle.std.specs.List.{filter}
use Rattle.std.specs.Option.{option_map_or}
use Rattle.reh_census.specs.declared.ledgers.Content.{Content}
use Rattle.reh_census.specs.declared.ledgers.Fragment.{Fragment}
use Rattle.reh_census.specs.declared.ledgers.LedgerState.{LedgerState}
use Rattle.reh_census.specs.declared.ledgers.LedgerState.TheVariants as census
use Rattle.reh_census.specs.declared.ledgers.Range.{Range}
use Rattle.reh_census.specs.declared.ledgers.Told.{Told as ToldOf}
use Rattle.reh_census.specs.declared.ledgers.Told.TheVariants.{Holds, Untold}
use Rattle.reh_census.specs.Ledgers.{Ledger, ledger_by}
use Rattle.reh_census.specs.Striping.{range}
use Rattle.reh_types.specs.declared.names.LedgerState.{LedgerState as State}
use Rattle.reh_types.specs.declared.names.LedgerState.TheVariants.{Open, InRecovery, Closed}
use Rattle.reh_model.specs.Metadata.{Metadata, stop_of}
use Rattle.reh_picture.specs.Contents.{Holding}
use Rattle.reh_inputs.specs.declared.ledgers.Reading.{Reading}
use Rattle.reh_inputs.specs.declared.ledgers.Reading.TheVariants.{All, Told, Assumed, Nothing}

-- the number that a bookie of a picture has in the cluster
abbrev pub number_in : List ℕ → ℕ → ℕ
number_in numbers b = slice_index_or numbers b 65535

-- Contents

abbrev pub range_of : ℕ × ℕ → Range
range_of ends = record { first = ends.0; last = ends.1 }

-- whether a holding tells nothing, since it is assumed. Where an empty list is, nobody said that the bookie holds nothing, and
-- entries that count as lost already would make a yes easier
abbrev pub is_unsaid : Reading → Bool → List (ℕ × ℕ) → Bool
is_unsaid All assumed ranges = assumed && (length ranges == 0)
is_unsaid Told assumed ranges = assumed
is_unsaid Assumed assumed ranges = false
is_unsaid Nothing assumed ranges = false

-- what another holding tells: what is assumed may count as told, or alone
abbrev pub said_as : Reading → Bool → List Range → ToldOf
said_as All assumed ranges = Holds ranges
said_as Told assumed ranges = Holds ranges
said_as Assumed assumed ranges = if assumed then Holds ranges else Holds []
said_as Nothing assumed ranges = Holds []

abbrev pub told_as : Reading → Bool → List (ℕ × ℕ) → ToldOf
told_as reading assumed ranges =
    if is_unsaid reading assumed ranges then Untold else said_as reading assumed (map range_of ranges)

abbrev pub told_by : Reading → Holding → ToldOf
told_by reading holding = told_as reading holding.is_assumed holding.ranges

-- of a bookie without a content nobody told
abbrev pub rest_of : Reading → ToldOf
rest_of All = Untold
rest_of Told = Untold
rest_of Assumed = Holds []
rest_of Nothing = Holds []

-- while a ledger isn't closed, what is assumed tells nothing: its last entries may be on that bookie, too
abbrev pub while_open : Reading → Reading
while_open All = Told
while_open Told = Told
while_open Assumed = Nothing
while_open Nothing = Nothing

abbrev pub reading_in : State → Reading → Reading
reading_in Open reading = while_open reading
reading_in InRecovery reading = while_open reading
reading_in (Closed end) reading = reading

abbrev pub content_by : List ℕ → Reading → Holding → Content
content_by numbers reading holding = record {
  bookie = number_in numbers holding.bookie;
  told = told_by reading holding;
}

-- what is told of the ledger's entries
abbrev pub contents_of : List ℕ → Reading → ℕ → List Holding → List Content
contents_of numbers reading ledger holdings =
    map (content_by numbers reading) (filter (λ holding. holding.ledger == ledger) holdings)

-- Fragments

-- one past the greatest entry of the ledger that any bookie is told or assumed to hold; 0 where there is none
abbrev pub end_after : ℕ → ℕ × ℕ → ℕ
end_after end ends = max end (ends.1 + 1)

abbrev pub end_told : ℕ → List Holding → ℕ
end_told ledger holdings =
    fold (λ end holding. if holding.ledger == ledger then fold end_after end holding.ranges else end) 0 holdings

abbrev pub first_of : Metadata → ℕ → ℕ
first_of m f = option_map_or (λ fragment. fragment.first) (slice_get m.fragments f) 0

-- the fragment of that number: up to its stop, or, where it has none, to the end of what is told
abbrev pub fragment_of : List ℕ → ℕ → Metadata → ℕ → Fragment
fragment_of numbers end m f = record {
  first = first_of m f;
  stop = unwrap_or (stop_of m f) (max (first_of m f) end);
  ensemble = map (number_in numbers) (option_map_or (λ fragment. fragment.ensemble) (slice_get m.fragments f) []);
}

-- Ledgers

abbrev pub state_of : State → LedgerState
state_of Open = census.Open
state_of InRecovery = census.InRecovery
state_of (Closed end) = census.Closed

abbrev pub ledger_of : List ℕ → Reading → List Holding → ℕ → Metadata → Ledger
ledger_of numbers reading holdings ledger m =
    ledger_by (state_of m.state) m.size m.write_quorum m.ack_quorum
    (map (fragment_of numbers (end_told ledger holdings) m) (range 0 (length m.fragments)))
    (contents_of numbers (reading_in m.state reading) ledger holdings) (rest_of (reading_in m.state reading))
