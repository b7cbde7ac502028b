-- Ledgers that census files counted, with the numbers that their bookies have in the cluster of all inputs.
use Rattle.std.specs.Prelude.{ℕ, ◌<◌, All, List, map, length}
use Rattle.std.specs.List.{flat_map}
use Rattle.reh_census.specs.declared.ledgers.Content.{Content}
use Rattle.reh_census.specs.declared.ledgers.Fragment.{Fragment}
use Rattle.reh_census.specs.Bookies.{bookies_of, holders}
use Rattle.reh_census.specs.Counting.{IsCensus}
use Rattle.reh_census.specs.Ledgers.{IsLedger, Ledger, ledger_by}
use Rattle.reh_census_file.specs.Canonical.{IsCanonical}
use Rattle.reh_census_file.specs.Values.{NamedCensus}
use Rattle.reh_inputs.specs.declared.inputs.Input.{Input}
use Rattle.reh_inputs.specs.Inputs.{of_census}
use Rattle.reh_inputs.specs.Ledgers.{number_in}
use Rattle.reh_inputs.specs.Renumbered.{numbers_in, renumbered}
use Rattle.reh_inputs.specs.United.{united}

abbrev pub fragment_numbered : List ℕ → Fragment → Fragment
fragment_numbered numbers fragment = record {
  first = fragment.first;
  stop = fragment.stop;
  ensemble = renumbered numbers fragment.ensemble;
}

abbrev pub content_numbered : List ℕ → Content → Content
content_numbered numbers content = record { bookie = number_in numbers content.bookie; told = content.told }

-- the ledger on bookies with these numbers
abbrev pub ledger_numbered : List ℕ → Ledger → Ledger
ledger_numbered numbers g =
    ledger_by g.state g.size g.write_quorum g.ack_quorum (map (fragment_numbered numbers) g.fragments)
    (map (content_numbered numbers) g.contents) g.rest

-- the ledger is on so many bookies: the members of its ensembles, and those of which something is told
pub record IsOn (count : ℕ) (g : Ledger) : Type 0 where
  pub members : All (λ fragment. All (λ b. b < count) fragment.ensemble) g.fragments
  pub told : All (λ content. content.bookie < count) g.contents

-- a census of these well-formed ledgers on its own bookies, in the form in which it is read
pub record CountedBy (c : NamedCensus) (ledgers : List Ledger) : Type 0 where
  pub form : IsCanonical c
  pub counted : IsCensus c.census (holders (bookies_of c.bookies)) ledgers
  pub well_formed : All IsLedger ledgers
  pub on : All (IsOn (length c.names)) ledgers

-- the ledgers that the census files among inputs counted
abbrev pub ledgers_counted : (NamedCensus → List Ledger) → List Input → List Ledger
ledgers_counted ledgers inputs =
    flat_map (of_census (λ c. map (ledger_numbered (numbers_in (united inputs).names c)) (ledgers c))) inputs
