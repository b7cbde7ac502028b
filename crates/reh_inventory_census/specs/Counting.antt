-- What was counted of ledgers.
use Rattle.std.specs.Prelude.{ℕ, Bool, List, nat_lt, length}
use Rattle.reh_census.specs.declared.censuses.CountedEnsemble.{CountedEnsemble}
use Rattle.reh_census.specs.declared.censuses.CountedTail.{CountedTail}
use Rattle.reh_census.specs.declared.classes.Class.{Class}
use Rattle.reh_census.specs.declared.classes.Counted.{Counted}
use Rattle.reh_census.specs.Counting.{Census, CountsEnsembles, CountsEntries, CountsTails}
use Rattle.reh_census.specs.Ledgers.{Ledger}

-- whether an entry has a known copy
abbrev pub is_held : Class → Bool
is_held class = nat_lt 0 (length class.known)

pub record Counts : Type 0 where
  pub entries : List Counted
  pub tails : List CountedTail
  pub ensembles : List CountedEnsemble

abbrev pub counts_by : List Counted → List CountedTail → List CountedEnsemble → Counts
counts_by entries tails ensembles = record { entries = entries; tails = tails; ensembles = ensembles }

abbrev pub counts_in : Census → Counts
counts_in census = counts_by census.entries census.tails census.ensembles

-- of every test, as many of the counted pass it as of the ledgers'
pub record CountsLedgers (holders : List ℕ) (ledgers : List Ledger) (counts : Counts) : Type 0 where
  pub entries : CountsEntries counts.entries holders ledgers
  pub tails : CountsTails counts.tails ledgers
  pub ensembles : CountsEnsembles counts.ensembles ledgers
