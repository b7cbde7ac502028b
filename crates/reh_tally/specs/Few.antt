-- How much a census counts.
use Rattle.std.specs.Prelude.{ℕ, ◌≤◌, ◌^◌, ◌-◌, min, true, List, count_by, sum_by, length}
use Rattle.reh_census.specs.declared.ledgers.Fragment.{Fragment}
use Rattle.reh_census.specs.declared.censuses.CountedEnsemble.{CountedEnsemble}
use Rattle.reh_census.specs.declared.censuses.CountedTail.{CountedTail}
use Rattle.reh_census.specs.declared.classes.Counted.{Counted}
use Rattle.reh_census.specs.Counting.{count_ensembles, count_entries, count_tails, ensembles_in, entries_in, tail_of, tails_in}
use Rattle.reh_census.specs.Ledgers.{Ledger}

-- the ledgers have no more entries, tails and fragments than a census counts
pub record AreFew (holders : List ℕ) (ledgers : List Ledger) : Type 0 where
  pub entries : count_entries holders ledgers (λ class. true) ≤ 2 ^ 63
  pub tails : count_tails ledgers (λ tail. true) ≤ 2 ^ 63
  pub ensembles : count_ensembles ledgers (λ members. true) ≤ 2 ^ 63

-- no more entries, tails and fragments are counted than a census counts
pub record AreFewCounts (classes : List Counted) (kinds : List CountedTail) (members : List CountedEnsemble) : Type 0 where
  pub entries : entries_in classes ≤ 2 ^ 63
  pub tails : tails_in kinds ≤ 2 ^ 63
  pub ensembles : ensembles_in members ≤ 2 ^ 63

-- a number, or the greatest one of 64 bits
abbrev pub capped : ℕ → ℕ
capped n = min n (2 ^ 64 - 1)

-- how many entries these fragments have
abbrev pub entries_among : List Fragment → ℕ
entries_among fragments = sum_by (λ fragment. fragment.stop - fragment.first) fragments

-- how many entries, tails and fragments the ledgers have
abbrev pub entries_of : List Ledger → ℕ
entries_of ledgers = sum_by (λ g. entries_among g.fragments) ledgers

abbrev pub tails_of : List Ledger → ℕ
tails_of ledgers = sum_by (λ g. count_by (λ tail. true) (tail_of g)) ledgers

abbrev pub fragments_of : List Ledger → ℕ
fragments_of ledgers = sum_by (λ g. length g.fragments) ledgers
