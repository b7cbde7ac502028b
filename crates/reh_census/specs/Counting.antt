-- What is counted: entries by what is known of their copies, ledgers that aren't closed, and fragments.
use Rattle.std.specs.Prelude.{◌≡◌, ◌<◌, ◌≤◌, ◌+◌, ◌^◌, ℕ, Bool, true, false, cond, All, List, [], ◌∷◌, ◌++◌, count_by, sum_by, length}
use Rattle.std.specs.List.{Contains}
use Rattle.reh_census.specs.declared.censuses.CountedEnsemble.{CountedEnsemble}
use Rattle.reh_census.specs.declared.censuses.CountedTail.{CountedTail}
use Rattle.reh_census.specs.declared.censuses.Judged.{Judged}
use Rattle.reh_census.specs.declared.censuses.Tail.{Tail}
use Rattle.reh_census.specs.declared.classes.Class.{Class}
use Rattle.reh_census.specs.declared.classes.Counted.{Counted}
use Rattle.reh_census.specs.declared.ledgers.Fragment.{Fragment}
use Rattle.reh_census.specs.declared.ledgers.LedgerState.{LedgerState}
use Rattle.reh_census.specs.declared.ledgers.LedgerState.TheVariants.{Open, InRecovery, Closed}
use Rattle.reh_census.specs.Copies.{in_order}
use Rattle.reh_census.specs.Ledgers.{Ledger, class_of}
use Rattle.reh_census.specs.Striping.{range}
use Rattle.reh_census.specs.Tails.{IsTail}

-- how many entries, ledgers that aren't closed, and fragments pass a test
pub record Counting : Type 0 where
  pub entries : (Class → Bool) → ℕ
  pub tails : (Tail → Bool) → ℕ
  pub ensembles : (List ℕ → Bool) → ℕ

-- Of a census

pub record Census : Type 0 where
  pub entries : List Counted
  pub tails : List CountedTail
  pub ensembles : List CountedEnsemble
  pub judged : Judged

abbrev pub census_by : List Counted → List CountedTail → List CountedEnsemble → Judged → Census
census_by entries tails ensembles judged = record {
  entries = entries;
  tails = tails;
  ensembles = ensembles;
  judged = judged;
}

-- how many of its entries pass a test
abbrev pub count_in : List Counted → (Class → Bool) → ℕ
count_in entries test = sum_by (λ c. cond (test c.class) c.count 0) entries

-- how many of its ledgers that aren't closed
abbrev pub count_tails_in : List CountedTail → (Tail → Bool) → ℕ
count_tails_in tails test = sum_by (λ t. cond (test t.tail) t.count 0) tails

-- how many of its fragments
abbrev pub count_ensembles_in : List CountedEnsemble → (List ℕ → Bool) → ℕ
count_ensembles_in ensembles test = sum_by (λ e. cond (test e.members) e.count 0) ensembles

abbrev pub counting_in : Census → Counting
counting_in census = record {
  entries = count_in census.entries;
  tails = count_tails_in census.tails;
  ensembles = count_ensembles_in census.ensembles;
}

-- how many entries, ledgers and fragments there are
abbrev pub entries_in : List Counted → ℕ
entries_in entries = sum_by (λ c. c.count) entries

abbrev pub tails_in : List CountedTail → ℕ
tails_in tails = sum_by (λ t. t.count) tails

abbrev pub ensembles_in : List CountedEnsemble → ℕ
ensembles_in ensembles = sum_by (λ e. e.count) ensembles

-- how many ledgers were not judged: those that could not be read, and those that were announced alone
abbrev pub not_judged : Judged → ℕ
not_judged judged = judged.unread + judged.missing

-- a census with counts up to 2^63 and well-formed tails
pub record IsWithin (census : Census) : Type 0 where
  pub entries : entries_in census.entries ≤ 2 ^ 63
  pub tails : tails_in census.tails ≤ 2 ^ 63
  pub ensembles : ensembles_in census.ensembles ≤ 2 ^ 63
  pub not_judged : not_judged census.judged ≤ 2 ^ 63
  pub well_formed : All (λ t. IsTail t.tail) census.tails

-- Of ledgers

-- how many entries of a range pass a test
abbrev pub count_between : List ℕ → Ledger → Fragment → ℕ → ℕ → (Class → Bool) → ℕ
count_between holders g fragment first stop test =
    count_by (λ entry. test (class_of holders g fragment entry)) (range first stop)

-- how many entries of a fragment, of a ledger, of ledgers pass a test
abbrev pub count_fragment : List ℕ → Ledger → (Class → Bool) → Fragment → ℕ
count_fragment holders g test fragment = count_between holders g fragment fragment.first fragment.stop test

abbrev pub count_ledger : List ℕ → (Class → Bool) → Ledger → ℕ
count_ledger holders test g = sum_by (count_fragment holders g test) g.fragments

abbrev pub count_entries : List ℕ → List Ledger → (Class → Bool) → ℕ
count_entries holders ledgers test = sum_by (count_ledger holders test) ledgers

-- the entry is of this fragment of one of the ledgers
pub record IsEntry (ledgers : List Ledger) (g : Ledger) (fragment : Fragment) (entry : ℕ) : Type 0 where
  pub is_ledger : Contains ledgers g
  pub is_fragment : Contains g.fragments fragment
  pub from : fragment.first ≤ entry
  pub below : entry < fragment.stop

-- the tail of a ledger with these fragments: its last ensemble
abbrev pub tail_with : Ledger → Bool → List Fragment → List Tail
tail_with g is_open [] = []
tail_with g is_open (fragment ∷ []) = record {
  size = g.size;
  write_quorum = g.write_quorum;
  ack_quorum = g.ack_quorum;
  is_open = is_open;
  ensemble = fragment.ensemble;
} ∷ []
tail_with g is_open (fragment ∷ next ∷ fragments) = tail_with g is_open (next ∷ fragments)

-- the tail of a ledger that isn't closed
abbrev pub tail_in : Ledger → LedgerState → List Tail
tail_in g Open = tail_with g true g.fragments
tail_in g InRecovery = tail_with g false g.fragments
tail_in g Closed = []

abbrev pub tail_of : Ledger → List Tail
tail_of g = tail_in g g.state

abbrev pub count_tails : List Ledger → (Tail → Bool) → ℕ
count_tails ledgers test = sum_by (λ g. count_by test (tail_of g)) ledgers

-- how many fragments have an ensemble that passes a test: what counts of it is who its members are, so these are tested in
-- rising order
abbrev pub count_ensembles : List Ledger → (List ℕ → Bool) → ℕ
count_ensembles ledgers test = sum_by (λ g. count_by (λ fragment. test (in_order fragment.ensemble)) g.fragments) ledgers

abbrev pub counting_of : List ℕ → List Ledger → Counting
counting_of holders ledgers = record {
  entries = count_entries holders ledgers;
  tails = count_tails ledgers;
  ensembles = count_ensembles ledgers;
}

-- A census of ledgers

-- of every test, as many of the counted entries pass it as of the ledgers': a test for one class says how many entries
-- have just these copies, known and untold
abbrev pub CountsEntries : List Counted → List ℕ → List Ledger → Type 0
CountsEntries entries holders ledgers =
    (test : Class → Bool) → count_in entries test ≡ count_entries holders ledgers test

abbrev pub CountsTails : List CountedTail → List Ledger → Type 0
CountsTails tails ledgers = (test : Tail → Bool) → count_tails_in tails test ≡ count_tails ledgers test

abbrev pub CountsEnsembles : List CountedEnsemble → List Ledger → Type 0
CountsEnsembles ensembles ledgers =
    (test : List ℕ → Bool) → count_ensembles_in ensembles test ≡ count_ensembles ledgers test

-- the census is that of these ledgers, where copies are on these bookies
pub record IsCensus (census : Census) (holders : List ℕ) (ledgers : List Ledger) : Type 0 where
  pub entries : CountsEntries census.entries holders ledgers
  pub tails : CountsTails census.tails ledgers
  pub ensembles : CountsEnsembles census.ensembles ledgers
  pub judged : census.judged.ledgers ≡ length ledgers

abbrev pub judged_sum : Judged → Judged → Judged
judged_sum one other = record {
  ledgers = one.ledgers + other.ledgers;
  assumed = one.assumed + other.assumed;
  unread = one.unread + other.unread;
  missing = one.missing + other.missing;
}

-- both censuses
abbrev pub census_sum : Census → Census → Census
census_sum one other = record {
  entries = one.entries ++ other.entries;
  tails = one.tails ++ other.tails;
  ensembles = one.ensembles ++ other.ensembles;
  judged = judged_sum one.judged other.judged;
}
