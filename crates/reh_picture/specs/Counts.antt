-- How much there is in a cluster, and what is printed of it.
use Rattle.std.specs.Prelude.{ℕ, Bool, true, false, List, ◌++◌, length, sum_by, count_by, codes}
use Rattle.std.specs.Fmt.{decimal}
use Rattle.std.specs.List.{range_with_len}
use Rattle.reh_types.specs.declared.limits.TheConstants.{MAX_WORDS}
use Rattle.reh_types.specs.declared.names.LedgerState.{LedgerState}
use Rattle.reh_types.specs.declared.names.LedgerState.TheVariants.{Open, InRecovery, Closed}
use Rattle.reh_model.specs.Contents.{count_held}
use Rattle.reh_model.specs.Metadata.{is_open, is_in_recovery}
use Rattle.reh_model.specs.Cluster.{Cluster, Ledger, is_up}
use Rattle.reh_picture.specs.declared.counts.Counts.{Counts}
use Rattle.reh_picture.specs.Pictures.{words_in_all}

abbrev pub is_closed : LedgerState → Bool
is_closed Open = false
is_closed InRecovery = false
is_closed (Closed end) = true

-- how many bookies are registered
abbrev pub up_in : Cluster → ℕ
up_in s = count_by (is_up s) (range_with_len 0 (length s.names))

-- how many entries the bookies hold, each counted for every bookie that holds it
abbrev pub entries_in : Cluster → ℕ
entries_in s = sum_by (count_held s.parts.held) (range_with_len 0 (length s.names))

abbrev pub fragments_of : List Ledger → ℕ
fragments_of ledgers = sum_by (λ g. length g.metadata.fragments) ledgers

-- the words are those of all bookies together, each as many for a ledger as it has
abbrev pub counts_of : Cluster → Counts
counts_of s = record {
  bookies = length s.names;
  up = up_in s;
  ledgers = length s.parts.ledgers;
  «open» = count_by (λ g. is_open g.metadata.state) s.parts.ledgers;
  in_recovery = count_by (λ g. is_in_recovery g.metadata.state) s.parts.ledgers;
  closed = count_by (λ g. is_closed g.metadata.state) s.parts.ledgers;
  fragments = fragments_of s.parts.ledgers;
  entries = entries_in s;
  words = words_in_all s;
}

-- a line for each kind of thing, and no line's end after the last
abbrev pub counts_text : Counts → List ℕ
counts_text c =
    codes "bookies "
    ++ (decimal c.bookies
    ++ (codes " up "
    ++ (decimal c.up
    ++ (codes "\nledgers "
    ++ (decimal c.ledgers
    ++ (codes " OPEN "
    ++ (decimal c.open
    ++ (codes " IN_RECOVERY "
    ++ (decimal c.in_recovery
    ++ (codes " CLOSED "
    ++ (decimal c.closed
    ++ (codes "\nfragments "
    ++ (decimal c.fragments
    ++ (codes "\nentries "
    ++ (decimal c.entries
    ++ (codes "\nwords " ++ (decimal c.words ++ (codes " of " ++ decimal MAX_WORDS))))))))))))))))))
