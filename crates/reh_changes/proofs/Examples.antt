-- Worked lines: the definitions, computed.
use Rattle.std.specs.Prelude.{◌≡◌, ℕ, ◌++◌, List, [], ◌∷◌, None, Some, codes, refl}
use Rattle.std.specs.Fmt.{digits}
use Rattle.reh_types.specs.declared.names.LedgerState.{LedgerState}
use Rattle.reh_types.specs.declared.names.LedgerState.TheVariants.{Open, Closed}
use Rattle.reh_model.specs.Contents.{is_in_word}
use Rattle.reh_model.specs.Metadata.{Metadata, Fragment}
use Rattle.reh_commands.specs.Texts.{behind_spaces}
use Rattle.reh_changes.specs.Ranges.{ranges_on, range_words}
use Rattle.reh_changes.specs.Changes.{change_line, lock_words, metadata_lines}

-- the bits 0, 1, 2 and 4
ranges : behind_spaces (range_words (codes "+") (ranges_on (is_in_word 0 23) None 0 6)) ≡ codes " +0-2 +4"
unfolding ranges_on digits
ranges = refl

-- a range that is still open after the last entry ends there
range_to_end : behind_spaces (range_words (codes "-") (ranges_on (is_in_word 1 12) None 64 4)) ≡ codes " -66-67"
unfolding ranges_on digits
range_to_end = refl

-- two bookies
abbrev names : List (List ℕ)
names = codes "b1" ∷ codes "b2" ∷ []

lock : change_line (codes "lock" ∷ codes "7" ∷ []) (lock_words names None) (lock_words names (Some (record { owner = 1; due = Some 9 })))
    ≡ codes "  lock 7 - -> b2 due 9\n"
unfolding digits
lock = refl

-- metadata of two bookies' ledger
abbrev metadata : LedgerState → ℕ → List Fragment → Metadata
metadata state version fragments = record { size = 1; write_quorum = 1; ack_quorum = 1; state = state; version = version; fragments = fragments }

abbrev fragment : ℕ → ℕ → Fragment
fragment first bookie = record { first = first; ensemble = bookie ∷ [] }

sealed : metadata_lines names 7 (metadata Open 3 (fragment 0 0 ∷ [])) (metadata (Closed 5) 4 (fragment 0 1 ∷ fragment 3 0 ∷ []))
    ≡ codes "  ledger 7 version 3 -> 4\n" ++ (codes "  ledger 7 state OPEN -> CLOSED last 4\n"
    ++ (codes "  ledger 7 fragment 0 index 0 b1 -> b2\n" ++ codes "  ledger 7 fragment 1 - -> first 3 b1\n"))
unfolding digits
sealed = refl
