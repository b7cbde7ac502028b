-- Worked runs of surveys, of the five bookies and of ledgers with other sizes and quorums.
use Rattle.std.specs.Prelude.{◌≡◌, refl, ℕ, [], ◌∷◌, ◌++◌, Option, Some, None}
use Rattle.reh_types.specs.declared.moves.Event.TheVariants.{Lose}
use Rattle.reh_types.specs.declared.moves.Move.TheVariants.{Do}
use Rattle.reh_types.specs.declared.names.LedgerState.TheVariants.{InRecovery, Closed}
use Rattle.reh_types.specs.declared.surveys.SurveyLine.{SurveyLine}
use Rattle.reh_types.specs.Sets.{contains, insert, retain, remove, empty, from_list, union, items, is_subset, is_empty, len}
use Rattle.reh_model.specs.Cluster.{Cluster, Ledger, with_held, with_ledgers}
use Rattle.reh_model.specs.Session.{opened_session, state_of}
use Rattle.reh_model.specs.Survey.{survey, line_at}
use Rattle.reh_model.proofs.Examples.{played_session}
use Rattle.reh_model.proofs.TaskExamples.{closed_ledger, row, five_bookies}
use Rattle.reh_model.proofs.CopyExamples.{bookies_without_a_source, bookies_with_an_empty_ledger}

-- the state after the second bookie is lost
abbrev after_loss : Cluster → Cluster
after_loss s = state_of (played_session (opened_session s) (Do (Lose 1) ∷ []))

abbrev line : ℕ → ℕ → ℕ → Option ℕ → SurveyLine
line ledger fragment down lost = record { ledger = ledger; fragment = fragment; down = down; lost = lost }

-- a ledger of three fragments, whose entries have two of four members each
abbrev wide_ledger : Ledger
wide_ledger = record closed_ledger {
  id = 3;
  metadata = record {
    size = 4;
    write_quorum = 2;
    ack_quorum = 1;
    state = InRecovery;
    version = 2;
    fragments = record { first = 0; ensemble = 0 ∷ 1 ∷ 2 ∷ 3 ∷ [] } ∷ record { first = 2; ensemble = 4 ∷ 1 ∷ 2 ∷ 3 ∷ [] } ∷ record { first = 5; ensemble = 4 ∷ 0 ∷ 2 ∷ 3 ∷ [] } ∷ [];
  };
}

-- it stands there in recovery and closed, and the fourth bookie holds entry 4 of the former, which was not written to it
abbrev wide_cluster : Cluster
wide_cluster = with_held (with_ledgers five_bookies (wide_ledger ∷ record wide_ledger { id = 4; metadata = record wide_ledger.metadata { state = Closed 8 } } ∷ [])) (from_list (row 0 3 (0 ∷ []) ++ row 1 3 (0 ∷ 1 ∷ []) ++ row 3 3 (2 ∷ 3 ∷ 4 ∷ []) ++ row 4 4 (5 ∷ 7 ∷ []) ++ row 2 4 (2 ∷ 5 ∷ 6 ∷ [])))

-- nothing is lost at first
pub survey_of_all : survey five_bookies ≡ line 7 0 0 (Some 0) ∷ line 9 0 0 None ∷ []
unfolding contains insert retain remove empty from_list union items is_subset is_empty len
survey_of_all = refl

-- nor with one bookie less,
pub survey_of_a_lost_bookie : survey (after_loss five_bookies) ≡ line 7 0 1 (Some 0) ∷ line 9 0 1 None ∷ []
unfolding contains insert retain remove empty from_list union items is_subset is_empty len
survey_of_a_lost_bookie = refl

-- but for an entry that it alone held
pub survey_of_a_lost_entry : survey (after_loss bookies_without_a_source) ≡ line 7 0 1 (Some 1) ∷ line 9 0 1 None ∷ []
unfolding contains insert retain remove empty from_list union items is_subset is_empty len
survey_of_a_lost_entry = refl

-- which is not lost as long as it is registered
pub survey_before_the_loss : survey bookies_without_a_source ≡ line 7 0 0 (Some 0) ∷ line 9 0 0 None ∷ []
unfolding contains insert retain remove empty from_list union items is_subset is_empty len
survey_before_the_loss = refl

-- no entry of a closed ledger without entries is lost
pub survey_of_an_empty_ledger : survey (after_loss bookies_with_an_empty_ledger) ≡ line 5 0 1 (Some 0) ∷ line 7 0 1 (Some 0) ∷ line 9 0 1 None ∷ []
unfolding contains insert retain remove empty from_list union items is_subset is_empty len
survey_of_an_empty_ledger = refl

-- each fragment has a line, the ledgers in picture order
pub survey_of_fragments : survey wide_cluster ≡ line 3 0 0 (Some 0) ∷ line 3 1 0 (Some 1) ∷ line 3 2 0 None ∷ line 4 0 0 (Some 2) ∷ line 4 1 0 (Some 2) ∷ line 4 2 0 (Some 0) ∷ []
unfolding contains insert retain remove empty from_list union items is_subset is_empty len
survey_of_fragments = refl

pub survey_of_fragments_after_a_loss : survey (after_loss wide_cluster) ≡ line 3 0 1 (Some 1) ∷ line 3 1 1 (Some 1) ∷ line 3 2 0 None ∷ line 4 0 1 (Some 2) ∷ line 4 1 1 (Some 2) ∷ line 4 2 0 (Some 0) ∷ []
unfolding contains insert retain remove empty from_list union items is_subset is_empty len
survey_of_fragments_after_a_loss = refl

-- the line of one fragment, and none where there is no such fragment or ledger
pub line_of_a_fragment : line_at (after_loss wide_cluster) 3 1 ≡ Some (line 3 1 1 (Some 1))
unfolding contains insert retain remove empty from_list union items is_subset is_empty len
line_of_a_fragment = refl

pub line_of_no_fragment : line_at wide_cluster 3 3 ≡ None
line_of_no_fragment = refl

pub line_of_no_ledger : line_at wide_cluster 2 0 ≡ None
line_of_no_ledger = refl
