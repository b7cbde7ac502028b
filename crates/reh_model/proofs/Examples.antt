-- Worked runs on two bookies and no ledger: the definitions, computed.
use Rattle.std.specs.Prelude.{◌≡◌, refl, ℕ, true, List, [], ◌∷◌, map, None, codes}
use Rattle.reh_types.specs.declared.moves.Event.TheVariants.{Lose, Tick}
use Rattle.reh_types.specs.declared.moves.Move.{Move}
use Rattle.reh_types.specs.declared.moves.Move.TheVariants.{Do, Undo, Redo, Look}
use Rattle.reh_types.specs.declared.moves.Reply.{Reply}
use Rattle.reh_types.specs.declared.moves.Reply.TheVariants.{Done, Clock, Refused}
use Rattle.reh_types.specs.declared.refusals.Refusal.TheVariants.{NothingToUndo, BadTick, ClockEnd}
use Rattle.reh_types.specs.Sets.{contains, insert, retain, remove, empty, from_list, union, items, is_subset, is_empty, len}
use Rattle.reh_model.specs.Cluster.{Cluster, cluster_of, with_clock}
use Rattle.reh_model.specs.Session.{Session, opened_session, reply_to, session_after}

-- registered bookies of these names, with no ledgers, a grace of 3 ticks and no delay, and AutoRecovery enabled
abbrev pub clear_cluster : List (List ℕ) → Cluster
clear_cluster names = cluster_of names (map (λ name. None) names) 3 0 true [] empty

-- two registered bookies, and no ledger
abbrev pub two_bookies : Cluster
two_bookies = clear_cluster (codes "b1:3181" ∷ codes "b2:3181" ∷ [])

-- the replies to moves in order
abbrev pub replies : Session → List Move → List Reply
replies m [] = []
replies m (move ∷ moves) = reply_to m move ∷ replies (session_after m move (reply_to m move)) moves

-- the session after moves in order
abbrev pub played_session : Session → List Move → Session
played_session m [] = m
played_session m (move ∷ moves) = played_session (session_after m move (reply_to m move)) moves

-- events, undos and a redo
pub undo_and_redo : replies (opened_session two_bookies) (Do (Lose 0) ∷ Do (Tick 2) ∷ Undo ∷ Undo ∷ Undo ∷ Redo ∷ [])
    ≡ Done ∷ Done ∷ Done ∷ Done ∷ Refused NothingToUndo ∷ Done ∷ []
unfolding contains insert retain remove empty from_list union items is_subset is_empty len
undo_and_redo = refl

-- the clock ends at 1,000,000,000 ticks, and a tick is of 1 to 1,000,000
pub clock_at_its_end : replies (opened_session (with_clock two_bookies 1_000_000_000)) (Do (Tick 1) ∷ Do (Tick 0) ∷ Do (Tick 1_000_001) ∷ Look ∷ [])
    ≡ Refused ClockEnd ∷ Refused BadTick ∷ Refused BadTick ∷ Clock 1_000_000_000 ∷ []
unfolding contains insert retain remove empty from_list union items is_subset is_empty len
clock_at_its_end = refl
