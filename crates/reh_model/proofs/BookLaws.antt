-- Books: nothing else is refused for the book's own reasons, and a legal tape goes on by one line more.
use Rattle.std.proofs.Common.{◌≡◌, ℕ, ◌&&◌, not, List, [], ◌∷◌, ◌++◌, map, length, Option, None, Some, refl, subst}
use Rattle.std.specs.Prelude.{◌==◌, IsTrue, nat_le, slice_get}
use Rattle.std.specs.List.{list_any, zip}
use Rattle.reh_types.specs.declared.calls.Call.{Call}
use Rattle.reh_types.specs.declared.calls.Line.{Line}
use Rattle.reh_types.specs.declared.contents.Content.{Content}
use Rattle.reh_types.specs.declared.limits.TheConstants.{MAX_EVENTS}
use Rattle.reh_types.specs.declared.moves.Move.{Move}
use Rattle.reh_types.specs.declared.moves.Move.TheVariants.{Do, Post, Undo, Redo, Look}
use Rattle.reh_types.specs.declared.moves.Reply.{Reply}
use Rattle.reh_types.specs.declared.names.Aim.{Aim}
use Rattle.reh_types.specs.declared.refusals.Refusal.TheVariants.{NoBookie, NotOwner, MemberUp, TargetDown, TargetIsMember, Stale, NothingToUndo, NothingToRedo, Full, SourceGone}
use Rattle.reh_model.specs.Metadata.{Fragment, writes, stripe_of}
use Rattle.reh_model.specs.Cluster.{Cluster, Ledger, is_up, is_locked_by, is_source, ledger_at}
use Rattle.reh_model.specs.Refusals.{at_ledger, no_bookie}
use Rattle.reh_model.specs.Step.{refusal_of}
use Rattle.reh_model.specs.Scan.{is_as_seen, lost_source, source_checks, post_checks, post_refusal, aim_checks, aim_refusal}
use Rattle.reh_model.specs.Session.{Session, state_of, reply_unless, no_room, reply_to}
use Rattle.reh_model.specs.Book.{Book, answer_to, is_written, book_after, Legal}
use Rattle.reh_model.proofs.WrittenLaws.{IsWritten, AreWritten, first_written, written_if, ledger_written, fragment_written, named_written, owner_written, place_written}
use Rattle.reh_model.proofs.EventLaws.{event_refusal-written}

-- Posts

source_written : (s : Cluster) (g : Ledger) (fragment : Fragment) (source : ℕ × Option ℕ) → IsWritten (lost_source s g fragment source)
source_written s g fragment (entry, None) = refl
source_written s g fragment (entry, Some b) = written_if (not (list_any (λ member. member == b) (writes g.metadata fragment entry) && is_source s g.id entry b)) (SourceGone entry) refl

sources_written : (s : Cluster) (g : Ledger) (fragment : Fragment) (sources : List (ℕ × Option ℕ)) → AreWritten (map (lost_source s g fragment) sources)
sources_written s g fragment [] = tt
sources_written s g fragment (source ∷ sources) = (source_written s g fragment source, sources_written s g fragment sources)

post_refusal-written : (s : Cluster) (content : Content) → IsWritten (post_refusal s content)
post_refusal-written s content =
    first_written (no_bookie s w ∷ at_ledger s content.aim.ledger (post_checks s content) ∷ []) (written_if _ NoBookie refl, (ledger_written (ledger_at s content.aim.ledger) (post_checks s content) ledger, tt))
  where
    w : ℕ
    w = content.aim.worker

    fragment_checked : (g : Ledger) (fragment : Fragment) → AreWritten (source_checks s content g fragment)
    fragment_checked g fragment =
        let lost = first_written _ (sources_written s g fragment (zip (stripe_of g.metadata content.aim.fragment content.aim.index) content.sources)) in
        let new = written_if (list_any (λ member. member == w) fragment.ensemble) TargetIsMember refl in
        (written_if (is_up s _) MemberUp refl, (written_if (not (is_up s w)) TargetDown refl, (new, (lost, tt))))

    ledger : (g : Ledger) → AreWritten (post_checks s content g)
    ledger g =
        let found = fragment_written (slice_get g.metadata.fragments content.aim.fragment) (source_checks s content g) (fragment_checked g) in
        (written_if (not (is_locked_by w g)) NotOwner refl, (written_if (not (is_as_seen g.metadata content)) (Stale g.metadata.version) refl, (found, tt)))

-- A session's reply to a post is never one that adds no line.
pub post_written : (m : Session) (content : Content) → IsTrue (is_written (reply_to m (Post content)))
post_written m content =
    first_written (post_refusal (state_of m) content ∷ no_room m ∷ []) (post_refusal-written (state_of m) content, (written_if (nat_le MAX_EVENTS (length m.done)) Full refl, tt))

-- Replies of sessions

-- every reply of a session is answered by a line
pub reply_written : (m : Session) (move : Move) → IsTrue (is_written (reply_to m move))
reply_written m (Do event) = first_written (refusal_of (state_of m) event ∷ no_room m ∷ []) (event_refusal-written (state_of m) event, (written_if (nat_le MAX_EVENTS (length m.done)) Full refl, tt))
reply_written m (Post content) = post_written m content
reply_written m Undo = written_if (length m.done == 0) NothingToUndo refl
reply_written m Redo = written_if (length m.undone == 0) NothingToRedo refl
reply_written m Look = refl

-- A refusal of an aim is answered by a line too.
pub aim_written : (s : Cluster) (aim : Aim) → IsTrue (is_written (reply_unless (aim_refusal s aim)))
aim_written s aim = named_written s aim.worker aim.ledger (aim_checks s aim) (λ g. (owner_written aim.worker g, (place_written s aim.worker g aim.fragment aim.index, tt)))

-- Tapes

-- a legal tape goes on by the line of a call that the book answers by one
pub Legal-push : (b c : Book) (lines : List Line) (seat : ℕ) (call : Call) (reply : Reply) → Legal b lines c → reply ≡ answer_to c seat call → IsTrue (is_written reply)
    → Legal b (lines ++ record { seat = seat; call = call; reply = reply } ∷ []) (book_after c seat call reply)
Legal-push b c [] seat call reply legal is written = subst (λ (x : Book). Legal x (record { seat = seat; call = call; reply = reply } ∷ []) (book_after c seat call reply)) legal (is, written, refl)
Legal-push b c (line ∷ lines) seat call reply legal is written = (legal.0, legal.1, Legal-push (book_after b line.seat line.call line.reply) c lines seat call reply legal.2 is written)
