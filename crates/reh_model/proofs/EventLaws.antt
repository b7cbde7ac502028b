-- What each accepted event keeps: that a cluster is well-formed, and what swaps promise; and that its refusals are answered by lines.
use Rattle.std.proofs.Common.{List, [], ◌≡◌, ◌+◌, ◌∷◌, true, false, Option, None, Some, refl, ◌∙◌, arith}
use Rattle.std.specs.Prelude.{IsTrue}
use Rattle.reh_types.specs.declared.moves.Event.{Event}
use Rattle.reh_types.specs.declared.moves.Event.TheVariants.{Lose, Join, Audit, Acquire, Release, Finish, Expire, Grace, Tick, Roll, Fence, Seal, Copy, Swap, Disable, Enable}
use Rattle.reh_types.specs.declared.names.LedgerState.TheVariants.{InRecovery, Closed}
use Rattle.reh_types.specs.Sets.{union, contains-union}
use Rattle.reh_model.specs.Contents.{has}
use Rattle.reh_model.specs.Metadata.{is_open}
use Rattle.reh_model.specs.Cluster.{Cluster, Ledger, change_ledger, ledger_at, due_of, stripe_at, with_held}
use Rattle.reh_model.specs.Audit.{audited_ledger, first_under}
use Rattle.reh_model.specs.Recovery.{recovered_end, recovered_at}
use Rattle.reh_model.specs.Step.{refusal_of, after, locked_ledger, unlocked_ledger, finished_ledger, expired_ledger, graced_ledger, rolled_ledger, fenced_ledger, sealed_ledger, swapped_ledger, grace_checks, roll_checks, fence_checks, seal_checks, copy_checks, swap_checks}
use Rattle.reh_model.specs.WellFormed.{IsWellFormed}
use Rattle.reh_model.proofs.ContentsLaws.{has-union-copies_of}
use Rattle.reh_model.proofs.RecoveryLaws.{IsRecovered-at}
use Rattle.reh_model.proofs.FragmentLaws.{no_end-open, no_end-recovering}
use Rattle.reh_model.proofs.AcceptedLaws.{accepted_acquire, accepted_grace, accepted_tick, accepted_roll, accepted_fence, accepted_seal, accepted_copy, accepted_swap, accepted_roll_open, accepted_fence_open, accepted_seal_recovering}
use Rattle.reh_model.proofs.WellFormedLaws.{IsLedger-audited_ledger, IsLedger-expired_ledger, IsLedger-fenced_ledger, IsLedger-finished_ledger, IsLedger-locked_ledger, IsLedger-rolled_ledger, IsLedger-sealed_ledger, IsLedger-swapped_ledger, IsLedger-unlocked_ledger, IsLedger-with_due, IsWellFormed-change_ledger, IsWellFormed-clock, IsWellFormed-copied_all, IsWellFormed-enabled, IsWellFormed-ledgers, IsWellFormed-registration, IsWellFormed-united, KeepsId-audited_ledger, KeepsId-expired_ledger, KeepsWords-audited_ledger, KeepsWords-expired_ledger, next_entry-within, recovered_end-within, up_named}
use Rattle.reh_types.specs.declared.refusals.Refusal.{Refusal}
use Rattle.reh_types.specs.declared.refusals.Refusal.TheVariants.{NoBookie, AlreadyDown, AlreadyUp, NothingToPublish, NoTask, Locked, StillUnder, NoLocks, NotOpen, NotNeeded, GraceSet, NoGrace, BadTick, ClockEnd, NoIndex, MemberUp, TargetDown, TargetIsMember, Stale, MissingEntry, Undecided, TooFew, NotRecovering, FragmentsFull, EntryEnd, Disabled, AlreadyDisabled, AlreadyEnabled}
use Rattle.reh_model.specs.Refusals.{at_ledger, no_bookie, already_down, already_up, disabled, nothing_to_publish, no_task, lock_held, no_locks, bad_tick, clock_end}
use Rattle.reh_model.proofs.PromiseLaws.{KeepsPromises, KeepsPromises-apart, KeepsPromises-change_ledger, KeepsPromises-ledgers, KeepsStripes-apart, KeepsStripes-rolled_ledger, KeepsStripes-with_member, KeepsStripes-with_state, metadata-audited_ledger, metadata-expired_ledger, or_before}
use Rattle.reh_model.proofs.WrittenLaws.{IsWritten, first_written, found_written, grace_runs_written, ledger_written, named_written, owner_written, place_written, source_missing_written, version_written, written_if}

-- Well-formed clusters

-- Each accepted event keeps a cluster well-formed.
pub IsWellFormed-after : (s : Cluster) (event : Event) → IsWellFormed s → refusal_of s event ≡ None → IsWellFormed (after s event)
IsWellFormed-after s (Lose b) was none = IsWellFormed-registration s b (Some s.parts.scalars.clock) was (λ tick is. let same : s.parts.scalars.clock ≡ tick = cc in omega (arith, same))
IsWellFormed-after s (Join b) was none = IsWellFormed-registration s b None was (λ tick is. cc)
IsWellFormed-after s Audit was none = IsWellFormed-ledgers s (audited_ledger s) was (KeepsId-audited_ledger s) (KeepsWords-audited_ledger s) (λ g _ is. IsLedger-audited_ledger s g is)
IsWellFormed-after s (Acquire w l) was none = IsWellFormed-change_ledger s l (locked_ledger w) was (λ g. refl) (λ g. refl) (λ g found is.
    let may = accepted_acquire s w l g found none in
    IsLedger-locked_ledger s w g may.0 may.1 is)
IsWellFormed-after s (Release w l) was none = IsWellFormed-change_ledger s l unlocked_ledger was (λ g. refl) (λ g. refl) (λ g _ is. IsLedger-unlocked_ledger s g is)
IsWellFormed-after s (Finish w l) was none = IsWellFormed-change_ledger s l finished_ledger was (λ g. refl) (λ g. refl) (λ g _ is. IsLedger-finished_ledger s g is)
IsWellFormed-after s (Expire w) was none = IsWellFormed-ledgers s (expired_ledger w) was (KeepsId-expired_ledger w) (KeepsWords-expired_ledger w) (λ g _ is. IsLedger-expired_ledger s w g is)
IsWellFormed-after s (Grace w l) was none = IsWellFormed-change_ledger s l (graced_ledger (s.parts.scalars.clock + s.grace)) was (λ g. refl) (λ g. refl) (λ g found is.
    let unfenced : IsTrue (is_open g.metadata.state) = (accepted_grace s w l g found none).state in
    IsLedger-with_due s (Some (s.parts.scalars.clock + s.grace)) g (λ tick same. let due : s.parts.scalars.clock + s.grace ≡ tick = cc in (omega (arith, due), unfenced)) is)
IsWellFormed-after s (Tick n) was none = IsWellFormed-clock s (s.parts.scalars.clock + n) was (omega arith) (accepted_tick s n none).1
IsWellFormed-after s (Roll l i b) was none = IsWellFormed-change_ledger s l (rolled_ledger s i b) was (λ g. refl) (λ g. refl) (λ g found is.
    IsLedger-rolled_ledger s g i b (accepted_roll s l i b g found (next_entry-within s l g was found) is.metadata.version none) is)
IsWellFormed-after s (Fence w l) was none = IsWellFormed-change_ledger s l fenced_ledger was (λ g. refl) (λ g. refl) (λ g found is.
    IsLedger-fenced_ledger s g (accepted_fence s w l g found is.metadata.version none).version is)
IsWellFormed-after s (Seal w l) was none =
    let t : Cluster = with_held s (union s.parts.held (recovered_at s l)) in
    let copied : IsWellFormed t = IsWellFormed-united s (recovered_at s l) was (λ b k e is. let shows = IsRecovered-at s l b k e is in (up_named s b was shows.up, shows.held)) in
    IsWellFormed-change_ledger t l (sealed_ledger s) copied (λ g. refl) (λ g. refl) (λ g found is.
    let may = accepted_seal s w l g found is.metadata.version none in
    IsLedger-sealed_ledger s g may.state may.version (recovered_end-within s l g was found) is)
IsWellFormed-after s (Copy w l f i v) was none =
    let may = accepted_copy s w l f i v none in
    IsWellFormed-copied_all s w l (stripe_at s l f i) was may.named may.held
IsWellFormed-after s (Swap w l f i v) was none = IsWellFormed-change_ledger s l (swapped_ledger f i w) was (λ g. refl) (λ g. refl) (λ g found is.
    IsLedger-swapped_ledger s g w f i (accepted_swap s w l f i v g found is.metadata.version none) is)
IsWellFormed-after s Disable was none = IsWellFormed-enabled s false was
IsWellFormed-after s Enable was none = IsWellFormed-enabled s true was

-- Promises of swaps

-- what an accepted event keeps
pub KeepsPromises-after : (s : Cluster) (event : Event) → refusal_of s event ≡ None → KeepsPromises s (after s event)
KeepsPromises-after s (Lose b) accepted = KeepsPromises-apart s (after s (Lose b)) refl refl
KeepsPromises-after s (Join b) accepted = KeepsPromises-apart s (after s (Join b)) refl refl
KeepsPromises-after s Audit accepted = KeepsPromises-ledgers s (audited_ledger s) (KeepsId-audited_ledger s) (λ l g _. KeepsStripes-apart g (audited_ledger s g) (metadata-audited_ledger s g))
KeepsPromises-after s (Acquire w l) accepted = KeepsPromises-change_ledger s l (locked_ledger w) (λ g. refl) (λ g _. KeepsStripes-apart g (locked_ledger w g) refl)
KeepsPromises-after s (Release w l) accepted = KeepsPromises-change_ledger s l unlocked_ledger (λ g. refl) (λ g _. KeepsStripes-apart g (unlocked_ledger g) refl)
KeepsPromises-after s (Finish w l) accepted = KeepsPromises-change_ledger s l finished_ledger (λ g. refl) (λ g _. KeepsStripes-apart g (finished_ledger g) refl)
KeepsPromises-after s (Expire w) accepted = KeepsPromises-ledgers s (expired_ledger w) (KeepsId-expired_ledger w) (λ l g _. KeepsStripes-apart g (expired_ledger w g) (metadata-expired_ledger w g))
KeepsPromises-after s (Grace w l) accepted = KeepsPromises-change_ledger s l (graced_ledger (s.parts.scalars.clock + s.grace)) (λ g. refl) (λ g _. KeepsStripes-apart g (graced_ledger (s.parts.scalars.clock + s.grace) g) refl)
KeepsPromises-after s (Tick n) accepted = KeepsPromises-apart s (after s (Tick n)) refl refl
KeepsPromises-after s (Roll l i b) accepted = KeepsPromises-change_ledger s l (rolled_ledger s i b) (λ g. refl) (λ g found. KeepsStripes-rolled_ledger s g i b (accepted_roll_open s l i b g found accepted))
KeepsPromises-after s (Fence w l) accepted = KeepsPromises-change_ledger s l fenced_ledger (λ g. refl) (λ g found.
    KeepsStripes-with_state g (fenced_ledger g) InRecovery (no_end-open g.metadata.state (accepted_fence_open s w l g found accepted)) refl)
KeepsPromises-after s (Seal w l) accepted =
    let keeps : KeepsPromises s (change_ledger s l (sealed_ledger s)) = KeepsPromises-change_ledger s l (sealed_ledger s) (λ g. refl) (λ g found.
    KeepsStripes-with_state g (sealed_ledger s g) (Closed (recovered_end s g)) (no_end-recovering g.metadata.state (accepted_seal_recovering s w l g found accepted)) refl) in
    record { stop = keeps.stop; stripe = keeps.stripe; held = λ b k e is. contains-union s.parts.held (recovered_at s l) (b, k, e) ∙ or_before (has s.parts.held b k e) _ is }
KeepsPromises-after s (Copy w l f i v) accepted = record {
  stop = λ k g _. refl;
  stripe = λ k g j _. refl;
  held = λ b k e is. has-union-copies_of s.parts.held w l (stripe_at s l f i) b k e ∙ or_before (has s.parts.held b k e) _ is;
}
KeepsPromises-after s (Swap w l f i v) accepted = KeepsPromises-change_ledger s l (swapped_ledger f i w) (λ g. refl) (λ g _. KeepsStripes-with_member g (swapped_ledger f i w g) f i w refl)
KeepsPromises-after s Disable accepted = KeepsPromises-apart s (after s Disable) refl refl
KeepsPromises-after s Enable accepted = KeepsPromises-apart s (after s Enable) refl refl

-- Refusals

-- a refusal of an event is answered by a line
pub event_refusal-written : (s : Cluster) (event : Event) → IsWritten (refusal_of s event)
event_refusal-written s (Lose b) = first_written (no_bookie s b ∷ already_down s b ∷ []) (written_if _ NoBookie refl, (written_if _ AlreadyDown refl, tt))
event_refusal-written s (Join b) = first_written (no_bookie s b ∷ already_up s b ∷ []) (written_if _ NoBookie refl, (written_if _ AlreadyUp refl, tt))
event_refusal-written s Audit = first_written (disabled s ∷ nothing_to_publish s ∷ []) (written_if _ Disabled refl, (written_if _ NothingToPublish refl, tt))
event_refusal-written s (Acquire w l) =
    let checks : Ledger → List (Option Refusal) = λ g. no_task g ∷ lock_held g ∷ [] in
    first_written (disabled s ∷ no_bookie s w ∷ at_ledger s l checks ∷ []) (
      written_if _ Disabled refl,
      (
        written_if _ NoBookie refl,
        (ledger_written (ledger_at s l) checks (λ g. (written_if _ NoTask refl, (found_written g.lock (λ lock. Locked lock.owner) (λ lock. refl), tt))), tt),
      ),
    )
event_refusal-written s (Release w l) = named_written s w l _ (λ g. (owner_written w g, tt))
event_refusal-written s (Finish w l) = named_written s w l _ (λ g. (owner_written w g, (found_written (first_under s g) (λ f. StillUnder f) (λ f. refl), tt)))
event_refusal-written s (Expire w) = first_written (no_bookie s w ∷ no_locks s w ∷ []) (written_if _ NoBookie refl, (written_if _ NoLocks refl, tt))
event_refusal-written s (Grace w l) =
    named_written s w l (grace_checks s w) (λ g. (
      owner_written w g,
      (written_if _ NotOpen refl, (written_if _ NotNeeded refl, (found_written (due_of g) (λ due. GraceSet due) (λ due. refl), tt))),
    ))
event_refusal-written s (Tick n) = first_written (bad_tick n ∷ clock_end s n ∷ []) (written_if _ BadTick refl, (written_if _ ClockEnd refl, tt))
event_refusal-written s (Roll l i b) =
    named_written s b l (roll_checks s i b) (λ g. (
      written_if _ NotOpen refl,
      (
        written_if _ NoIndex refl,
        (
          written_if _ MemberUp refl,
          (written_if _ TargetDown refl, (written_if _ TargetIsMember refl, (written_if _ EntryEnd refl, (written_if _ FragmentsFull refl, (version_written g, tt))))),
        ),
      ),
    ))
event_refusal-written s (Fence w l) =
    named_written s w l (fence_checks s w) (λ g. (
      owner_written w g,
      (written_if _ NotOpen refl, (written_if _ NotNeeded refl, (written_if _ NoGrace refl, (grace_runs_written s (due_of g), (version_written g, tt))))),
    ))
event_refusal-written s (Seal w l) =
    named_written s w l (seal_checks s w) (λ g. (
      owner_written w g,
      (written_if _ NotRecovering refl, (found_written _ (λ e. TooFew e) (λ e. refl), (written_if _ (Undecided (recovered_end s g)) refl, (version_written g, tt)))),
    ))
event_refusal-written s (Copy w l f i v) =
    named_written s w l (copy_checks s w f i v) (λ g. (
      owner_written w g,
      (written_if _ (Stale g.metadata.version) refl, (place_written s w g f i, (source_missing_written s g f i, tt))),
    ))
event_refusal-written s (Swap w l f i v) =
    named_written s w l (swap_checks s w f i v) (λ g. (
      owner_written w g,
      (
        written_if _ (Stale g.metadata.version) refl,
        (place_written s w g f i, (found_written _ (λ e. MissingEntry e) (λ e. refl), (version_written g, tt))),
      ),
    ))
event_refusal-written s Disable = written_if _ AlreadyDisabled refl
event_refusal-written s Enable = written_if _ AlreadyEnabled refl
