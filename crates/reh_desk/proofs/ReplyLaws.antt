-- The derived `==` of refusals and of replies tells whether they are equal.
use Rattle.std.proofs.Common.{◌≡◌, ℕ, Bool, true, refl, sym, ap, subst, nat_eq, true≢false}
use Rattle.std.specs.Prelude.{◌↔◌, IsTrue}
use Rattle.reh_types.specs.declared.refusals.Refusal.{Refusal}
use Rattle.reh_types.specs.declared.refusals.Refusal.TheVariants.{NoBookie, NoLedger, AlreadyDown, AlreadyUp, NothingToPublish, NoTask, Locked, NotOwner, StillUnder, NoLocks, NotOpen, NotNeeded, GraceSet, GraceRuns, NoGrace, BadTick, ClockEnd, NoFragment, NoIndex, MemberUp, TargetDown, TargetIsMember, NoEndpoint, Stale, NoSource, MissingEntry, Undecided, TooFew, NotRecovering, FragmentsFull, EntryEnd, VersionEnd, NothingToUndo, NothingToRedo, Full, SourceGone, NotOut, TapeFull, HandFull, HandEmpty, NoMemory, Disabled, AlreadyDisabled, AlreadyEnabled}
use Rattle.reh_types.specs.declared.moves.Reply.{Reply}
use Rattle.reh_types.specs.declared.moves.Reply.TheVariants.{Done, Clock, Issued, Discarded, Refused}
use Rattle.reh_types.specs.contracts.refusals.RefusalPartialEq.TheImpl as refusals
use Rattle.reh_types.specs.contracts.moves.ReplyPartialEq.TheImpl as replies
use Rattle.reh_types.specs.contracts.moves.ReplyEq.TheImpl.Laws as reply_laws
use Rattle.std.specs.Cmp.{unsigned_Decides}

abbrev pub same_refusal : Refusal → Refusal → Bool
same_refusal = (refusals.eq-value).it

abbrev pub same_reply : Reply → Reply → Bool
same_reply = (replies.eq-value).it

same : (m n : ℕ) → nat_eq m n ≡ true → m ≡ n
same m n e = (unsigned_Decides m n).0 e

refusal_told : (a b : Refusal) → same_refusal a b ≡ true → a ≡ b
refusal_told NoBookie NoBookie e = refl
refusal_told NoLedger NoLedger e = refl
refusal_told AlreadyDown AlreadyDown e = refl
refusal_told AlreadyUp AlreadyUp e = refl
refusal_told NothingToPublish NothingToPublish e = refl
refusal_told NoTask NoTask e = refl
refusal_told (Locked a) (Locked b) e = ap Locked (same a b e)
refusal_told NotOwner NotOwner e = refl
refusal_told (StillUnder a) (StillUnder b) e = ap StillUnder (same a b e)
refusal_told NoLocks NoLocks e = refl
refusal_told NotOpen NotOpen e = refl
refusal_told NotNeeded NotNeeded e = refl
refusal_told (GraceSet a) (GraceSet b) e = ap GraceSet (same a b e)
refusal_told (GraceRuns a) (GraceRuns b) e = ap GraceRuns (same a b e)
refusal_told NoGrace NoGrace e = refl
refusal_told BadTick BadTick e = refl
refusal_told ClockEnd ClockEnd e = refl
refusal_told NoFragment NoFragment e = refl
refusal_told NoIndex NoIndex e = refl
refusal_told MemberUp MemberUp e = refl
refusal_told TargetDown TargetDown e = refl
refusal_told TargetIsMember TargetIsMember e = refl
refusal_told NoEndpoint NoEndpoint e = refl
refusal_told (Stale a) (Stale b) e = ap Stale (same a b e)
refusal_told (NoSource a) (NoSource b) e = ap NoSource (same a b e)
refusal_told (MissingEntry a) (MissingEntry b) e = ap MissingEntry (same a b e)
refusal_told (Undecided a) (Undecided b) e = ap Undecided (same a b e)
refusal_told (TooFew a) (TooFew b) e = ap TooFew (same a b e)
refusal_told NotRecovering NotRecovering e = refl
refusal_told FragmentsFull FragmentsFull e = refl
refusal_told EntryEnd EntryEnd e = refl
refusal_told VersionEnd VersionEnd e = refl
refusal_told NothingToUndo NothingToUndo e = refl
refusal_told NothingToRedo NothingToRedo e = refl
refusal_told Full Full e = refl
refusal_told (SourceGone a) (SourceGone b) e = ap SourceGone (same a b e)
refusal_told NotOut NotOut e = refl
refusal_told TapeFull TapeFull e = refl
refusal_told HandFull HandFull e = refl
refusal_told HandEmpty HandEmpty e = refl
refusal_told NoMemory NoMemory e = refl
refusal_told Disabled Disabled e = refl
refusal_told AlreadyDisabled AlreadyDisabled e = refl
refusal_told AlreadyEnabled AlreadyEnabled e = refl
refusal_told a b e = absurd (true≢false (sym e))

reply_told : (a b : Reply) → same_reply a b ≡ true → a ≡ b
reply_told Done Done e = refl
reply_told (Clock a) (Clock b) e = ap Clock (same a b e)
reply_told (Issued a) (Issued b) e = ap Issued (same a b e)
reply_told Discarded Discarded e = refl
reply_told (Refused a) (Refused b) e = ap Refused (refusal_told a b e)
reply_told a b e = absurd (true≢false (sym e))

pub replies_tell : (a b : Reply) → IsTrue (same_reply a b) ↔ (a ≡ b)
replies_tell a b = (reply_told a b, λ e. subst (λ (c : Reply). same_reply a c ≡ true) e (reply_laws.laws-law.refl a))
