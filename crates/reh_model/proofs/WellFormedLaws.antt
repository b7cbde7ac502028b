-- What changes of a cluster keep it well-formed, and that a ledger that is found in one keeps its rules.
use Rattle.std.proofs.Common.{◌≡◌, ℕ, Bool, true, false, cond, not, ◌&&◌, ◌||◌, ◌+◌, ◌-◌, ◌*◌, ◌<◌, ◌≤◌, List, [], ◌∷◌, map, length, get_or, set, Option, None, Some, IsSome, refl, sym, ap, ◌∙◌, subst, arith, nat_eq}
use Rattle.std.specs.Prelude.{is_none, ◌==◌, if◌then◌else◌, slice_get, max, unwrap_or, IsTrue, All}
use Rattle.std.specs.List.{IsDistinct, find, list_any}
use Rattle.std.specs.Option.{ForSome, option_map, option_map_or, option_and_then}
use Rattle.std.proofs.lemmas.Bool.Decides.{nat_tests}
use Rattle.std.proofs.lemmas.List.{length-map}
use Rattle.std.proofs.lemmas.List.Elements.{All-append, All-cons, All-head, All-map, All-nil, All-set, All-tail, All-weaker}
use Rattle.std.proofs.lemmas.Option.{slice_get-get_or, slice_get_within, get_or_from_slice_get, unwrap_or-slice_get}
use Rattle.reh_types.specs.declared.limits.TheConstants.{CLOCK_END, ENTRIES_IN_WORD, ENTRY_END, MAX_VERSION, MAX_WORDS}
use Rattle.reh_types.specs.declared.locks.Lock.{Lock}
use Rattle.reh_types.specs.declared.moves.Event.TheVariants.{Swap}
use Rattle.reh_types.specs.declared.names.LedgerState.{LedgerState}
use Rattle.reh_types.specs.declared.names.LedgerState.TheVariants.{Open, InRecovery, Closed}
use Rattle.reh_types.specs.Sets.{Set, numbers, contains, union, is_empty, len, items, contains-union}
use Rattle.reh_types.proofs.SetLaws.{All-items}
use Rattle.reh_model.specs.Contents.{Contents, IsHeld, has, copies_of, greatest_held}
use Rattle.reh_model.specs.Metadata.{Metadata, Fragment, IsMetadata, is_open, is_in_recovery, end_of_state, last_fragment, with_member, with_member_at, with_fragment_at, with_state, next_version}
use Rattle.reh_model.specs.Cluster.{Cluster, Ledger, ledger_at, change_ledger, is_locked_by, due_of, with_clock, with_enabled, with_held, with_ledgers, with_registration, is_up}
use Rattle.reh_model.specs.Audit.{long_lost_members, published_members, audited_ledger}
use Rattle.reh_model.specs.Recovery.{next_entry, is_rolling_over, recovered_end}
use Rattle.reh_model.specs.Step.{refusal_of, locked_ledger, unlocked_ledger, finished_ledger, expired_ledger, timed_lock, with_due, rolled_ledger, fenced_ledger, sealed_ledger, swapped_ledger}
use Rattle.reh_model.specs.WellFormed.{IsLedger, IsCopy, IsWellFormed}
use Rattle.reh_model.proofs.ListLaws.{change_at-length, All-put}
use Rattle.reh_model.proofs.LedgerLaws.{KeepsId, KeepsWords, changed_ledger, KeepsId-changed_ledger, KeepsWords-changed_ledger, ids-map, sum_by-words, words_among-map, is_found-map, found_itself}
use Rattle.reh_model.proofs.ContentsLaws.{All-copy, has-copies_of, greatest_held-held}
use Rattle.reh_model.proofs.RecoveryLaws.{first_before_next, next_entry-unreadable, first_before_end, recovered_end-least}
use Rattle.reh_model.proofs.FragmentLaws.{no_end-open, first-last, IsMetadata-added, IsMetadata-state}
use Rattle.reh_model.proofs.MemberLaws.{IsMetadata-set, with_member_at-found}
use Rattle.reh_model.proofs.AuditLaws.{published_named, published_some}
use Rattle.reh_model.proofs.AcceptedLaws.{IsRollable, IsSwappable, accepted_swap}

-- What is there

-- a ledger of the cluster
abbrev pub IsLedgerOf : Cluster → Ledger → Type 0
IsLedgerOf s g = IsLedger (length s.names) (s.parts.scalars.clock + s.grace) g

-- A registered bookie has a name.
pub up_named : (s : Cluster) (b : ℕ) → IsWellFormed s → is_up s b ≡ true → b < length s.names
up_named s b was = there (slice_get s.parts.lost_at b) refl where
  there : (o : Option (Option ℕ)) → slice_get s.parts.lost_at b ≡ o → option_map_or is_none o false ≡ true → b < length s.names
  there None is up = cc
  there (Some lost) is up = omega (arith, slice_get_within s.parts.lost_at b lost is, was.registrations.each)

-- A ledger that is found is one of the cluster.
pub IsLedger-found : (s : Cluster) (l : ℕ) (g : Ledger) → IsWellFormed s → ledger_at s l ≡ Some g → IsLedgerOf s g
IsLedger-found s l g was found = found_in s.parts.ledgers was.ledgers.each found where
  found_in : (gs : List Ledger) → All (IsLedgerOf s) gs → find (λ g. g.id == l) gs ≡ Some g → IsLedgerOf s g
  found_in [] each found = cc
  found_in (h ∷ gs) each found =
      elim (h.id == l) as (λ b. cond b (Some h) (find (λ g. g.id == l) gs) ≡ Some g → IsLedgerOf s g) [
        | true ↦ λ is. let same : h ≡ g = cc in subst (IsLedgerOf s) same (All-head (IsLedgerOf s) h gs each)
        | false ↦ λ later. found_in gs (All-tail (IsLedgerOf s) h gs each) later
      ] found

-- Nobody holds an entry past the last one that there can be,
pub held_below : (s : Cluster) (l e : ℕ) → IsWellFormed s → IsHeld s.parts.held l e → e < ENTRY_END
held_below s l e was held = within (ledger_at s l) refl copy.1 copy.2 where
  copy : IsCopy (length s.names) s.parts.ledgers (held.0, l, e)
  copy = All-copy (IsCopy (length s.names) s.parts.ledgers) s.parts.held was.contents.copies (held.0, l, e) held.1

  within : (o : Option Ledger) → ledger_at s l ≡ o → IsSome o → e < ENTRIES_IN_WORD * option_map_or (λ g. g.words) o 0 → e < ENTRY_END
  within None found some below = cc
  within (Some g) found some below = omega (arith, below, (IsLedger-found s l g was found).words)

-- so the next entry is at most one past it,
pub next_entry-within : (s : Cluster) (l : ℕ) (g : Ledger) → IsWellFormed s → ledger_at s l ≡ Some g → next_entry s g ≤ ENTRY_END
next_entry-within s l g was found = within (greatest_held s.parts.held g.id) refl where
  first : (last_fragment g.metadata).first < ENTRY_END
  first = first-last g.metadata (IsLedger-found s l g was found).metadata

  within : (greatest : Option ℕ) → greatest_held s.parts.held g.id ≡ greatest → option_map_or (λ greatest. max (last_fragment g.metadata).first (greatest + 1)) greatest (last_fragment g.metadata).first ≤ ENTRY_END
  within None is = omega (arith, first)
  within (Some greatest) is = omega (arith, first, held_below s g.id greatest was (greatest_held-held s.parts.held g.id greatest is))

-- and a recovery ends there at the latest.
pub recovered_end-within : (s : Cluster) (l : ℕ) (g : Ledger) → IsWellFormed s → ledger_at s l ≡ Some g → recovered_end s g ≤ ENTRY_END
recovered_end-within s l g was found =
    let end : recovered_end s g ≤ next_entry s g = recovered_end-least s g (next_entry s g) (first_before_next s g) (next_entry-unreadable s g (last_fragment g.metadata)) in
    omega (arith, end, next_entry-within s l g was found)

-- Changes

-- a bookie is registered, or lost at a tick that was
pub IsWellFormed-registration : (s : Cluster) (b : ℕ) (lost : Option ℕ) → IsWellFormed s → ForSome lost (λ tick. tick ≤ s.parts.scalars.clock) → IsWellFormed (with_registration s b lost)
IsWellFormed-registration s b lost was past = record {
  names = was.names;
  grace = was.grace;
  delay = was.delay;
  clock = was.clock;
  registrations = record {
    each = change_at-length s.parts.lost_at b _ ∙ was.registrations.each;
    ticks = All-put (λ lost. ForSome lost (λ tick. tick ≤ s.parts.scalars.clock)) lost past s.parts.lost_at b was.registrations.ticks;
  };
  ledgers = was.ledgers;
  contents = was.contents;
}

-- later due ticks can stand
IsLedger-later : (bookies latest later : ℕ) (g : Ledger) → latest ≤ later → IsLedger bookies latest g → IsLedger bookies later g
IsLedger-later bookies latest later g goes_on was = record {
  id = was.id;
  metadata = was.metadata;
  members = was.members;
  words = was.words;
  task = was.task;
  lock = was.lock;
  due = λ due is. let kept = was.due due is in (omega (arith, kept.0), kept.1);
}

-- the clock goes on
pub IsWellFormed-clock : (s : Cluster) (clock : ℕ) → IsWellFormed s → s.parts.scalars.clock ≤ clock → clock ≤ CLOCK_END → IsWellFormed (with_clock s clock)
IsWellFormed-clock s clock was later in_time = record {
  names = was.names;
  grace = was.grace;
  delay = was.delay;
  clock = in_time;
  registrations = record {
    each = was.registrations.each;
    ticks = λ k lost k_in tick is. let past = was.registrations.ticks k lost k_in tick is in omega (arith, past, later);
  };
  ledgers = record {
    few = was.ledgers.few;
    different = was.ledgers.different;
    each = λ k g k_in. IsLedger-later (length s.names) (s.parts.scalars.clock + s.grace) (clock + s.grace) _ (omega arith) (was.ledgers.each k g k_in);
  };
  contents = was.contents;
}

-- AutoRecovery is disabled or enabled
pub IsWellFormed-enabled : (s : Cluster) (enabled : Bool) → IsWellFormed s → IsWellFormed (with_enabled s enabled)
IsWellFormed-enabled s enabled was = record {
  names = was.names;
  grace = was.grace;
  delay = was.delay;
  clock = was.clock;
  registrations = was.registrations;
  ledgers = was.ledgers;
  contents = was.contents;
}

-- ledgers are changed, and keep their ids and their words
pub IsWellFormed-ledgers : (s : Cluster) (change : Ledger → Ledger) → IsWellFormed s → KeepsId change → KeepsWords change → ((g : Ledger) → ledger_at s g.id ≡ Some g → IsLedgerOf s g → IsLedgerOf s (change g)) → IsWellFormed (with_ledgers s (map change s.parts.ledgers))
IsWellFormed-ledgers s change was keeps as_many each = record {
  names = was.names;
  grace = was.grace;
  delay = was.delay;
  clock = was.clock;
  registrations = was.registrations;
  ledgers = record {
    few = omega (arith, length-map s.parts.ledgers change, was.ledgers.few);
    different = subst (λ (ids : List ℕ). IsDistinct nat_eq ids) (sym (ids-map change keeps s.parts.ledgers)) was.ledgers.different;
    each = All-map (IsLedgerOf s) change s.parts.ledgers (λ k d within.
        each (get_or s.parts.ledgers k d) (found_itself s.parts.ledgers was.ledgers.different k d within) (was.ledgers.each k d within));
  };
  contents = record {
    copies = All-weaker (IsCopy (length s.names) s.parts.ledgers) (IsCopy (length s.names) (map change s.parts.ledgers)) (λ copy is.
        (is.0, is_found-map copy.1 change keeps s.parts.ledgers ∙ is.1, subst (λ (n : ℕ). copy.2 < ENTRIES_IN_WORD * n) (sym (words_among-map copy.1 change keeps as_many s.parts.ledgers)) is.2)) (items s.parts.held) was.contents.copies;
    words = subst (λ (n : ℕ). length s.names * n ≤ MAX_WORDS) (sym (sum_by-words change as_many s.parts.ledgers)) was.contents.words;
  };
}

-- one ledger is changed
pub IsWellFormed-change_ledger : (s : Cluster) (l : ℕ) (change : Ledger → Ledger) → IsWellFormed s → KeepsId change → KeepsWords change → ((g : Ledger) → ledger_at s l ≡ Some g → IsLedgerOf s g → IsLedgerOf s (change g)) → IsWellFormed (change_ledger s l change)
IsWellFormed-change_ledger s l change was keeps as_many each = IsWellFormed-ledgers s (changed_ledger l change) was (KeepsId-changed_ledger l change keeps) (KeepsWords-changed_ledger l change as_many) (λ g found is.
    elim (g.id == l) as (λ b. (g.id == l) ≡ b → IsLedgerOf s (if b then change g else g)) [
      | true ↦ λ hit. let same : g.id ≡ l = grind (arith, nat_tests) in each g (ap (λ (k : ℕ). ledger_at s k) (sym same) ∙ found) is
      | false ↦ λ _. is
    ] refl)

-- what follows from each of two tests follows where one of them passes
either : (a b : Bool) (P : Type 0) → (a ≡ true → P) → (b ≡ true → P) → (a || b) ≡ true → P
either true b P first second is = first refl
either false b P first second is = second is

both : (a b : Bool) → (a && b) ≡ true → (a ≡ true) × (b ≡ true)
both true b is = (refl, is)
both false b is = cc

-- what holds of each number of a list holds of one that is among them
All-among : (P : ℕ → Type 0) (es : List ℕ) (e : ℕ) → All P es → list_any (nat_eq e) es ≡ true → P e
All-among P [] e each among = cc
All-among P (x ∷ es) e each among = either (nat_eq e x) (list_any (nat_eq e) es) (P e)
    (λ tied. let same : x ≡ e = grind (arith, nat_tests, tied) in subst P same (All-head P x es each))
    (All-among P es e (All-tail P x es each)) among

-- bookies that have names take copies of entries that are held
pub IsWellFormed-united : (s : Cluster) (more : Contents) → IsWellFormed s → ((b l e : ℕ) → has more b l e ≡ true → (b < length s.names) × IsHeld s.parts.held l e) → IsWellFormed (with_held s (union s.parts.held more))
IsWellFormed-united s more was each =
    let can_be : ℕ × ℕ × ℕ → Type 0 = IsCopy (length s.names) s.parts.ledgers in
    record {
      names = was.names;
      grace = was.grace;
      delay = was.delay;
      clock = was.clock;
      registrations = was.registrations;
      ledgers = was.ledgers;
      contents = record {
        copies = All-items can_be (union s.parts.held more) (λ q one.
            either (contains s.parts.held q) (contains more q) (can_be q)
            (All-copy can_be s.parts.held was.contents.copies q)
            (λ new.
            let may = each q.0 q.1 q.2 new in
            let known : can_be (may.1.0, q.1, q.2) = All-copy can_be s.parts.held was.contents.copies (may.1.0, q.1, q.2) may.1.1 in
            (may.0, known.1, known.2))
            (sym (contains-union s.parts.held more q) ∙ one));
        words = was.contents.words;
      };
    }

-- one bookie takes copies of some entries
pub IsWellFormed-copied_all : (s : Cluster) (w l : ℕ) (es : List ℕ) → IsWellFormed s → w < length s.names → All (λ e. IsHeld s.parts.held l e) es → IsWellFormed (with_held s (union s.parts.held (copies_of w l es)))
IsWellFormed-copied_all s w l es was named held = IsWellFormed-united s (copies_of w l es) was (λ b k e is.
    let parts = both (nat_eq b w && nat_eq k l) (list_any (nat_eq e) es) (sym (has-copies_of w l es b k e) ∙ is) in
    let place = both (nat_eq b w) (nat_eq k l) parts.0 in
    let bookie : b ≡ w = grind (arith, nat_tests, place.0) in
    let ledger : k ≡ l = grind (arith, nat_tests, place.1) in
    (omega (arith, bookie, named), subst (λ (j : ℕ). IsHeld s.parts.held j e) (sym ledger) (All-among (λ x. IsHeld s.parts.held l x) es e held parts.1)))

-- a ledger of the cluster without its lock
pub IsLedger-unlocked_ledger : (s : Cluster) (g : Ledger) → IsLedgerOf s g → IsLedgerOf s (unlocked_ledger g)
IsLedger-unlocked_ledger s g was = record {
  id = was.id;
  metadata = was.metadata;
  members = was.members;
  words = was.words;
  task = was.task;
  lock = λ lock is. absurd (cc);
  due = λ due is. absurd (cc);
}

-- without it, if it is this worker's
pub KeepsId-expired_ledger : (w : ℕ) → KeepsId (expired_ledger w)
KeepsId-expired_ledger w g = elim (is_locked_by w g) as (λ b. (if b then unlocked_ledger g else g).id ≡ g.id) [ true ↦ refl | false ↦ refl ]

pub KeepsWords-expired_ledger : (w : ℕ) → KeepsWords (expired_ledger w)
KeepsWords-expired_ledger w g = elim (is_locked_by w g) as (λ b. (if b then unlocked_ledger g else g).words ≡ g.words) [ true ↦ refl | false ↦ refl ]

pub IsLedger-expired_ledger : (s : Cluster) (w : ℕ) (g : Ledger) → IsLedgerOf s g → IsLedgerOf s (expired_ledger w g)
IsLedger-expired_ledger s w g was = elim (is_locked_by w g) as (λ b. IsLedgerOf s (if b then unlocked_ledger g else g)) [ true ↦ IsLedger-unlocked_ledger s g was | false ↦ was ]

-- without its task
pub IsLedger-finished_ledger : (s : Cluster) (g : Ledger) → IsLedgerOf s g → IsLedgerOf s (finished_ledger g)
IsLedger-finished_ledger s g was = record {
  id = was.id;
  metadata = was.metadata;
  members = was.members;
  words = was.words;
  task = λ task is. absurd (cc);
  lock = λ lock is. absurd (cc);
  due = λ due is. absurd (cc);
}

-- with a worker's lock on its task
pub IsLedger-locked_ledger : (s : Cluster) (w : ℕ) (g : Ledger) → w < length s.names → IsSome g.task → IsLedgerOf s g → IsLedgerOf s (locked_ledger w g)
IsLedger-locked_ledger s w g named some was = record {
  id = was.id;
  metadata = was.metadata;
  members = was.members;
  words = was.words;
  task = was.task;
  lock = λ lock is. let owner : w ≡ lock.owner = cc in (omega arith, some);
  due = λ due is. absurd (cc);
}

-- with another member in a fragment
pub IsLedger-swapped_ledger : (s : Cluster) (g : Ledger) (w f i : ℕ) → IsSwappable s g w f i → IsLedgerOf s g → IsLedgerOf s (swapped_ledger f i w g)
IsLedger-swapped_ledger s g w f i may was =
    let m = g.metadata in
    let nobody : Fragment = record { first = 0; ensemble = [] } in
    let old : Fragment = get_or m.fragments f nobody in
    let at : slice_get m.fragments f ≡ Some old = slice_get-get_or m.fragments f nobody may.fragment in
    let stands : old ≡ get_or m.fragments f old = sym (get_or_from_slice_get m.fragments f old old at) in
    let same : record m { version = m.version + 1; fragments = set m.fragments f (with_member old i w) } ≡ next_version (with_member_at m f i w) = ap next_version (sym (with_member_at-found m f i w old may.fragment stands)) in
    subst (λ (n : Metadata). IsLedgerOf s (record g { metadata = n })) same (record {
      id = was.id;
      metadata = IsMetadata-set m f i w old stands may.fragment (may.new old at) (omega (arith, may.version)) was.metadata;
      members = All-set (λ (fragment : Fragment). All (λ b. b < length s.names) fragment.ensemble) m.fragments f (with_member old i w)
          (All-set (λ b. b < length s.names) old.ensemble i w may.named (was.members f nobody may.fragment)) was.members;
      words = was.words;
      task = was.task;
      lock = was.lock;
      due = was.due;
    })

-- with other metadata
IsLedger-remade : (s : Cluster) (g : Ledger) (m : Metadata) → IsMetadata m → All (λ (fragment : Fragment). All (λ b. b < length s.names) fragment.ensemble) m.fragments → ForSome (due_of g) (λ due. IsTrue (is_open m.state))
    → IsLedgerOf s g → IsLedgerOf s (record g { metadata = m })
IsLedger-remade s g m metadata members unfenced was = record {
  id = was.id;
  metadata = metadata;
  members = members;
  words = was.words;
  task = was.task;
  lock = was.lock;
  due = λ due is. ((was.due due is).0, unfenced due is);
}

-- with that due tick, or none, at its lock
pub IsLedger-with_due : (s : Cluster) (due : Option ℕ) (g : Ledger) → ForSome due (λ tick. (tick ≤ s.parts.scalars.clock + s.grace) × IsTrue (is_open g.metadata.state)) → IsLedgerOf s g → IsLedgerOf s (with_due due g)
IsLedger-with_due s due g may was = record {
  id = was.id;
  metadata = was.metadata;
  members = was.members;
  words = was.words;
  task = was.task;
  lock = owned g.lock was.lock;
  due = dated g.lock;
} where
  owned : (o : Option Lock) → ForSome o (λ lock. (lock.owner < length s.names) × IsSome g.task) → ForSome (option_map (timed_lock due) o) (λ lock. (lock.owner < length s.names) × IsSome g.task)
  owned None known lock is = cc
  owned (Some old) known lock is = let owner : old.owner ≡ lock.owner = cc in (omega (arith, owner, (known old refl).0), (known old refl).1)

  dated : (o : Option Lock) → ForSome (option_and_then (λ lock. lock.due) (option_map (timed_lock due) o)) (λ tick. (tick ≤ s.parts.scalars.clock + s.grace) × IsTrue (is_open g.metadata.state))
  dated None tick is = cc
  dated (Some old) tick is = may tick is

-- without a due tick none is set
no_due : (g : Ledger) → due_of (with_due None g) ≡ None
no_due g = none g.lock where
  none : (o : Option Lock) → option_and_then (λ lock. lock.due) (option_map (timed_lock None) o) ≡ None
  none None = refl
  none (Some lock) = refl

IsLedger-without_due : (s : Cluster) (g : Ledger) → IsLedgerOf s g → IsLedgerOf s (with_due None g)
IsLedger-without_due s g was = IsLedger-with_due s None g (λ tick is. absurd (cc)) was

-- with other metadata and without a due tick
IsLedger-remade_without_due : (s : Cluster) (g : Ledger) (m : Metadata) → IsMetadata m → All (λ (fragment : Fragment). All (λ b. b < length s.names) fragment.ensemble) m.fragments → IsLedgerOf s g → IsLedgerOf s (record (with_due None g) { metadata = m })
IsLedger-remade_without_due s g m metadata members was = IsLedger-remade s (with_due None g) m metadata members (λ due is. absurd (let none = no_due g in cc)) (IsLedger-without_due s g was)

-- with another member in the last ensemble
pub IsSwappable-last : (s : Cluster) (g : Ledger) (i b : ℕ) → IsLedgerOf s g → IsRollable s g i b → IsSwappable s g b (length g.metadata.fragments - 1) i
IsSwappable-last s g i b was may = record {
  named = may.named;
  fragment = omega (arith, was.metadata.some_fragment);
  index = may.index;
  new = λ fragment is. subst (λ (o : Option Fragment). list_any (λ member. member == b) (unwrap_or o (record { first = 0; ensemble = [] })).ensemble ≡ false) is may.new;
  version = may.version;
}

IsLedger-rolled_over : (s : Cluster) (g : Ledger) (i b : ℕ) → is_rolling_over s g ≡ true → IsRollable s g i b → IsLedgerOf s g → IsLedgerOf s (record (with_due None g) { metadata = next_version (with_fragment_at g.metadata (next_entry s g) i b) })
IsLedger-rolled_over s g i b over may was =
    let m = g.metadata in
    let last : Fragment = last_fragment m in
    let nobody : Fragment = record { first = 0; ensemble = [] } in
    let named : Fragment → Type 0 = λ fragment. All (λ member. member < length s.names) fragment.ensemble in
    let members : named last = subst named (sym (unwrap_or-slice_get m.fragments (length m.fragments - 1) nobody)) (was.members (length m.fragments - 1) nobody (omega (arith, was.metadata.some_fragment))) in
    let added : Fragment = record (with_member last i b) { first = next_entry s g } in
    let apart : not (next_entry s g == last.first) ≡ true = over in
    let above : last.first < next_entry s g = (let least = first_before_next s g in grind (arith, nat_tests, apart, least)) in
    IsLedger-remade_without_due s g (next_version (with_fragment_at m (next_entry s g) i b))
    (IsMetadata-added m (next_entry s g) i b (no_end-open m.state may.state) above may.next (may.room over) may.new may.version was.metadata)
    (All-append named m.fragments (added ∷ []) was.members (All-cons named added [] (All-set (λ member. member < length s.names) last.ensemble i b may.named members) (All-nil named)))
    was

pub IsLedger-rolled_ledger : (s : Cluster) (g : Ledger) (i b : ℕ) → IsRollable s g i b → IsLedgerOf s g → IsLedgerOf s (rolled_ledger s i b g)
IsLedger-rolled_ledger s g i b may was =
    let m = g.metadata in
    elim (is_rolling_over s g) as (λ over. is_rolling_over s g ≡ over
    → IsLedgerOf s (record (with_due None g) { metadata = next_version (if over then with_fragment_at m (next_entry s g) i b else with_member_at m (length m.fragments - 1) i b) })) [
      | true ↦ λ over. IsLedger-rolled_over s g i b over may was
      | false ↦ λ _.
          let place = IsSwappable-last s g i b was may in
          IsLedger-swapped_ledger s (with_due None g) b (length m.fragments - 1) i (record { named = place.named; fragment = place.fragment; index = place.index; new = place.new; version = place.version }) (IsLedger-without_due s g was)
    ] refl

-- in recovery
pub IsLedger-fenced_ledger : (s : Cluster) (g : Ledger) → g.metadata.version < MAX_VERSION → IsLedgerOf s g → IsLedgerOf s (fenced_ledger g)
IsLedger-fenced_ledger s g version was =
    let no_end : ForSome (end_of_state InRecovery) (λ end. ((last_fragment g.metadata).first ≤ end) × (end ≤ ENTRY_END)) = λ end is. absurd (cc) in
    IsLedger-remade_without_due s g (next_version (with_state g.metadata InRecovery)) (IsMetadata-state g.metadata InRecovery no_end version was.metadata) was.members was

-- closed
pub IsLedger-sealed_ledger : (s : Cluster) (g : Ledger) → is_in_recovery g.metadata.state ≡ true → g.metadata.version < MAX_VERSION → recovered_end s g ≤ ENTRY_END → IsLedgerOf s g → IsLedgerOf s (sealed_ledger s g)
IsLedger-sealed_ledger s g recovering version within was =
    let m = g.metadata in
    let state : LedgerState = Closed (recovered_end s g) in
    let ends : ForSome (end_of_state state) (λ end. ((last_fragment m).first ≤ end) × (end ≤ ENTRY_END)) =
    λ end is. (let same : recovered_end s g ≡ end = cc in (omega (arith, same, first_before_end s g), omega (arith, same, within))) in
    IsLedger-remade s g (next_version (with_state m state)) (IsMetadata-state m state ends version was.metadata) was.members (λ due is. absurd (not_both m.state recovering (was.due due is).1)) was
  where
    not_both : (state : LedgerState) → is_in_recovery state ≡ true → IsTrue (is_open state) → ⊥
    not_both Open recovering unfenced = cc
    not_both InRecovery recovering unfenced = cc
    not_both (Closed end) recovering unfenced = cc

-- with the missing members in its task
pub KeepsId-audited_ledger : (s : Cluster) → KeepsId (audited_ledger s)
KeepsId-audited_ledger s g = elim (is_empty (long_lost_members s g)) as (λ b. (if b then g else record g { task = Some (published_members s g) }).id ≡ g.id) [ true ↦ refl | false ↦ refl ]

pub KeepsWords-audited_ledger : (s : Cluster) → KeepsWords (audited_ledger s)
KeepsWords-audited_ledger s g = elim (is_empty (long_lost_members s g)) as (λ b. (if b then g else record g { task = Some (published_members s g) }).words ≡ g.words) [ true ↦ refl | false ↦ refl ]

pub IsLedger-audited_ledger : (s : Cluster) (g : Ledger) → IsLedgerOf s g → IsLedgerOf s (audited_ledger s g)
IsLedger-audited_ledger s g was =
    elim (is_empty (long_lost_members s g)) as (λ b. is_empty (long_lost_members s g) ≡ b → IsLedgerOf s (if b then g else record g { task = Some (published_members s g) })) [
      | true ↦ λ _. was
      | false ↦ λ some. record {
        id = was.id;
        metadata = was.metadata;
        members = was.members;
        words = was.words;
        task = λ task is. let same : published_members s g ≡ task = cc in subst (λ (t : Set numbers). (0 < len t) × All (λ b. b < length s.names) (items t)) same (published_some s g some, published_named s g was);
        lock = λ lock is. ((was.lock lock is).0, refl);
        due = was.due;
      }
    ] refl

-- An accepted swap of a ledger that is found.
pub swappable-found : (s : Cluster) (w l f i v : ℕ) (g : Ledger) → IsWellFormed s → ledger_at s l ≡ Some g → refusal_of s (Swap w l f i v) ≡ None → IsSwappable s g w f i
swappable-found s w l f i v g was found none = accepted_swap s w l f i v g found (IsLedger-found s l g was found).metadata.version none
