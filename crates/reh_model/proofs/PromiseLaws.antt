-- Which changes of a cluster keep what swaps promise.
use Rattle.std.proofs.Common.{◌≡◌, ℕ, zero, suc, ◌<◌, Bool, true, false, ◌||◌, cond, List, [], ◌∷◌, ◌++◌, map, length, ◌-◌, ◌+◌, nat_lt, Option, None, Some, IsSome, is_some, refl, sym, ap, ◌∙◌, arith, true≢false, append-nil}
use Rattle.std.specs.Prelude.{◌==◌, if◌then◌else◌, slice_get, slice_set}
use Rattle.std.specs.List.{find}
use Rattle.std.specs.Option.{option_map, option_map_or, option_and_then, option_or}
use Rattle.std.proofs.lemmas.Option.{slice_get-map, slice_get_within, get_or_from_slice_get}
use Rattle.std.proofs.Math.Seq.{map-set_same}
use Rattle.std.proofs.lemmas.Bool.Decides.{nat_tests}
use Rattle.std.proofs.lemmas.List.{length-map, map-append}
use Rattle.reh_types.specs.declared.names.LedgerState.{LedgerState}
use Rattle.reh_types.specs.Sets.{is_empty}
use Rattle.reh_model.specs.Striping.{striped_entries}
use Rattle.reh_model.specs.Contents.{Contents, has}
use Rattle.reh_model.specs.Metadata.{Metadata, Fragment, end_of_state, stop_of, stripe_of, is_open, with_member, with_member_at, with_fragment_at, with_state, next_version}
use Rattle.reh_model.specs.Cluster.{Cluster, Ledger, holds, is_locked_by, ledger_at, change_ledger, stop_at, stripe_at, with_ledgers}
use Rattle.reh_model.specs.Audit.{long_lost_members, published_members, audited_ledger}
use Rattle.reh_model.specs.Recovery.{next_entry, is_rolling_over}
use Rattle.reh_model.specs.Step.{unlocked_ledger, expired_ledger, with_due, rolled_ledger}
use Rattle.reh_model.proofs.LedgerLaws.{KeepsId, changed_ledger, KeepsId-changed_ledger, find-map, id_found}
use Rattle.reh_model.proofs.FragmentLaws.{no_end-open}

-- a fragment that has a stop keeps it, and the entries that it stripes onto each index, and what was held is held
pub record KeepsPromises (s t : Cluster) : Type 0 where
  pub stop : (l f : ℕ) → IsSome (stop_at s l f) → stop_at t l f ≡ stop_at s l f
  pub stripe : (l f i : ℕ) → IsSome (stop_at s l f) → stripe_at t l f i ≡ stripe_at s l f i
  pub held : (b l e : ℕ) → holds s b l e ≡ true → holds t b l e ≡ true

-- nothing of a cluster's fragments and contents is changed
pub KeepsPromises-apart : (s t : Cluster) → t.parts.ledgers ≡ s.parts.ledgers → t.parts.held ≡ s.parts.held → KeepsPromises s t
KeepsPromises-apart s t ledgers held = record {
  stop = λ l f _. ap (λ (gs : List Ledger). option_and_then (λ g. stop_of g.metadata f) (find (λ g. g.id == l) gs)) ledgers;
  stripe = λ l f i _. ap (λ (gs : List Ledger). option_map_or (λ g. stripe_of g.metadata f i) (find (λ g. g.id == l) gs) []) ledgers;
  held = λ b l e is. ap (λ (contents : Contents). has contents b l e) held ∙ is;
}

-- a ledger that becomes another one keeps each stop that there is, and the entries of a fragment that has one
pub record KeepsStripes (g h : Ledger) : Type 0 where
  stop : (f : ℕ) → IsSome (stop_of g.metadata f) → stop_of h.metadata f ≡ stop_of g.metadata f
  stripe : (f i : ℕ) → IsSome (stop_of g.metadata f) → stripe_of h.metadata f i ≡ stripe_of g.metadata f i

pub KeepsPromises-ledgers : (s : Cluster) (change : Ledger → Ledger) → KeepsId change → ((l : ℕ) (g : Ledger) → ledger_at s l ≡ Some g → KeepsStripes g (change g)) → KeepsPromises s (with_ledgers s (map change s.parts.ledgers))
KeepsPromises-ledgers s change id keeps = record {
  stop = λ l f some. ap (λ (o : Option Ledger). option_and_then (λ g. stop_of g.metadata f) o) (find-map l change id s.parts.ledgers) ∙ stop l f (ledger_at s l) refl some;
  stripe = λ l f i some. ap (λ (o : Option Ledger). option_map_or (λ g. stripe_of g.metadata f i) o []) (find-map l change id s.parts.ledgers) ∙ stripe l f i (ledger_at s l) refl some;
  held = λ b l e is. is;
} where
  stop : (l f : ℕ) (o : Option Ledger) → ledger_at s l ≡ o → IsSome (option_and_then (λ (g : Ledger). stop_of g.metadata f) o)
      → option_and_then (λ (g : Ledger). stop_of g.metadata f) (option_map change o) ≡ option_and_then (λ (g : Ledger). stop_of g.metadata f) o
  stop l f None found some = refl
  stop l f (Some g) found some = (keeps l g found).stop f some

  stripe : (l f i : ℕ) (o : Option Ledger) → ledger_at s l ≡ o → IsSome (option_and_then (λ (g : Ledger). stop_of g.metadata f) o)
      → option_map_or (λ (g : Ledger). stripe_of g.metadata f i) (option_map change o) [] ≡ option_map_or (λ (g : Ledger). stripe_of g.metadata f i) o []
  stripe l f i None found some = refl
  stripe l f i (Some g) found some = (keeps l g found).stripe f i some

-- one ledger is changed
pub KeepsPromises-change_ledger : (s : Cluster) (l : ℕ) (change : Ledger → Ledger) → KeepsId change → ((g : Ledger) → ledger_at s l ≡ Some g → KeepsStripes g (change g)) → KeepsPromises s (change_ledger s l change)
KeepsPromises-change_ledger s l change id keeps = KeepsPromises-ledgers s (changed_ledger l change) (KeepsId-changed_ledger l change id) (λ k g found.
    elim (g.id == l) as (λ b. (g.id == l) ≡ b → KeepsStripes g (cond b (change g) g)) [
      | true ↦ λ own. let same : k ≡ l = (let id = id_found k s.parts.ledgers g found in grind (arith, nat_tests, own, id)) in keeps g (ap (ledger_at s) (sym same) ∙ found)
      | false ↦ λ _. record { stop = λ f _. refl; stripe = λ f i _. refl }
    ] refl)

-- the metadata stays
pub KeepsStripes-apart : (g h : Ledger) → h.metadata ≡ g.metadata → KeepsStripes g h
KeepsStripes-apart g h same = record {
  stop = λ f _. ap (λ (m : Metadata). stop_of m f) same;
  stripe = λ f i _. ap (λ (m : Metadata). stripe_of m f i) same;
}

pub metadata-audited_ledger : (s : Cluster) (g : Ledger) → (audited_ledger s g).metadata ≡ g.metadata
metadata-audited_ledger s g = elim (is_empty (long_lost_members s g)) as (λ b. (if b then g else record g { task = Some (published_members s g) }).metadata ≡ g.metadata) [ true ↦ refl | false ↦ refl ]

pub metadata-expired_ledger : (w : ℕ) (g : Ledger) → (expired_ledger w g).metadata ≡ g.metadata
metadata-expired_ledger w g = elim (is_locked_by w g) as (λ b. (if b then unlocked_ledger g else g).metadata ≡ g.metadata) [ true ↦ refl | false ↦ refl ]

-- Stops and striped entries go by the fragments' first entries alone.

-- the striped entries, by the fragments' first entries alone
abbrev firsts_of : List Fragment → List ℕ
firsts_of fragments = map (λ fragment. fragment.first) fragments

abbrev stop_by : List ℕ → LedgerState → ℕ → Option ℕ
stop_by firsts state f = if nat_lt f (length firsts) then option_or (slice_get firsts (f + 1)) (end_of_state state) else None

abbrev striped_by : List ℕ → LedgerState → ℕ → ℕ → ℕ → ℕ → List ℕ
striped_by firsts state size quorum f i = option_map_or (λ first. option_map_or (λ stop. striped_entries first stop i size quorum) (stop_by firsts state f) []) (slice_get firsts f) []

by_first : (striped_from : ℕ → List ℕ) (o : Option Fragment) → option_map_or (λ fragment. striped_from fragment.first) o [] ≡ option_map_or striped_from (option_map (λ fragment. fragment.first) o) []
by_first striped_from None = refl
by_first striped_from (Some fragment) = refl

stop_of-firsts : (m : Metadata) (f : ℕ) → stop_of m f ≡ stop_by (firsts_of m.fragments) m.state f
stop_of-firsts m f =
    let first : Fragment → ℕ = λ fragment. fragment.first in
    λ j. if nat_lt f (sym (length-map m.fragments first) j) then option_or (sym (slice_get-map first m.fragments (f + 1)) j) (end_of_state m.state) else None

stripe_of-firsts : (m : Metadata) (f i : ℕ) → stripe_of m f i ≡ striped_by (firsts_of m.fragments) m.state m.size m.write_quorum f i
stripe_of-firsts m f i =
    let striped_to : Option ℕ → ℕ → List ℕ = λ stop first. option_map_or (λ stop. striped_entries first stop i m.size m.write_quorum) stop [] in
    by_first (striped_to (stop_of m f)) (slice_get m.fragments f)
    ∙ (λ j. option_map_or (striped_to (stop_of-firsts m f j)) (sym (slice_get-map (λ fragment. fragment.first) m.fragments f) j) [])

firsts-with_member : (fragments : List Fragment) (f i b : ℕ) → firsts_of (option_map_or (λ fragment. slice_set fragments f (with_member fragment i b)) (slice_get fragments f) fragments) ≡ firsts_of fragments
firsts-with_member [] f i b = refl
firsts-with_member (x ∷ xs) f i b =
    elim (slice_get (x ∷ xs) f) as (λ o. slice_get (x ∷ xs) f ≡ o → firsts_of (option_map_or (λ fragment. slice_set (x ∷ xs) f (with_member fragment i b)) o (x ∷ xs)) ≡ firsts_of (x ∷ xs)) [
      | None ↦ λ _. refl
      | Some fragment ↦ λ is. map-set_same (λ (y : Fragment). y.first) (x ∷ xs) f (with_member fragment i b) fragment (ap (λ (y : Fragment). y.first) (sym (get_or_from_slice_get (x ∷ xs) f fragment fragment is)))
    ] refl

-- an ensemble change in a fragment changes no first entry
pub KeepsStripes-with_member : (g h : Ledger) (f i b : ℕ) → h.metadata ≡ next_version (with_member_at g.metadata f i b) → KeepsStripes g h
KeepsStripes-with_member g h f i b is =
    let m = g.metadata in
    let changed = next_version (with_member_at m f i b) in
    let firsts = firsts-with_member m.fragments f i b in
    record {
      stop = λ k _. ap (λ (n : Metadata). stop_of n k) is ∙ stop_of-firsts changed k ∙ ap (λ (firsts : List ℕ). stop_by firsts m.state k) firsts ∙ sym (stop_of-firsts m k);
      stripe = λ k j _. ap (λ (n : Metadata). stripe_of n k j) is ∙ stripe_of-firsts changed k j ∙ ap (λ (firsts : List ℕ). striped_by firsts m.state m.size m.write_quorum k j) firsts ∙ sym (stripe_of-firsts m k j);
    }

-- While a ledger has no end, each stop is a first entry, so more fragments and an end keep the stops that there are.

slice_get-append : (xs more : List ℕ) (k : ℕ) → k < length xs → slice_get (xs ++ more) k ≡ slice_get xs k
slice_get-append [] more k within = absurd (omega arith)
slice_get-append (x ∷ xs) more zero within = refl
slice_get-append (x ∷ xs) more (suc k) within = slice_get-append xs more k (omega arith)

next_first : (b : Bool) (o : Option ℕ) → IsSome (if b then option_or o None else None) → (stop : ℕ) × (o ≡ Some stop)
next_first true None some = cc
next_first true (Some stop) some = (stop, refl)
next_first false o some = cc

stop_by-next : (firsts : List ℕ) (state : LedgerState) (f stop : ℕ) → slice_get firsts (f + 1) ≡ Some stop → stop_by firsts state f ≡ Some stop
stop_by-next firsts state f stop is =
    let within : f + 1 < length firsts = slice_get_within firsts (f + 1) stop is in
    let there : nat_lt f (length firsts) ≡ true = grind (arith, nat_tests, within) in
    λ i. if there i then option_or (is i) (end_of_state state) else None

KeepsStripes-grown : (g h : Ledger) (more : List ℕ) → end_of_state g.metadata.state ≡ None → firsts_of h.metadata.fragments ≡ firsts_of g.metadata.fragments ++ more
    → h.metadata.size ≡ g.metadata.size → h.metadata.write_quorum ≡ g.metadata.write_quorum → KeepsStripes g h
KeepsStripes-grown g h more no_end grown size quorum = record { stop = stop; stripe = stripe } where
  m : Metadata
  m = g.metadata

  n : Metadata
  n = h.metadata

  firsts : List ℕ
  firsts = firsts_of m.fragments

  next : (f : ℕ) → IsSome (stop_of m f) → (stop : ℕ) × (slice_get firsts (f + 1) ≡ Some stop)
  next f some = next_first (nat_lt f (length firsts)) (slice_get firsts (f + 1)) (ap (λ end. is_some (if nat_lt f (length firsts) then option_or (slice_get firsts (f + 1)) end else None)) (sym no_end) ∙ ap is_some (sym (stop_of-firsts m f)) ∙ some)

  stop_by-grown : (f : ℕ) → IsSome (stop_of m f) → stop_by (firsts ++ more) n.state f ≡ stop_by firsts m.state f
  stop_by-grown f some =
      let later = next f some in
      let within : f + 1 < length firsts = slice_get_within firsts (f + 1) later.0 later.1 in
      stop_by-next (firsts ++ more) n.state f later.0 (slice_get-append firsts more (f + 1) within ∙ later.1) ∙ sym (stop_by-next firsts m.state f later.0 later.1)

  stop : (f : ℕ) → IsSome (stop_of m f) → stop_of n f ≡ stop_of m f
  stop f some = stop_of-firsts n f ∙ ap (λ (ks : List ℕ). stop_by ks n.state f) grown ∙ stop_by-grown f some ∙ sym (stop_of-firsts m f)

  stripe : (f i : ℕ) → IsSome (stop_of m f) → stripe_of n f i ≡ stripe_of m f i
  stripe f i some =
      let later = next f some in
      let within : f + 1 < length firsts = slice_get_within firsts (f + 1) later.0 later.1 in
      let same : slice_get (firsts ++ more) f ≡ slice_get firsts f = slice_get-append firsts more f (omega (arith, within)) in
      stripe_of-firsts n f i
      ∙ (λ j. striped_by (grown j) n.state (size j) (quorum j) f i)
      ∙ (λ j. option_map_or (λ first. option_map_or (λ stop. striped_entries first stop i m.size m.write_quorum) (stop_by-grown f some j) []) (same j) [])
      ∙ sym (stripe_of-firsts m f i)

-- an ensemble change by the writer of an open ledger
pub KeepsStripes-rolled_ledger : (s : Cluster) (g : Ledger) (i b : ℕ) → is_open g.metadata.state ≡ true → KeepsStripes g (rolled_ledger s i b g)
KeepsStripes-rolled_ledger s g i b unfenced =
    let m = g.metadata in
    elim (is_rolling_over s g) as (λ over. KeepsStripes g (record (with_due None g) { metadata = next_version (if over then with_fragment_at m (next_entry s g) i b else with_member_at m (length m.fragments - 1) i b) })) [
      | true ↦ KeepsStripes-grown g (record (with_due None g) { metadata = next_version (with_fragment_at m (next_entry s g) i b) }) (next_entry s g ∷ [])
          (no_end-open m.state unfenced) (map-append (λ (fragment : Fragment). fragment.first) m.fragments _) refl refl
      | false ↦ KeepsStripes-with_member g (record (with_due None g) { metadata = next_version (with_member_at m (length m.fragments - 1) i b) }) (length m.fragments - 1) i b refl
    ]

-- another state, where there is no end yet
pub KeepsStripes-with_state : (g h : Ledger) (state : LedgerState) → end_of_state g.metadata.state ≡ None → h.metadata ≡ next_version (with_state g.metadata state) → KeepsStripes g h
KeepsStripes-with_state g h state no_end is =
    KeepsStripes-grown g h [] no_end (ap (λ (m : Metadata). firsts_of m.fragments) is ∙ sym (append-nil (firsts_of g.metadata.fragments))) (ap (λ (m : Metadata). m.size) is) (ap (λ (m : Metadata). m.write_quorum) is)

-- copies only add to what is held
pub or_before : (a b : Bool) → a ≡ true → (a || b) ≡ true
or_before true b is = refl
or_before false b is = absurd (true≢false (sym is))
