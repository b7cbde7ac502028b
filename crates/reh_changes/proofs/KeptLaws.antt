-- Events keep of each ledger's metadata all but its version, its state and its members, and fragments only come.
use Rattle.std.proofs.Common.{◌≡◌, ℕ, zero, suc, ◌+◌, ◌-◌, true, false, cond, List, [], ◌∷◌, ◌++◌, length, map, refl, sym, ap, subst, ◌∙◌, is_some}
use Rattle.std.specs.Prelude.{◌==◌, None, Some, slice_get, slice_set}
use Rattle.std.specs.Option.{option_map_or}
use Rattle.std.proofs.Math.ListN.{length-set}
use Rattle.std.proofs.lemmas.Option.{same_Some}
use Rattle.reh_types.specs.declared.moves.Event.{Event}
use Rattle.reh_types.specs.declared.moves.Event.TheVariants.{Lose, Join, Audit, Acquire, Release, Finish, Expire, Grace, Tick, Roll, Fence, Seal, Copy, Swap, Disable, Enable}
use Rattle.reh_model.specs.Metadata.{Metadata, Fragment, with_member, with_member_at, with_fragment_at, next_version}
use Rattle.reh_model.specs.Cluster.{Cluster, Ledger}
use Rattle.reh_model.specs.Recovery.{next_entry, is_rolling_over}
use Rattle.reh_model.specs.Audit.{audited_ledger}
use Rattle.reh_model.specs.Session.{replay}
use Rattle.reh_model.specs.Step.{after, expired_ledger, locked_ledger, unlocked_ledger, finished_ledger, graced_ledger, rolled_ledger, fenced_ledger, sealed_ledger, swapped_ledger}
use Rattle.reh_model.proofs.LedgerLaws.{changed_ledger}
use Rattle.reh_model.proofs.PromiseLaws.{metadata-audited_ledger, metadata-expired_ledger}
use Rattle.reh_model.proofs.SessionLaws.{replay_first}
use Rattle.reh_changes.specs.Told.{HaveOneFrame, HaveSameLedgers}

-- Fragments

-- each stays where it began, with as many members, and more may follow
Grows : List Fragment → List Fragment → Type 0
Grows [] later = Unit {0}
Grows (x ∷ xs) [] = ⊥
Grows (x ∷ xs) (y ∷ ys) = HaveOneFrame x y × Grows xs ys

Grows-same : (xs : List Fragment) → Grows xs xs
unfolding Grows
Grows-same [] = tt
Grows-same (x ∷ xs) = ((refl, refl), Grows-same xs)

Grows-trans : (xs ys zs : List Fragment) → Grows xs ys → Grows ys zs → Grows xs zs
unfolding Grows
Grows-trans [] ys zs first second = tt
Grows-trans (x ∷ xs) [] zs first second = absurd first
Grows-trans (x ∷ xs) (y ∷ ys) [] first second = absurd second
Grows-trans (x ∷ xs) (y ∷ ys) (z ∷ zs) first second =
    ((first.0.0 ∙ second.0.0, first.0.1 ∙ second.0.1), Grows-trans xs ys zs first.1 second.1)

Grows-more : (xs more : List Fragment) → Grows xs (xs ++ more)
unfolding Grows
Grows-more [] more = tt
Grows-more (x ∷ xs) more = ((refl, refl), Grows-more xs more)

Grows-set : (xs : List Fragment) (f i b : ℕ) (x : Fragment) → slice_get xs f ≡ Some x → Grows xs (slice_set xs f (with_member x i b))
unfolding Grows
Grows-set [] f i b x here = tt
Grows-set (y ∷ ys) zero i b x here =
    let same : y ≡ x = same_Some y x here in
    ((ap (λ (z : Fragment). z.first) same, ap (λ (z : Fragment). length z.ensemble) same ∙ sym (length-set x.ensemble i b)), Grows-same ys)
Grows-set (y ∷ ys) (suc f) i b x here = ((refl, refl), Grows-set ys f i b x here)

Grows-member : (xs : List Fragment) (f i b : ℕ) → Grows xs (option_map_or (λ fragment. slice_set xs f (with_member fragment i b)) (slice_get xs f) xs)
Grows-member xs f i b =
    elim (slice_get xs f) as (λ o. slice_get xs f ≡ o → Grows xs (option_map_or (λ fragment. slice_set xs f (with_member fragment i b)) o xs)) [
      | None ↦ λ _. Grows-same xs
      | Some x ↦ λ here. Grows-set xs f i b x here
    ] refl

-- fragments of one number
Grows-at : (xs ys : List Fragment) → Grows xs ys → (f : ℕ) (a b : Fragment) → slice_get xs f ≡ Some a → slice_get ys f ≡ Some b → HaveOneFrame a b
unfolding Grows
Grows-at [] ys grows f a b here there = cc
Grows-at (x ∷ xs) [] grows f a b here there = absurd grows
Grows-at (x ∷ xs) (y ∷ ys) grows zero a b here there =
    let was : x ≡ a = same_Some x a here in
    let now : y ≡ b = same_Some y b there in (
      sym (ap (λ (z : Fragment). z.first) was) ∙ grows.0.0 ∙ ap (λ (z : Fragment). z.first) now,
      sym (ap (λ (z : Fragment). length z.ensemble) was) ∙ grows.0.1 ∙ ap (λ (z : Fragment). length z.ensemble) now,
    )
Grows-at (x ∷ xs) (y ∷ ys) grows (suc f) a b here there = Grows-at xs ys grows.1 f a b here there

-- Metadata

record Keeps (m n : Metadata) : Type 0 where
  size : m.size ≡ n.size
  write_quorum : m.write_quorum ≡ n.write_quorum
  ack_quorum : m.ack_quorum ≡ n.ack_quorum
  fragments : Grows m.fragments n.fragments

Keeps-same : (m n : Metadata) → n ≡ m → Keeps m n
Keeps-same m n same =
    subst (λ (k : Metadata). Keeps m k) (sym same) (record { size = refl; write_quorum = refl; ack_quorum = refl; fragments = Grows-same m.fragments })

Keeps-trans : (m n k : Metadata) → Keeps m n → Keeps n k → Keeps m k
Keeps-trans m n k first second = record {
  size = first.size ∙ second.size;
  write_quorum = first.write_quorum ∙ second.write_quorum;
  ack_quorum = first.ack_quorum ∙ second.ack_quorum;
  fragments = Grows-trans m.fragments n.fragments k.fragments first.fragments second.fragments;
}

-- Ledgers

KeepsEach : List Ledger → List Ledger → Type 0
KeepsEach [] [] = Unit {0}
KeepsEach (g ∷ gs) (h ∷ hs) = Keeps g.metadata h.metadata × KeepsEach gs hs
KeepsEach gs hs = ⊥

KeepsEach-same : (gs : List Ledger) → KeepsEach gs gs
unfolding KeepsEach
KeepsEach-same [] = tt
KeepsEach-same (g ∷ gs) = (Keeps-same g.metadata g.metadata refl, KeepsEach-same gs)

KeepsEach-trans : (gs hs ks : List Ledger) → KeepsEach gs hs → KeepsEach hs ks → KeepsEach gs ks
unfolding KeepsEach
KeepsEach-trans [] [] ks first second = second
KeepsEach-trans [] (h ∷ hs) ks first second = absurd first
KeepsEach-trans (g ∷ gs) [] ks first second = absurd first
KeepsEach-trans (g ∷ gs) (h ∷ hs) [] first second = absurd second
KeepsEach-trans (g ∷ gs) (h ∷ hs) (k ∷ ks) first second =
    (Keeps-trans g.metadata h.metadata k.metadata first.0 second.0, KeepsEach-trans gs hs ks first.1 second.1)

KeepsEach-map : (change : Ledger → Ledger) → ((g : Ledger) → Keeps g.metadata (change g).metadata) → (gs : List Ledger) → KeepsEach gs (map change gs)
unfolding KeepsEach
KeepsEach-map change keeps [] = tt
KeepsEach-map change keeps (g ∷ gs) = (keeps g, KeepsEach-map change keeps gs)

-- the ledger of one id is changed
KeepsEach-one : (l : ℕ) (change : Ledger → Ledger) → ((g : Ledger) → Keeps g.metadata (change g).metadata) → (gs : List Ledger) → KeepsEach gs (map (changed_ledger l change) gs)
KeepsEach-one l change keeps gs =
    KeepsEach-map (changed_ledger l change)
    (λ g. elim (g.id == l) as (λ b. Keeps g.metadata (cond b (change g) g).metadata) [ true ↦ keeps g | false ↦ Keeps-same g.metadata g.metadata refl ]) gs

KeepsEach-at : (gs hs : List Ledger) → KeepsEach gs hs → (i : ℕ) (g h : Ledger) → slice_get gs i ≡ Some g → slice_get hs i ≡ Some h → Keeps g.metadata h.metadata
unfolding KeepsEach
KeepsEach-at [] hs keeps i g h here there = cc
KeepsEach-at (x ∷ xs) [] keeps i g h here there = absurd keeps
KeepsEach-at (x ∷ xs) (y ∷ ys) keeps zero g h here there =
    subst (λ (g : Ledger). Keeps g.metadata h.metadata) (same_Some x g here)
    (subst (λ (h : Ledger). Keeps x.metadata h.metadata) (same_Some y h there) keeps.0)
KeepsEach-at (x ∷ xs) (y ∷ ys) keeps (suc i) g h here there = KeepsEach-at xs ys keeps.1 i g h here there

-- Events

Keeps-member : (m : Metadata) (f i b : ℕ) → Keeps m (next_version (with_member_at m f i b))
Keeps-member m f i b =
    record { size = refl; write_quorum = refl; ack_quorum = refl; fragments = Grows-member m.fragments f i b }

Keeps-rolled : (s : Cluster) (i b : ℕ) (g : Ledger) → Keeps g.metadata (rolled_ledger s i b g).metadata
Keeps-rolled s i b g =
    let m = g.metadata in
    elim (is_rolling_over s g) as (λ over. Keeps m (next_version (cond over (with_fragment_at m (next_entry s g) i b) (with_member_at m (length m.fragments - 1) i b)))) [
      | true ↦ record { size = refl; write_quorum = refl; ack_quorum = refl; fragments = Grows-more m.fragments _ }
      | false ↦ Keeps-member m (length m.fragments - 1) i b
    ]

Keeps-stated : (m n : Metadata) → m.size ≡ n.size → m.write_quorum ≡ n.write_quorum → m.ack_quorum ≡ n.ack_quorum → n.fragments ≡ m.fragments → Keeps m n
Keeps-stated m n size write_quorum ack_quorum same = record {
  size = size;
  write_quorum = write_quorum;
  ack_quorum = ack_quorum;
  fragments = subst (λ xs. Grows m.fragments xs) (sym same) (Grows-same m.fragments);
}

apart : (gs : List Ledger) (l : ℕ) (change : Ledger → Ledger) → ((g : Ledger) → (change g).metadata ≡ g.metadata) → KeepsEach gs (map (changed_ledger l change) gs)
apart gs l change same = KeepsEach-one l change (λ g. Keeps-same g.metadata (change g).metadata (same g)) gs

after_event : (s : Cluster) (event : Event) → KeepsEach s.parts.ledgers (after s event).parts.ledgers
after_event s (Lose b) = KeepsEach-same s.parts.ledgers
after_event s (Join b) = KeepsEach-same s.parts.ledgers
after_event s Audit =
    KeepsEach-map (audited_ledger s) (λ g. Keeps-same g.metadata (audited_ledger s g).metadata (metadata-audited_ledger s g)) s.parts.ledgers
after_event s (Acquire w l) = apart s.parts.ledgers l (locked_ledger w) (λ g. refl)
after_event s (Release w l) = apart s.parts.ledgers l unlocked_ledger (λ g. refl)
after_event s (Finish w l) = apart s.parts.ledgers l finished_ledger (λ g. refl)
after_event s (Expire w) =
    KeepsEach-map (expired_ledger w) (λ g. Keeps-same g.metadata (expired_ledger w g).metadata (metadata-expired_ledger w g)) s.parts.ledgers
after_event s (Grace w l) = apart s.parts.ledgers l (graced_ledger (s.parts.scalars.clock + s.grace)) (λ g. refl)
after_event s (Tick n) = KeepsEach-same s.parts.ledgers
after_event s (Roll l i b) = KeepsEach-one l (rolled_ledger s i b) (Keeps-rolled s i b) s.parts.ledgers
after_event s (Fence w l) =
    KeepsEach-one l fenced_ledger (λ g. Keeps-stated g.metadata (fenced_ledger g).metadata refl refl refl refl) s.parts.ledgers
after_event s (Seal w l) =
    KeepsEach-one l (sealed_ledger s) (λ g. Keeps-stated g.metadata (sealed_ledger s g).metadata refl refl refl refl) s.parts.ledgers
after_event s (Copy w l f i v) = KeepsEach-same s.parts.ledgers
after_event s (Swap w l f i v) = KeepsEach-one l (swapped_ledger f i w) (λ g. Keeps-member g.metadata f i w) s.parts.ledgers
after_event s Disable = KeepsEach-same s.parts.ledgers
after_event s Enable = KeepsEach-same s.parts.ledgers

after_events : (s t : Cluster) (events : List Event) → replay s events ≡ Some t → KeepsEach s.parts.ledgers t.parts.ledgers
after_events s t [] leads =
    subst (λ (u : Cluster). KeepsEach s.parts.ledgers u.parts.ledgers) (same_Some s t leads) (KeepsEach-same s.parts.ledgers)
after_events s t (event ∷ events) leads =
    let first = replay_first s event events (ap is_some leads) in
    KeepsEach-trans s.parts.ledgers (after s event).parts.ledgers t.parts.ledgers (after_event s event)
    (after_events (after s event) t events (sym first.1 ∙ leads))

pub HaveSameLedgers-replay : (s t : Cluster) (events : List Event) → replay s events ≡ Some t → HaveSameLedgers s t
HaveSameLedgers-replay s t events leads i g h here there =
    let keeps = KeepsEach-at s.parts.ledgers t.parts.ledgers (after_events s t events leads) i g h here there in
    record {
      size = keeps.size;
      write_quorum = keeps.write_quorum;
      ack_quorum = keeps.ack_quorum;
      fragments = Grows-at g.metadata.fragments h.metadata.fragments keeps.fragments;
    }
