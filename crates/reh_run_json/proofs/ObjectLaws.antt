-- A change has an object exactly where it has a line.
use Rattle.std.proofs.Common.{◌≡◌, ◌≢◌, ℕ, ◌+◌, Bool, true, false, cond, List, [], ◌∷◌, ◌++◌, refl, ap}
use Rattle.std.specs.Prelude.{◌↔◌, ◌==◌, All, Option, None, Some, slice_get, flat_map}
use Rattle.std.specs.Option.{option_map_or}
use Rattle.std.proofs.lemmas.List.Elements.{All-head, All-weaker}
use Rattle.json.specs.Json.{Json}
use Rattle.reh_types.specs.declared.changes.Change.TheVariants as change
use Rattle.reh_types.specs.declared.names.LedgerState.{LedgerState}
use Rattle.reh_model.specs.Metadata.{Metadata, Fragment}
use Rattle.reh_model.specs.Cluster.{Cluster, Ledger}
use Rattle.reh_model.specs.Places.{Change, IsDelta}
use Rattle.reh_changes.specs.Changes.{version_line, is_same_state, state_line, member_lines, fragment_lines, metadata_lines, lines_of}
use Rattle.reh_changes.specs.Told.{AreOfOneLedger, HaveSameLedgers}
use Rattle.reh_changes.proofs.ToldLaws.{left_empty, right_empty, lines_of-some, metadata_lines-none, no_changes}
use Rattle.reh_run_json.specs.Changes.{version_changes, state_changes, member_changes, fragment_changes, metadata_changes, change_objects}

-- none of the first exactly where there is none of the second
AreNoneTogether : {X Y : Type 0} → List X → List Y → Type 0
AreNoneTogether xs ys = (xs ≡ [] → ys ≡ []) × (ys ≡ [] → xs ≡ [])

both : {X Y : Type 0} (xs more : List X) (ys later : List Y) → AreNoneTogether xs ys → AreNoneTogether more later → AreNoneTogether (xs ++ more) (ys ++ later)
unfolding AreNoneTogether
both xs more ys later first second = (
  λ none. (λ i. first.0 (left_empty xs more none) i ++ second.0 (right_empty xs more none) i),
  λ none. (λ i. first.1 (left_empty ys later none) i ++ second.1 (right_empty ys later none) i),
)

-- an object and a line where two values are not equal
unless_same : {X Y : Type 0} (same : Bool) (x : X) (xs : List X) (y : Y) (ys : List Y) → AreNoneTogether (cond same [] (x ∷ xs)) (cond same [] (y ∷ ys))
unfolding AreNoneTogether
unless_same true x xs y ys = (λ none. refl, λ none. refl)
unless_same false x xs y ys = (λ none. cc, λ none. cc)

-- Metadata

versions : (id was now : ℕ) → AreNoneTogether (version_changes id was now) (version_line id was now)
versions id was now = unless_same (was == now) _ _ _ _

states : (id : ℕ) (was now : LedgerState) → AreNoneTogether (state_changes id was now) (state_line id was now)
states id was now = unless_same (is_same_state was now) _ _ _ _

members : (names : List (List ℕ)) (id f i : ℕ) (was now : List ℕ) → AreNoneTogether (member_changes names id f i was now) (member_lines names id f i was now)
unfolding AreNoneTogether
members names id f i [] now = (λ none. refl, λ none. refl)
members names id f i (was ∷ before) [] = (λ none. refl, λ none. refl)
members names id f i (was ∷ before) (now ∷ after) =
    both _ (member_changes names id f (i + 1) before after) _ (member_lines names id f (i + 1) before after)
    (unless_same (was == now) _ _ _ _) (members names id f (i + 1) before after)

fragments : (names : List (List ℕ)) (id f : ℕ) (was now : List Fragment) → AreNoneTogether (fragment_changes names id f was now) (fragment_lines names id f was now)
unfolding AreNoneTogether
fragments names id f [] [] = (λ none. refl, λ none. refl)
fragments names id f [] (now ∷ after) = (λ none. cc, λ none. cc)
fragments names id f (was ∷ before) [] = (λ none. cc, λ none. cc)
fragments names id f (was ∷ before) (now ∷ after) =
    both (member_changes names id f 0 was.ensemble now.ensemble) (fragment_changes names id (f + 1) before after)
    (member_lines names id f 0 was.ensemble now.ensemble) (fragment_lines names id (f + 1) before after)
    (members names id f 0 was.ensemble now.ensemble) (fragments names id (f + 1) before after)

metadata : (names : List (List ℕ)) (id : ℕ) (was now : Metadata) → AreNoneTogether (metadata_changes names id was now) (metadata_lines names id was now)
metadata names id was now =
    both (version_changes id was.version now.version) _ (version_line id was.version now.version) _ (versions id was.version now.version)
    (both (state_changes id was.state now.state) _ (state_line id was.state now.state) _ (states id was.state now.state)
    (fragments names id 0 was.fragments now.fragments))

pub metadata_changes-none : (names : List (List ℕ)) (id : ℕ) (was now : Metadata) → AreOfOneLedger was now → (metadata_changes names id was now ≡ [] ↔ was ≡ now)
unfolding AreNoneTogether
metadata_changes-none names id was now alike =
    let lines = metadata_lines-none names id was now alike in
    let together = metadata names id was now in
    (λ none. lines.0 (together.0 none), λ same. together.1 (lines.1 same))

-- Changes

-- of the ledger at a place, if there is one
of_place : (o : Option Ledger) (objects : Ledger → List Json) (lines : Ledger → List ℕ) → ((g : Ledger) → objects g ≡ [] → lines g ≡ [])
    → option_map_or objects o [] ≡ [] → option_map_or lines o [] ≡ []
of_place None objects lines told none = refl
of_place (Some g) objects lines told none = told g none

no_object : (s : Cluster) (c : Change) → change_objects s c ≡ [] → lines_of s c ≡ []
unfolding AreNoneTogether
no_object s (change.Registration b lost) none = cc
no_object s (change.Metadata i m) none =
    of_place (slice_get s.parts.ledgers i) (λ g. metadata_changes s.names g.id m g.metadata) (λ g. metadata_lines s.names g.id m g.metadata)
    (λ g. (metadata s.names g.id m g.metadata).0) none
no_object s (change.Task i task) none = of_place (slice_get s.parts.ledgers i) _ _ (λ g none. cc) none
no_object s (change.Lock i lock) none = of_place (slice_get s.parts.ledgers i) _ _ (λ g none. cc) none
no_object s (change.Word b l k bits) none = cc
no_object s (change.Scalar scalar) none = cc

pub change_objects-some : (s t : Cluster) (cs : List Change) → HaveSameLedgers s t → IsDelta s t cs → All (λ c. change_objects s c ≢ []) cs
change_objects-some s t cs alike delta =
    All-weaker (λ c. lines_of s c ≢ []) (λ c. change_objects s c ≢ []) (λ c told none. told (no_object s c none)) cs (lines_of-some s t cs alike delta)

nothing : (s t : Cluster) (cs : List Change) → HaveSameLedgers s t → IsDelta s t cs → flat_map (change_objects s) cs ≡ [] → s ≡ t
nothing s t [] alike delta none = delta.makes
nothing s t (c ∷ cs) alike delta none =
    absurd (All-head (λ c. change_objects s c ≢ []) c cs (change_objects-some s t (c ∷ cs) alike delta)
    (left_empty (change_objects s c) (flat_map (change_objects s) cs) none))

pub change_objects-none : (s t : Cluster) (cs : List Change) → HaveSameLedgers s t → IsDelta s t cs → (flat_map (change_objects s) cs ≡ [] ↔ s ≡ t)
change_objects-none s t cs alike delta =
    (nothing s t cs alike delta, λ same. ap (λ cs. flat_map (change_objects s) cs) (no_changes s t cs delta same))
