-- A roll that is accepted is of a bookie of the picture, and at an index that an ensemble can have.
use Rattle.std.proofs.Common.{◌≡◌, ℕ, ◌<◌, ◌≤◌, length, true, List, [], ◌∷◌, Option, None, arith}
use Rattle.std.specs.Prelude.{nat_lt}
use Rattle.std.proofs.lemmas.Bool.Decides.{nat_tests}
use Rattle.reh_types.specs.declared.limits.TheConstants.{MAX_ENSEMBLE_SIZE}
use Rattle.reh_types.specs.declared.moves.Event.TheVariants.{Roll}
use Rattle.reh_types.specs.declared.refusals.Refusal.{Refusal}
use Rattle.reh_model.specs.Cluster.{Cluster, Ledger}
use Rattle.reh_model.specs.Metadata.{last_fragment}
use Rattle.reh_model.specs.Refusals.{at_ledger, no_bookie, not_open, no_index, member_up, target_down, target_is_member}
use Rattle.reh_model.specs.Refusals.{entry_end, fragments_full, version_end}
use Rattle.reh_model.specs.Step.{refusal_of, roll_checks}
use Rattle.reh_model.specs.WellFormed.{IsWellFormed}
use Rattle.reh_model.proofs.AcceptedLaws.{accepted_ledger, not_not}
use Rattle.reh_model.proofs.CheckLaws.{check-none, reason_if-none}
use Rattle.reh_model.proofs.WellFormedLaws.{IsLedger-found}

pub roll_named : (s : Cluster) (l i b : ℕ) → refusal_of s (Roll l i b) ≡ None → b < length s.names
roll_named s l i b none =
    let named : nat_lt b (length s.names) ≡ true =
    not_not _ (reason_if-none _ _ (check-none [] (no_bookie s b) (at_ledger s l (roll_checks s i b) ∷ []) none)) in
    grind (arith, nat_tests)

pub roll_within : (s : Cluster) (l i b : ℕ) → IsWellFormed s → refusal_of s (Roll l i b) ≡ None → i < MAX_ENSEMBLE_SIZE
roll_within s l i b well none =
    let found = accepted_ledger s b l (roll_checks s i b) none in
    let g : Ledger = found.ledger in
    let last = last_fragment g.metadata in
    let more : List (Option Refusal) = member_up s last i ∷ target_down s b ∷ target_is_member last b ∷ entry_end s g
    ∷ fragments_full s g ∷ version_end g ∷ [] in
    let index : nat_lt i g.metadata.size ≡ true =
    not_not _ (reason_if-none _ _ (check-none (not_open g ∷ []) (no_index g i) more found.passes)) in
    let inside : i < g.metadata.size = grind (arith, nat_tests) in
    let small : g.metadata.size ≤ MAX_ENSEMBLE_SIZE = (IsLedger-found s l g well found.is).metadata.small in
    omega (arith, inside, small)
