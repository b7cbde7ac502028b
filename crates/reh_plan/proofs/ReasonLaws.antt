-- What holds below a number, and what is no reason.
use Rattle.std.proofs.Common.{◌≡◌, ◌∙◌, ℕ, zero, suc, ◌+◌, ◌<◌, Bool, true, false, ◌&&◌, [], ◌∷◌, Option, None, Some, ap, arith, is_none, length, not, refl}
use Rattle.std.specs.Prelude.{if◌then◌else◌}
use Rattle.reh_types.specs.declared.refusals.Refusal.{Refusal}
use Rattle.reh_types.specs.declared.refusals.Refusal.TheVariants.{TargetDown}
use Rattle.reh_model.specs.Checks.{first_reason, reason_if}
use Rattle.reh_model.specs.Cluster.{Cluster, Ledger, is_up}
use Rattle.reh_model.specs.Metadata.{last_fragment}
use Rattle.reh_model.specs.Refusals.{member_up, no_index, target_is_member}
use Rattle.reh_model.specs.WellFormed.{IsWellFormed}
use Rattle.reh_model.proofs.WellFormedLaws.{up_named}
use Rattle.reh_plan.specs.Ends.{has_writer}
use Rattle.reh_plan.specs.Reasons.{may_come, roll_refusal, unrolled_refusal}
use Rattle.reh_plan.specs.Workers.{Rules, may_work}

-- one number more
pub below-more : (P : ℕ → Type 0) (n : ℕ) → ((k : ℕ) → k < n → P k) → P n → (k : ℕ) → k < n + 1 → P k
below-more P zero below last zero less = last
below-more P zero below last (suc k) less = absurd (omega (arith, less))
below-more P (suc n) below last zero less = below zero (omega arith)
below-more P (suc n) below last (suc k) less =
    below-more (λ m. P (suc m)) n (λ m l. below (suc m) (omega (arith, l))) last k (omega (arith, less))

-- what is asked only where both are so
off : {X : Type 0} (a b : Bool) (r : Option X) → b ≡ false → (if a && b then r else None) ≡ None
off {X} true b r fails = ap (λ (x : Bool). if x then r else None) fails
off {X} false b r fails = refl

third : (a b d : Option Refusal) (r : Refusal) → is_none (first_reason (a ∷ b ∷ Some r ∷ d ∷ [])) ≡ false
third None None d r = refl
third None (Some x) d r = refl
third (Some x) b d r = refl

no-and : (a b : Bool) → b ≡ false → (a && b) ≡ false
no-and true b fails = fails
no-and false b fails = refl

-- a bookie that isn't registered doesn't come
pub down-stays : (rules : Rules) (s : Cluster) (g : Ledger) (i b : ℕ) → is_up s b ≡ false
    → unrolled_refusal rules s g i b ≡ None
down-stays rules s g i b down =
    off (has_writer rules g) (may_come rules s g i b) (roll_refusal s g i b)
    (no-and (may_work rules b) _
    (ap
    (λ (up : Bool). is_none (first_reason (no_index g i ∷ member_up s (last_fragment g.metadata) i
    ∷ reason_if (not up) TargetDown ∷ target_is_member (last_fragment g.metadata) b ∷ [])))
    down
    ∙ third (no_index g i) (member_up s (last_fragment g.metadata) i) (target_is_member (last_fragment g.metadata) b) TargetDown))

-- where that holds of all bookies that there are, it does of any
pub of-any : (rules : Rules) (s : Cluster) (g : Ledger) (i : ℕ) → IsWellFormed s
    → ((b : ℕ) → b < length s.names → unrolled_refusal rules s g i b ≡ None) → (b : ℕ) → unrolled_refusal rules s g i b ≡ None
of-any rules s g i well below b =
    elim (is_up s b) as (λ up. is_up s b ≡ up → unrolled_refusal rules s g i b ≡ None) [
      | true ↦ λ up. below b (up_named s b well up)
      | false ↦ λ down. down-stays rules s g i b down
    ] refl
