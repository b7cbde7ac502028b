-- Lists of checks: what is known where they give no reason, or where the first ones do.
use Rattle.std.proofs.Common.{◌≡◌, Bool, true, false, cond, List, [], ◌∷◌, ◌++◌, Option, None, Some, refl}
use Rattle.std.specs.Prelude.{All}
use Rattle.std.specs.List.{find}
use Rattle.std.specs.Option.{option_map, option_or}
use Rattle.std.proofs.lemmas.List.Elements.{All-nil, All-cons}
use Rattle.reh_model.specs.Checks.{reason_if, reason_unless, first_reason}

-- Single checks

pub reason_if-none : {R : Type 0} (condition : Bool) (reason : R) → reason_if condition reason ≡ None → condition ≡ false
reason_if-none true reason none = cc
reason_if-none false reason none = refl

pub reason_unless-none : {R : Type 0} (condition : Bool) (reason : R) → reason_unless condition reason ≡ None → condition ≡ true
reason_unless-none true reason none = refl
reason_unless-none false reason none = cc

-- where nothing is found to refuse, no element of the list passes the test
pub find-none : {X R : Type 0} (p : X → Bool) (reason : X → R) (xs : List X) → option_map reason (find p xs) ≡ None → All (λ x. p x ≡ false) xs
find-none p reason [] none = All-nil (λ x. p x ≡ false)
find-none p reason (x ∷ xs) none =
    elim (p x) as (λ b. p x ≡ b → option_map reason (cond b (Some x) (find p xs)) ≡ None → All (λ x. p x ≡ false) (x ∷ xs)) [
      | true ↦ λ _ none. cc
      | false ↦ λ fails none. All-cons (λ x. p x ≡ false) x xs fails (find-none p reason xs none)
    ] refl none

-- Lists

-- a check and later ones that give no reason
pub both-none : {R : Type 0} (check later : Option R) → option_or check later ≡ None → (check ≡ None) × (later ≡ None)
both-none None later none = (refl, none)
both-none (Some reason) later none = cc

-- a check in the midst of a list that gives none
pub check-none : {R : Type 0} (before : List (Option R)) (check : Option R) (later : List (Option R)) → first_reason (before ++ check ∷ later) ≡ None → check ≡ None
check-none [] None later none = refl
check-none [] (Some reason) later none = cc
check-none (None ∷ before) check later none = check-none before check later none
check-none (Some reason ∷ before) check later none = cc

-- the only check
pub first_reason-only : {R : Type 0} (check : Option R) → first_reason (check ∷ []) ≡ check
first_reason-only None = refl
first_reason-only (Some reason) = refl

-- later checks do not count after a reason,
pub first_reason-found : {R : Type 0} (checks later : List (Option R)) (reason : R) → first_reason checks ≡ Some reason → first_reason (checks ++ later) ≡ Some reason
first_reason-found [] later reason is = cc
first_reason-found (None ∷ checks) later reason is = first_reason-found checks later reason is
first_reason-found (Some other ∷ checks) later reason is = is

-- and alone count where there is none
pub first_reason-passed : {R : Type 0} (checks later : List (Option R)) → first_reason checks ≡ None → first_reason (checks ++ later) ≡ first_reason later
first_reason-passed [] later none = refl
first_reason-passed (None ∷ checks) later none = first_reason-passed checks later none
first_reason-passed (Some reason ∷ checks) later none = cc
