-- Lists of checks. Each check gives a reason to refuse something, or none; the first reason is the answer.
use Rattle.std.specs.Prelude.{Bool, if◌then◌else◌, List, [], ◌∷◌, Option, None, Some}
use Rattle.std.specs.Option.{option_or}

-- the reason, where the condition holds
abbrev pub reason_if : {R : Type 0} → Bool → R → Option R
reason_if condition reason = if condition then Some reason else None

-- the reason, unless the condition holds
abbrev pub reason_unless : {R : Type 0} → Bool → R → Option R
reason_unless condition reason = if condition then None else Some reason

-- the first check that gives a reason
abbrev pub first_reason : {R : Type 0} → List (Option R) → Option R
first_reason [] = None
first_reason (check ∷ checks) = option_or check (first_reason checks)
