-- When bookies may not be stopped for an entry's sake.
use Rattle.std.specs.Prelude.{ℕ, ◌-◌, min, max, Bool, not, ◌&&◌, ◌==◌, nat_lt, List, length}
use Rattle.reh_census.specs.declared.classes.Class.{Class}
use Rattle.reh_census.specs.declared.questions.Keep.{Keep}
use Rattle.reh_census.specs.declared.questions.Keep.TheVariants.{AckQuorum, Copies, AckLessOne}
use Rattle.reh_census.specs.Copies.{best, left, worst}

-- how many copies an entry of this ack quorum is to keep: at least one
abbrev pub copies_to_keep : Keep → ℕ → ℕ
copies_to_keep AckQuorum ack_quorum = max 1 ack_quorum
copies_to_keep (Copies number) ack_quorum = max 1 number
copies_to_keep AckLessOne ack_quorum = max 1 (ack_quorum - 1)

-- the entry that has these copies can be read, and can't without the stopped bookies
abbrev pub breaks_readable : (ℕ → Bool) → List ℕ → Bool
breaks_readable stopped copies = nat_lt 0 (length copies) && (left stopped copies == 0)

-- the entry that has these copies has fewer than are to be kept without the stopped bookies, and fewer than now
abbrev pub breaks_kept : ℕ → (ℕ → Bool) → List ℕ → Bool
breaks_kept keep stopped copies = nat_lt (left stopped copies) (min (length copies) keep)

-- the first rule is broken: whatever the completion, and by some completion
abbrev pub loses : (ℕ → Bool) → Class → Bool
loses stopped class = breaks_readable stopped (best stopped class)

abbrev pub may_lose : (ℕ → Bool) → Class → Bool
may_lose stopped class = breaks_readable stopped (worst stopped class)

-- the second
abbrev pub falls : Keep → (ℕ → Bool) → Class → Bool
falls keep stopped class = breaks_kept (copies_to_keep keep class.ack_quorum) stopped (best stopped class)

abbrev pub may_fall : Keep → (ℕ → Bool) → Class → Bool
may_fall keep stopped class = breaks_kept (copies_to_keep keep class.ack_quorum) stopped (worst stopped class)

-- by some completion, and not by every one
abbrev pub not_sure : (Class → Bool) → (Class → Bool) → Class → Bool
not_sure every some class = some class && not (every class)
