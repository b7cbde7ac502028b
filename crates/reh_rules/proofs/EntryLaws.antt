-- The rules of an entry, by counts.
use Rattle.std.proofs.Common.{◌≡◌, ◌∙◌, ◌+◌, not, ℕ, Bool, length, nat_lt}
use Rattle.std.specs.Prelude.{count_by, min}
use Rattle.reh_census.specs.declared.classes.Class.{Class}
use Rattle.reh_census.specs.Copies.{best, left, worst}
use Rattle.reh_census.specs.Rules.{breaks_kept, breaks_readable}
use Rattle.reh_census.proofs.RuleLaws.{kept-worst, left-best, length-completion, readable-kept}

pub best-counts : (keep : ℕ) (stopped : ℕ → Bool) (class : Class)
    → breaks_kept keep stopped (best stopped class)
    ≡ nat_lt (left stopped class.known + left stopped class.untold) (min (length class.known + left stopped class.untold) keep)
best-counts keep stopped class =
    λ i. nat_lt (left-best class stopped i) (min (length-completion class (λ b. not (stopped b)) i) keep)

pub best-reading : (stopped : ℕ → Bool) (class : Class)
    → breaks_readable stopped (best stopped class)
    ≡ nat_lt (left stopped class.known + left stopped class.untold) (min (length class.known + left stopped class.untold) 1)
best-reading stopped class = readable-kept stopped (best stopped class) ∙ best-counts 1 stopped class

pub worst-reading : (stopped : ℕ → Bool) (class : Class)
    → breaks_readable stopped (worst stopped class)
    ≡ nat_lt (left stopped class.known) (min (length class.known + count_by stopped class.untold) 1)
worst-reading stopped class = readable-kept stopped (worst stopped class) ∙ kept-worst 1 stopped class
