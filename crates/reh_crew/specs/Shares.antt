-- How what there is to read is shared out.
use Rattle.std.specs.Prelude.{ℕ, ◌+◌, ◌-◌, ◌^◌, ◌==◌, if◌then◌else◌, min, List, [], ◌∷◌, length, sum}
use Rattle.std.specs.Int.{div_ceil}

-- all that there is to read, as far as a number goes
abbrev pub total : List ℕ → ℕ
total costs = min (sum costs) (2 ^ 64 - 1)

-- how many lines, from the first one on, come to so much, or all, where they don't
abbrev pub lines_to : ℕ → List ℕ → ℕ
lines_to much [] = 0
lines_to much (cost ∷ costs) = if much == 0 then 0 else lines_to (much - cost) costs + 1

-- how many lines are the share of the first of so many workers: those that come to an even share, or all, for the last
abbrev pub first_share : List ℕ → ℕ → ℕ
first_share costs workers =
    if workers == 1 then length costs else lines_to (div_ceil (total costs) workers) costs
