-- Which members of an ensemble are registered.
use Rattle.std.specs.Prelude.{ℕ, Bool, false, List, unwrap_or, slice_get}

-- whether the index is marked
abbrev pub is_marked : List Bool → ℕ → Bool
is_marked marks index = unwrap_or (slice_get marks index) false
