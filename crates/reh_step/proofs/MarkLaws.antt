-- Marks at the indexes of a write set.
use Rattle.std.proofs.Common.{◌≡◌, ◌∙◌, ◌<◌, ◌-◌, false, Bool, List, ℕ, ap, map, length, get_or, unwrap_or, arith}
use Rattle.std.specs.List.{range_with_len}
use Rattle.std.proofs.lemmas.Option.{slice_get-get_or}
use Rattle.std.proofs.lemmas.List.FromFn.{length-map-range_with_len}
use Rattle.reh_model.specs.Striping.{index_at, write_set}
use Rattle.reh_step.specs.Marks.{is_marked}

-- a write set has as many indexes as the write quorum
pub write_set_long : (entry size quorum : ℕ) → length (write_set entry size quorum) ≡ quorum
write_set_long entry size quorum =
    let whole : quorum - 0 ≡ quorum = omega arith in
    ap (λ n. length (map (index_at entry size) (range_with_len 0 n))) whole
    ∙ length-map-range_with_len (index_at entry size) 0 quorum

-- the mark that stands at a place
pub is_marked_there : (marks : List Bool) (index : ℕ) (d : Bool) → index < length marks
    → is_marked marks index ≡ get_or marks index d
is_marked_there marks index d inside = ap (λ found. unwrap_or found false) (slice_get-get_or marks index d inside)
