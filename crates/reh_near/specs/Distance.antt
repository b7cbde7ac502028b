-- How far two texts are apart: Levenshtein's distance, by bytes.
use Rattle.std.specs.Prelude.{ℕ, zero, suc, ◌+◌, min, nat_eq, if◌then◌else◌, List, length, slice_index}

-- one edit for two bytes that differ
abbrev pub cost : ℕ → ℕ → ℕ
cost x y = if nat_eq x y then 0 else 1

-- How far the first i bytes of one text are from the first j of another: from no bytes, as far as there are bytes. Else
-- it is the least of three: one byte less of the second, and an edit; one less of each, and an edit if these two differ;
-- one less of the first, and an edit.
unfoldable pub distance_at : List ℕ → List ℕ → ℕ → ℕ → ℕ
distance_at xs ys zero j = j
distance_at xs ys (suc i) zero = suc i
distance_at xs ys (suc i) (suc j) =
    min (distance_at xs ys (suc i) j + 1)
    (min (distance_at xs ys i j + cost (slice_index xs i) (slice_index ys j)) (distance_at xs ys i (suc j) + 1))

-- how far two texts are apart
abbrev pub distance : List ℕ → List ℕ → ℕ
distance xs ys = distance_at xs ys (length xs) (length ys)
