-- A row of words: the entries that its bits stand for, 64 to a word.
use Rattle.std.specs.Prelude.{◌≡◌, ℕ, ◌*◌, ◌/◌, ◌%◌, ◌≤◌, Bool, true, false, ◌==◌, List, length}
use Rattle.std.specs.Prelude.{slice_index, Option, MatchOption}
use Rattle.std.specs.List.{filter, range_with_len}
use Rattle.std.specs.Int.{bit_at}

-- whether the entry's bit is set; past the words none is
abbrev pub is_set : List ℕ → ℕ → Bool
is_set words entry = bit_at (slice_index words (entry / 64)) (entry % 64) == 1

-- the entries whose bits are set
abbrev pub entries_in : List ℕ → List ℕ
entries_in words = filter (is_set words) (range_with_len 0 (64 * length words))

-- this entry passes the test and no greater one does, or none does
abbrev pub IsGreatest : (ℕ → Bool) → Option ℕ → Type 0
IsGreatest test greatest =
    MatchOption greatest ((e : ℕ) → test e ≡ false)
    (λ entry. (test entry ≡ true) × ((e : ℕ) → test e ≡ true → e ≤ entry))
