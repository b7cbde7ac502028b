-- The lines of a text, and what is shown of them.
use Rattle.std.proofs.Common.{◌≡◌, ◌∙◌, ◌+◌, ◌-◌, ◌<◌, ◌≤◌, ◌==◌, ◌++◌, ◌∷◌, [], ℕ, Bool, true, false, List, Some, None, cond, not, ap, append_assoc, arith, drop, length, map, nat_lt, position, refl, sym, take}
use Rattle.std.proofs.lemmas.Bool.Decides.{nat_tests}
use Rattle.std.proofs.lemmas.List.{drop_all, take_rest}
use Rattle.std.proofs.lemmas.List.Splits.{length-slice_split, slice_split_first}
use Rattle.std.proofs.lemmas.Option.{cond_some}
use Rattle.std.specs.List.{after_first, join_with_byte, onto_first, position_or_len, prefix_len}
use Rattle.reh_colors.specs.Shades.{colored, lines, shown}

none_more : (b : ℕ) (bs : List ℕ) (n : ℕ) (t : Bool) → (length bs ≤ n → lines bs ≡ bs ∷ [])
    → length (b ∷ bs) ≤ cond (not t) (1 + n) 0 → cond t ([] ∷ lines bs) (onto_first b (lines bs)) ≡ (b ∷ bs) ∷ []
none_more b bs n true below long = absurd (omega arith)
none_more b bs n false below long = ap (onto_first b) (below (omega arith))

none_ended : (xs : List ℕ) → length xs ≤ prefix_len (λ b. not (b == 10)) xs → lines xs ≡ xs ∷ []
none_ended [] long = refl
none_ended (b ∷ bs) long = none_more b bs (prefix_len (λ b. not (b == 10)) bs) (b == 10) (none_ended bs) long

-- without an LF
pub one_line : (xs : List ℕ) → position (λ b. b == 10) xs ≡ None → lines xs ≡ xs ∷ []
one_line xs none =
    let long : length xs ≤ position_or_len (λ b. b == 10) xs = grind (arith, none) in
    none_ended xs long

-- with one
pub first_ended : (xs : List ℕ) (i : ℕ) → position (λ b. b == 10) xs ≡ Some i
    → lines xs ≡ take i xs ∷ lines (take (length xs - (i + 1)) (drop (i + 1) xs))
first_ended xs i found =
    let n : ℕ = position_or_len (λ b. b == 10) xs in
    let both = cond_some (nat_lt n (length xs)) n i found in
    let within : n < length xs = grind (arith, nat_tests, both.0) in
    slice_split_first (λ b. b == 10) xs 0 within
    ∙ ap (λ k. take k xs ∷ lines (drop (k + 1) xs)) both.1
    ∙ ap (λ r. take i xs ∷ lines r) (sym (take_rest xs (i + 1)))

-- one line more
joined_more : (x : List ℕ) (ls : List (List ℕ)) → 0 < length ls
    → join_with_byte 10 (x ∷ map shown ls) ≡ x ++ (10 ∷ join_with_byte 10 (map shown ls))
joined_more x [] some = absurd (omega arith)
joined_more x (y ∷ ys) some = refl

pub more_colored : (line more rest : List ℕ) → lines rest ≡ line ∷ lines more → colored rest ≡ shown line ++ (10 ∷ colored more)
more_colored line more rest is =
    let some : 0 < length (lines more) = omega (arith, length-slice_split (λ b. b == 10) more) in
    ap (λ (ls : List (List ℕ)). join_with_byte 10 (map shown ls)) is ∙ joined_more (shown line) (lines more) some

pub last_colored : (rest : List ℕ) → lines rest ≡ rest ∷ [] → colored rest ≡ shown rest
last_colored rest is = ap (λ (ls : List (List ℕ)). join_with_byte 10 (map shown ls)) is

-- what is shown goes on
pub goes_on : (old mid new line more rest whole : List ℕ) → lines rest ≡ line ∷ lines more → mid ≡ old ++ shown line
    → new ≡ mid ++ (10 ∷ []) → old ++ colored rest ≡ whole → new ++ colored more ≡ whole
goes_on old mid new line more rest whole is added ended before =
    ap (λ (t : List ℕ). t ++ colored more) (ended ∙ ap (λ (t : List ℕ). t ++ (10 ∷ [])) added)
    ∙ append_assoc (old ++ shown line) (10 ∷ []) (colored more)
    ∙ append_assoc old (shown line) (10 ∷ colored more)
    ∙ ap (λ (t : List ℕ). old ++ t) (sym (more_colored line more rest is))
    ∙ before

-- and ends
pub ends : (old new rest whole : List ℕ) → lines rest ≡ rest ∷ [] → new ≡ old ++ shown rest → old ++ colored rest ≡ whole
    → new ≡ whole
ends old new rest whole is added before = added ∙ ap (λ (t : List ℕ). old ++ t) (sym (last_colored rest is)) ∙ before

-- What stands after the first colon

pub after_some : (xs : List ℕ) (i : ℕ) → Some i ≡ position (λ b. b == 58) xs
    → take (length xs - (i + 1)) (drop (i + 1) xs) ≡ after_first (λ b. b == 58) xs
after_some xs i found =
    let n : ℕ = position_or_len (λ b. b == 58) xs in
    let both = cond_some (nat_lt n (length xs)) n i (sym found) in
    take_rest xs (i + 1) ∙ ap (λ k. drop (k + 1) xs) (sym both.1)

pub after_none : (xs : List ℕ) → None ≡ position (λ b. b == 58) xs
    → take (length xs - length xs) (drop (length xs) xs) ≡ after_first (λ b. b == 58) xs
after_none xs none =
    let n : ℕ = position_or_len (λ b. b == 58) xs in
    let long : length xs ≤ n = grind (arith, none) in
    take_rest xs (length xs) ∙ drop_all (length xs) xs (omega arith) ∙ sym (drop_all (n + 1) xs (omega (arith, long)))
