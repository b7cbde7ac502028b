-- The last row of the table is the distance.
use Rattle.std.proofs.Common.{◌≡◌, ℕ, zero, suc, ◌+◌, ◌<◌, ◌≤◌, nat_eq, List, [], ◌∷◌, length, slice_index, arith, refl, sym, ap, ◌∙◌}
use Rattle.strsim.specs.Edits.{cost_at, next_row, rows, levenshtein_row}
use Rattle.reh_near.specs.Distance.{cost, distance, distance_at}

-- the cost at a place of a text
cost_at_is : (x : ℕ) (ys : List ℕ) (j : ℕ) → j < length ys → cost_at nat_eq x ys j ≡ cost x (slice_index ys j)
unfolding cost_at
cost_at_is x [] j within = absurd (omega arith)
cost_at_is x (y ∷ ys) zero within = refl
cost_at_is x (y ∷ ys) (suc j) within = cost_at_is x ys j (omega arith)

-- a row after the row before it
row_is : (xs ys : List ℕ) (i : ℕ) (before : ℕ → ℕ)
    → ((k : ℕ) → k ≤ length ys → before k ≡ distance_at xs ys i k)
    → (j : ℕ) → j ≤ length ys
    → next_row (cost_at nat_eq (slice_index xs i) ys) before (suc i) j ≡ distance_at xs ys (suc i) j
unfolding next_row distance_at
row_is xs ys i before is zero within = refl
row_is xs ys i before is (suc j) within =
    rw (row_is xs ys i before is j (omega arith), cost_at_is (slice_index xs i) ys j (omega arith), is j (omega arith), is (suc j) within) refl

-- the row after the rest of a text
rows_are : (ws ys xs : List ℕ) (n i : ℕ) (before : ℕ → ℕ)
    → ((k : ℕ) → slice_index ws (n + k) ≡ slice_index xs k)
    → ((k : ℕ) → k ≤ length ys → before k ≡ distance_at ws ys n k)
    → n + length xs ≡ i
    → (j : ℕ) → j ≤ length ys → rows nat_eq xs ys n before j ≡ distance_at ws ys i j
unfolding rows
rows_are ws ys [] n i before rest is end j within =
    let same : n ≡ i = omega (arith, end) in
    is j within ∙ ap (λ k. distance_at ws ys k j) same
rows_are ws ys (x ∷ xs) n i before rest is end j within =
    let here : slice_index ws n ≡ x = ap (slice_index ws) (omega arith) ∙ rest 0 in
    let later : (k : ℕ) → slice_index ws (suc n + k) ≡ slice_index xs k = λ k. ap (slice_index ws) (omega arith) ∙ rest (suc k) in
    let next : (k : ℕ) → k ≤ length ys → next_row (cost_at nat_eq x ys) before (suc n) k ≡ distance_at ws ys (suc n) k =
    λ k within. ap (λ byte. next_row (cost_at nat_eq byte ys) before (suc n) k) (sym here) ∙ row_is ws ys n before is k within in
    rows_are ws ys xs (suc n) i (next_row (cost_at nat_eq x ys) before (suc n)) later next (omega (arith, end)) j within

pub table_is_distance : (xs ys : List ℕ) → levenshtein_row nat_eq xs ys (length ys) ≡ distance xs ys
unfolding distance_at
table_is_distance xs ys =
    rows_are xs ys xs 0 (length xs) (λ j. j) (λ k. ap (slice_index xs) (omega arith)) (λ k within. refl) (omega arith) (length ys) (omega arith)
