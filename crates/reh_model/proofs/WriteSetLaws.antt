-- Write sets: which members they name, and how many indexes carry an entry.
use Rattle.std.proofs.Common.{◌≡◌, ◌≢◌, ℕ, zero, suc, ◌+◌, ◌-◌, ◌%◌, ◌<◌, ◌≤◌, Bool, true, false, cond, List, length, min, nat_lt, nat_eq, get_or, All, sym, ap, ◌∙◌, arith, inl, inr}
use Rattle.std.specs.Prelude.{◌==◌, slice_index, count_by}
use Rattle.std.specs.List.{list_any, range_with_len, IsDistinct}
use Rattle.std.proofs.Math.Nat.{mod-eq_of_lt}
use Rattle.std.proofs.lemmas.Nat.{mod_below}
use Rattle.std.proofs.lemmas.Bool.{cases_lt}
use Rattle.std.proofs.lemmas.Bool.Decides.{nat_tests, Decides-eqb}
use Rattle.std.proofs.lemmas.List.Elements.{All-map}
use Rattle.std.proofs.lemmas.List.Sums.{sum_by-cons}
use Rattle.std.proofs.lemmas.Map.Made.{AllPairs-from_IsDistinct}
use Rattle.reh_model.specs.Striping.{range, index_at, rank_of, is_striped, write_set}
use Rattle.reh_model.specs.Metadata.{Fragment, Metadata, IsEnsemble, writes}
use Rattle.reh_model.proofs.Ranges.{list_any-map, list_any-same}
use Rattle.reh_model.proofs.StripingLaws.{is_striped-rank_of, is_striped-ranks, mod_wrap}

-- the indexes of a write set are those of the ensemble's members
pub write_set-below : (e n q : ℕ) → 1 ≤ n → All (λ i. i < n) (write_set e n q)
write_set-below e n q some = All-map (λ i. i < n) (index_at e n) (range 0 q) (λ k d inside. mod_below (e + get_or (range 0 q) k d) n some)

-- different places of a list of different numbers hold different numbers
same_place : (xs : List ℕ) → IsDistinct nat_eq xs → (i j : ℕ) → i < length xs → j < length xs → (slice_index xs i == slice_index xs j) ≡ (i == j)
same_place xs different i j i_in j_in =
    elim (cases_lt i j) [
      | inl below ↦ let apart : slice_index xs i ≢ slice_index xs j = AllPairs-from_IsDistinct Decides-eqb xs different i j 0 below j_in in grind (arith, nat_tests, apart)
      | inr past ↦ elim (cases_lt j i) [
        | inl below ↦ let apart : slice_index xs j ≢ slice_index xs i = AllPairs-from_IsDistinct Decides-eqb xs different j i 0 below i_in in grind (arith, nat_tests, apart)
        | inr equal ↦ let same : i ≡ j = omega arith in let here : slice_index xs i ≡ slice_index xs j = ap (λ k. slice_index xs k) same in grind (arith, nat_tests, same, here)
      ]
    ]

-- an index carries an entry exactly if its member is in the entry's write set
pub writes-member : (m : Metadata) (fragment : Fragment) (entry index : ℕ) → IsEnsemble m.size fragment.ensemble → index < m.size
    → list_any (λ b. b == slice_index fragment.ensemble index) (writes m fragment entry) ≡ is_striped entry index m.size m.write_quorum
writes-member m fragment entry index ensemble inside =
    let member : ℕ → ℕ = λ i. slice_index fragment.ensemble i in
    list_any-map (λ b. b == member index) member (write_set entry m.size m.write_quorum)
    ∙ list_any-map (λ i. member i == member index) (index_at entry m.size) (range 0 m.write_quorum)
    ∙ list_any-same (λ rank. member (index_at entry m.size rank) == member index) (λ rank. index_at entry m.size rank == index) (λ rank.
    let below : index_at entry m.size rank < m.size = mod_below (entry + rank) m.size (omega arith) in
    same_place fragment.ensemble ensemble.different (index_at entry m.size rank) index (omega (arith, ensemble.whole)) (omega (arith, ensemble.whole))) (range 0 m.write_quorum)
    ∙ sym (is_striped-ranks entry index m.size m.write_quorum)

-- how many indexes carry an entry: first those from the index of rank 0 on, then those before it

count_step : (p : ℕ → Bool) (a k : ℕ) → count_by p (range_with_len a (suc k)) ≡ cond (p a) 1 0 + count_by p (range_with_len (a + 1) k)
count_step p a k = sum_by-cons (λ x. cond (p x) 1 0) a (range_with_len (a + 1) k)

rank_from : (e i n : ℕ) → i < n → e % n ≤ i → rank_of e i n ≡ i - e % n
rank_from e i n inside from =
    let at : i + n - e % n ≡ (i - e % n) + n = omega arith in
    ap (λ k. k % n) at ∙ mod_wrap (i - e % n) n (omega arith)

rank_before : (e i n : ℕ) → i < e % n → e % n < n → rank_of e i n ≡ i + n - e % n
rank_before e i n before rest = mod-eq_of_lt (let below : i + n - e % n < n = omega arith in below)

count_from : (k i e n q : ℕ) → 1 ≤ q → q ≤ n → e % n ≤ i → i + k ≡ n → count_by (λ i. is_striped e i n q) (range_with_len i k) ≡ min k (q - (i - e % n))
count_from zero i e n q some within from end = omega arith
count_from (suc k) i e n q some within from end =
    let carried : is_striped e i n q ≡ nat_lt (i - e % n) q = is_striped-rank_of e i n q some within (omega arith) ∙ ap (λ r. nat_lt r q) (rank_from e i n (omega arith) from) in
    let rest : count_by (λ i. is_striped e i n q) (range_with_len (i + 1) k) ≡ min k (q - (i + 1 - e % n)) = count_from k (i + 1) e n q some within (omega arith) (omega arith) in
    count_step (λ i. is_striped e i n q) i k ∙ ap (λ b. cond b 1 0 + count_by (λ i. is_striped e i n q) (range_with_len (i + 1) k)) carried
    ∙ elim (cases_lt (i - e % n) q) [
      | inl below ↦ let yes : nat_lt (i - e % n) q ≡ true = grind (arith, nat_tests) in ap (λ b. cond b 1 0 + count_by (λ i. is_striped e i n q) (range_with_len (i + 1) k)) yes ∙ omega arith
      | inr past ↦ let no : nat_lt (i - e % n) q ≡ false = grind (arith, nat_tests) in ap (λ b. cond b 1 0 + count_by (λ i. is_striped e i n q) (range_with_len (i + 1) k)) no ∙ omega arith
    ]

count_before : (d i e n q : ℕ) → 1 ≤ q → q ≤ n → i + d ≡ e % n → e % n < n
    → count_by (λ i. is_striped e i n q) (range_with_len i (d + (n - e % n))) ≡ (q - (i + n - e % n)) + min (n - e % n) q
count_before zero i e n q some within end rest =
    let len : zero + (n - e % n) ≡ n - e % n = omega arith in
    ap (λ k. count_by (λ i. is_striped e i n q) (range_with_len i k)) len ∙ count_from (n - e % n) i e n q some within (omega arith) (omega arith) ∙ omega arith
count_before (suc d) i e n q some within end rest =
    let len : suc d + (n - e % n) ≡ suc (d + (n - e % n)) = omega arith in
    let carried : is_striped e i n q ≡ nat_lt (i + n - e % n) q = is_striped-rank_of e i n q some within (omega arith) ∙ ap (λ r. nat_lt r q) (rank_before e i n (omega arith) rest) in
    let later : count_by (λ i. is_striped e i n q) (range_with_len (i + 1) (d + (n - e % n))) ≡ (q - (i + 1 + n - e % n)) + min (n - e % n) q = count_before d (i + 1) e n q some within (omega arith) rest in
    ap (λ k. count_by (λ i. is_striped e i n q) (range_with_len i k)) len
    ∙ count_step (λ i. is_striped e i n q) i (d + (n - e % n)) ∙ ap (λ b. cond b 1 0 + count_by (λ i. is_striped e i n q) (range_with_len (i + 1) (d + (n - e % n)))) carried
    ∙ elim (cases_lt (i + n - e % n) q) [
      | inl below ↦ let yes : nat_lt (i + n - e % n) q ≡ true = grind (arith, nat_tests) in ap (λ b. cond b 1 0 + count_by (λ i. is_striped e i n q) (range_with_len (i + 1) (d + (n - e % n)))) yes ∙ omega arith
      | inr past ↦ let no : nat_lt (i + n - e % n) q ≡ false = grind (arith, nat_tests) in ap (λ b. cond b 1 0 + count_by (λ i. is_striped e i n q) (range_with_len (i + 1) (d + (n - e % n)))) no ∙ omega arith
    ]

-- each entry is carried by as many indexes as the write quorum
pub count_by-is_striped : (e n q : ℕ) → 1 ≤ q → q ≤ n → count_by (λ i. is_striped e i n q) (range 0 n) ≡ q
count_by-is_striped e n q some within =
    let rest : e % n < n = mod_below e n (omega arith) in
    let len : n - 0 ≡ e % n + (n - e % n) = omega arith in
    ap (λ k. count_by (λ i. is_striped e i n q) (range_with_len 0 k)) len ∙ count_before (e % n) 0 e n q some within (omega arith) rest ∙ omega arith
