-- Write sets as slices of the indexes of an ensemble, round and round.
use Rattle.std.proofs.Common.{◌≡◌, ◌∙◌, ◌+◌, ◌-◌, ◌*◌, ◌%◌, ◌<◌, ◌≤◌, ◌∷◌, List, ℕ, zero, suc, refl, ap, length, drop, take}
use Rattle.std.proofs.Common.{map, slice_index, arith}
use Rattle.std.specs.List.{range_with_len}
use Rattle.std.proofs.Math.Nat.{mod-add-mod}
use Rattle.std.proofs.lemmas.List.{drop_more}
use Rattle.reh_model.specs.Striping.{index_at, write_set}

-- a slice has the indexes of the ranks from that one on
slice-ranks : (indexes : List ℕ) (n e place rank quorum : ℕ) → place + quorum ≤ length indexes
    → ((i : ℕ) → i < quorum → slice_index indexes (place + i) ≡ index_at e n (rank + i))
    → take quorum (drop place indexes) ≡ map (index_at e n) (range_with_len rank quorum)
slice-ranks indexes n e place rank zero inside are = refl
slice-ranks indexes n e place rank (suc quorum) inside are =
    let none : place ≡ place + 0 = omega arith in
    let nil : rank + 0 ≡ rank = omega arith in
    ap (λ (is : List ℕ). take (suc quorum) is) (drop_more indexes place 0 (omega arith))
    ∙ (λ j. (ap (slice_index indexes) none ∙ are 0 (omega arith) ∙ ap (index_at e n) nil) j
    ∷ slice-ranks indexes n e (place + 1) (rank + 1) quorum (omega (arith, inside)) (λ i below.
    let at : (place + 1) + i ≡ place + (i + 1) = omega arith in
    let of : rank + (i + 1) ≡ (rank + 1) + i = omega arith in
    ap (slice_index indexes) at ∙ are (i + 1) (omega (arith, below)) ∙ ap (index_at e n) of) j)

-- that of an entry of a word is its write set
pub slice-write_set : (indexes : List ℕ) (n start number bit quorum : ℕ) → start + bit + quorum ≤ length indexes
    → ((place : ℕ) → place < length indexes → slice_index indexes place ≡ place % n)
    → start ≡ (64 * number) % n
    → take quorum (drop (start + bit) indexes) ≡ write_set (64 * number + bit) n quorum
slice-write_set indexes n start number bit quorum inside are is =
    let all : quorum ≡ quorum - 0 = omega arith in
    slice-ranks indexes n (64 * number + bit) (start + bit) 0 quorum inside (λ i below.
    let group : (start + bit) + i ≡ start + (bit + i) = omega arith in
    let whole : 64 * number + (bit + i) ≡ (64 * number + bit) + (0 + i) = omega arith in
    are ((start + bit) + i) (omega (arith, inside, below)) ∙ ap (λ k. k % n) group
    ∙ ap (λ s. (s + (bit + i)) % n) is ∙ mod-add-mod (64 * number) n (bit + i) ∙ ap (λ k. k % n) whole)
    ∙ ap (λ q. map (index_at (64 * number + bit) n) (range_with_len 0 q)) all
