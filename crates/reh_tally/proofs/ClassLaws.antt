-- Members of write sets.
use Rattle.std.proofs.Common.{◌≡◌, ◌∙◌, ◌+◌, ◌-◌, ◌*◌, ◌<◌, ◌||◌, ◌++◌, ℕ, Bool, true, false, List, [], ◌∷◌, length, get_or, map, refl, ap, sym, arith}
use Rattle.std.specs.Prelude.{◌==◌, bit_or, slice_index}
use Rattle.std.specs.List.{list_any, range_with_len}
use Rattle.std.proofs.lemmas.List.{get_or-map, length-map}
use Rattle.std.proofs.lemmas.List.Folds.{list_any-append}
use Rattle.reh_census.specs.declared.ledgers.Fragment.{Fragment}
use Rattle.reh_census.specs.Ledgers.{Ledger, carries}
use Rattle.reh_census.specs.Striping.{range, index_at}
use Rattle.reh_census.proofs.RangeLaws.{range-append}
use Rattle.reh_tally.specs.Masks.{bit_of, mask_of}
use Rattle.reh_tally.proofs.MaskLaws.{or-mask}

range-more : (n : ℕ) → range 0 (n + 1) ≡ range 0 n ++ n ∷ []
range-more n =
    let long : n + 1 - 0 ≡ (n - 0) + 1 = omega arith in
    let last : 0 + (n - 0) ≡ n = omega arith in
    ap (λ k. range_with_len 0 k) long ∙ range-append 0 (n - 0) 1
    ∙ ap (λ k. range_with_len 0 (n - 0) ++ k ∷ []) last

list_any-map : {X Y : Type 0} (p : Y → Bool) (f : X → Y) (xs : List X) → list_any p (map f xs) ≡ list_any (λ x. p (f x)) xs
list_any-map p f [] = refl
list_any-map p f (x ∷ xs) = ap (λ b. p (f x) || b) (list_any-map p f xs)

abbrev pub at_rank : Ledger → Fragment → ℕ → ℕ → ℕ → Bool
at_rank g fragment entry b rank = slice_index fragment.ensemble (index_at entry g.size rank) == b

-- whether the entry is striped onto the bookie by one of so many ranks
abbrev pub carries_first : Ledger → Fragment → ℕ → ℕ → ℕ → Bool
carries_first g fragment entry ranks b = list_any (at_rank g fragment entry b) (range 0 ranks)

carries-ranks : (g : Ledger) (fragment : Fragment) (entry b : ℕ)
    → carries_first g fragment entry g.write_quorum b ≡ carries g fragment entry b
carries-ranks g fragment entry b =
    sym
    (list_any-map (λ member. member == b) (λ i. slice_index fragment.ensemble i) (map (index_at entry g.size) (range 0 g.write_quorum))
    ∙ list_any-map (λ i. slice_index fragment.ensemble i == b) (index_at entry g.size) (range 0 g.write_quorum))

first-more : (g : Ledger) (fragment : Fragment) (entry ranks b : ℕ)
    → (carries_first g fragment entry ranks b || at_rank g fragment entry b ranks) ≡ carries_first g fragment entry (ranks + 1) b
first-more g fragment entry ranks b =
    sym
    (ap (list_any (at_rank g fragment entry b)) (range-more ranks)
    ∙ list_any-append (at_rank g fragment entry b) (range 0 ranks) (ranks ∷ [])
    ∙ ap (λ a. carries_first g fragment entry ranks b || a) (last (at_rank g fragment entry b ranks))) where
      last : (a : Bool) → (a || false) ≡ a
      last true = refl
      last false = refl

-- by no rank, by one more, and by all of the write quorum
pub mask-first : (g : Ledger) (fragment : Fragment) (entry : ℕ) (members : List ℕ) → 0 ≡ mask_of (carries_first g fragment entry 0) members
mask-first g fragment entry [] = refl
mask-first g fragment entry (b ∷ members) = ap (λ m. m * 2 + 0) (mask-first g fragment entry members)

pub mask-rank : (g : Ledger) (fragment : Fragment) (entry ranks : ℕ) (members bits : List ℕ) (mask index : ℕ)
    → bits ≡ map (bit_of members) fragment.ensemble → index ≡ index_at entry g.size ranks → index < length bits
    → mask ≡ mask_of (carries_first g fragment entry ranks) members
    → bit_or mask (slice_index bits index) ≡ mask_of (carries_first g fragment entry (ranks + 1)) members
mask-rank g fragment entry ranks members bits mask index are at within was =
    let same : length bits ≡ length fragment.ensemble = ap length are ∙ length-map fragment.ensemble (bit_of members) in
    let bit : slice_index bits index ≡ mask_of (λ b. at_rank g fragment entry b ranks) members =
    ap (λ (xs : List ℕ). get_or xs index 0) are
    ∙ get_or-map (bit_of members) fragment.ensemble index 0 0 (omega (arith, same, within))
    ∙ ap (λ k. bit_of members (slice_index fragment.ensemble k)) at in
    (λ i. bit_or (was i) (bit i))
    ∙ or-mask (carries_first g fragment entry ranks) (λ b. at_rank g fragment entry b ranks) members
    ∙ (λ i. mask_of (λ b. first-more g fragment entry ranks b i) members)

pub mask-all : (g : Ledger) (fragment : Fragment) (entry : ℕ) (members : List ℕ)
    → mask_of (carries_first g fragment entry g.write_quorum) members ≡ mask_of (carries g fragment entry) members
mask-all g fragment entry members i = mask_of (λ b. carries-ranks g fragment entry b i) members
