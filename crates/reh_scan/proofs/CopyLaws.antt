-- Which entries of a word can be copied from a bookie, and the sources of a word's entries.
use Rattle.std.proofs.Common.{◌≡◌, ◌≢◌, ◌∙◌, ◌+◌, ◌*◌, ◌/◌, ◌%◌, ◌<◌, ◌≤◌, ◌&&◌, ◌||◌, Bool, true, false, List, [], ◌∷◌, ◌++◌, ℕ}
use Rattle.std.proofs.Common.{zero, suc, refl, ap, sym, map, length, drop, get_or, slice_index, slice_set, Bor, Option, None, Some}
use Rattle.std.proofs.Common.{All, not, arith, subst, inl, inr, replicate}
use Rattle.std.specs.Prelude.{◌==◌, bit_and, bit_or, slice_get}
use Rattle.std.specs.List.{list_any, range_with_len, zip}
use Rattle.std.specs.Option.{option_or}
use Rattle.std.proofs.Math.Bool.{or-false}
use Rattle.std.proofs.lemmas.Bool.{cases_lt}
use Rattle.std.proofs.lemmas.Bool.Decides.{nat_tests}
use Rattle.std.proofs.lemmas.List.{get_or-set_same, get_or-set_other, get_or_past, get_or-replicate, length-replicate, map-append}
use Rattle.std.proofs.lemmas.List.Elements.{All-head, All-tail}
use Rattle.reh_types.specs.declared.limits.TheConstants.{MAX_BOOKIES}
use Rattle.reh_types.specs.declared.refusals.Refusal.{Refusal}
use Rattle.reh_types.specs.declared.refusals.Refusal.TheVariants.{SourceGone}
use Rattle.reh_model.specs.Checks.{first_reason, reason_if}
use Rattle.reh_model.specs.Cluster.{Cluster, Ledger, ledger_at}
use Rattle.reh_model.specs.Metadata.{Fragment, Metadata}
use Rattle.reh_model.specs.Striping.{is_striped, write_set}
use Rattle.reh_model.specs.WellFormed.{IsWellFormed}
use Rattle.reh_model.proofs.WellFormedLaws.{IsLedger-found}
use Rattle.reh_stripe.specs.Words.{has_bit}
use Rattle.reh_stripe.proofs.WordLaws.{has_bit-and, has_bit-none, has_bit-or}
use Rattle.reh_scan.specs.Sources.{is_set_at}
use Rattle.reh_scan.specs.Posts.{is_copy_at, lost_bit, lost_copy}
use Rattle.reh_scan.proofs.WordLaws.{any-carried, any-range-more, has_bit-row}

-- Bookies' words

-- whether the bookie stands at the index, which carries the entry, and the row there has it
abbrev pub is_carried_copy : List (Bor (List ℕ)) → Fragment → ℕ → ℕ → ℕ → ℕ → ℕ → Bool
is_carried_copy rows fragment size quorum entry bookie index =
    is_copy_at rows fragment entry bookie index && is_striped entry index size quorum

-- the bookies' words have the bits that the indexes below this one give
abbrev pub AreCarried : List (Bor (List ℕ)) → Fragment → ℕ → ℕ → ℕ → ℕ → List ℕ → Type 0
AreCarried rows fragment size quorum number index copies =
    (bookie i : ℕ) → i < 64
    → has_bit (slice_index copies bookie) i
    ≡ list_any (is_carried_copy rows fragment size quorum (64 * number + i) bookie) (range_with_len 0 index)

turned : (a b c : Bool) → (a ≡ true) → (b && c) ≡ ((a && b) && c)
turned true b c is = refl
turned false b c is = cc

-- one index more
pub carried-more : (rows : List (Bor (List ℕ))) (fragment : Fragment) (size quorum number index read carried : ℕ)
    (copies : List ℕ) (d : Bor (List ℕ)) (member : ℕ) → index < length rows
    → member ≡ slice_index fragment.ensemble index → member < length copies
    → read ≡ slice_index (get_or rows index d).now number
    → ((i : ℕ) → i < 64 → has_bit carried i ≡ is_striped (64 * number + i) index size quorum)
    → AreCarried rows fragment size quorum number index copies
    → AreCarried rows fragment size quorum number (index + 1)
    (slice_set copies member (bit_or (slice_index copies member) (bit_and read carried)))
carried-more rows fragment size quorum number index read carried copies d member inside stands within is_read is_carried was =
    λ bookie i in_word.
    let e : ℕ = 64 * number + i in
    let test : ℕ → Bool = is_carried_copy rows fragment size quorum e bookie in
    let word : ℕ = bit_or (slice_index copies member) (bit_and read carried) in
    elim (bookie == member) as (λ b. (bookie == member) ≡ b
    → has_bit (slice_index (slice_set copies member word) bookie) i ≡ list_any test (range_with_len 0 (index + 1))) [
      | true ↦ λ yes.
          let same : bookie ≡ member = grind (arith, nat_tests, yes) in
          let there : (slice_index fragment.ensemble index == bookie) ≡ true = grind (arith, nat_tests, same, stands) in
          let before : has_bit (slice_index copies member) i ≡ list_any test (range_with_len 0 index) =
          ap (λ b. has_bit (slice_index copies b) i) (sym same) ∙ was bookie i in_word in
          let here : (has_bit read i && has_bit carried i) ≡ test index =
          (λ j. has_bit-row rows number index read d inside is_read i in_word j && is_carried i in_word j)
          ∙ turned (slice_index fragment.ensemble index == bookie) (is_set_at rows e index) (is_striped e index size quorum)
          there in
          ap (λ b. has_bit (slice_index (slice_set copies member word) b) i) same
          ∙ ap (λ w. has_bit w i) (get_or-set_same copies member word 0 within)
          ∙ has_bit-or (slice_index copies member) (bit_and read carried) i
          ∙ (λ j. before j || (has_bit-and read carried i ∙ here) j)
          ∙ sym (any-range-more test index)
      | false ↦ λ no.
          let other : bookie ≢ member = grind (arith, nat_tests, no) in
          let apart : (slice_index fragment.ensemble index == bookie) ≡ false =
          grind (arith, nat_tests, other, stands) in
          let none : test index ≡ false =
          ap (λ b. (b && is_set_at rows e index) && is_striped e index size quorum) apart in
          ap (λ w. has_bit w i) (get_or-set_other copies member bookie word 0 other)
          ∙ was bookie i in_word ∙ sym (or-false (list_any test (range_with_len 0 index)))
          ∙ ap (λ b. list_any test (range_with_len 0 index) || b) (sym none)
          ∙ sym (any-range-more test index)
    ] refl

-- all indexes
pub carried-all : (rows : List (Bor (List ℕ))) (fragment : Fragment) (size quorum number : ℕ) (copies : List ℕ)
    → 1 ≤ size → AreCarried rows fragment size quorum number size copies → (bookie i : ℕ) → i < 64
    → has_bit (slice_index copies bookie) i
    ≡ list_any (is_copy_at rows fragment (64 * number + i) bookie) (write_set (64 * number + i) size quorum)
carried-all rows fragment size quorum number copies some was bookie i inside =
    was bookie i inside
    ∙ any-carried (is_copy_at rows fragment (64 * number + i) bookie) (64 * number + i) size quorum some

-- Members

pub all_there : (P : Fragment → Type 0) (fragments : List Fragment) (f : ℕ) (fragment : Fragment) → All P fragments
    → slice_get fragments f ≡ Some fragment → P fragment
all_there P [] f fragment all is = cc
all_there P (g ∷ fragments) zero fragment all is =
    let same : g ≡ fragment = of_some g fragment is in subst P same (All-head P g fragments all) where
      of_some : (a b : Fragment) → Some a ≡ Some b → a ≡ b
      of_some a b same = cc
all_there P (g ∷ fragments) (suc f) fragment all is = all_there P fragments f fragment (All-tail P g fragments all) is

-- those of a fragment are bookies that there can be
pub members-few : (s : Cluster) (l f : ℕ) (g : Ledger) (fragment : Fragment) → IsWellFormed s → ledger_at s l ≡ Some g
    → slice_get g.metadata.fragments f ≡ Some fragment → All (λ b. b < MAX_BOOKIES) fragment.ensemble
members-few s l f g fragment well_formed there is = λ k d inside.
    let bookies = well_formed.names.few in
    let each = all_there (λ fragment. All (λ b. b < length s.names) fragment.ensemble) g.metadata.fragments f fragment
    (IsLedger-found s l g well_formed there).members is in
    omega (arith, each k d inside, bookies)

-- Sources of words

pub zip-nil : (ys : List ℕ) (zs : List (Option ℕ)) → zs ≡ [] → zip ys zs ≡ []
zip-nil [] [] is = refl
zip-nil (y ∷ ys) [] is = refl
zip-nil ys (z ∷ zs) is = cc

pub zip-append : (xs ys : List ℕ) (zs : List (Option ℕ)) → zip (xs ++ ys) zs ≡ zip xs zs ++ zip ys (drop (length xs) zs)
zip-append [] ys zs = refl
zip-append (x ∷ xs) ys [] = sym (zip-nil ys [] refl)
zip-append (x ∷ xs) ys (z ∷ zs) = ap (λ ps. (x, z) ∷ ps) (zip-append xs ys zs)

-- the first reason of two lists, one after the other, comes from the first where it gives one
pub first_reason-append : (checks later : List (Option Refusal))
    → first_reason (checks ++ later) ≡ option_or (first_reason checks) (first_reason later)
first_reason-append [] later = refl
first_reason-append (None ∷ checks) later = first_reason-append checks later
first_reason-append (Some reason ∷ checks) later = refl

-- tests of sources that tell the same of each of the entries
map-zip : (P : ℕ → Type 0) (f g : ℕ × Option ℕ → Option Refusal)
    → ((e : ℕ) (source : Option ℕ) → P e → f (e, source) ≡ g (e, source)) → (es : List ℕ) (sources : List (Option ℕ))
    → All P es → map f (zip es sources) ≡ map g (zip es sources)
map-zip P f g same [] sources each = refl
map-zip P f g same (e ∷ es) [] each = refl
map-zip P f g same (e ∷ es) (source ∷ sources) each =
    (λ j. same e source (All-head P e es each) j ∷ map-zip P f g same es sources (All-tail P e es each) j)

-- the first source that is lost is one of the first word's, by a test that tells the same of its entries, or one of those
-- after them
pub lost-word : (P : ℕ → Type 0) (lost here : ℕ × Option ℕ → Option Refusal)
    → ((e : ℕ) (source : Option ℕ) → P e → lost (e, source) ≡ here (e, source))
    → (es rest : List ℕ) (sources : List (Option ℕ)) → All P es
    → first_reason (map lost (zip (es ++ rest) sources))
    ≡ option_or (first_reason (map here (zip es sources)))
    (first_reason (map lost (zip rest (drop (length es) sources))))
lost-word P lost here same es rest sources each =
    ap (λ ps. first_reason (map lost ps)) (zip-append es rest sources)
    ∙ ap (λ (checks : List (Option Refusal)). first_reason checks)
    (map-append lost (zip es sources) (zip rest (drop (length es) sources)))
    ∙ first_reason-append (map lost (zip es sources)) (map lost (zip rest (drop (length es) sources)))
    ∙ ap (λ (checks : List (Option Refusal)).
    option_or (first_reason checks) (first_reason (map lost (zip rest (drop (length es) sources)))))
    (map-zip P lost here same es sources each)

-- an entry's source is lost if the bookie's word lacks the entry's bit
pub lost_copy-bit : (rows : List (Bor (List ℕ))) (m : Metadata) (fragment : Fragment) (number : ℕ) (copies : List ℕ)
    → ((bookie i : ℕ) → i < 64 → has_bit (slice_index copies bookie) i
    ≡ list_any (is_copy_at rows fragment (64 * number + i) bookie) (write_set (64 * number + i) m.size m.write_quorum))
    → (entry : ℕ) (source : Option ℕ) → entry / 64 ≡ number
    → lost_copy rows m fragment (entry, source) ≡ lost_bit copies (entry, source)
lost_copy-bit rows m fragment number copies are entry None at = refl
lost_copy-bit rows m fragment number copies are entry (Some bookie) at =
    let whole : entry ≡ 64 * number + entry % 64 = omega (arith, at) in
    ap (λ found. reason_if (not found) (SourceGone entry))
    (ap (λ e. list_any (is_copy_at rows fragment e bookie) (write_set e m.size m.write_quorum)) whole
    ∙ sym (are bookie (entry % 64) (omega arith)))

-- no bit is set in words that are 0
pub zeros-none : (n bookie i : ℕ) → has_bit (slice_index (replicate n 0) bookie) i ≡ false
zeros-none n bookie i =
    let zeros : List ℕ = replicate n 0 in
    let long : length zeros ≡ n = length-replicate n 0 in
    let none : slice_index zeros bookie ≡ 0 = elim (cases_lt bookie n) [
      | inl inside ↦ get_or-replicate n bookie 0 0 inside
      | inr past ↦ get_or_past zeros bookie 0 (omega (arith, past, long))
    ] in
    ap (λ w. has_bit w i) none ∙ has_bit-none i
