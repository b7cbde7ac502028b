-- Blocks that follow one another, in which the rows have the same.
use Rattle.std.proofs.Common.{◌≡◌, ◌∙◌, ℕ, ◌+◌, ◌-◌, ◌*◌, ◌/◌, ◌%◌, ◌<◌, ◌≤◌, ◌&&◌, ◌⊎◌, ◌++◌, [], ◌∷◌, List, Bool, true, false, cond, not}
use Rattle.std.proofs.Common.{zero, suc, refl, ap, sym, arith, inl, inr, All, Bor, Option, None, Some, map, min, take, drop, length}
use Rattle.std.proofs.Common.{get_or, slice_index}
use Rattle.std.specs.Prelude.{◌==◌}
use Rattle.std.specs.List.{filter, find, list_any, range_with_len, zip}
use Rattle.std.specs.Option.{option_map, option_or}
use Rattle.std.proofs.Math.Nat.{add-mul-mod_self_right, mul_assoc}
use Rattle.std.proofs.lemmas.Bool.{cases_lt}
use Rattle.std.proofs.lemmas.List.{length-map, length-take, map-append, take_all, take_min, drop_all, drop_min}
use Rattle.std.proofs.lemmas.List.Elements.{All-head, All-tail, filter-append}
use Rattle.reh_types.specs.declared.limits.TheConstants.{MAX_ENSEMBLE_SIZE}
use Rattle.reh_types.specs.declared.refusals.Refusal.{Refusal}
use Rattle.reh_types.specs.declared.refusals.Refusal.TheVariants.{SourceGone}
use Rattle.reh_held.specs.Rows.{is_set}
use Rattle.reh_model.specs.Checks.{first_reason, reason_if}
use Rattle.reh_model.specs.Metadata.{Fragment, Metadata, IsMetadata}
use Rattle.reh_model.specs.Striping.{range, index_at, is_striped, striped_entries, write_set}
use Rattle.reh_model.proofs.StripingLaws.{map-index_at-rest}
use Rattle.reh_model.proofs.WriteSetLaws.{write_set-below}
use Rattle.reh_stripe.proofs.WordLaws.{range-append}
use Rattle.reh_scan.specs.declared.jobs.Reading.{Reading}
use Rattle.reh_scan.specs.Blocks.{IsRepeated, words_of_block}
use Rattle.reh_scan.specs.Jobs.{IsReading, has_copy, source_in}
use Rattle.reh_scan.specs.Posts.{is_copy_at, lost_copy}
use Rattle.reh_scan.specs.Sources.{is_set_at}
use Rattle.reh_scan.proofs.CopyLaws.{zip-append, first_reason-append}
use Rattle.reh_scan.proofs.JobLaws.{find-below, map-where, striped_entries-within}
use Rattle.reh_scan.proofs.ReadingLaws.{any_same_below, write_set_within}

-- Entries

-- the write sets of entries that are a block apart are the same
pub write_set-moved : (e size quorum : ℕ)
    → write_set (e + 64 * words_of_block size) size quorum ≡ write_set e size quorum
write_set-moved e size quorum =
    let d : ℕ = 64 * words_of_block size in
    let rounds : (e + d) % size ≡ e % size =
    ap (λ n. (e + n) % size) (sym (mul_assoc 64 (MAX_ENSEMBLE_SIZE / size) size))
    ∙ add-mul-mod_self_right e (64 * (MAX_ENSEMBLE_SIZE / size)) size in
    sym (map-index_at-rest (e + d) size (range 0 quorum))
    ∙ ap (λ (n : ℕ). map (index_at n size) (range 0 quorum)) rounds
    ∙ map-index_at-rest e size (range 0 quorum)

-- what passes a test in a range that lies further on is what passes it here, moved, where the test tells the same there
filter-moved : (d : ℕ) (p : ℕ → Bool) → ((e : ℕ) → p (e + d) ≡ p e) → (n a : ℕ)
    → filter p (range_with_len (a + d) n) ≡ map (λ e. e + d) (filter p (range_with_len a n))
filter-moved d p same zero a = refl
filter-moved d p same (suc n) a =
    let next : (a + d) + 1 ≡ (a + 1) + d = omega arith in
    let rest : filter p (range_with_len ((a + d) + 1) n) ≡ map (λ e. e + d) (filter p (range_with_len (a + 1) n)) =
    ap (λ k. filter p (range_with_len k n)) next ∙ filter-moved d p same n (a + 1) in
    (λ j. cond (same a j) ((a + d) ∷ rest j) (rest j)) ∙ moved (p a) (filter p (range_with_len (a + 1) n)) where
      moved : (b : Bool) (es : List ℕ)
          → cond b ((a + d) ∷ map (λ e. e + d) es) (map (λ e. e + d) es) ≡ map (λ e. e + d) (cond b (a ∷ es) es)
      moved true es = refl
      moved false es = refl

-- the striped entries of the second block are those of the first one, moved
stripe-moved : (first middle stop index size quorum : ℕ) → middle ≡ first + 64 * words_of_block size
    → stop ≡ middle + 64 * words_of_block size
    → striped_entries middle stop index size quorum
    ≡ map (λ e. e + 64 * words_of_block size) (striped_entries first middle index size quorum)
stripe-moved first middle stop index size quorum before here =
    let long : stop - middle ≡ middle - first = omega (arith, before, here) in
    (λ j. filter (λ e. is_striped e index size quorum) (range_with_len (before j) (long j)))
    ∙ filter-moved (64 * words_of_block size) (λ e. is_striped e index size quorum)
    (λ e. ap (λ (is : List ℕ). list_any (λ i. i == index) is) (write_set-moved e size quorum)) (middle - first) first

-- so there are as many
pub stripe-moved-length : (first middle stop index size quorum : ℕ) → middle ≡ first + 64 * words_of_block size
    → stop ≡ middle + 64 * words_of_block size
    → length (striped_entries first middle index size quorum) ≡ length (striped_entries middle stop index size quorum)
stripe-moved-length first middle stop index size quorum before here =
    omega (
      arith,
      ap (λ (es : List ℕ). length es) (stripe-moved first middle stop index size quorum before here),
      length-map (striped_entries first middle index size quorum) (λ (e : ℕ). e + 64 * words_of_block size),
    )

-- those of two ranges, one after the other, are those of both
pub stripe-append : (a b c index size quorum : ℕ) → a ≤ b → b ≤ c
    → striped_entries a b index size quorum ++ striped_entries b c index size quorum
    ≡ striped_entries a c index size quorum
stripe-append a b c index size quorum from to =
    let p : ℕ → Bool = λ e. is_striped e index size quorum in
    let whole : (b - a) + (c - b) ≡ c - a = omega (arith, from, to) in
    let middle : a + (b - a) ≡ b = omega (arith, from) in
    ap (λ k. filter p (range a b) ++ filter p (range_with_len k (c - b))) (sym middle)
    ∙ sym (filter-append p (range a b) (range_with_len (a + (b - a)) (c - b)))
    ∙ ap (λ (es : List ℕ). filter p es) (sym (range-append a (b - a) (c - b)))
    ∙ ap (λ n. filter p (range_with_len a n)) whole

pub stripe-none : (a index size quorum : ℕ) → striped_entries a a index size quorum ≡ []
stripe-none a index size quorum =
    let none : a - a ≡ 0 = omega arith in
    ap (λ n. filter (λ e. is_striped e index size quorum) (range_with_len a n)) none

-- Sources

-- an entry that is a block further on has the source of this one
source_in-moved : (r : Reading) (e : ℕ) → IsReading r
    → ((index : ℕ) → index < r.size
    → has_copy r.first r.rows.items (e + 64 * words_of_block r.size) index ≡ has_copy r.first r.rows.items e index)
    → source_in r (e + 64 * words_of_block r.size) ≡ source_in r e
source_in-moved r e is same =
    let there : ℕ → Bool = has_copy r.first r.rows.items (e + 64 * words_of_block r.size) in
    ap (λ (is : List ℕ). option_map (λ i. slice_index r.ensemble i) (find there is))
    (write_set-moved e r.size r.write_quorum)
    ∙ ap (λ found. option_map (λ i. slice_index r.ensemble i) found)
    (find-below there (has_copy r.first r.rows.items e) r.size same (write_set e r.size r.write_quorum)
    (write_set-below e r.size r.write_quorum (omega (arith, is.some, is.within))))

map-twice : {X : Type 0} (f : ℕ → X) (g : ℕ → ℕ) (es : List ℕ) → map f (map g es) ≡ map (λ e. f (g e)) es
map-twice f g [] = refl
map-twice f g (e ∷ es) = ap (λ xs. f (g e) ∷ xs) (map-twice f g es)

-- so the sources of the second block are those of the first one
pub sources-repeat : (r : Reading) (rows : List (Bor (List ℕ))) (index first middle stop : ℕ) → IsReading r
    → ((i e : ℕ) → i < r.size → is_set_at rows e i ≡ is_set (get_or r.rows.items i []) e)
    → IsRepeated rows r.size (r.first / 64) first middle stop
    → map (source_in r) (striped_entries middle stop index r.size r.write_quorum)
    ≡ map (source_in r) (striped_entries first middle index r.size r.write_quorum)
sources-repeat r rows index first middle stop is are repeated =
    let d : ℕ = 64 * words_of_block r.size in
    let here : List ℕ = striped_entries first middle index r.size r.write_quorum in
    ap (λ (es : List ℕ). map (source_in r) es)
    (stripe-moved first middle stop index r.size r.write_quorum repeated.before repeated.here)
    ∙ map-twice (source_in r) (λ e. e + d) here
    ∙ map-where (λ e. (first ≤ e) × (e < middle)) (λ e. source_in r (e + d)) (source_in r)
    (λ e inside. source_in-moved r e is (λ i below.
    sym (are i ((e + d) - 64 * (r.first / 64)) below)
    ∙ repeated.same i e below inside.0 inside.1 ∙ are i (e - 64 * (r.first / 64)) below))
    here (striped_entries-within first middle index r.size r.write_quorum)

-- Posts

-- a source that isn't lost isn't lost a block further on
lost_copy-moved : (rows : List (Bor (List ℕ))) (m : Metadata) (fragment : Fragment) (e : ℕ) (source : Option ℕ)
    → IsMetadata m
    → ((index : ℕ) → index < m.size → is_set_at rows (e + 64 * words_of_block m.size) index ≡ is_set_at rows e index)
    → lost_copy rows m fragment (e, source) ≡ None
    → lost_copy rows m fragment (e + 64 * words_of_block m.size, source) ≡ None
lost_copy-moved rows m fragment e None rules_of same is = cc
lost_copy-moved rows m fragment e (Some bookie) rules_of same is =
    let there : ℕ = e + 64 * words_of_block m.size in
    let found : list_any (is_copy_at rows fragment there bookie) (write_set there m.size m.write_quorum)
    ≡ list_any (is_copy_at rows fragment e bookie) (write_set e m.size m.write_quorum) =
    ap (λ (is : List ℕ). list_any (is_copy_at rows fragment there bookie) is) (write_set-moved e m.size m.write_quorum)
    ∙ any_same_below (is_copy_at rows fragment there bookie) (is_copy_at rows fragment e bookie) m.size
    (λ i below. ap (λ b. (slice_index fragment.ensemble i == bookie) && b) (same i below))
    (write_set e m.size m.write_quorum) (write_set_within m e rules_of) in
    ap (λ b. reason_if (not b) (SourceGone there)) found
    ∙ not_lost (list_any (is_copy_at rows fragment e bookie) (write_set e m.size m.write_quorum)) is where
      not_lost : (b : Bool) → reason_if (not b) (SourceGone e) ≡ None
          → reason_if (not b) (SourceGone (e + 64 * words_of_block m.size)) ≡ None
      not_lost true is = refl
      not_lost false is = cc

-- where none of the sources of entries is lost, none is if the entries are moved
none_lost-moved : (d : ℕ) (lost : ℕ × Option ℕ → Option Refusal) (P : ℕ → Type 0)
    → ((e : ℕ) (source : Option ℕ) → P e → lost (e, source) ≡ None → lost (e + d, source) ≡ None)
    → (es : List ℕ) (sources : List (Option ℕ)) → All P es → first_reason (map lost (zip es sources)) ≡ None
    → first_reason (map lost (zip (map (λ e. e + d) es) sources)) ≡ None
none_lost-moved d lost P moved [] sources each none = refl
none_lost-moved d lost P moved (e ∷ es) [] each none = refl
none_lost-moved d lost P moved (e ∷ es) (source ∷ sources) each none =
    let both = both_none (lost (e, source)) (first_reason (map lost (zip es sources))) none in
    ap (λ reason. option_or reason (first_reason (map lost (zip (map (λ e. e + d) es) sources))))
    (moved e source (All-head P e es each) both.0)
    ∙ none_lost-moved d lost P moved es sources (All-tail P e es each) both.1 where
      both_none : (a b : Option Refusal) → option_or a b ≡ None → (a ≡ None) × (b ≡ None)
      both_none None b is = (refl, is)
      both_none (Some reason) b is = cc

-- where the second block has the sources of the first one, and none of those is lost, none is lost
pub none_lost-repeat : (rows : List (Bor (List ℕ))) (m : Metadata) (fragment : Fragment) (index first middle stop : ℕ)
    (sources : List (Option ℕ)) → IsMetadata m → IsRepeated rows m.size 0 first middle stop
    → first_reason
    (map (lost_copy rows m fragment) (zip (striped_entries first middle index m.size m.write_quorum) sources))
    ≡ None
    → first_reason
    (map (lost_copy rows m fragment) (zip (striped_entries middle stop index m.size m.write_quorum) sources))
    ≡ None
none_lost-repeat rows m fragment index first middle stop sources rules_of repeated none =
    let d : ℕ = 64 * words_of_block m.size in
    let whole : (n : ℕ) → n - 64 * 0 ≡ n = λ n. omega arith in
    ap (λ (es : List ℕ). first_reason (map (lost_copy rows m fragment) (zip es sources)))
    (stripe-moved first middle stop index m.size m.write_quorum repeated.before repeated.here)
    ∙ none_lost-moved d (lost_copy rows m fragment) (λ e. (first ≤ e) × (e < middle))
    (λ e source inside.
    lost_copy-moved rows m fragment e source rules_of (λ i below.
    (λ j. is_set_at rows (sym (whole (e + d)) j) i)
    ∙ repeated.same i e below inside.0 inside.1 ∙ (λ j. is_set_at rows (whole e j) i)))
    (striped_entries first middle index m.size m.write_quorum) sources
    (striped_entries-within first middle index m.size m.write_quorum) none

-- the first source that is lost is one of those of the first entries, or one of the others'
pub lost-append : (lost : ℕ × Option ℕ → Option Refusal) (es rest : List ℕ) (sources : List (Option ℕ))
    → first_reason (map lost (zip (es ++ rest) sources))
    ≡ option_or (first_reason (map lost (zip es sources)))
    (first_reason (map lost (zip rest (drop (length es) sources))))
lost-append lost es rest sources =
    ap (λ ps. first_reason (map lost ps)) (zip-append es rest sources)
    ∙ ap (λ (checks : List (Option Refusal)). first_reason checks)
    (map-append lost (zip es sources) (zip rest (drop (length es) sources)))
    ∙ first_reason-append (map lost (zip es sources)) (map lost (zip rest (drop (length es) sources)))

-- Sources that are cut in two

-- the first n, or all where there are fewer, are cut off
pub record IsCut (count n : ℕ) (sources : List (Option ℕ)) : Type 0 where
  pub first : take count sources ≡ take n sources
  pub behind : drop count sources ≡ drop n sources

pub cut-equal : (count n : ℕ) (sources : List (Option ℕ)) → count ≡ n → IsCut count n sources
cut-equal count n sources is = record { first = λ j. take (is j) sources; behind = λ j. drop (is j) sources }

pub cut-min : (count n : ℕ) (sources : List (Option ℕ)) → count ≡ min n (length sources) → IsCut count n sources
cut-min count n sources is = record {
  first = ap (λ k. take k sources) is ∙ take_min n sources;
  behind = ap (λ k. drop k sources) is ∙ drop_min n sources;
}

pub cut-none : (count n : ℕ) (sources : List (Option ℕ)) → sources ≡ [] → IsCut count n sources
cut-none count n sources none = record {
  first = (λ j. take count (none j)) ∙ take_all count [] (omega arith) ∙ sym (take_all n [] (omega arith)) ∙ (λ j. take n (sym none j));
  behind = (λ j. drop count (none j)) ∙ drop_all count [] (omega arith) ∙ sym (drop_all n [] (omega arith)) ∙ (λ j. drop n (sym none j));
}

pub cut-whole : (n : ℕ) (sources : List (Option ℕ)) → (length (take n sources) ≡ n) ⊎ (drop n sources ≡ [])
cut-whole n sources =
    elim (cases_lt (length sources) n) [
      | inl fewer ↦ inr (drop_all n sources (omega (arith, fewer)))
      | inr enough ↦ inl (omega (arith, enough, length-take n sources))
    ]

-- as many sources as there are entries are looked at
pub zip-take : (es : List ℕ) (sources : List (Option ℕ)) → zip es (take (length es) sources) ≡ zip es sources
zip-take [] sources = refl
zip-take (e ∷ es) [] = refl
zip-take (e ∷ es) (source ∷ sources) = ap (λ ps. (e, source) ∷ ps) (zip-take es sources)
