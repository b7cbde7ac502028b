-- The ranges of a word's entries, added one entry after another.
use Rattle.std.proofs.Common.{◌≡◌, ℕ, suc, ◌+◌, ◌*◌, ◌-◌, ◌<◌, Bool, true, false, cond, ◌&&◌, List, ◌∷◌, ◌++◌, refl, ap, sym, subst, ◌∙◌, arith, map}
use Rattle.std.specs.Prelude.{◌/◌, ◌%◌, ◌==◌, Option, None, Some}
use Rattle.std.specs.Int.{bit_at}
use Rattle.std.proofs.lemmas.Bool.Decides.{nat_tests}
use Rattle.std.proofs.lemmas.List.{map-append}
use Rattle.std.proofs.lemmas.Grind.{flat_map-append}
use Rattle.json.specs.Token.{Token}
use Rattle.json.specs.Tree.{json_tokens}
use Rattle.json.specs.Written.{Written}
use Rattle.reh_model.specs.Contents.{is_in_word}
use Rattle.reh_changes.specs.Ranges.{ranges_on}
use Rattle.reh_changes.specs.Passing.{ended, open_after}
use Rattle.reh_answer.specs.Objects.{Adds}
use Rattle.reh_run_json.specs.Values.{range_json, tokens_of}
use Rattle.reh_run_json.proofs.TokenLaws.{Leaves, leaves-all, leaves-more}

-- one entry more
ranges_on-more : (test : ℕ → Bool) (since : Option ℕ) (e n : ℕ)
    → ranges_on test since e (suc n) ≡ ended since e (test e) ++ ranges_on test (open_after since e (test e)) (e + 1) n
unfolding ranges_on
ranges_on-more test None e n =
    elim (test e) as (λ t. cond t (ranges_on test (Some e) (e + 1) n) (ranges_on test None (e + 1) n) ≡ ended None e t ++ ranges_on test (open_after None e t) (e + 1) n) [ true ↦ refl | false ↦ refl ]
ranges_on-more test (Some first) e n =
    elim (test e) as (λ t. cond t (ranges_on test (Some first) (e + 1) n) ((first, e - 1) ∷ ranges_on test None (e + 1) n) ≡ ended (Some first) e t ++ ranges_on test (open_after (Some first) e t) (e + 1) n) [ true ↦ refl | false ↦ refl ]

-- the tokens of the ranges of so many entries from e on
pub ranges_from : (ℕ → Bool) → Option ℕ → ℕ → ℕ → List Token
ranges_from test since e n = tokens_of (map range_json (ranges_on test since e n))

pub ranges_from-is : (test : ℕ → Bool) (since : Option ℕ) (e n : ℕ) → ranges_from test since e n ≡ tokens_of (map range_json (ranges_on test since e n))
unfolding ranges_from
ranges_from-is test since e n = refl

ranges_from-more : (test : ℕ → Bool) (since : Option ℕ) (e n : ℕ)
    → ranges_from test since e (suc n) ≡ tokens_of (map range_json (ended since e (test e))) ++ ranges_from test (open_after since e (test e)) (e + 1) n
unfolding ranges_from
ranges_from-more test since e n =
    let now = ended since e (test e) in
    let later = ranges_on test (open_after since e (test e)) (e + 1) n in
    ap (λ ranges. tokens_of (map range_json ranges)) (ranges_on-more test since e n)
    ∙ ap tokens_of (map-append range_json now later)
    ∙ flat_map-append json_tokens (map range_json now) (map range_json later)

-- and at the end the open one
pub ranges_from-end : (test : ℕ → Bool) (since : Option ℕ) (e : ℕ)
    → ranges_from test since e 0 ≡ tokens_of (map range_json (ended since e false))
unfolding ranges_from ranges_on
ranges_from-end test None e = refl
ranges_from-end test (Some first) e = refl

-- the i-th entry of a word is in it if the i-th bit is set
is_in_word-at : (number bits i : ℕ) → i < 64 → is_in_word number bits (64 * number + i) ≡ (bit_at bits i == 1)
is_in_word-at number bits i within =
    let word : (64 * number + i) / 64 ≡ number = omega arith in
    let place : (64 * number + i) % 64 ≡ i = omega arith in
    let here : ((64 * number + i) / 64 == number) ≡ true = grind (arith, nat_tests) in
    (λ k. here k && (bit_at bits (place k) == 1))

-- the i-th entry is passed
pub entry-more : (number bits : ℕ) (since : Option ℕ) (i : ℕ) → i < 64
    → ranges_from (is_in_word number bits) since (64 * number + i) (64 - i)
    ≡ tokens_of (map range_json (ended since (64 * number + i) (bit_at bits i == 1)))
    ++ ranges_from (is_in_word number bits) (open_after since (64 * number + i) (bit_at bits i == 1)) (64 * number + (i + 1)) (64 - (i + 1))
entry-more number bits since i within =
    let e = 64 * number + i in
    let test = is_in_word number bits in
    let bit : is_in_word number bits e ≡ (bit_at bits i == 1) = is_in_word-at number bits i within in
    let next : e + 1 ≡ 64 * number + (i + 1) = omega arith in
    let left : 64 - i ≡ suc (64 - (i + 1)) = omega arith in
    ap (λ n. ranges_from test since e n) left
    ∙ ranges_from-more test since e (64 - (i + 1))
    ∙ (λ k. tokens_of (map range_json (ended since e (bit k))) ++ ranges_from test (open_after since e (bit k)) (next k) (64 - (i + 1)))

-- and its range is added, if one ends there
pub passed : (number bits : ℕ) (since : Option ℕ) (i : ℕ) (all : List Token) (first mid next : Written) (is_there : Bool) (then_since : Option ℕ)
    → i < 64 → is_there ≡ (bit_at bits i == 1) → then_since ≡ open_after since (64 * number + i) is_there
    → Leaves (ranges_from (is_in_word number bits) since (64 * number + i) (64 - i)) all first mid
    → Adds (tokens_of (map range_json (ended since (64 * number + i) is_there))) mid next
    → Leaves (ranges_from (is_in_word number bits) then_since (64 * number + (i + 1)) (64 - (i + 1))) all first next
passed number bits since i all first mid next is_there then_since within bit opens leaves adds =
    let e = 64 * number + i in
    let test = is_in_word number bits in
    leaves-more (tokens_of (map range_json (ended since e is_there)))
    (ranges_from test then_since (64 * number + (i + 1)) (64 - (i + 1)))
    (ranges_from test since e (64 - i)) all first mid next
    (entry-more number bits since i within
    ∙ (λ k. tokens_of (map range_json (ended since e (sym bit k))) ++ ranges_from test (open_after since e (sym bit k)) (64 * number + (i + 1)) (64 - (i + 1)))
    ∙ ap (λ o. tokens_of (map range_json (ended since e is_there)) ++ ranges_from test o (64 * number + (i + 1)) (64 - (i + 1))) (sym opens))
    leaves adds

-- the range that is still open after the last entry is added
pub all_passed : (number bits : ℕ) (since : Option ℕ) (i : ℕ) (first mid end : Written) → 64 ≡ i
    → Leaves (ranges_from (is_in_word number bits) since (64 * number + i) (64 - i)) (ranges_from (is_in_word number bits) None (64 * number) 64) first mid
    → Adds (tokens_of (map range_json (ended since (64 * number + 64) false))) mid end
    → Adds (tokens_of (map range_json (ranges_on (is_in_word number bits) None (64 * number) 64))) first end
all_passed number bits since i first mid end done leaves adds =
    let test = is_in_word number bits in
    subst (λ ts. Adds ts first end) (ranges_from-is test None (64 * number) 64)
    (leaves-all (ranges_from test since (64 * number + 64) 0) (ranges_from test None (64 * number) 64) first mid end
    (subst (λ n. Leaves (ranges_from test since (64 * number + n) (64 - n)) (ranges_from test None (64 * number) 64) first mid) (sym done) leaves)
    (subst (λ ts. Adds ts mid end) (sym (ranges_from-end test since (64 * number + 64))) adds))
