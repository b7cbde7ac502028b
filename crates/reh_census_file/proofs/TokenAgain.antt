-- What is written as words is read again.
use Rattle.std.proofs.Common.{◌≡◌, ℕ, zero, suc, ◌+◌, ◌^◌, ◌<◌, ◌≤◌, Bool, true, false, cond, not, List, [], ◌∷◌, ◌++◌, length, Some, None, Ok, get_or, position, refl, ap, ◌∙◌, arith}
use Rattle.std.specs.Prelude.{nat_lt}
use Rattle.std.specs.Fmt.{decimal}
use Rattle.std.specs.List.{AllByRecursion, IsDistinct, position_or_len}
use Rattle.std.specs.Str.{bytes_eq}
use Rattle.std.proofs.lemmas.Bool.Decides.{nat_tests}
use Rattle.std.proofs.lemmas.Option.{unwrap_or-slice_get}
use Rattle.std.proofs.lemmas.Slice.Eq.{bytes_eq-Decides}
use Rattle.reh_census_file.specs.declared.faults.Expected.{Expected}
use Rattle.reh_census_file.specs.declared.faults.Keyword.{Keyword}
use Rattle.reh_census_file.specs.Canonical.{is_name}
use Rattle.reh_census_file.specs.Faults.{word_text}
use Rattle.reh_census_file.specs.Reading.{◌>>=◌, number_or, count_or, bookie_or, word_at, flag_at, choice_at, number_at, count_at, number_behind, name_at, bookie_at, bookies_at, bookies_behind}
use Rattle.reh_census_file.specs.Texts.{name_of, names_of, word_if}
use Rattle.reh_census_file.proofs.NumberLaws.{number_of-decimal}
use Rattle.reh_census_file.proofs.OrderLaws.{names_sym}

pub same_word : (word : List ℕ) → bytes_eq word word ≡ true
same_word word = (bytes_eq-Decides word word).1 refl

pub word_again : (wanted : Keyword) (rest : List (List ℕ)) → word_at wanted (word_text wanted ∷ rest) ≡ Ok rest
unfolding word_at
word_again wanted rest = rw (same_word (word_text wanted)) refl

pub number_again : (n : ℕ) (rest : List (List ℕ)) → n ≤ 2 ^ 63 → number_at (decimal n ∷ rest) ≡ Ok (n, rest)
unfolding number_at
number_again n rest small = ap (λ o. number_or o rest) (number_of-decimal n small)

pub count_again : (n : ℕ) (rest : List (List ℕ)) → 1 ≤ n → n ≤ 2 ^ 63 → count_at (decimal n ∷ rest) ≡ Ok (n, rest)
unfolding count_at
count_again zero rest some small = absurd (omega arith)
count_again (suc n) rest some small = ap (λ o. count_or o rest) (number_of-decimal (suc n) small)

pub number_behind_again : (wanted : Keyword) (n : ℕ) (rest : List (List ℕ)) → n ≤ 2 ^ 63 → number_behind wanted (word_text wanted ∷ decimal n ∷ rest) ≡ Ok (n, rest)
unfolding number_behind
number_behind_again wanted n rest small = ap (λ r. r >>= number_at) (word_again wanted (decimal n ∷ rest)) ∙ number_again n rest small

pub name_again : (name : List ℕ) (rest : List (List ℕ)) → is_name name ≡ true → name_at (name ∷ rest) ≡ Ok (name, rest)
unfolding name_at
name_again name rest named = rw named refl

pub choice_again : (one other : List ℕ) (what : Expected) (first : Bool) (rest : List (List ℕ)) → bytes_eq other one ≡ false → choice_at one other what (cond first one other ∷ rest) ≡ Ok (first, rest)
unfolding choice_at
choice_again one other what true rest apart = rw (same_word one) refl
choice_again one other what false rest apart = rw (apart, same_word other) refl

-- whether a list of words begins with another word than this
abbrev pub begins_apart : List ℕ → List (List ℕ) → Type 0
begins_apart word [] = Unit {0}
begins_apart word (first ∷ words) = bytes_eq first word ≡ false

pub flag_again : (wanted : Keyword) (flag : Bool) (rest : List (List ℕ)) → begins_apart (word_text wanted) rest → flag_at wanted (word_if flag (word_text wanted) ++ rest) ≡ (flag, rest)
unfolding flag_at
flag_again wanted true rest apart = rw (same_word (word_text wanted)) refl
flag_again wanted false [] apart = refl
flag_again wanted false (word ∷ words) apart = rw apart refl

-- the name of a number is found at that number

pub all_get : (P : List ℕ → Type 0) (names : List (List ℕ)) (b : ℕ) → AllByRecursion P names → b < length names → P (get_or names b [])
all_get P [] b all within = absurd (omega arith)
all_get P (name ∷ names) zero all within = all.0
all_get P (name ∷ names) (suc b) all within = all_get P names b all.1 (omega arith)

place_again : (names : List (List ℕ)) (b : ℕ) → IsDistinct bytes_eq names → b < length names → position_or_len (bytes_eq (get_or names b [])) names ≡ b
unfolding IsDistinct
place_again [] b distinct within = absurd (omega arith)
place_again (name ∷ names) zero distinct within = ap (λ t. cond (not t) (1 + position_or_len (bytes_eq name) names) 0) (same_word name)
place_again (name ∷ names) (suc b) distinct within =
    let apart : bytes_eq (get_or names b []) name ≡ false = names_sym name (get_or names b []) (all_get (λ other. bytes_eq name other ≡ false) names b distinct.0 (omega arith)) in
    let others : position_or_len (bytes_eq (get_or names b [])) names ≡ b = place_again names b distinct.1 (omega arith) in
    ap (λ t. cond (not t) (1 + position_or_len (bytes_eq (get_or names b [])) names) 0) apart ∙ omega (arith, others)

pub found_again : (names : List (List ℕ)) (b : ℕ) → IsDistinct bytes_eq names → b < length names → position (bytes_eq (name_of names b)) names ≡ Some b
found_again names b distinct within =
    let is = unwrap_or-slice_get names b [] in
    let at = place_again names b distinct within in
    let inside : nat_lt b (length names) ≡ true = grind (arith, nat_tests) in
    ap (λ n. position (bytes_eq n) names) is ∙ ap (λ k. cond (nat_lt k (length names)) (Some k) None) at ∙ ap (λ t. cond t (Some b) None) inside

pub bookie_again : (names : List (List ℕ)) (b : ℕ) (rest : List (List ℕ)) → IsDistinct bytes_eq names → b < length names → bookie_at names (name_of names b ∷ rest) ≡ Ok (b, rest)
unfolding bookie_at
bookie_again names b rest distinct within = ap (λ o. bookie_or o rest) (found_again names b distinct within)

pub bookies_again : (names : List (List ℕ)) (bookies : List ℕ) (rest : List (List ℕ)) → IsDistinct bytes_eq names → AllByRecursion (λ b. b < length names) bookies → bookies_at names (length bookies) (names_of names bookies ++ rest) ≡ Ok (bookies, rest)
unfolding bookies_at
bookies_again names [] rest distinct within = refl
bookies_again names (b ∷ bookies) rest distinct within =
    ap (λ r. r >>= λ first. bookies_at names (length bookies) first.1 >>= λ others. Ok (first.0 ∷ others.0, others.1)) (bookie_again names b (names_of names bookies ++ rest) distinct within.0)
    ∙ ap (λ r. r >>= λ others. Ok (b ∷ others.0, others.1)) (bookies_again names bookies rest distinct within.1)

pub bookies_behind_again : (names : List (List ℕ)) (wanted : Keyword) (bookies : List ℕ) (rest : List (List ℕ)) → IsDistinct bytes_eq names → AllByRecursion (λ b. b < length names) bookies → length bookies ≤ 2 ^ 63
    → bookies_behind names wanted (word_text wanted ∷ decimal (length bookies) ∷ (names_of names bookies ++ rest)) ≡ Ok (bookies, rest)
unfolding bookies_behind
bookies_behind_again names wanted bookies rest distinct within small =
    ap (λ r. r >>= λ count. bookies_at names count.0 count.1) (number_behind_again wanted (length bookies) (names_of names bookies ++ rest) small) ∙ bookies_again names bookies rest distinct within
