-- Entries that can't be read, counted word by word.
use Rattle.std.proofs.Common.{◌≡◌, ◌∙◌, ◌+◌, ◌-◌, ◌*◌, ◌/◌, ◌^◌, ◌<◌, ◌≤◌, ◌&&◌, ◌++◌, ◌∷◌, [], List, Bool, true, false}
use Rattle.std.proofs.Common.{cond, not, ℕ, zero, suc, refl, ap, sym, arith, nat_le, map, min, drop, take, length}
use Rattle.std.proofs.Common.{append_assoc, get_or, length-drop, slice_index}
use Rattle.std.specs.Prelude.{bit_and, count_by}
use Rattle.std.specs.Int.{bit_not, w64}
use Rattle.std.specs.Int.Count.{ones}
use Rattle.std.specs.List.{enumerate_from, flat_map, range_with_len}
use Rattle.std.proofs.lemmas.Bool.Decides.{nat_tests}
use Rattle.std.proofs.lemmas.List.Sums.{count_by-le-length}
use Rattle.std.proofs.lemmas.Grind.{flat_map-append}
use Rattle.std.proofs.lemmas.List.FromFn.{length-range_with_len, length-enumerate_from, get_or-enumerate_from}
use Rattle.std.proofs.lemmas.List.{append-nil, drop_min, drop_more, get_or-drop, get_or-map, length-map, take_all, take_min, take_more}
use Rattle.reh_stripe.specs.Words.{has_bit, is_between}
use Rattle.reh_stripe.proofs.WordLaws.{has_bit-and, has_bit-not}
use Rattle.reh_stripe.proofs.CountLaws.{count-cons, count-range, count-append, count-ones}
use Rattle.reh_model.specs.Striping.{range}

-- Counts

-- the entry is one from the first to the last, and passes the test
abbrev pub is_counted : (ℕ → Bool) → ℕ → ℕ → ℕ → Bool
is_counted p first last entry = is_between first last entry && p entry

-- how many such entries are below the word of that number
abbrev pub counted_below : (ℕ → Bool) → ℕ → ℕ → ℕ → ℕ
counted_below p first last number = count_by (is_counted p first last) (range_with_len 0 (64 * number))

count-none : (p : ℕ → Bool) (a n : ℕ) → ((e : ℕ) → a ≤ e → e < a + n → p e ≡ false)
    → count_by p (range_with_len a n) ≡ 0
count-none p a zero fails = refl
count-none p a (suc n) fails =
    let here : p a ≡ false = fails a (omega arith) (omega arith) in
    let rest : count_by p (range_with_len (a + 1) n) ≡ 0 =
    count-none p (a + 1) n (λ e from below. fails e (omega arith) (omega arith)) in
    count-cons p a (range_with_len (a + 1) n) ∙ (λ j. cond (here j) 1 0 + rest j)

pub count-le : (p : ℕ → Bool) (a n : ℕ) → count_by p (range_with_len a n) ≤ n
count-le p a n = omega (arith, count_by-le-length p (range_with_len a n), length-range_with_len a n)

-- none is below the first one's word
pub counted-none : (p : ℕ → Bool) (first last : ℕ) → 0 ≡ counted_below p first last (first / 64)
counted-none p first last = sym (count-none (is_counted p first last) 0 (64 * (first / 64)) (λ e from below.
    let before : nat_le first e ≡ false = grind (arith, nat_tests) in ap (λ b. (b && nat_le e last) && p e) before))

-- a word more
pub counted-more : (p : ℕ → Bool) (first last number count bits : ℕ) → bits < 2 ^ 64
    → ((i : ℕ) → i < 64 → has_bit bits i ≡ is_counted p first last (64 * number + i))
    → count ≡ counted_below p first last number → count + ones bits ≡ counted_below p first last (number + 1)
counted-more p first last number count bits within is was =
    let q : ℕ → Bool = is_counted p first last in
    let more : 64 * number + 64 ≡ 64 * (number + 1) = omega arith in
    let none : 0 + 64 * number ≡ 64 * number = omega arith in
    let word : count_by q (range_with_len (0 + 64 * number) 64) ≡ ones bits =
    count-range q (has_bit bits) (0 + 64 * number) 0 64 (λ i inside.
    let first_bit : 0 + i ≡ i = omega arith in
    ap (λ n. q (n + i)) none ∙ sym (is i inside) ∙ ap (has_bit bits) (sym first_bit))
    ∙ count-ones 64 bits within in
    (λ j. was j + sym word j) ∙ sym (count-append q 0 (64 * number) 64) ∙ ap (λ n. count_by q (range_with_len 0 n)) more

-- four words more
pub counted-four : (p : ℕ → Bool) (first last number count : ℕ) (words : List ℕ)
    → ((k : ℕ) → k < 4 → slice_index words k < 2 ^ 64)
    → ((k i : ℕ) → k < 4 → i < 64 → has_bit (slice_index words k) i ≡ is_counted p first last (64 * (number + k) + i))
    → count ≡ counted_below p first last number
    → count
    + (ones (slice_index words 0) + ones (slice_index words 1) + ones (slice_index words 2) + ones (slice_index words 3))
    ≡ counted_below p first last (number + 4)
counted-four p first last number count words small are was =
    let w : ℕ → ℕ = slice_index words in
    let now : number + 0 ≡ number = omega arith in
    let one = counted-more p first last (number + 0) count (w 0) (small 0 (omega arith)) (λ i. are 0 i (omega arith))
    (was ∙ ap (counted_below p first last) (sym now)) in
    let two = counted-more p first last (number + 1) (count + ones (w 0)) (w 1) (small 1 (omega arith))
    (λ i. are 1 i (omega arith)) (one ∙ ap (λ n. counted_below p first last (n + 1)) now) in
    let after_two : number + 1 + 1 ≡ number + 2 = omega arith in
    let three = counted-more p first last (number + 2) (count + ones (w 0) + ones (w 1)) (w 2) (small 2 (omega arith))
    (λ i. are 2 i (omega arith)) (two ∙ ap (counted_below p first last) after_two) in
    let after_three : number + 2 + 1 ≡ number + 3 = omega arith in
    let four = counted-more p first last (number + 3) (count + ones (w 0) + ones (w 1) + ones (w 2)) (w 3)
    (small 3 (omega arith)) (λ i. are 3 i (omega arith)) (three ∙ ap (counted_below p first last) after_three) in
    let after_four : number + 3 + 1 ≡ number + 4 = omega arith in
    let sum : count + (ones (w 0) + ones (w 1) + ones (w 2) + ones (w 3))
    ≡ count + ones (w 0) + ones (w 1) + ones (w 2) + ones (w 3) = omega arith in
    sum ∙ four ∙ ap (counted_below p first last) after_four

-- all are below the word after the last one's
pub counted-all : (p : ℕ → Bool) (first last number : ℕ) → first ≤ last → last / 64 + 1 ≤ number
    → counted_below p first last number ≡ count_by p (range first (last + 1))
counted-all p first last number order end =
    let q : ℕ → Bool = is_counted p first last in
    let n : ℕ = (last + 1) - first in
    let after : ℕ = 64 * number - (last + 1) in
    let parts : 64 * number ≡ first + (n + after) = omega arith in
    let none : 0 + first ≡ first = omega arith in
    let before : count_by q (range_with_len 0 first) ≡ 0 = count-none q 0 first (λ e from below.
    let off : nat_le first e ≡ false = grind (arith, nat_tests) in ap (λ b. (b && nat_le e last) && p e) off) in
    let behind : count_by q (range_with_len (first + n) after) ≡ 0 = count-none q (first + n) after (λ e from below.
    let off : nat_le e last ≡ false = grind (arith, nat_tests) in ap (λ b. (nat_le first e && b) && p e) off
    ∙ no_and (nat_le first e) (p e)) in
    let inside : count_by q (range_with_len first n) ≡ count_by p (range_with_len first n) =
    count-range q p first first n (λ i below.
    let from : nat_le first (first + i) ≡ true = grind (arith, nat_tests) in
    let to : nat_le (first + i) last ≡ true = grind (arith, nat_tests) in
    (λ j. (from j && to j) && p (first + i))) in
    ap (λ k. count_by q (range_with_len 0 k)) parts
    ∙ count-append q 0 first (n + after)
    ∙ (λ j. before j + ap (λ a. count_by q (range_with_len a (n + after))) none j)
    ∙ (let sum : 0 + count_by q (range_with_len first (n + after))
    ≡ count_by q (range_with_len first (n + after)) = omega arith in sum)
    ∙ count-append q first n after
    ∙ (λ j. inside j + behind j)
    ∙ (let sum : count_by p (range_with_len first n) + 0
    ≡ count_by p (range_with_len first n) = omega arith in sum) where
      no_and : (a b : Bool) → ((a && false) && b) ≡ false
      no_and true b = refl
      no_and false b = refl

-- the bits of a word's entries from the first to the last that lack another bit
pub lacking-bits : (p : ℕ → Bool) (first last number between readable : ℕ) → readable < 2 ^ 64
    → ((i : ℕ) → i < 64 → has_bit between i ≡ is_between first last (64 * number + i))
    → ((i : ℕ) → i < 64 → has_bit readable i ≡ p (64 * number + i)) → (i : ℕ) → i < 64
    → has_bit (bit_and between (bit_not w64 readable)) i ≡ is_counted (λ e. not (p e)) first last (64 * number + i)
lacking-bits p first last number between readable within are_between are_readable i inside =
    has_bit-and between (bit_not w64 readable) i
    ∙ (λ j. are_between i inside j && (has_bit-not readable i within inside ∙ ap not (are_readable i inside)) j)

-- Runs

-- what is taken of two lists, one after the other, and what is left out of them
take_across : {X : Type 0} (n : ℕ) (xs ys : List X) → take n xs ++ take (n - length xs) ys ≡ take n (xs ++ ys)
take_across zero xs ys = let none : 0 - length xs ≡ 0 = omega arith in ap (λ m. take m ys) none
take_across (suc n) [] ys = let all : suc n - 0 ≡ suc n = omega arith in ap (λ m. take m ys) all
take_across (suc n) (x ∷ xs) ys =
    let fewer : suc n - suc (length xs) ≡ n - length xs = omega arith in
    ap (λ m. x ∷ take n xs ++ take m ys) fewer ∙ ap (λ zs. x ∷ zs) (take_across n xs ys)

drop_across : {X : Type 0} (n : ℕ) (xs ys : List X) → drop n xs ++ drop (n - length xs) ys ≡ drop n (xs ++ ys)
drop_across zero xs ys =
    let none : 0 - length xs ≡ 0 = omega arith in ap (λ m. xs ++ drop m ys) none
drop_across (suc n) [] ys = let all : suc n - 0 ≡ suc n = omega arith in ap (λ m. drop m ys) all
drop_across (suc n) (x ∷ xs) ys =
    let fewer : suc n - suc (length xs) ≡ n - length xs = omega arith in
    ap (λ m. drop n xs ++ drop m ys) fewer ∙ drop_across n xs ys

-- a run of two lists is its run of the first, and what is left of it of the second
pub run_across : {X : Type 0} (xs ys : List X) (before wanted skipped run : ℕ) → skipped ≡ min before (length xs)
    → run ≡ min wanted (length xs - skipped)
    → take run (drop skipped xs) ++ take (wanted - run) (drop (before - skipped) ys)
    ≡ take wanted (drop before (xs ++ ys))
run_across {X = X} xs ys before wanted skipped run skips runs =
    let left : List X = drop before xs in
    let same : drop skipped xs ≡ left = ap (λ n. drop n xs) skips ∙ drop_min before xs in
    let many : length left ≡ length xs - before = length-drop before xs in
    let there : run ≡ min wanted (length left) = omega (arith, skips, runs, many) in
    let first : take run (drop skipped xs) ≡ take wanted left =
    ap (λ zs. take run zs) same ∙ ap (λ n. take n left) there ∙ take_min wanted left in
    let more : wanted - run ≡ wanted - length left = omega (arith, there) in
    let further : before - skipped ≡ before - length xs = omega (arith, skips) in
    (λ j. first j ++ take (more j) (drop (further j) ys))
    ∙ take_across wanted left (drop (before - length xs) ys)
    ∙ ap (λ zs. take wanted zs) (drop_across before xs ys)

-- Lines

-- what is made of the element at a place of a list whose elements are numbered
numbered-there : {X Y : Type 0} (f : ℕ × X → Y) (xs : List X) (i : ℕ) (x : X) (y : Y) → i < length xs
    → x ≡ get_or xs i x → get_or (map f (enumerate_from 0 xs)) i y ≡ f (i, x)
numbered-there f xs i x y within is =
    let inside : i < length (enumerate_from 0 xs) = omega (arith, length-enumerate_from 0 xs) in
    let number : 0 + i ≡ i = omega arith in
    get_or-map f (enumerate_from 0 xs) i (i, x) y inside
    ∙ ap f (get_or-enumerate_from 0 xs i (i, x) within ∙ (λ j. (number j, sym is j)))

-- how many lines there are of such a list
pub length-numbered : {X Y : Type 0} (f : ℕ × X → Y) (xs : List X) → length (map f (enumerate_from 0 xs)) ≡ length xs
length-numbered f xs = length-map (enumerate_from 0 xs) f ∙ length-enumerate_from 0 xs

-- the next one of the first of them
pub numbered-more : {X Y : Type 0} (f : ℕ × X → Y) (ys : List Y) (xs : List X) (i : ℕ) (x : X) → i < length xs
    → x ≡ get_or xs i x
    → (ys ++ take i (map f (enumerate_from 0 xs))) ++ f (i, x) ∷ []
    ≡ ys ++ take (i + 1) (map f (enumerate_from 0 xs))
numbered-more {Y = Y} f ys xs i x within is =
    let lines : List Y = map f (enumerate_from 0 xs) in
    append_assoc ys (take i lines) (f (i, x) ∷ [])
    ∙ ap (λ zs. ys ++ zs)
    (ap (λ z. take i lines ++ z ∷ []) (sym (numbered-there f xs i x (f (i, x)) within is))
    ∙ sym (take_more lines i (f (i, x)) (omega (arith, length-numbered f xs))))

-- the next one of a run
pub run-more : {X Y : Type 0} (f : ℕ × X → Y) (ys : List Y) (xs : List X) (first i : ℕ) (x : X) → first ≤ i
    → i < length xs → x ≡ get_or xs i x
    → (ys ++ take (i - first) (drop first (map f (enumerate_from 0 xs)))) ++ f (i, x) ∷ []
    ≡ ys ++ take (i + 1 - first) (drop first (map f (enumerate_from 0 xs)))
run-more {Y = Y} f ys xs first i x from within is =
    let lines : List Y = map f (enumerate_from 0 xs) in
    let run : List Y = drop first lines in
    let inside : i - first < length run = omega (arith, length-drop first lines, length-numbered f xs) in
    let at : first + (i - first) ≡ i = omega arith in
    let one : get_or run (i - first) (f (i, x)) ≡ f (i, x) =
    get_or-drop first lines (i - first) (f (i, x))
    ∙ ap (λ n. get_or lines n (f (i, x))) at
    ∙ numbered-there f xs i x (f (i, x)) within is in
    let more : i - first + 1 ≡ i + 1 - first = omega arith in
    append_assoc ys (take (i - first) run) (f (i, x) ∷ [])
    ∙ ap (λ zs. ys ++ zs)
    (ap (λ z. take (i - first) run ++ z ∷ []) (sym one)
    ∙ sym (take_more run (i - first) (f (i, x)) inside)
    ∙ ap (λ n. take n run) more)

-- the lines of a whole ledger
pub run-whole : {Y : Type 0} (lines : List Y) (n : ℕ) → n ≡ length lines → take n (drop 0 lines) ≡ lines
run-whole lines n all = take_all n lines (omega (arith, all))

-- the lines of the next ledger
pub lines-more : {X Y : Type 0} (f : X → List Y) (xs : List X) (i : ℕ) (x : X) → i < length xs → x ≡ get_or xs i x
    → flat_map f (take i xs) ++ f x ≡ flat_map f (take (i + 1) xs)
lines-more f xs i x within is =
    let one : flat_map f (x ∷ []) ≡ f x = append-nil (f x) in
    ap (λ ys. flat_map f (take i xs) ++ ys) (sym one)
    ∙ sym (flat_map-append f (take i xs) (x ∷ []))
    ∙ ap (λ y. flat_map f (take i xs ++ y ∷ [])) is
    ∙ ap (λ zs. flat_map f zs) (sym (take_more xs i x within))

-- a run of the lines of the ledgers that are left, of which the next one's are taken
pub run-on : {X Y : Type 0} (f : X → List Y) (ys : List Y) (xs : List X) (i : ℕ) (x : X) (before wanted skipped run : ℕ)
    → i < length xs → x ≡ get_or xs i x → skipped ≡ min before (length (f x)) → run ≡ min wanted (length (f x) - skipped)
    → (ys ++ take run (drop skipped (f x))) ++ take (wanted - run) (drop (before - skipped) (flat_map f (drop (i + 1) xs)))
    ≡ ys ++ take wanted (drop before (flat_map f (drop i xs)))
run-on {Y = Y} f ys xs i x before wanted skipped run within is skips runs =
    let rest : List Y = flat_map f (drop (i + 1) xs) in
    append_assoc ys (take run (drop skipped (f x))) (take (wanted - run) (drop (before - skipped) rest))
    ∙ ap (λ zs. ys ++ zs)
    (run_across (f x) rest before wanted skipped run skips runs
    ∙ ap (λ y. take wanted (drop before (f y ++ rest))) is
    ∙ ap (λ zs. take wanted (drop before (flat_map f zs))) (sym (drop_more xs i x within)))
