-- Which bookies hold an entry: by the set of all copies, by what is told of a bookie, and by those that may hold copies.
use Rattle.std.proofs.Common.{◌≡◌, ℕ, ◌+◌, ◌-◌, ◌<◌, ◌≤◌, Bool, true, false, cond, ◌&&◌, ◌||◌, List, [], ◌∷◌, map, length, refl, sym, ap, ◌∙◌, arith, nat_eq, nat_lt}
use Rattle.std.specs.Prelude.{◌==◌, nat_le, if◌then◌else◌}
use Rattle.std.specs.List.{AllByRecursion, IsDistinct, filter, flat_map, list_any, range_with_len}
use Rattle.std.specs.Ordering.{eq_by_cmp}
use Rattle.std.proofs.lemmas.Bool.Decides.{nat_tests}
use Rattle.std.proofs.lemmas.Cmp.{nat_eq_equiv}
use Rattle.std.proofs.lemmas.List.Folds.{list_any-append}
use Rattle.reh_types.specs.Sets.{triples, triple_cmp, contains-from_list}
use Rattle.reh_model.specs.Contents.{has}
use Rattle.reh_model.specs.Striping.{range}
use Rattle.reh_model.proofs.ContentsLaws.{triples_tied}
use Rattle.reh_model.proofs.Ranges.{Passes, any_passes, passes_any, list_any-map, list_any-same, same_answer}
use Rattle.reh_census.specs.declared.ledgers.Told.{Told}
use Rattle.reh_census.specs.declared.ledgers.Told.TheVariants.{Holds}
use Rattle.reh_census.specs.Ledgers as census
use Rattle.reh_census.specs.Ledgers.{is_within, told_in}
use Rattle.reh_picture.specs.Contents.{Holding, copies_in, copies_within, held_in, is_pair}
use Rattle.reh_inputs.specs.declared.ledgers.Reading.{Reading}
use Rattle.reh_inputs.specs.Ledgers.{content_by, contents_of, number_in, range_of, told_by}

-- Tests over lists

pub and_false : (a : Bool) → (a && false) ≡ false
and_false true = refl
and_false false = refl

or_false : (a : Bool) → (a || false) ≡ a
or_false true = refl
or_false false = refl

both_true : (a b : Bool) → a ≡ true → b ≡ true → (a && b) ≡ true
both_true a b one other = ap (λ c. c && b) one ∙ other

pub first_true : (a b : Bool) → (a && b) ≡ true → a ≡ true
first_true true b is = refl
first_true false b is = cc

pub second_true : (a b : Bool) → (a && b) ≡ true → b ≡ true
second_true true b is = is
second_true false b is = cc

-- among the elements of a list of lists
list_any-flat_map : {X Y : Type 0} (p : Y → Bool) (f : X → List Y) (xs : List X)
    → list_any p (flat_map f xs) ≡ list_any (λ x. list_any p (f x)) xs
list_any-flat_map p f [] = refl
list_any-flat_map p f (x ∷ xs) =
    list_any-append p (f x) (flat_map f xs) ∙ ap (λ b. list_any p (f x) || b) (list_any-flat_map p f xs)

-- a condition that is the same for all
any_under : {X : Type 0} (a : Bool) (p : X → Bool) (xs : List X) → list_any (λ x. a && p x) xs ≡ (a && list_any p xs)
any_under true p xs = refl
any_under false p [] = refl
any_under false p (x ∷ xs) = any_under false p xs

any_filtered : {X : Type 0} (p q : X → Bool) (xs : List X) → list_any p (filter q xs) ≡ list_any (λ x. q x && p x) xs
any_filtered p q [] = refl
any_filtered p q (x ∷ xs) =
    elim (q x) as (λ b. list_any p (cond b (x ∷ filter q xs) (filter q xs)) ≡ ((b && p x) || list_any (λ x. q x && p x) xs)) [
      | true ↦ ap (λ b. p x || b) (any_filtered p q xs)
      | false ↦ any_filtered p q xs
    ]

-- some element passes where the list of those that pass isn't empty
pub some_left : {X : Type 0} (p : X → Bool) (xs : List X) → nat_lt 0 (length (filter p xs)) ≡ list_any p xs
some_left p [] = refl
some_left p (x ∷ xs) =
    elim (p x) as (λ b. nat_lt 0 (length (cond b (x ∷ filter p xs) (filter p xs))) ≡ (b || list_any p xs)) [
      | true ↦ let some : nat_lt 0 (length (x ∷ filter p xs)) ≡ true = grind (arith, nat_tests) in some
      | false ↦ some_left p xs
    ]

-- an element that passes is one of the list
any_gives : (p : ℕ → Bool) (P : Type 0) (xs : List ℕ)
    → ((x : ℕ) → p x ≡ true → list_any (λ y. y == x) xs ≡ true → P) → list_any p xs ≡ true → P
any_gives p P [] gives any = cc
any_gives p P (x ∷ xs) gives any =
    elim (p x) as (λ b. p x ≡ b → (b || list_any p xs) ≡ true → P) [
      | true ↦ λ here _. let itself : (x == x) ≡ true = grind (arith, nat_tests) in
          gives x here (ap (λ b. b || list_any (λ y. y == x) xs) itself)
      | false ↦ λ _ any. any_gives p P xs (λ y passes among. gives y passes (later (x == y) (list_any (λ z. z == y) xs) among)) any
    ] refl any where
      later : (a b : Bool) → b ≡ true → (a || b) ≡ true
      later true b is = refl
      later false b is = is

-- and one of the list that passes
gives_any : (p : ℕ → Bool) (x : ℕ) → p x ≡ true → (xs : List ℕ) → list_any (λ y. y == x) xs ≡ true → list_any p xs ≡ true
gives_any p x passes [] among = cc
gives_any p x passes (y ∷ xs) among =
    elim (y == x) as (λ b. (y == x) ≡ b → (b || list_any (λ z. z == x) xs) ≡ true → (p y || list_any p xs) ≡ true) [
      | true ↦ λ here _. let same : y ≡ x = grind (arith, nat_tests, here) in
          ap (λ b. b || list_any p xs) (ap p same ∙ passes)
      | false ↦ λ _ among. later (p y) (list_any p xs) (gives_any p x passes xs among)
    ] refl among where
      later : (a b : Bool) → b ≡ true → (a || b) ≡ true
      later true b is = refl
      later false b is = is

-- Sets of copies

-- a range, of a bookie and a ledger that are or aren't those in question
in_range : (here : Bool) (e first last : ℕ)
    → list_any (λ k. here && nat_eq e k) (range first (last + 1)) ≡ (here && (nat_le first e && nat_le e last))
in_range here e first last =
    any_under here (λ k. nat_eq e k) (range first (last + 1))
    ∙ ap (λ b. here && b) (same_answer (list_any (λ k. nat_eq e k) (range first (last + 1))) (nat_le first e && nat_le e last) (λ any.
    let w : Passes (λ k. nat_eq e k) first ((last + 1) - first) =
    any_passes (λ k. nat_eq e k) first ((last + 1) - first) any in
    let found : nat_eq e w.at ≡ true = w.passes in
    let same : e ≡ w.at = grind (arith, nat_tests, found) in
    let from : nat_le first e ≡ true = grind (arith, nat_tests, same, w.from) in
    let to : nat_le e last ≡ true = grind (arith, nat_tests, same, w.from, w.below) in
    both_true (nat_le first e) (nat_le e last) from to) (λ within.
    let from : nat_le first e ≡ true = first_true (nat_le first e) (nat_le e last) within in
    let to : nat_le e last ≡ true = second_true (nat_le first e) (nat_le e last) within in
    let low : first ≤ e = grind (arith, nat_tests, from) in
    let high : e ≤ last = grind (arith, nat_tests, to) in
    let itself : nat_eq e e ≡ true = grind (arith, nat_tests) in
    passes_any (λ k. nat_eq e k) first ((last + 1) - first) e low (omega (arith, low, high)) itself))

flipped : (a b : ℕ) → nat_eq a b ≡ (b == a)
flipped a b = nat_eq_equiv.symm a b

-- whether a content says that the bookie holds the entry of the ledger
abbrev pub says : ℕ → ℕ → ℕ → Holding → Bool
says b ledger e h = (h.bookie == b && h.ledger == ledger) && list_any (λ ends. is_within e (range_of ends)) h.ranges

says-copies : (b ledger e : ℕ) (h : Holding)
    → list_any (eq_by_cmp triple_cmp (b, ledger, e)) (copies_in h) ≡ says b ledger e h
says-copies b ledger e h =
    list_any-flat_map (eq_by_cmp triple_cmp (b, ledger, e)) (copies_within h.bookie h.ledger) h.ranges
    ∙ list_any-same (λ ends. list_any (eq_by_cmp triple_cmp (b, ledger, e)) (copies_within h.bookie h.ledger ends))
    (λ ends. (h.bookie == b && h.ledger == ledger) && is_within e (range_of ends)) each h.ranges
    ∙ any_under (h.bookie == b && h.ledger == ledger) (λ ends. is_within e (range_of ends)) h.ranges where
      each : (ends : ℕ × ℕ) → list_any (eq_by_cmp triple_cmp (b, ledger, e)) (copies_within h.bookie h.ledger ends)
          ≡ ((h.bookie == b && h.ledger == ledger) && is_within e (range_of ends))
      each ends =
          list_any-map (eq_by_cmp triple_cmp (b, ledger, e)) (λ k. (h.bookie, h.ledger, k)) (range ends.0 (ends.1 + 1))
          ∙ list_any-same (λ k. eq_by_cmp triple_cmp (b, ledger, e) (h.bookie, h.ledger, k))
          (λ k. (h.bookie == b && h.ledger == ledger) && nat_eq e k)
          (λ k. triples_tied (b, ledger, e) (h.bookie, h.ledger, k)
          ∙ (λ i. (flipped b h.bookie i && flipped ledger h.ledger i) && nat_eq e k)) (range ends.0 (ends.1 + 1))
          ∙ in_range (h.bookie == b && h.ledger == ledger) e ends.0 ends.1

-- a bookie holds an entry where some content says so
pub has-says : (holdings : List Holding) (b ledger e : ℕ)
    → has (held_in holdings) b ledger e ≡ list_any (says b ledger e) holdings
has-says holdings b ledger e =
    contains-from_list triples (flat_map copies_in holdings) (b, ledger, e)
    ∙ list_any-flat_map (eq_by_cmp triple_cmp (b, ledger, e)) copies_in holdings
    ∙ list_any-same (λ h. list_any (eq_by_cmp triple_cmp (b, ledger, e)) (copies_in h)) (says b ledger e)
    (says-copies b ledger e) holdings

-- What is told of a bookie

abbrev pub pair : Holding → ℕ × ℕ
pair h = (h.bookie, h.ledger)

-- where each bookie and ledger have one content at most, no other one speaks of them
others_silent : (b ledger e : ℕ) (p : ℕ × ℕ) → (p.0 == b) ≡ true → (p.1 == ledger) ≡ true → (holdings : List Holding)
    → AllByRecursion (λ q. is_pair p q ≡ false) (map pair holdings) → list_any (says b ledger e) holdings ≡ false
others_silent b ledger e p bookie here [] apart = refl
others_silent b ledger e p bookie here (h ∷ hs) apart =
    let one : p.0 ≡ b = grind (arith, nat_tests, bookie) in
    let two : p.1 ≡ ledger = grind (arith, nat_tests, here) in
    let away : (h.bookie == b && h.ledger == ledger) ≡ false =
    sym (λ i. flipped (one i) h.bookie i && flipped (two i) h.ledger i) ∙ apart.0 in
    (λ i. (away i && list_any (λ ends. is_within e (range_of ends)) h.ranges) || others_silent b ledger e p bookie here hs apart.1 i)

-- by all contents of the ledger their bookies hold what they list
abbrev pub AreTold : Reading → ℕ → List Holding → Type 0
AreTold reading ledger holdings =
    AllByRecursion (λ h. (h.ledger == ledger) ≡ true → (e : ℕ)
    → census.is_held e (told_by reading h) ≡ census.is_held e (Holds (map range_of h.ranges))) holdings

module _ (numbers : List ℕ) (reading : Reading) (ledger c b e : ℕ)
    (numbered : (m : ℕ) → (number_in numbers m == c) ≡ (m == b)) (rest : Told)
    (silent : census.is_held e rest ≡ false) where
  -- what is told of the bookie with that number is what its content says
  pub told-says : (holdings : List Holding) → IsDistinct is_pair (map pair holdings) → AreTold reading ledger holdings
      → census.is_held e (told_in (contents_of numbers reading ledger holdings) rest c)
      ≡ list_any (says b ledger e) holdings
  unfolding IsDistinct
  told-says [] distinct told = silent
  told-says (h ∷ hs) distinct told =
      let ours : Bool = list_any (λ ends. is_within e (range_of ends)) h.ranges in
      let others = contents_of numbers reading ledger hs in
      elim (h.ledger == ledger) as (λ t. (h.ledger == ledger) ≡ t
      → census.is_held e
      (told_in (map (content_by numbers reading) (cond t (h ∷ filter (λ h. h.ledger == ledger) hs) (filter (λ h. h.ledger == ledger) hs))) rest c)
      ≡ (((h.bookie == b && t) && ours) || list_any (says b ledger e) hs)) [
        | true ↦ λ here.
            ap (λ (u : Bool). census.is_held e (if u then told_by reading h else told_in others rest c)) (numbered h.bookie)
            ∙ (elim (h.bookie == b) as (λ u. (h.bookie == b) ≡ u
            → census.is_held e (if u then told_by reading h else told_in others rest c)
            ≡ (((u && true) && ours) || list_any (says b ledger e) hs)) [
              | true ↦ λ bookie.
                  told.0 here e
                  ∙ list_any-map (is_within e) range_of h.ranges
                  ∙ sym (or_false ours)
                  ∙ ap (λ t. ours || t) (sym (others_silent b ledger e (pair h) bookie here hs distinct.0))
              | false ↦ λ _. told-says hs distinct.1 told.1
            ] refl)
        | false ↦ λ _.
            told-says hs distinct.1 told.1
            ∙ sym (ap (λ t. (t && ours) || list_any (says b ledger e) hs) (and_false (h.bookie == b)))
      ] refl

-- Members

-- Of the first n bookies, in which all that are registered stand: one is registered, a member of the write set and holds the
-- entry exactly where a member of the write set is registered and holds it.
module _ (n : ℕ) (up holds : ℕ → Bool) (members : List ℕ) (low : (b : ℕ) → up b ≡ true → b < n) where
  abbrev among : ℕ → Bool
  among b = list_any (λ m. m == b) members

  pub some_member : list_any (λ b. up b && (list_any (λ m. m == b) members && holds b)) (range_with_len 0 n)
      ≡ list_any (λ m. up m && holds m) members
  some_member = same_answer _ _ forth back where
    forth : list_any (λ b. up b && (among b && holds b)) (range_with_len 0 n) ≡ true
        → list_any (λ m. up m && holds m) members ≡ true
    forth any =
        let w : Passes (λ b. up b && (among b && holds b)) 0 n =
        any_passes (λ b. up b && (among b && holds b)) 0 n any in
        let rest = second_true (up w.at) (among w.at && holds w.at) w.passes in
        gives_any (λ m. up m && holds m) w.at
        (both_true (up w.at) (holds w.at) (first_true (up w.at) (among w.at && holds w.at) w.passes)
        (second_true (among w.at) (holds w.at) rest)) members (first_true (among w.at) (holds w.at) rest)

    back : list_any (λ m. up m && holds m) members ≡ true
        → list_any (λ b. up b && (among b && holds b)) (range_with_len 0 n) ≡ true
    back any =
        any_gives (λ m. up m && holds m) _ members (λ b passes member.
        let is_up : up b ≡ true = first_true (up b) (holds b) passes in
        let below : b < n = low b is_up in
        let inside : b < 0 + n = omega (arith, below) in
        passes_any (λ b. up b && (among b && holds b)) 0 n b (omega arith) inside
        (both_true (up b) (among b && holds b) is_up
        (both_true (among b) (holds b) member (second_true (up b) (holds b) passes))))
        any
