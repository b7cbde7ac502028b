-- Of all bookies that may hold copies a fragment's members are enough.
use Rattle.std.proofs.Common.{◌≡◌, ◌∙◌, ◌+◌, ◌<◌, ◌&&◌, ◌||◌, cond, ℕ, zero, suc, Bool, true, false, List, [], ◌∷◌, length, map, get_or, refl, ap, sym, arith, true≢false}
use Rattle.std.specs.Prelude.{◌==◌, count_by, slice_index}
use Rattle.std.specs.List.{filter, list_any}
use Rattle.std.proofs.lemmas.Nat.{mod_below}
use Rattle.reh_census.specs.declared.ledgers.Fragment.{Fragment}
use Rattle.reh_census.specs.declared.classes.Class.{Class}
use Rattle.reh_census.specs.declared.bookies.Bookie.{Bookie}
use Rattle.reh_census.specs.Counting.{count_fragment}
use Rattle.reh_census.specs.Copies.{is_in}
use Rattle.reh_census.specs.Ledgers.{Ledger, carries, class_of, is_held, is_untold, told_of}
use Rattle.reh_census.specs.Striping.{index_at, range}
use Rattle.reh_tally.specs.Members.{members_of, names_of}

filter-twice : (p q : ℕ → Bool) (xs : List ℕ) → ((b : ℕ) → p b ≡ true → q b ≡ true) → filter p (filter q xs) ≡ filter p xs
filter-twice p q [] implies = refl
filter-twice p q (x ∷ xs) implies = one (p x) (q x) refl refl (implies x) (filter-twice p q xs implies) where
  one : (pass wide : Bool) → p x ≡ pass → q x ≡ wide → (p x ≡ true → q x ≡ true) → filter p (filter q xs) ≡ filter p xs
      → filter p (cond wide (x ∷ filter q xs) (filter q xs)) ≡ cond pass (x ∷ filter p xs) (filter p xs)
  one true true is too both rest =
      ap (λ c. cond c (x ∷ filter p (filter q xs)) (filter p (filter q xs))) is ∙ ap (λ later. x ∷ later) rest
  one true false is too both rest = absurd (true≢false (sym (both is) ∙ too))
  one false true is too both rest = ap (λ c. cond c (x ∷ filter p (filter q xs)) (filter p (filter q xs))) is ∙ rest
  one false false is too both rest = rest

inside : (xs : List ℕ) (i b : ℕ) → i < length xs → (get_or xs i 0 == b) ≡ true → is_in xs b ≡ true
inside [] i b within is = absurd (omega (arith, within))
inside (x ∷ xs) zero b within is = ap (λ c. c || is_in xs b) is
inside (x ∷ xs) (suc i) b within is = later (x == b) (inside xs i b (omega (arith, within)) is) where
  later : (c : Bool) → is_in xs b ≡ true → (c || is_in xs b) ≡ true
  later true rest = refl
  later false rest = rest

carried : (xs ranks : List ℕ) (e b : ℕ) → 0 < length xs
    → list_any (λ m. m == b) (map (λ i. slice_index xs i) (map (index_at e (length xs)) ranks)) ≡ true → is_in xs b ≡ true
carried xs [] e b some any = cc
carried xs (r ∷ ranks) e b some any =
    one (slice_index xs (index_at e (length xs) r) == b) refl any (carried xs ranks e b some) where
      one : (same : Bool) → (slice_index xs (index_at e (length xs) r) == b) ≡ same
          → (same || list_any (λ m. m == b) (map (λ i. slice_index xs i) (map (index_at e (length xs)) ranks))) ≡ true
          → (list_any (λ m. m == b) (map (λ i. slice_index xs i) (map (index_at e (length xs)) ranks)) ≡ true → is_in xs b ≡ true)
          → is_in xs b ≡ true
      one true is any rest = inside xs (index_at e (length xs) r) b (mod_below (e + r) (length xs) some) is
      one false is any rest = rest any

first_of : (a b : Bool) → (a && b) ≡ true → a ≡ true
first_of true b both = refl
first_of false b both = both

pub carries-is_in : (g : Ledger) (fragment : Fragment) (e b : ℕ) → length fragment.ensemble ≡ g.size → 0 < g.size
    → carries g fragment e b ≡ true → is_in fragment.ensemble b ≡ true
carries-is_in g fragment e b whole some any =
    carried fragment.ensemble (range 0 g.write_quorum) e b (omega (arith, whole, some))
    (ap (λ n. list_any (λ m. m == b) (map (λ i. slice_index fragment.ensemble i) (map (index_at e n) (range 0 g.write_quorum)))) whole ∙ any)

pub class_of-members : (bookies : List Bookie) (g : Ledger) (fragment : Fragment) (e : ℕ) → length fragment.ensemble ≡ g.size → 0 < g.size
    → class_of (members_of bookies fragment.ensemble) g fragment e ≡ class_of (names_of bookies) g fragment e
class_of-members bookies g fragment e whole some =
    let enough : (p : ℕ → Bool) → filter (λ b. carries g fragment e b && p b) (members_of bookies fragment.ensemble)
    ≡ filter (λ b. carries g fragment e b && p b) (names_of bookies) =
    λ p. filter-twice (λ b. carries g fragment e b && p b) (is_in fragment.ensemble) (names_of bookies)
    (λ b both. carries-is_in g fragment e b whole some (first_of (carries g fragment e b) (p b) both)) in
    λ i. record {
      known = enough (λ b. is_held e (told_of g b)) i;
      untold = enough (λ b. is_untold (told_of g b)) i;
      ack_quorum = g.ack_quorum;
      write_quorum = g.write_quorum;
    }

-- so a fragment has the same counts
pub count_fragment-members : (bookies : List Bookie) (g : Ledger) (fragment : Fragment) (test : Class → Bool) → length fragment.ensemble ≡ g.size → 0 < g.size
    → count_fragment (members_of bookies fragment.ensemble) g test fragment ≡ count_fragment (names_of bookies) g test fragment
count_fragment-members bookies g fragment test whole some =
    λ i. count_by (λ e. test (class_of-members bookies g fragment e whole some i)) (range fragment.first fragment.stop)
