-- How many entries, tails and fragments ledgers have.
use Rattle.std.proofs.Common.{◌≡◌, ◌∙◌, ◌+◌, ◌-◌, ◌≤◌, ◌^◌, ◌⊎◌, ◌↔◌, ℕ, Bool, IsTrue, true, false, max, nat_le, List, [], ◌∷◌, length, refl, ap, sym, subst, arith, inl, inr}
use Rattle.std.specs.Prelude.{◌==◌, count_by, sum_by}
use Rattle.std.proofs.lemmas.Bool.Decides.{nat_tests}
use Rattle.std.specs.List.{range_with_len}
use Rattle.std.proofs.lemmas.List.FromFn.{length-range_with_len}
use Rattle.reh_census.specs.declared.censuses.CountedEnsemble.{CountedEnsemble}
use Rattle.reh_census.specs.declared.censuses.CountedTail.{CountedTail}
use Rattle.reh_census.specs.declared.classes.Counted.{Counted}
use Rattle.reh_census.specs.declared.ledgers.Fragment.{Fragment}
use Rattle.reh_census.specs.declared.ledgers.LedgerState.{LedgerState}
use Rattle.reh_census.specs.declared.ledgers.LedgerState.TheVariants.{Open, InRecovery}
use Rattle.reh_census.specs.Counting.{count_ensembles, count_entries, count_fragment, count_ledger, ensembles_in, entries_in, tail_in, tail_of, tail_with, tails_in}
use Rattle.reh_census.specs.Ledgers.{Ledger}
use Rattle.reh_census.proofs.CountLaws.{count-cons}
use Rattle.reh_tally.proofs.TailLaws.{tail_with-last}
use Rattle.reh_tally.specs.Few.{AreFew, AreFewCounts, capped, entries_among, entries_of, fragments_of, tails_of}

count-all : {X : Type 0} (xs : List X) → count_by (λ x. true) xs ≡ length xs
count-all [] = refl
count-all (x ∷ xs) =
    let more : count_by (λ x. true) xs ≡ length xs = count-all xs in
    let here : count_by (λ x. true) (x ∷ xs) ≡ 1 + count_by (λ x. true) xs = count-cons (λ x. true) x xs in
    omega (arith, more, here)

sum-same : {X : Type 0} (f g : X → ℕ) (xs : List X) → ((x : X) → f x ≡ g x) → sum_by f xs ≡ sum_by g xs
sum-same f g xs alike = λ i. sum_by (λ x. alike x i) xs

entries-ledger : (holders : List ℕ) (g : Ledger) → count_ledger holders (λ class. true) g ≡ entries_among g.fragments
entries-ledger holders g =
    sum-same (count_fragment holders g (λ class. true)) (λ f. f.stop - f.first) g.fragments
    (λ f. count-all (range_with_len f.first (f.stop - f.first)) ∙ length-range_with_len f.first (f.stop - f.first))

pub entries-all : (holders : List ℕ) (ledgers : List Ledger) → count_entries holders ledgers (λ class. true) ≡ entries_of ledgers
entries-all holders ledgers =
    sum-same (count_ledger holders (λ class. true)) (λ g. entries_among g.fragments) ledgers (entries-ledger holders)

pub fragments-all : (ledgers : List Ledger) → count_ensembles ledgers (λ members. true) ≡ fragments_of ledgers
fragments-all ledgers =
    sum-same (λ g. count_by (λ fragment. true) g.fragments) (λ g. length g.fragments) ledgers (λ g. count-all g.fragments)

pub few : (holders : List ℕ) (ledgers : List Ledger) → entries_of ledgers ≤ 2 ^ 63 → tails_of ledgers ≤ 2 ^ 63 → fragments_of ledgers ≤ 2 ^ 63
    → AreFew holders ledgers
few holders ledgers entries tails fragments = record {
  entries = subst (λ n. n ≤ 2 ^ 63) (sym (entries-all holders ledgers)) entries;
  tails = tails;
  ensembles = subst (λ n. n ≤ 2 ^ 63) (sym (fragments-all ledgers)) fragments;
}

within : (n m : ℕ) → nat_le n m ≡ true → n ≤ m
within n m told = grind (arith, nat_tests)

pub are_few-tested : (holders : List ℕ) (ledgers : List Ledger) (most : ℕ)
    → most ≡ max (max (capped (entries_of ledgers)) (capped (tails_of ledgers))) (capped (fragments_of ledgers))
    → IsTrue (nat_le most (2 ^ 63)) ↔ AreFew holders ledgers
are_few-tested holders ledgers most is = (
  λ told.
      let below : most ≤ 2 ^ 63 = within most (2 ^ 63) told in
      few holders ledgers (omega (arith, below, is)) (omega (arith, below, is)) (omega (arith, below, is)),
  λ those.
      let below : most ≤ 2 ^ 63 =
      omega (arith, is, those.entries, entries-all holders ledgers, those.tails, those.ensembles, fragments-all ledgers) in
      grind (arith, nat_tests),
)

-- the same of what is counted
pub are_few_counts-tested : (entries : List Counted) (tails : List CountedTail) (ensembles : List CountedEnsemble) (most : ℕ)
    → most ≡ max (max (capped (entries_in entries)) (capped (tails_in tails))) (capped (ensembles_in ensembles))
    → IsTrue (nat_le most (2 ^ 63)) ↔ AreFewCounts entries tails ensembles
are_few_counts-tested entries tails ensembles most is = (
  λ told.
      let below : most ≤ 2 ^ 63 = within most (2 ^ 63) told in
      record { entries = omega (arith, below, is); tails = omega (arith, below, is); ensembles = omega (arith, below, is) },
  λ those.
      let below : most ≤ 2 ^ 63 = omega (arith, is, those.entries, those.tails, those.ensembles) in
      grind (arith, nat_tests),
)

pub few_counts-same : {entries others : List Counted} {tails rest : List CountedTail} {ensembles more : List CountedEnsemble}
    → entries ≡ others → tails ≡ rest → ensembles ≡ more → AreFewCounts entries tails ensembles → AreFewCounts others rest more
few_counts-same entries tails ensembles those = record {
  entries = subst (λ (xs : List Counted). entries_in xs ≤ 2 ^ 63) entries those.entries;
  tails = subst (λ (xs : List CountedTail). tails_in xs ≤ 2 ^ 63) tails those.tails;
  ensembles = subst (λ (xs : List CountedEnsemble). ensembles_in xs ≤ 2 ^ 63) ensembles those.ensembles;
}

-- a ledger that isn't closed, and has an ensemble, has one tail
pub one_tail : (g : Ledger) (state : LedgerState) → g.state ≡ state → (length g.fragments == 0) ≡ false → (state ≡ Open) ⊎ (state ≡ InRecovery)
    → 1 ≡ count_by (λ tail. true) (tail_of g)
one_tail g state at some kind = elim kind [
  | inl opened ↦ long true ∙ ap (λ s. count_by (λ tail. true) (tail_in g s)) (sym (at ∙ opened))
  | inr recovering ↦ long false ∙ ap (λ s. count_by (λ tail. true) (tail_in g s)) (sym (at ∙ recovering))
] where
  least : (n : ℕ) → (n == 0) ≡ false → n ≡ (n - 1) + 1
  least n some = grind (arith, nat_tests)

  only : (g : Ledger) (is_open : Bool) (fragments : List Fragment) → (length fragments == 0) ≡ false
      → length (tail_with g is_open fragments) ≡ 1
  only g is_open [] some = absurd (omega (arith, least 0 some))
  only g is_open (fragment ∷ fragments) some =
      ap length (tail_with-last g is_open (fragment ∷ fragments) (length (fragment ∷ fragments) - 1) fragment (least (length (fragment ∷ fragments)) some))

  long : (is_open : Bool) → 1 ≡ count_by (λ tail. true) (tail_with g is_open g.fragments)
  long is_open = sym (count-all (tail_with g is_open g.fragments) ∙ only g is_open g.fragments some)
