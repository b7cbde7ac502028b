-- The tails of ledgers that aren't closed.
use Rattle.std.proofs.Common.{◌≡◌, ◌∙◌, ◌+◌, cond, ℕ, zero, suc, Bool, List, [], ◌∷◌, ◌++◌, length, get_or, refl, ap, sym, arith}
use Rattle.std.specs.Prelude.{count_by}
use Rattle.std.proofs.lemmas.List.Sums.{sum_by_push}
use Rattle.reh_census.specs.declared.censuses.CountedTail.{CountedTail}
use Rattle.reh_census.specs.declared.censuses.Tail.{Tail}
use Rattle.reh_census.specs.declared.ledgers.Fragment.{Fragment}
use Rattle.reh_census.specs.Counting.{count_tails_in, tail_with}
use Rattle.reh_census.specs.Ledgers.{Ledger}
use Rattle.reh_census.proofs.CountLaws.{count-cons}

abbrev pub tail_on : Ledger → Bool → List ℕ → Tail
tail_on g is_open ensemble = record {
  size = g.size;
  write_quorum = g.write_quorum;
  ack_quorum = g.ack_quorum;
  is_open = is_open;
  ensemble = ensemble;
}

-- the tail is by the last fragment
pub tail_with-last : (g : Ledger) (is_open : Bool) (fragments : List Fragment) (n : ℕ) (d : Fragment) → length fragments ≡ n + 1
    → tail_with g is_open fragments ≡ tail_on g is_open (get_or fragments n d).ensemble ∷ []
tail_with-last g is_open [] n d long = absurd (omega (arith, long))
tail_with-last g is_open (fragment ∷ []) zero d long = refl
tail_with-last g is_open (fragment ∷ []) (suc n) d long = absurd (omega (arith, long))
tail_with-last g is_open (fragment ∷ next ∷ fragments) zero d long = absurd (omega (arith, long))
tail_with-last g is_open (fragment ∷ next ∷ fragments) (suc n) d long =
    tail_with-last g is_open (next ∷ fragments) n d (omega (arith, long))

none_with : (g : Ledger) (is_open : Bool) (fragments : List Fragment) → length fragments ≡ 0 → tail_with g is_open fragments ≡ []
none_with g is_open [] none = refl
none_with g is_open (fragment ∷ fragments) none = absurd (omega (arith, none))

-- nothing to add
pub tails-none : (tails : List CountedTail) (g : Ledger) (is_open : Bool) (fragments : List Fragment) (test : Tail → Bool) → length fragments ≡ 0
    → count_tails_in tails test ≡ count_tails_in tails test + count_by test (tail_with g is_open fragments)
tails-none tails g is_open fragments test none =
    (let zeros : count_tails_in tails test ≡ count_tails_in tails test + 0 = omega arith in zeros)
    ∙ ap (λ (ts : List Tail). count_tails_in tails test + count_by test ts) (sym (none_with g is_open fragments none))

-- one tail more
pub tails-more : (tails : List CountedTail) (x : CountedTail) (ts : List Tail) (test : Tail → Bool) → x.count ≡ 1 → ts ≡ x.tail ∷ []
    → count_tails_in (tails ++ x ∷ []) test ≡ count_tails_in tails test + count_by test ts
tails-more tails x ts test once is =
    sum_by_push (λ t. cond (test t.tail) t.count 0) tails x
    ∙ ap (λ n. count_tails_in tails test + n)
    (ap (λ n. cond (test x.tail) n 0) once
    ∙ (let none : cond (test x.tail) 1 0 ≡ cond (test x.tail) 1 0 + 0 = omega arith in none)
    ∙ sym (count-cons test x.tail [])
    ∙ ap (λ (more : List Tail). count_by test more) (sym is))
