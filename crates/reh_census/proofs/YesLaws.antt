-- What a yes says of each entry, ledger and fragment.
use Rattle.std.proofs.Common.{◌≡◌, ◌∙◌, ◌+◌, ◌-◌, ◌<◌, ◌≤◌, ◌&&◌, not, cond, ℕ, zero, suc, Bool, true, false, List, length, length-append, get_or, min, refl, ap, sym, subst, arith, inl, inr, nat_lt, true≢false}
use Rattle.std.specs.Prelude.{◌==◌, count_by, sum_by}
use Rattle.std.specs.List.{Contains, filter, list_any, range_with_len}
use Rattle.std.proofs.lemmas.Bool.{cases_lt}
use Rattle.std.proofs.lemmas.Bool.Decides.{nat_tests}
use Rattle.std.proofs.lemmas.List.Sums.{sum_by_more_le}
use Rattle.reh_census.specs.declared.censuses.Tail.{Tail}
use Rattle.reh_census.specs.declared.classes.Class.{Class}
use Rattle.reh_census.specs.declared.ledgers.Fragment.{Fragment}
use Rattle.reh_census.specs.declared.questions.Question.{Question}
use Rattle.reh_census.specs.Answers.{IsAllZero, answer_on, is_yes, numbers_on}
use Rattle.reh_census.specs.Bookies.{Bookies, is_up, is_writable, none}
use Rattle.reh_census.specs.Copies.{EachOnce, completion, in_order, is_in, left}
use Rattle.reh_census.specs.Counting.{IsEntry, count_entries, count_fragment, count_ledger, count_tails, counting_of, tail_of}
use Rattle.reh_census.specs.Ledgers.{Ledger, class_of}
use Rattle.reh_census.specs.Rules.{breaks_kept, breaks_readable, copies_to_keep, falls, loses, may_fall, may_lose, not_sure}
use Rattle.reh_census.specs.Tails.{breaks_new_ledgers, breaks_recoverable, breaks_replaceable, breaks_writable, needs_disk, spares, takes_disk, unplaced}
use Rattle.reh_census.proofs.AnswerLaws.{yes-zero}
use Rattle.reh_census.proofs.CountLaws.{count-alike, count-cons}
use Rattle.reh_census.proofs.InOrderLaws.{count-in_order, is_in-in_order}
use Rattle.reh_census.proofs.RuleLaws.{kept-some, readable-some}

-- what isn't counted at all, isn't counted for one
at_most_all : {X : Type 0} (f : X → ℕ) (xs : List X) (x : X) → Contains xs x → f x ≤ sum_by f xs
at_most_all f xs x here =
    let part : f (get_or xs here.0 x) ≤ sum_by f xs = omega (arith, sum_by_more_le f xs here.0 x here.1) in
    subst (λ y. f y ≤ sum_by f xs) here.2 part

none_for : {X : Type 0} (f : X → ℕ) (xs : List X) (x : X) → Contains xs x → sum_by f xs ≡ 0 → f x ≡ 0
none_for f xs x here none = omega (arith, at_most_all f xs x here, none)

fails : (b : Bool) → cond {A = ℕ} b 1 0 ≡ 0 → b ≡ false
fails true zeros = cc
fails false zeros = refl

fails_for : {X : Type 0} (p : X → Bool) (xs : List X) (x : X) → Contains xs x → count_by p xs ≡ 0 → p x ≡ false
fails_for p xs x here none = fails (p x) (none_for (λ y. cond (p y) 1 0) xs x here none)

fails_at : (p : ℕ → Bool) (a n e : ℕ) → count_by p (range_with_len a n) ≡ 0 → a ≤ e → e < a + n → p e ≡ false
fails_at p a zero e none from below = absurd (omega (arith, from, below))
fails_at p a (suc n) e none from below =
    let both : cond (p a) 1 0 + count_by p (range_with_len (a + 1) n) ≡ 0 =
    sym (count-cons p a (range_with_len (a + 1) n)) ∙ none in
    elim (cases_lt a e) [
      | inl later ↦ fails_at p (a + 1) n e (omega (arith, both)) (omega (arith, later)) (omega (arith, below))
      | inr here ↦
          let same : a ≡ e = omega (arith, from, here) in
          subst (λ (k : ℕ). p k ≡ false) same (fails (p a) (omega (arith, both)))
    ]

-- a test that no entry passes fails for each entry
entry-fails : (holders : List ℕ) (ledgers : List Ledger) (test : Class → Bool) (g : Ledger) (f : Fragment) (entry : ℕ)
    → count_entries holders ledgers test ≡ 0 → IsEntry ledgers g f entry → test (class_of holders g f entry) ≡ false
entry-fails holders ledgers test g f entry none is =
    let ledger : count_ledger holders test g ≡ 0 = none_for (count_ledger holders test) ledgers g is.is_ledger none in
    let fragment : count_fragment holders g test f ≡ 0 = none_for (count_fragment holders g test) g.fragments f is.is_fragment ledger in
    fails_at (λ e. test (class_of holders g f e)) f.first (f.stop - f.first) entry fragment is.from (omega (arith, is.from, is.below))

sure : (every some : Bool) → every ≡ false → (some && not every) ≡ false → some ≡ false
sure true some one other = cc
sure false true one other = cc
sure false false one other = refl

implied : (a b : Bool) → (a ≡ true → b ≡ true) → b ≡ false → a ≡ false
implied true b implies none = absurd (true≢false (sym (implies refl) ∙ none))
implied false b implies none = refl

some_left : (copies stay : ℕ) → (nat_lt 0 copies && (stay == 0)) ≡ false → 1 ≤ copies → 1 ≤ stay
some_left copies stay spared some = grind (arith, nat_tests)

enough_left : (stay least : ℕ) → nat_lt stay least ≡ false → least ≤ stay
enough_left stay least spared = grind (arith, nat_tests)

first_not : (a b : Bool) → (a && b) ≡ false → b ≡ true → a ≡ false
first_not true b none is = absurd (true≢false (sym is ∙ none))
first_not false b none is = refl

-- so many copies are left as are to be kept, where so many are known
kept_all : (known copies keep stay : ℕ) → nat_lt known keep ≡ false → known ≤ copies → min copies keep ≤ stay → keep ≤ stay
kept_all known copies keep stay short more kept = grind (arith, nat_tests)

-- the members of an ensemble lack as many places in order as before
unplaced-in_order : (bookies : Bookies) (stopped : ℕ → Bool) (ensemble : List ℕ) → EachOnce ensemble
    → unplaced bookies stopped (in_order ensemble) ≡ unplaced bookies stopped ensemble
unplaced-in_order bookies stopped ensemble once =
    let same : spares bookies stopped (in_order ensemble) ≡ spares bookies stopped ensemble =
    count-alike (λ b. is_writable bookies stopped b && not (is_in (in_order ensemble) b)) (λ b. is_writable bookies stopped b && not (is_in ensemble b))
    bookies.names (λ b. ap (λ there. is_writable bookies stopped b && not there) (is_in-in_order ensemble b)) in
    λ i. count-in_order (λ b. not (is_up bookies stopped b)) ensemble once i - same i

pub replaceable-in_order : (bookies : Bookies) (question : Question) (stopped : ℕ → Bool) (ensemble : List ℕ) → EachOnce ensemble
    → breaks_replaceable bookies question stopped (in_order ensemble) ≡ breaks_replaceable bookies question stopped ensemble
replaceable-in_order bookies question stopped ensemble once =
    λ i. question.for_good && nat_lt (unplaced-in_order bookies none ensemble once i) (unplaced-in_order bookies stopped ensemble once i)

module _ (holders : List ℕ) (ledgers : List Ledger) (bookies : Bookies) (question : Question) (not_judged : ℕ) (stopped : ℕ → Bool)
    (goes : is_yes (answer_on (counting_of holders ledgers) bookies question not_judged stopped) ≡ true) where
  zero-all : IsAllZero (numbers_on (counting_of holders ledgers) bookies question not_judged stopped)
  zero-all = yes-zero (numbers_on (counting_of holders ledgers) bookies question not_judged stopped) goes

  pub yes-readable : (g : Ledger) (f : Fragment) (entry : ℕ) (holds : ℕ → Bool) → IsEntry ledgers g f entry
      → 1 ≤ length (completion (class_of holders g f entry) holds) → 1 ≤ left stopped (completion (class_of holders g f entry) holds)
  yes-readable g f entry holds is =
      let class : Class = class_of holders g f entry in
      let worst : may_lose stopped class ≡ false =
      sure (loses stopped class) (may_lose stopped class) (entry-fails holders ledgers (loses stopped) g f entry zero-all.readable_no is)
      (entry-fails holders ledgers (not_sure (loses stopped) (may_lose stopped)) g f entry zero-all.readable_unknown is) in
      some_left (length (completion class holds)) (left stopped (completion class holds))
      (implied (breaks_readable stopped (completion class holds)) (may_lose stopped class) (readable-some stopped holds class) worst)

  pub yes-kept : (g : Ledger) (f : Fragment) (entry : ℕ) (holds : ℕ → Bool) → IsEntry ledgers g f entry
      → min (length (completion (class_of holders g f entry) holds)) (copies_to_keep question.keep g.ack_quorum)
      ≤ left stopped (completion (class_of holders g f entry) holds)
  yes-kept g f entry holds is =
      let class : Class = class_of holders g f entry in
      let worst : may_fall question.keep stopped class ≡ false =
      sure (falls question.keep stopped class) (may_fall question.keep stopped class)
      (entry-fails holders ledgers (falls question.keep stopped) g f entry zero-all.kept_no is)
      (entry-fails holders ledgers (not_sure (falls question.keep stopped) (may_fall question.keep stopped)) g f entry zero-all.kept_unknown is) in
      enough_left (left stopped (completion class holds)) (min (length (completion class holds)) (copies_to_keep question.keep g.ack_quorum))
      (implied (breaks_kept (copies_to_keep question.keep g.ack_quorum) stopped (completion class holds)) (may_fall question.keep stopped class)
      (kept-some (copies_to_keep question.keep g.ack_quorum) stopped holds class) worst)

  pub yes-disks : (g : Ledger) (f : Fragment) (entry : ℕ) (holds : ℕ → Bool) → IsEntry ledgers g f entry
      → list_any (takes_disk bookies question stopped) bookies.names ≡ true
      → copies_to_keep question.keep g.ack_quorum ≤ left stopped (completion (class_of holders g f entry) holds)
  yes-disks g f entry holds is goes_disk =
      let class : Class = class_of holders g f entry in
      let short : nat_lt (length class.known) (copies_to_keep question.keep g.ack_quorum) ≡ false =
      first_not (nat_lt (length class.known) (copies_to_keep question.keep g.ack_quorum)) (list_any (takes_disk bookies question stopped) bookies.names)
      (entry-fails holders ledgers (needs_disk bookies question stopped) g f entry zero-all.disks is) goes_disk in
      kept_all (length class.known) (length (completion class holds)) (copies_to_keep question.keep g.ack_quorum) (left stopped (completion class holds)) short
      (omega (arith, length-append class.known (filter holds class.untold))) (yes-kept g f entry holds is)

  tail-fails : (test : Tail → Bool) (g : Ledger) (tail : Tail) → count_tails ledgers test ≡ 0 → Contains ledgers g → Contains (tail_of g) tail
      → test tail ≡ false
  tail-fails test g tail none at here = fails_for test (tail_of g) tail here (none_for (λ g. count_by test (tail_of g)) ledgers g at none)

  pub yes-recoverable : (g : Ledger) (tail : Tail) → Contains ledgers g → Contains (tail_of g) tail
      → breaks_recoverable bookies question stopped tail ≡ false
  yes-recoverable g tail = tail-fails (breaks_recoverable bookies question stopped) g tail zero-all.recoverable

  pub yes-writable : (g : Ledger) (tail : Tail) → Contains ledgers g → Contains (tail_of g) tail
      → breaks_writable bookies question stopped tail ≡ false
  yes-writable g tail =
      tail-fails (breaks_writable bookies question stopped) g tail (omega (arith, zero-all.writable))

  pub yes-new_ledgers : breaks_new_ledgers bookies question stopped ≡ false
  yes-new_ledgers = fails (breaks_new_ledgers bookies question stopped) (omega (arith, zero-all.writable))

  ensemble-fails : (g : Ledger) (f : Fragment) → Contains ledgers g → Contains g.fragments f
      → breaks_replaceable bookies question stopped (in_order f.ensemble) ≡ false
  ensemble-fails g f at here =
      fails_for (λ f. breaks_replaceable bookies question stopped (in_order f.ensemble)) g.fragments f here
      (none_for (λ g. count_by (λ f. breaks_replaceable bookies question stopped (in_order f.ensemble)) g.fragments) ledgers g at zero-all.replaceable)

  pub yes-replaceable : (g : Ledger) (f : Fragment) → Contains ledgers g → Contains g.fragments f → EachOnce f.ensemble
      → breaks_replaceable bookies question stopped f.ensemble ≡ false
  yes-replaceable g f at here once = sym (replaceable-in_order bookies question stopped f.ensemble once) ∙ ensemble-fails g f at here

  pub yes-judged : not_judged ≡ 0
  yes-judged = zero-all.not_judged
