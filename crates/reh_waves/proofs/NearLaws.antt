-- What the stop of bookies breaks, by the part of a census that names them.
use Rattle.std.proofs.Common.{◌≡◌, ◌∙◌, ◌<◌, ◌≤◌, ◌+◌, ◌-◌, ◌%◌, ◌/◌, ◌&&◌, ◌||◌, not, cond, ℕ, Bool, true, false, All, List, [], ◌∷◌, Option, Some, None}
use Rattle.std.proofs.Common.{length, refl, ap, sym, nat_lt, nat_le, get_or, arith, true≢false, inl, inr}
use Rattle.std.specs.Prelude.{count_by, sum_by, min, ◌==◌, slice_index}
use Rattle.std.specs.List.{list_any, list_all}
use Rattle.std.specs.Option.{option_map_or}
use Rattle.std.proofs.lemmas.Bool.{cases_lt}
use Rattle.std.proofs.lemmas.Bool.Decides.{nat_tests}
use Rattle.std.proofs.lemmas.List.Elements.{All-head, All-tail}
use Rattle.std.proofs.lemmas.List.Folds.{list_any_at}
use Rattle.std.proofs.lemmas.List.Sums.{count_by-le-length, sum_by-cons}
use Rattle.reh_census.specs.Answers.{IsAllZero, numbers_on}
use Rattle.reh_census.specs.Bookies.{Bookies, bookies_of, is_holder, is_holder_left, is_up, is_writable, none, writable}
use Rattle.reh_census.specs.Copies.{IsPart, is_in, left}
use Rattle.reh_census.specs.Counting.{Census, count_ensembles_in, count_in, count_tails_in, counting_in, not_judged}
use Rattle.reh_census.specs.Rules.{copies_to_keep, falls, loses, may_fall, may_lose, not_sure}
use Rattle.reh_census.specs.Striping.{index_at, range}
use Rattle.reh_census.specs.Tails.{IsTail, all_keep_members, blocks_recovery, breaks_new_ledgers, breaks_recoverable, breaks_replaceable, breaks_writable, is_at_stake, is_new, is_stuck, keeps_members, lacks_acks, lacks_bookies, lacks_ensemble, lacks_racks, loses_ensemble, members, members_to_keep, needs_disk, takes_disk, takes_refilled, unplaced}
use Rattle.reh_census.specs.declared.bookies.Bookie.{Bookie}
use Rattle.reh_census.specs.declared.censuses.CountedEnsemble.{CountedEnsemble}
use Rattle.reh_census.specs.declared.censuses.CountedTail.{CountedTail}
use Rattle.reh_census.specs.declared.censuses.Tail.{Tail}
use Rattle.reh_census.specs.declared.classes.Class.{Class}
use Rattle.reh_census.specs.declared.classes.Counted.{Counted}
use Rattle.reh_census.specs.declared.questions.Keep.{Keep}
use Rattle.reh_census.specs.declared.questions.Question.{Question}
use Rattle.reh_census.proofs.CountLaws.{cond_le, cond_mono, count-cons, count-le, count-split, sum-le-plus}
use Rattle.reh_census.proofs.RangeLaws.{all_pass, count-same, sum-none, sum-one}
use Rattle.reh_census.proofs.RuleLaws.{kept-worst}
use Rattle.reh_rules.proofs.EntryLaws.{best-counts, best-reading, worst-reading}
use Rattle.reh_waves.specs.Near.{AreLargest, IsEnough, IsLocal, IsNear, has_places, is_local, names_class, names_tail}
use Rattle.reh_waves.specs.Waves.{answer_in, goes}
use Rattle.reh_census.proofs.AnswerLaws.{yes-zero}
use Rattle.reh_waves.proofs.RiskLaws.{count-mapped}

-- Counts of what passes one test, by another

split_one : (a b : Bool) (n m k : ℕ) → cond a n 0 + (m + k) ≡ (cond (a && b) n 0 + m) + (cond (a && not b) n 0 + k)
split_one true true n m k = omega arith
split_one true false n m k = omega arith
split_one false true n m k = omega arith
split_one false false n m k = omega arith

sum-split : {X : Type 0} (count : X → ℕ) (p q : X → Bool) (xs : List X)
    → sum_by (λ x. cond (p x) (count x) 0) xs
    ≡ sum_by (λ x. cond (p x && q x) (count x) 0) xs + sum_by (λ x. cond (p x && not (q x)) (count x) 0) xs
sum-split count p q [] = refl
sum-split count p q (x ∷ xs) =
    sum_by-cons (λ x. cond (p x) (count x) 0) x xs
    ∙ ap (λ n. cond (p x) (count x) 0 + n) (sum-split count p q xs)
    ∙ split_one (p x) (q x) (count x) (sum_by (λ x. cond (p x && q x) (count x) 0) xs) (sum_by (λ x. cond (p x && not (q x)) (count x) 0) xs)
    ∙ (λ i. sym (sum_by-cons (λ x. cond (p x && q x) (count x) 0) x xs) i + sym (sum_by-cons (λ x. cond (p x && not (q x)) (count x) 0) x xs) i)

-- of elements that have a property, what passes a test passes a wider one
sum-implied : {X : Type 0} (P : X → Type 0) (count : X → ℕ) (p q : X → Bool) (xs : List X) → All P xs
    → ((x : X) → P x → p x ≡ true → q x ≡ true)
    → sum_by (λ x. cond (p x) (count x) 0) xs ≤ sum_by (λ x. cond (q x) (count x) 0) xs
sum-implied P count p q [] each implies = omega arith
sum-implied P count p q (x ∷ xs) each implies =
    omega (
      arith,
      sum_by-cons (λ x. cond (p x) (count x) 0) x xs,
      sum_by-cons (λ x. cond (q x) (count x) 0) x xs,
      cond_mono (p x) (q x) (count x) (implies x (All-head P x xs each)),
      sum-implied P count p q xs (All-tail P x xs each) implies,
    )

sum-never : {X : Type 0} (count : X → ℕ) (xs : List X) → sum_by (λ x. cond false (count x) 0) xs ≡ 0
sum-never count [] = refl
sum-never count (x ∷ xs) = omega (arith, sum_by-cons (λ x. cond false (count x) 0) x xs, sum-never count xs)

first_of : (a b : Bool) → (a && b) ≡ true → a ≡ true
first_of true b is = refl
first_of false b is = is

second_not : (a b : Bool) → (a && not b) ≡ true → b ≡ false
second_not true true is = sym is
second_not true false is = refl
second_not false true is = absurd (true≢false (sym is))
second_not false false is = refl

or_first : (a b : Bool) → (a || b) ≡ false → a ≡ false
or_first true b is = is
or_first false b is = refl

or_second : (a b : Bool) → (a || b) ≡ false → b ≡ false
or_second true b is = absurd (true≢false is)
or_second false b is = is

and_false : (a : Bool) → (a && false) ≡ false
and_false true = refl
and_false false = refl

or_false : (a b : Bool) → b ≡ false → (a || b) ≡ true → a ≡ true
or_false true b off is = refl
or_false false b off is = absurd (true≢false (sym is ∙ off))

-- entries of classes that aren't named break what they broke without these bookies
near-entries : (census near : Census) (among : ℕ → Bool) (p q : Class → Bool) → IsNear census near among
    → ((class : Class) → names_class among class ≡ false → p class ≡ q class)
    → count_in census.entries q ≡ 0
    → count_in near.entries p ≡ count_in census.entries p
near-entries census near among p q n same zero =
    let less : count_in census.entries (λ class. p class && not (names_class among class)) ≤ count_in census.entries q =
    sum-implied (λ (c : Counted). Unit {0}) (λ (c : Counted). c.count) (λ c. p c.class && not (names_class among c.class)) (λ c. q c.class) census.entries
    (λ k d below. tt)
    (λ c u is. sym (same c.class (second_not (p c.class) (names_class among c.class) is)) ∙ first_of (p c.class) (not (names_class among c.class)) is) in
    omega (
      arith,
      n.entries p,
      sum-split (λ (c : Counted). c.count) (λ c. p c.class) (λ c. names_class among c.class) census.entries,
      less,
      zero,
    )

near-tails : (census near : Census) (among : ℕ → Bool) (p q : Tail → Bool) (P : CountedTail → Type 0) → IsNear census near among
    → All P census.tails
    → ((t : CountedTail) → P t → names_tail among t.tail ≡ false → p t.tail ≡ true → q t.tail ≡ true)
    → count_tails_in census.tails q ≡ 0
    → count_tails_in near.tails p ≡ count_tails_in census.tails p
near-tails census near among p q P n each implies zero =
    let less : count_tails_in census.tails (λ tail. p tail && not (names_tail among tail)) ≤ count_tails_in census.tails q =
    sum-implied P (λ (t : CountedTail). t.count) (λ t. p t.tail && not (names_tail among t.tail)) (λ t. q t.tail) census.tails each
    (λ t has is. implies t has (second_not (p t.tail) (names_tail among t.tail) is) (first_of (p t.tail) (not (names_tail among t.tail)) is)) in
    omega (
      arith,
      n.tails p,
      sum-split (λ (t : CountedTail). t.count) (λ t. p t.tail) (λ t. names_tail among t.tail) census.tails,
      less,
      zero,
    )

-- Bookies that aren't named

same_by : (s b a : Bool) → (b ≡ true → s ≡ true) → (s ≡ true → (b || a) ≡ true) → a ≡ false → s ≡ b
same_by true true a part within off = refl
same_by true false a part within off = absurd (true≢false (sym (within refl) ∙ off))
same_by false true a part within off = part refl
same_by false false a part within off = refl

module _ (base stopped among : ℕ → Bool) (part : IsPart base stopped) (within : (b : ℕ) → stopped b ≡ true → (base b || among b) ≡ true) where
  pub same-at : (b : ℕ) → among b ≡ false → stopped b ≡ base b
  same-at b off = same_by (stopped b) (base b) (among b) (part b) (within b) off

  agree : (f : Bool → Bool) (xs : List ℕ) → list_any among xs ≡ false → count_by (λ b. f (stopped b)) xs ≡ count_by (λ b. f (base b)) xs
  agree f [] off = refl
  agree f (x ∷ xs) off =
      count-cons (λ b. f (stopped b)) x xs
      ∙ (λ i. cond (f (same-at x (or_first (among x) (list_any among xs) off) i)) 1 0 + agree f xs (or_second (among x) (list_any among xs) off) i)
      ∙ sym (count-cons (λ b. f (base b)) x xs)

  module _ (class : Class) (off : names_class among class ≡ false) where
    known-left : left stopped class.known ≡ left base class.known
    known-left = agree not class.known (or_first (list_any among class.known) (list_any among class.untold) off)

    untold-left : left stopped class.untold ≡ left base class.untold
    untold-left = agree not class.untold (or_second (list_any among class.known) (list_any among class.untold) off)

    untold-stops : count_by stopped class.untold ≡ count_by base class.untold
    untold-stops = agree (λ b. b) class.untold (or_second (list_any among class.known) (list_any among class.untold) off)

    pub loses-same : loses stopped class ≡ loses base class
    loses-same =
        best-reading stopped class
        ∙ (λ i. nat_lt (known-left i + untold-left i) (min (length class.known + untold-left i) 1))
        ∙ sym (best-reading base class)

    pub may_lose-same : may_lose stopped class ≡ may_lose base class
    may_lose-same =
        worst-reading stopped class
        ∙ (λ i. nat_lt (known-left i) (min (length class.known + untold-stops i) 1))
        ∙ sym (worst-reading base class)

    pub falls-same : (keep : Keep) → falls keep stopped class ≡ falls keep base class
    falls-same keep =
        best-counts (copies_to_keep keep class.ack_quorum) stopped class
        ∙ (λ i. nat_lt (known-left i + untold-left i) (min (length class.known + untold-left i) (copies_to_keep keep class.ack_quorum)))
        ∙ sym (best-counts (copies_to_keep keep class.ack_quorum) base class)

    pub may_fall-same : (keep : Keep) → may_fall keep stopped class ≡ may_fall keep base class
    may_fall-same keep =
        kept-worst (copies_to_keep keep class.ack_quorum) stopped class
        ∙ (λ i. nat_lt (known-left i) (min (length class.known + untold-stops i) (copies_to_keep keep class.ack_quorum)))
        ∙ sym (kept-worst (copies_to_keep keep class.ack_quorum) base class)

  module _ (bookies : Bookies) (question : Question) (tail : Tail) (formed : IsTail tail) (off : names_tail among tail ≡ false) where
    member-off : (entry rank : ℕ) → among (slice_index tail.ensemble (index_at entry tail.size rank)) ≡ false
    member-off entry rank =
        by (among (slice_index tail.ensemble (index_at entry tail.size rank))) refl where
          some : 1 ≤ tail.size
          some = omega (arith, formed.some_acks, formed.acks_within, formed.writes_within)

          below : (entry + rank) % tail.size < length tail.ensemble
          below = omega (arith, some, formed.whole)

          by : (t : Bool) → among (slice_index tail.ensemble (index_at entry tail.size rank)) ≡ t → t ≡ false
          by true is = sym (list_any_at among tail.ensemble (index_at entry tail.size rank) 0 below is) ∙ off
          by false is = refl

    count-members : (p : ℕ → Bool) (entry : ℕ)
        → count_by p (members tail entry)
        ≡ count_by (λ r. p (slice_index tail.ensemble (index_at entry tail.size r))) (range 0 tail.write_quorum)
    count-members p entry =
        count-mapped p (λ i. slice_index tail.ensemble i) (Rattle.reh_census.specs.Striping.write_set entry tail.size tail.write_quorum)
        ∙ count-mapped (λ i. p (slice_index tail.ensemble i)) (index_at entry tail.size) (range 0 tail.write_quorum)

    at-stake : (entry : ℕ)
        → count_by (is_at_stake bookies question stopped) (members tail entry) ≡ count_by (is_at_stake bookies question base) (members tail entry)
    at-stake entry =
        count-members (is_at_stake bookies question stopped) entry
        ∙ (λ i. count_by (λ r. let b = slice_index tail.ensemble (index_at entry tail.size r) in
        is_holder bookies b || ((question.for_good && (same-at b (member-off entry r) i && not (bookies.is_registered b)))
        || (same-at b (member-off entry r) i && (bookies.is_registered b && bookies.is_empty b)))) (range 0 tail.write_quorum))
        ∙ sym (count-members (is_at_stake bookies question base) entry)

    holders-left : (entry : ℕ)
        → count_by (is_holder_left bookies stopped) (members tail entry) ≡ count_by (is_holder_left bookies base) (members tail entry)
    holders-left entry =
        count-members (is_holder_left bookies stopped) entry
        ∙ (λ i. count_by (λ r. let b = slice_index tail.ensemble (index_at entry tail.size r) in
        is_holder bookies b && not (same-at b (member-off entry r) i)) (range 0 tail.write_quorum))
        ∙ sym (count-members (is_holder_left bookies base) entry)

    keeps-same : all_keep_members bookies question stopped tail ≡ all_keep_members bookies question base tail
    keeps-same =
        λ i. list_all (λ entry. nat_le (min (at-stake entry i) (members_to_keep question tail)) (holders-left entry i)) (range 0 tail.size)

    not_new : (before after : Bool) → after ≡ false → is_new before after ≡ false
    not_new before true off = absurd (true≢false off)
    not_new before false off = refl

    not_stuck : lacks_bookies bookies stopped tail.size ≡ false → is_stuck bookies stopped tail ≡ false
    not_stuck room = ap (λ t. t && list_any (lacks_acks bookies stopped tail) (range 0 tail.size)) room

    wider : (a b : Bool) → a ≡ true → (a || b) ≡ true
    wider true b is = refl
    wider false b is = absurd (true≢false (sym is))

    pub recoverable-same : lacks_bookies bookies stopped tail.size ≡ false
        → breaks_recoverable bookies question stopped tail ≡ true → breaks_recoverable bookies question base tail ≡ true
    recoverable-same room breaks =
        let blocked : Bool = not question.allow_blocked_recovery in
        let found : lacks_ensemble bookies stopped tail ≡ false = ap (λ t. not tail.is_open && t) room ∙ and_false (not tail.is_open) in
        let quiet : (blocked && blocks_recovery bookies stopped tail) ≡ false =
        (λ i. blocked
        && (not_new (is_stuck bookies none tail) (is_stuck bookies stopped tail) (not_stuck room) i
        || not_new (lacks_ensemble bookies none tail) (lacks_ensemble bookies stopped tail) found i))
        ∙ and_false blocked in
        wider (not (all_keep_members bookies question base tail)) (blocked && blocks_recovery bookies base tail)
        (sym (ap (λ t. not t) keeps-same)
        ∙ or_false (not (all_keep_members bookies question stopped tail)) (blocked && blocks_recovery bookies stopped tail) quiet breaks)

-- a writer finds an ensemble, where there is room
fresh : (before after : Bool) → after ≡ false → is_new before after ≡ false
fresh before true off = absurd (true≢false off)
fresh before false off = refl

pub writes-on : (bookies : Bookies) (question : Question) (stopped : ℕ → Bool) (tail : Tail)
    → lacks_bookies bookies stopped tail.size ≡ false → lacks_racks bookies question stopped ≡ false
    → breaks_writable bookies question stopped tail ≡ false
writes-on bookies question stopped tail room racks =
    (λ i. (not question.allow_blocked_writers && tail.is_open)
    && ((fresh (lacks_bookies bookies none tail.size) (lacks_bookies bookies stopped tail.size) room i
    || fresh (lacks_racks bookies question none) (lacks_racks bookies question stopped) racks i)
    || fresh (is_stuck bookies none tail) (is_stuck bookies stopped tail)
    (ap (λ t. t && list_any (lacks_acks bookies stopped tail) (range 0 tail.size)) room) i))
    ∙ and_false (not question.allow_blocked_writers && tail.is_open)

-- The numbers

no-places : (census : Census) (bookies : Bookies) (question : Question) (stopped : ℕ → Bool) → IsLocal census bookies question stopped
    → count_ensembles_in census.ensembles (breaks_replaceable bookies question stopped) ≡ 0
no-places census bookies question stopped l =
    let less : count_ensembles_in census.ensembles (breaks_replaceable bookies question stopped) ≤ count_ensembles_in census.ensembles (λ members. false) =
    sum-implied (λ (e : CountedEnsemble). breaks_replaceable bookies question stopped e.members ≡ false) (λ (e : CountedEnsemble). e.count)
    (λ e. breaks_replaceable bookies question stopped e.members) (λ e. false) census.ensembles l.places
    (λ e fails is. absurd (true≢false (sym is ∙ fails))) in
    omega (arith, less, sum-never (λ (e : CountedEnsemble). e.count) census.ensembles)

no-disk : (bookies : Bookies) (question : Question) (stopped : ℕ → Bool) (class : Class)
    → list_any (takes_disk bookies question stopped) bookies.names ≡ false → needs_disk bookies question stopped class ≡ false
no-disk bookies question stopped class off =
    ap (λ t. nat_lt (length class.known) (copies_to_keep question.keep class.ack_quorum) && t) off
    ∙ and_false (nat_lt (length class.known) (copies_to_keep question.keep class.ack_quorum))

pub near-numbers : (census near : Census) (bookies : Bookies) (question : Question) (not_judged : ℕ) (stopped : ℕ → Bool)
    → IsEnough census near bookies question stopped
    → IsLocal census bookies question stopped
    → All (λ t. IsTail t.tail) census.tails
    → numbers_on (counting_in near) bookies question not_judged stopped ≡ numbers_on (counting_in census) bookies question not_judged stopped
near-numbers census near bookies question not_judged stopped e l formed =
    let lost : count_in near.entries (loses stopped) ≡ count_in census.entries (loses stopped) =
    near-entries census near e.among (loses stopped) (loses e.base) e.near_is
    (λ class off. loses-same e.base stopped e.among e.part e.within class off) e.zero.readable_no in
    let may_be_lost : count_in near.entries (not_sure (loses stopped) (may_lose stopped)) ≡ count_in census.entries (not_sure (loses stopped) (may_lose stopped)) =
    near-entries census near e.among (not_sure (loses stopped) (may_lose stopped)) (not_sure (loses e.base) (may_lose e.base)) e.near_is
    (λ class off i. may_lose-same e.base stopped e.among e.part e.within class off i && not (loses-same e.base stopped e.among e.part e.within class off i))
    e.zero.readable_unknown in
    let fallen : count_in near.entries (falls question.keep stopped) ≡ count_in census.entries (falls question.keep stopped) =
    near-entries census near e.among (falls question.keep stopped) (falls question.keep e.base) e.near_is
    (λ class off. falls-same e.base stopped e.among e.part e.within class off question.keep) e.zero.kept_no in
    let may_be_fallen : count_in near.entries (not_sure (falls question.keep stopped) (may_fall question.keep stopped))
    ≡ count_in census.entries (not_sure (falls question.keep stopped) (may_fall question.keep stopped)) =
    near-entries census near e.among (not_sure (falls question.keep stopped) (may_fall question.keep stopped))
    (not_sure (falls question.keep e.base) (may_fall question.keep e.base)) e.near_is
    (λ class off i. may_fall-same e.base stopped e.among e.part e.within class off question.keep i
    && not (falls-same e.base stopped e.among e.part e.within class off question.keep i))
    e.zero.kept_unknown in
    let disks : count_in near.entries (needs_disk bookies question stopped) ≡ count_in census.entries (needs_disk bookies question stopped) =
    near-entries census near e.among (needs_disk bookies question stopped) (λ class. false) e.near_is
    (λ class off. no-disk bookies question stopped class l.no_disk) (sum-never (λ (c : Counted). c.count) census.entries) in
    let recoverable : count_tails_in near.tails (breaks_recoverable bookies question stopped) ≡ count_tails_in census.tails (breaks_recoverable bookies question stopped) =
    near-tails census near e.among (breaks_recoverable bookies question stopped) (breaks_recoverable bookies question e.base)
    (λ t. IsTail t.tail × (lacks_bookies bookies stopped t.tail.size ≡ false)) e.near_is
    (λ k d below. (formed k d below, l.room k d below))
    (λ t has off is. recoverable-same e.base stopped e.among e.part e.within bookies question t.tail has.0 off has.1 is)
    e.zero.recoverable in
    let writable_tails : count_tails_in near.tails (breaks_writable bookies question stopped) ≡ count_tails_in census.tails (breaks_writable bookies question stopped) =
    near-tails census near e.among (breaks_writable bookies question stopped) (λ tail. false)
    (λ t. lacks_bookies bookies stopped t.tail.size ≡ false) e.near_is l.room
    (λ t room off is. sym (writes-on bookies question stopped t.tail room l.no_racks) ∙ is)
    (sum-never (λ (t : CountedTail). t.count) census.tails) in
    let places : count_ensembles_in near.ensembles (breaks_replaceable bookies question stopped) ≡ count_ensembles_in census.ensembles (breaks_replaceable bookies question stopped) =
    ap (λ (es : List CountedEnsemble). count_ensembles_in es (breaks_replaceable bookies question stopped)) e.near_is.ensembles
    ∙ sym (no-places census bookies question stopped l) in
    λ i. record {
      readable = record { no = lost i; unknown = may_be_lost i };
      kept = record { no = fallen i; unknown = may_be_fallen i };
      recoverable = recoverable i;
      writable = writable_tails i + cond (breaks_new_ledgers bookies question stopped) 1 0;
      replaceable = places i;
      disks = disks i;
      not_judged = not_judged;
    }

-- Where there is room

not_true : (b : Bool) → not b ≡ true → b ≡ false
not_true true is = sym is
not_true false is = refl

second_of : (a b : Bool) → (a && b) ≡ true → b ≡ true
second_of true b is = is
second_of false b is = absurd (true≢false (sym is))

not_less : (n m : ℕ) → m ≤ n → nat_lt n m ≡ false
not_less n m within = grind (arith, nat_tests)

at_least : (n m : ℕ) → nat_lt n m ≡ false → m ≤ n
at_least n m off = grind (arith, nat_tests)

at_most : (n m : ℕ) → nat_le n m ≡ true → n ≤ m
at_most n m is = grind (arith, nat_tests)

equal : (x b : ℕ) → (x == b) ≡ true → x ≡ b
equal x b same = grind (arith, nat_tests)

apart : (x b n : ℕ) → n ≤ x → b < n → (x == b) ≡ false
apart x b n past below = grind (arith, nat_tests)

-- a number stands in a range once at most
once-in : (x n : ℕ) → count_by (λ b. x == b) (range 0 n) ≤ 1
once-in x n =
    elim (cases_lt x n) [
      | inl below ↦
          let one : count_by (λ b. x == b) (range 0 n) ≡ 1 = sum-one x (λ b. 1) 0 (n - 0) (omega arith) (omega (arith, below)) in
          omega (arith, one)
      | inr past ↦
          let none_is : count_by (λ b. x == b) (range 0 n) ≡ 0 =
          count-same (λ b. x == b) (λ b. false) 0 (n - 0) (λ b from below. apart x b n past (omega (arith, below)))
          ∙ sum-none (λ b. 0) (range 0 n) (λ b. refl) in
          omega (arith, none_is)
    ]

-- no more bookies are in a list than it is long
among-le : (names : List ℕ) (n : ℕ) → count_by (λ b. is_in names b) (range 0 n) ≤ length names
among-le [] n =
    let none_is : count_by (λ b. false) (range 0 n) ≡ 0 = sum-none (λ b. 0) (range 0 n) (λ b. refl) in
    omega (arith, none_is)
among-le (x ∷ names) n =
    let either : count_by (λ b. is_in (x ∷ names) b) (range 0 n)
    ≤ count_by (λ b. x == b) (range 0 n) + count_by (λ b. is_in names b) (range 0 n) =
    sum-le-plus (λ b. cond (is_in (x ∷ names) b) 1 0) (λ b. cond (x == b) 1 0) (λ b. cond (is_in names b) 1 0) (range 0 n)
    (λ b. cond_le (is_in (x ∷ names) b) (x == b) (is_in names b) 1 (λ is. is)) in
    omega (arith, either, once-in x n, among-le names n)

-- so many places find a bookie as the ensemble has, where twice as many bookies may be written to
places-found : (bookies : List Bookie) (stopped : ℕ → Bool) (ensemble : List ℕ)
    → length ensemble + length ensemble ≤ writable (bookies_of bookies) stopped
    → unplaced (bookies_of bookies) stopped ensemble ≡ 0
places-found bookies stopped ensemble twice =
    let test : ℕ → Bool = is_writable (bookies_of bookies) stopped in
    let inside : count_by (λ b. test b && is_in ensemble b) (range 0 (length bookies)) ≤ count_by (λ b. is_in ensemble b) (range 0 (length bookies)) =
    count-le (λ b. test b && is_in ensemble b) (λ b. is_in ensemble b) (range 0 (length bookies)) (λ b both. second_of (test b) (is_in ensemble b) both) in
    omega (
      arith,
      twice,
      count-split test (λ b. is_in ensemble b) (range 0 (length bookies)),
      inside,
      among-le ensemble (length bookies),
      count_by-le-length (λ b. not (is_up (bookies_of bookies) stopped b)) ensemble,
    )

places-kept : (for_good : Bool) (before after : ℕ) → (for_good ≡ true → after ≡ 0) → (for_good && nat_lt before after) ≡ false
places-kept true before after none_is = ap (λ n. nat_lt before n) (none_is refl) ∙ not_less before 0 (omega arith)
places-kept false before after none_is = refl

half : (a b : Bool) → (not a || b) ≡ true → a ≡ true → b ≡ true
half true b is good = is
half false b is good = absurd (true≢false (sym good))

pub local-by : (census : Census) (bookies : List Bookie) (question : Question) (tail ensemble : ℕ) (stopped : ℕ → Bool)
    → AreLargest census tail ensemble
    → is_local (bookies_of bookies) question tail ensemble stopped ≡ true
    → IsLocal census (bookies_of bookies) question stopped
local-by census bookies question tail ensemble stopped l is =
    let room : Bool = not (nat_lt (writable (bookies_of bookies) stopped) tail) in
    let places : Bool = has_places question ensemble (writable (bookies_of bookies) stopped) in
    let no_disks : Bool = not (list_any (takes_disk (bookies_of bookies) question stopped) (bookies_of bookies).names) in
    let racks : Bool = not (lacks_racks (bookies_of bookies) question stopped) in
    let some_room : tail ≤ writable (bookies_of bookies) stopped =
    at_least (writable (bookies_of bookies) stopped) tail
    (not_true (nat_lt (writable (bookies_of bookies) stopped) tail) (first_of room (places && (no_disks && racks)) is)) in
    let rest : (places && (no_disks && racks)) ≡ true = second_of room (places && (no_disks && racks)) is in
    let last : (no_disks && racks) ≡ true = second_of places (no_disks && racks) rest in
    record {
      no_disk = not_true (list_any (takes_disk (bookies_of bookies) question stopped) (bookies_of bookies).names) (first_of no_disks racks last);
      no_racks = not_true (lacks_racks (bookies_of bookies) question stopped) (second_of no_disks racks last);
      room = λ k d below.
          not_less (writable (bookies_of bookies) stopped) (get_or census.tails k d).tail.size
          (omega (arith, some_room, l.tails k d below));
      places = λ k d below.
          places-kept question.for_good (unplaced (bookies_of bookies) none (get_or census.ensembles k d).members)
          (unplaced (bookies_of bookies) stopped (get_or census.ensembles k d).members)
          (λ good.
          let enough : ensemble ≤ writable (bookies_of bookies) stopped / 2 =
          at_most ensemble (writable (bookies_of bookies) stopped / 2)
          (half question.for_good (nat_le ensemble (writable (bookies_of bookies) stopped / 2)) (first_of places (no_disks && racks) rest) good) in
          places-found bookies stopped (get_or census.ensembles k d).members (omega (arith, enough, l.ensembles k d below)));
    }

-- Where no bookie is stopped

left-all : (xs : List ℕ) → left none xs ≡ length xs
left-all [] = refl
left-all (x ∷ xs) = omega (arith, count-cons (λ b. not (none b)) x xs, left-all xs)

nothing-less : (m keep : ℕ) → nat_lt m (min m keep) ≡ false
nothing-less m keep = grind (arith, nat_tests)

best-none : (keep : ℕ) (class : Class)
    → nat_lt (left none class.known + left none class.untold) (min (length class.known + left none class.untold) keep) ≡ false
best-none keep class =
    (λ i. nat_lt (left-all class.known i + left none class.untold) (min (length class.known + left none class.untold) keep))
    ∙ nothing-less (length class.known + left none class.untold) keep

stops-none : (xs : List ℕ) → count_by none xs ≡ 0
stops-none xs = sum-none (λ b. 0) xs (λ b. refl)

worst-none : (keep : ℕ) (class : Class)
    → nat_lt (left none class.known) (min (length class.known + count_by none class.untold) keep) ≡ false
worst-none keep class =
    (λ i. nat_lt (left-all class.known i) (min (plus-none i) keep)) ∙ nothing-less (length class.known) keep where
      plus-none : length class.known + count_by none class.untold ≡ length class.known
      plus-none = omega (arith, stops-none class.untold)

unsure-none : (every some : Bool) → some ≡ false → (some && not every) ≡ false
unsure-none every true off = absurd (true≢false off)
unsure-none every false off = refl

nobody : (question : Question) (bookies : Bookies) (b : ℕ) → takes_disk bookies question none b ≡ false
nobody question bookies b = and_false question.for_good

any-never : (p : ℕ → Bool) (xs : List ℕ) → ((b : ℕ) → p b ≡ false) → list_any p xs ≡ false
any-never p [] never = refl
any-never p (x ∷ xs) never = λ i. never x i || any-never p xs never i

itself-not-new : (b : Bool) → is_new b b ≡ false
itself-not-new true = refl
itself-not-new false = refl

keeps-all : (n keep : ℕ) → nat_le (min n keep) n ≡ true
keeps-all n keep = grind (arith, nat_tests)

or_never : (b : Bool) → (b || false) ≡ b
or_never true = refl
or_never false = refl

and_true : (b : Bool) → (b && true) ≡ b
and_true true = refl
and_true false = refl

keeps-none : (bookies : Bookies) (question : Question) (tail : Tail) → all_keep_members bookies question none tail ≡ true
keeps-none bookies question tail =
    all_pass (keeps_members bookies question none tail) 0 (tail.size - 0)
    (λ entry from below.
    (λ i. nat_le (min (count_by (λ b. (ap (λ t. is_holder bookies b || (t || takes_refilled bookies none b)) (nobody question bookies b) ∙ or_never (is_holder bookies b)) i) (members tail entry))
    (members_to_keep question tail))
    (count_by (λ b. and_true (is_holder bookies b) i) (members tail entry)))
    ∙ keeps-all (count_by (is_holder bookies) (members tail entry)) (members_to_keep question tail))

recoverable-none : (bookies : Bookies) (question : Question) (tail : Tail) → breaks_recoverable bookies question none tail ≡ false
recoverable-none bookies question tail =
    (λ i. not (keeps-none bookies question tail i)
    || (not question.allow_blocked_recovery
    && (itself-not-new (is_stuck bookies none tail) i || itself-not-new (lacks_ensemble bookies none tail) i)))
    ∙ and_false (not question.allow_blocked_recovery)

loses_none : (bookies : Bookies) (question : Question) (size : ℕ) → loses_ensemble bookies question none size ≡ false
loses_none bookies question size =
    λ i. itself-not-new (lacks_bookies bookies none size) i || itself-not-new (lacks_racks bookies question none) i

writable-none : (bookies : Bookies) (question : Question) (tail : Tail) → breaks_writable bookies question none tail ≡ false
writable-none bookies question tail =
    (λ i. (not question.allow_blocked_writers && tail.is_open)
    && (loses_none bookies question tail.size i || itself-not-new (is_stuck bookies none tail) i))
    ∙ and_false (not question.allow_blocked_writers && tail.is_open)

option-never : (p : ℕ → Bool) (o : Option ℕ) → ((n : ℕ) → p n ≡ false) → option_map_or p o false ≡ false
option-never p None never = refl
option-never p (Some n) never = never n

new-none : (bookies : Bookies) (question : Question) → breaks_new_ledgers bookies question none ≡ false
new-none bookies question =
    ap (λ t. not question.allow_blocked_writers && t)
    (option-never (loses_ensemble bookies question none) question.ensemble (loses_none bookies question))
    ∙ and_false (not question.allow_blocked_writers)

never-entries : (entries : List Counted) (test : Class → Bool) → ((class : Class) → test class ≡ false) → count_in entries test ≡ 0
never-entries entries test never =
    ap (λ (t : Class → Bool). count_in entries t) (λ i class. never class i) ∙ sum-never (λ (c : Counted). c.count) entries

never-tails : (all : List CountedTail) (test : Tail → Bool) → ((tail : Tail) → test tail ≡ false) → count_tails_in all test ≡ 0
never-tails all test never =
    ap (λ (t : Tail → Bool). count_tails_in all t) (λ i tail. never tail i) ∙ sum-never (λ (t : CountedTail). t.count) all

never-ensembles : (all : List CountedEnsemble) (test : List ℕ → Bool) → ((names : List ℕ) → test names ≡ false) → count_ensembles_in all test ≡ 0
never-ensembles all test never =
    ap (λ (t : List ℕ → Bool). count_ensembles_in all t) (λ i names. never names i) ∙ sum-never (λ (e : CountedEnsemble). e.count) all

-- nothing is broken where no bookie is stopped
pub none-zero : (census : Census) (bookies : Bookies) (question : Question) → IsAllZero (numbers_on (counting_in census) bookies question 0 none)
none-zero census bookies question =
    let lost : (class : Class) → loses none class ≡ false = λ class. best-reading none class ∙ best-none 1 class in
    let may_be_lost : (class : Class) → may_lose none class ≡ false = λ class. worst-reading none class ∙ worst-none 1 class in
    let fallen : (class : Class) → falls question.keep none class ≡ false =
    λ class. best-counts (copies_to_keep question.keep class.ack_quorum) none class ∙ best-none (copies_to_keep question.keep class.ack_quorum) class in
    let may_be_fallen : (class : Class) → may_fall question.keep none class ≡ false =
    λ class. kept-worst (copies_to_keep question.keep class.ack_quorum) none class ∙ worst-none (copies_to_keep question.keep class.ack_quorum) class in
    record {
      readable_no = never-entries census.entries (loses none) lost;
      readable_unknown =
          never-entries census.entries (not_sure (loses none) (may_lose none)) (λ class. unsure-none (loses none class) (may_lose none class) (may_be_lost class));
      kept_no = never-entries census.entries (falls question.keep none) fallen;
      kept_unknown =
          never-entries census.entries (not_sure (falls question.keep none) (may_fall question.keep none))
          (λ class. unsure-none (falls question.keep none class) (may_fall question.keep none class) (may_be_fallen class));
      recoverable = never-tails census.tails (breaks_recoverable bookies question none) (recoverable-none bookies question);
      writable =
          omega (
            arith,
            never-tails census.tails (breaks_writable bookies question none) (writable-none bookies question),
            ap (λ (t : Bool). cond {A = ℕ} t 1 0) (new-none bookies question),
          );
      replaceable =
          never-ensembles census.ensembles (breaks_replaceable bookies question none)
          (λ names. ap (λ t. question.for_good && t) (not_less (unplaced bookies none names) (unplaced bookies none names) (omega arith)) ∙ and_false question.for_good);
      disks =
          never-entries census.entries (needs_disk bookies question none)
          (λ class. no-disk bookies question none class (any-never (takes_disk bookies question none) bookies.names (nobody question bookies)));
      not_judged = refl;
    }

-- nor where the answer is a yes
pub yes-none : (census : Census) (bookies : Bookies) (question : Question) (stopped : ℕ → Bool)
    → goes (answer_in census bookies question) stopped ≡ true
    → IsAllZero (numbers_on (counting_in census) bookies question 0 stopped)
yes-none census bookies question stopped goes_is =
    let z : IsAllZero (numbers_on (counting_in census) bookies question (not_judged census.judged) stopped) =
    yes-zero (numbers_on (counting_in census) bookies question (not_judged census.judged) stopped) goes_is in
    record {
      readable_no = z.readable_no;
      readable_unknown = z.readable_unknown;
      kept_no = z.kept_no;
      kept_unknown = z.kept_unknown;
      recoverable = z.recoverable;
      writable = z.writable;
      replaceable = z.replaceable;
      disks = z.disks;
      not_judged = refl;
    }
