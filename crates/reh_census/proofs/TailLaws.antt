-- Ledgers that aren't closed, writers, and places of fragments.
use Rattle.std.proofs.Common.{◌≡◌, ◌∙◌, ◌+◌, ◌-◌, ◌%◌, ◌<◌, ◌≤◌, ◌&&◌, ◌||◌, not, cond, ℕ, zero, suc, Bool, true, false, List, [], ◌∷◌, Option, None, Some}
use Rattle.std.proofs.Common.{refl, ap, sym, map, length, nat_lt, nat_le, arith, ◌⊎◌, inl, inr, true≢false}
use Rattle.std.specs.Prelude.{count_by, min, max, ◌==◌, slice_index}
use Rattle.std.specs.List.{list_all, list_any, range_with_len}
use Rattle.std.specs.Option.{option_map_or}
use Rattle.std.proofs.Math.Nat.{mod-add-mod}
use Rattle.std.proofs.lemmas.Nat.{mod_below}
use Rattle.std.proofs.lemmas.Bool.{cases_lt}
use Rattle.std.proofs.lemmas.Bool.Decides.{nat_tests}
use Rattle.reh_census.specs.declared.censuses.Tail.{Tail}
use Rattle.reh_census.specs.declared.classes.Class.{Class}
use Rattle.reh_census.specs.declared.questions.Question.{Question}
use Rattle.reh_census.specs.Bookies.{Bookies, is_holder, is_holder_left, is_up, is_writable, none, writable}
use Rattle.reh_census.specs.Copies.{IsPart, is_in}
use Rattle.reh_census.specs.Rules.{copies_to_keep}
use Rattle.reh_census.specs.Striping.{range}
use Rattle.reh_census.specs.Tails.{is_new, takes_disk, needs_disk, members, quorum_of_recovery, may_wait, members_to_keep, takes_refilled, is_at_stake, keeps_members, all_keep_members, lacks_bookies, lacks_acks, is_stuck, lacks_ensemble, blocks_recovery, breaks_recoverable, has_writable, racks, lacks_racks, loses_ensemble, breaks_writable, breaks_new_ledgers, spares, down, unplaced, breaks_replaceable}
use Rattle.reh_census.proofs.CountLaws.{any-count, cond_le, count-both, count-le, count-split, sum-le-plus}

-- Tests

pub and-first : (a b : Bool) → (a && b) ≡ true → a ≡ true
and-first true b both = refl
and-first false b both = both

pub and-second : (a b : Bool) → (a && b) ≡ true → b ≡ true
and-second true b both = both
and-second false b both = cc

pub and-both : (a b : Bool) → a ≡ true → b ≡ true → (a && b) ≡ true
and-both true b one other = other
and-both false b one other = one

-- of two tests the first, or the second, may be a wider one
pub and-wider_first : (a b other : Bool) → (a ≡ true → b ≡ true) → (a && other) ≡ true → (b && other) ≡ true
and-wider_first a b other implies both = and-both b other (implies (and-first a other both)) (and-second a other both)

pub and-wider_second : (other a b : Bool) → (a ≡ true → b ≡ true) → (other && a) ≡ true → (other && b) ≡ true
and-wider_second other a b implies both = and-both other b (and-first other a both) (implies (and-second other a both))

pub or-wider : (a b c d : Bool) → (a ≡ true → c ≡ true) → (b ≡ true → d ≡ true) → (a || b) ≡ true → (c || d) ≡ true
or-wider a b true d one other either = refl
or-wider true b false d one other either = cc (one refl)
or-wider false b false d one other either = other either

pub not-implied : (a b : Bool) → (a ≡ true → b ≡ true) → not b ≡ true → not a ≡ true
not-implied true true implies fails = fails
not-implied true false implies fails = cc (implies refl)
not-implied false b implies fails = refl

pub list_all-implied : {X : Type 0} (p q : X → Bool) (xs : List X) → ((x : X) → p x ≡ true → q x ≡ true)
    → list_all p xs ≡ true → list_all q xs ≡ true
list_all-implied p q [] implies all = refl
list_all-implied p q (x ∷ xs) implies all =
    and-both (q x) (list_all q xs) (implies x (and-first (p x) (list_all p xs) all))
    (list_all-implied p q xs implies (and-second (p x) (list_all p xs) all))

pub list_any-implied : {X : Type 0} (p q : X → Bool) (xs : List X) → ((x : X) → p x ≡ true → q x ≡ true)
    → list_any p xs ≡ true → list_any q xs ≡ true
list_any-implied p q [] implies any = any
list_any-implied p q (x ∷ xs) implies any =
    or-wider (p x) (list_any p xs) (q x) (list_any q xs) (implies x) (list_any-implied p q xs implies) any

pub option-implied : (p q : ℕ → Bool) (o : Option ℕ) → ((n : ℕ) → p n ≡ true → q n ≡ true)
    → option_map_or p o false ≡ true → option_map_or q o false ≡ true
option-implied p q None implies is = is
option-implied p q (Some n) implies is = implies n is

pub list_all-at : (p : ℕ → Bool) (a n k : ℕ) → a ≤ k → k < a + n → list_all p (range_with_len a n) ≡ true → p k ≡ true
list_all-at p a zero k from below all = absurd (omega arith)
list_all-at p a (suc n) k from below all =
    elim (cases_lt a k) [
      | inl later ↦ list_all-at p (a + 1) n k (omega arith) (omega arith) (and-second (p a) (list_all p (range_with_len (a + 1) n)) all)
      | inr here ↦ let same : k ≡ a = omega arith in ap p same ∙ and-first (p a) (list_all p (range_with_len (a + 1) n)) all
    ]

-- An entry that was acknowledged

members-rest : (tail : Tail) (entry : ℕ) → members tail (entry % tail.size) ≡ members tail entry
members-rest tail entry =
    ap (λ (f : ℕ → ℕ). map (λ i. slice_index tail.ensemble i) (map f (range 0 tail.write_quorum)))
    (λ i j. mod-add-mod entry tail.size j i)

at_most : (n m : ℕ) → nat_le n m ≡ true → n ≤ m
at_most n m is = grind (arith, nat_tests)

enough : (w a held left both : ℕ) → a ≤ held → (w - a) + 1 ≤ left → held + left ≤ w + both → nat_lt 0 both ≡ true
enough w a held left both acked there overlap = grind (arith, nat_tests)

first_fails : (a b : Bool) → (not a || b) ≡ false → a ≡ true
first_fails true b fails = refl
first_fails false b fails = sym fails

-- either so many stay as a recovery needs, or all that are at stake
stay : (stake least keep quorum left : ℕ) → least ≡ max keep quorum → nat_le (min stake least) left ≡ true
    → (nat_le quorum left || nat_le stake left) ≡ true
stay stake least keep quorum left is keeps = grind (arith, nat_tests)

either_of : (a b : Bool) → (a || b) ≡ true → (a ≡ true) ⊎ (b ≡ true)
either_of true b is = inl refl
either_of false b is = inr is

some_of : (n m k : ℕ) → n ≤ m + k → k ≡ 0 → nat_lt 0 n ≡ true → nat_lt 0 m ≡ true
some_of n m k within none some = grind (arith, nat_tests)

in_or_out : (h p q : Bool) → (h && q) ≡ true → ((h && p) || (q && not p)) ≡ true
in_or_out true true q is = refl
in_or_out true false true is = refl
in_or_out true false false is = is
in_or_out false p q is = absurd (true≢false (sym is))

-- where no fewer pass a test than a wider one, what passes the wider one passes it
all-of : (h p q : ℕ → Bool) (xs : List ℕ) → ((b : ℕ) → p b ≡ true → q b ≡ true) → count_by q xs ≤ count_by p xs
    → list_any (λ b. h b && q b) xs ≡ true → list_any (λ b. h b && p b) xs ≡ true
all-of h p q xs implies within any =
    let inside : count_by p xs ≤ count_by (λ b. q b && p b) xs =
    count-le p (λ b. q b && p b) xs (λ b is. and-both (q b) (p b) (implies b is) is) in
    let others : count_by (λ b. q b && not (p b)) xs ≡ 0 = omega (arith, within, inside, count-split q p xs) in
    let parts : count_by (λ b. h b && q b) xs ≤ count_by (λ b. h b && p b) xs + count_by (λ b. q b && not (p b)) xs =
    sum-le-plus (λ b. cond (h b && q b) 1 0) (λ b. cond (h b && p b) 1 0) (λ b. cond (q b && not (p b)) 1 0) xs
    (λ b. cond_le (h b && q b) (h b && p b) (q b && not (p b)) 1 (in_or_out (h b) (p b) (q b))) in
    any-count (λ b. h b && p b) xs
    ∙ some_of (count_by (λ b. h b && q b) xs) (count_by (λ b. h b && p b) xs) (count_by (λ b. q b && not (p b)) xs) parts others
    (sym (any-count (λ b. h b && q b) xs) ∙ any)

or-first : (a b : Bool) → a ≡ true → (a || b) ≡ true
or-first true b is = refl
or-first false b is = absurd (true≢false (sym is))

stake_or_up : (h r d e s : Bool) → (h && (r || d)) ≡ true
    → ((h && ((r && not e) || (d || (s && (r && e))))) || (h && (r && not s))) ≡ true
stake_or_up true true d false s is = refl
stake_or_up true true true true true is = refl
stake_or_up true true false true true is = refl
stake_or_up true true true true false is = refl
stake_or_up true true false true false is = refl
stake_or_up true false true e s is = refl
stake_or_up true false false e s is = absurd (true≢false (sym is))
stake_or_up false r d e s is = absurd (true≢false (sym is))

none_of : (n : ℕ) → nat_lt 0 n ≡ false → n ≡ 0
none_of n none = grind (arith, nat_tests)

module _ (bookies : Bookies) (question : Question) (stopped holds : ℕ → Bool) (tail : Tail) (entry : ℕ)
    (some : 1 ≤ tail.size)
    (whole : length (members tail entry) ≡ tail.write_quorum)
    (acked : tail.ack_quorum ≤ count_by holds (members tail entry))
    (strict : may_wait question ≡ false)
    (recovers : breaks_recoverable bookies question stopped tail ≡ false) where
  kept : (nat_le (quorum_of_recovery tail.write_quorum tail.ack_quorum) (count_by (is_holder_left bookies stopped) (members tail entry))
      || nat_le (count_by (is_at_stake bookies question stopped) (members tail entry)) (count_by (is_holder_left bookies stopped) (members tail entry))) ≡ true
  kept =
      let below : entry % tail.size < 0 + (tail.size - 0) = omega (arith, mod_below entry tail.size some) in
      let all : all_keep_members bookies question stopped tail ≡ true =
      first_fails (all_keep_members bookies question stopped tail)
      (not question.allow_blocked_recovery && blocks_recovery bookies stopped tail) recovers in
      let at_rest : keeps_members bookies question stopped tail (entry % tail.size) ≡ true =
      list_all-at (keeps_members bookies question stopped tail) 0 (tail.size - 0) (entry % tail.size) (omega arith) below all in
      let keeps : keeps_members bookies question stopped tail entry ≡ true =
      ap (λ (ms : List ℕ). nat_le (min (count_by (is_at_stake bookies question stopped) ms) (members_to_keep question tail)) (count_by (is_holder_left bookies stopped) ms))
      (sym (members-rest tail entry)) ∙ at_rest in
      let least : members_to_keep question tail
      ≡ max (copies_to_keep question.keep tail.ack_quorum) (quorum_of_recovery tail.write_quorum tail.ack_quorum) =
      ap (λ a. cond a (copies_to_keep question.keep tail.ack_quorum) (max (copies_to_keep question.keep tail.ack_quorum) (quorum_of_recovery tail.write_quorum tail.ack_quorum))) strict in
      stay (count_by (is_at_stake bookies question stopped) (members tail entry)) (members_to_keep question tail) (copies_to_keep question.keep tail.ack_quorum)
      (quorum_of_recovery tail.write_quorum tail.ack_quorum) (count_by (is_holder_left bookies stopped) (members tail entry)) least keeps

  pub acknowledged : list_any (λ b. holds b && is_at_stake bookies question stopped b) (members tail entry) ≡ true
      → list_any (λ b. holds b && is_holder_left bookies stopped b) (members tail entry) ≡ true
  acknowledged staked =
      elim (either_of (nat_le (quorum_of_recovery tail.write_quorum tail.ack_quorum) (count_by (is_holder_left bookies stopped) (members tail entry)))
      (nat_le (count_by (is_at_stake bookies question stopped) (members tail entry)) (count_by (is_holder_left bookies stopped) (members tail entry))) kept) [
        | inl there ↦
            any-count (λ b. holds b && is_holder_left bookies stopped b) (members tail entry)
            ∙ enough tail.write_quorum tail.ack_quorum (count_by holds (members tail entry)) (count_by (is_holder_left bookies stopped) (members tail entry))
            (count_by (λ b. holds b && is_holder_left bookies stopped b) (members tail entry)) acked
            (at_most (quorum_of_recovery tail.write_quorum tail.ack_quorum) (count_by (is_holder_left bookies stopped) (members tail entry)) there)
            (omega (arith, whole, count-both holds (is_holder_left bookies stopped) (members tail entry)))
        | inr all ↦
            all-of holds (is_holder_left bookies stopped) (is_at_stake bookies question stopped) (members tail entry)
            (λ b is. or-first (is_holder bookies b) (takes_disk bookies question stopped b || takes_refilled bookies stopped b) (and-first (is_holder bookies b) (not (stopped b)) is))
            (at_most (count_by (is_at_stake bookies question stopped) (members tail entry)) (count_by (is_holder_left bookies stopped) (members tail entry)) all)
            staked
      ]

  left-up : (b : ℕ) → (holds b && is_holder_left bookies stopped b) ≡ true → (holds b && is_up bookies stopped b) ≡ true
  left-up b =
      and-wider_second (holds b) (is_holder_left bookies stopped b) (is_up bookies stopped b)
      (and-wider_first (is_holder bookies b) (bookies.is_registered b) (not (stopped b)) (and-first (bookies.is_registered b) (not (bookies.is_empty b))))

  up-by : (staked : Bool) → list_any (λ b. holds b && is_at_stake bookies question stopped b) (members tail entry) ≡ staked
      → list_any (λ b. holds b && (bookies.is_registered b || takes_disk bookies question stopped b)) (members tail entry) ≡ true
      → list_any (λ b. holds b && is_up bookies stopped b) (members tail entry) ≡ true
  up-by true staked there =
      list_any-implied (λ b. holds b && is_holder_left bookies stopped b) (λ b. holds b && is_up bookies stopped b) (members tail entry) left-up (acknowledged staked)
  up-by false staked there =
      let parts : count_by (λ b. holds b && (bookies.is_registered b || takes_disk bookies question stopped b)) (members tail entry)
      ≤ count_by (λ b. holds b && is_up bookies stopped b) (members tail entry)
      + count_by (λ b. holds b && is_at_stake bookies question stopped b) (members tail entry) =
      omega (
        arith,
        sum-le-plus (λ b. cond (holds b && (bookies.is_registered b || takes_disk bookies question stopped b)) 1 0)
            (λ b. cond (holds b && is_at_stake bookies question stopped b) 1 0) (λ b. cond (holds b && is_up bookies stopped b) 1 0) (members tail entry)
            (λ b. cond_le (holds b && (bookies.is_registered b || takes_disk bookies question stopped b)) (holds b && is_at_stake bookies question stopped b)
            (holds b && is_up bookies stopped b) 1
            (stake_or_up (holds b) (bookies.is_registered b) (takes_disk bookies question stopped b) (bookies.is_empty b) (stopped b))),
      ) in
      any-count (λ b. holds b && is_up bookies stopped b) (members tail entry)
      ∙ some_of (count_by (λ b. holds b && (bookies.is_registered b || takes_disk bookies question stopped b)) (members tail entry))
      (count_by (λ b. holds b && is_up bookies stopped b) (members tail entry))
      (count_by (λ b. holds b && is_at_stake bookies question stopped b) (members tail entry)) parts
      (none_of (count_by (λ b. holds b && is_at_stake bookies question stopped b) (members tail entry))
      (sym (any-count (λ b. holds b && is_at_stake bookies question stopped b) (members tail entry)) ∙ staked))
      (sym (any-count (λ b. holds b && (bookies.is_registered b || takes_disk bookies question stopped b)) (members tail entry)) ∙ there)

  pub acknowledged-up : list_any (λ b. holds b && (bookies.is_registered b || takes_disk bookies question stopped b)) (members tail entry) ≡ true
      → list_any (λ b. holds b && is_up bookies stopped b) (members tail entry) ≡ true
  acknowledged-up = up-by (list_any (λ b. holds b && is_at_stake bookies question stopped b) (members tail entry)) refl

copies : (members : List ℕ) (holds left : ℕ → Bool) (write_quorum ack_quorum : ℕ) → length members ≡ write_quorum
    → ack_quorum ≤ write_quorum → ack_quorum ≤ count_by holds members
    → count_by left members ≤ count_by (λ b. holds b && left b) members + (write_quorum - ack_quorum)
copies members holds left write_quorum ack_quorum whole within acked = omega (arith, whole, within, acked, count-both holds left members)

pub acknowledged-copies : (bookies : Bookies) (stopped holds : ℕ → Bool) (tail : Tail) (entry : ℕ)
    → length (members tail entry) ≡ tail.write_quorum
    → tail.ack_quorum ≤ tail.write_quorum
    → tail.ack_quorum ≤ count_by holds (members tail entry)
    → count_by (is_holder_left bookies stopped) (members tail entry)
    ≤ count_by (λ b. holds b && is_holder_left bookies stopped b) (members tail entry) + (tail.write_quorum - tail.ack_quorum)
acknowledged-copies bookies stopped holds tail entry = copies (members tail entry) holds (is_holder_left bookies stopped) tail.write_quorum tail.ack_quorum

-- Parts

fewer_lacks : (fewer more least : ℕ) → fewer ≤ more → nat_lt more least ≡ true → nat_lt fewer least ≡ true
fewer_lacks fewer more least within lacks = grind (arith, nat_tests)

more_unplaced : (now s t d e : ℕ) → t ≤ s → d ≤ e → nat_lt now (d - s) ≡ true → nat_lt now (e - t) ≡ true
more_unplaced now s t d e one other lacks = grind (arith, nat_tests)

still_keeps : (stake more least left fewer : ℕ) → stake ≤ more → fewer ≤ left
    → nat_le (min more least) fewer ≡ true → nat_le (min stake least) left ≡ true
still_keeps stake more least left fewer one other keeps = grind (arith, nat_tests)

module _ (bookies : Bookies) (question : Question) (part whole : ℕ → Bool) (within : IsPart part whole) where
  is_up-part : (b : ℕ) → is_up bookies whole b ≡ true → is_up bookies part b ≡ true
  is_up-part b = and-wider_second (bookies.is_registered b) (not (whole b)) (not (part b)) (not-implied (part b) (whole b) (within b))

  is_writable-part : (b : ℕ) → is_writable bookies whole b ≡ true → is_writable bookies part b ≡ true
  is_writable-part b = and-wider_first (is_up bookies whole b) (is_up bookies part b) (not (bookies.is_read_only b)) (is_up-part b)

  is_holder_left-part : (b : ℕ) → is_holder_left bookies whole b ≡ true → is_holder_left bookies part b ≡ true
  is_holder_left-part b = and-wider_second (is_holder bookies b) (not (whole b)) (not (part b)) (not-implied (part b) (whole b) (within b))

  takes_disk-part : (b : ℕ) → takes_disk bookies question part b ≡ true → takes_disk bookies question whole b ≡ true
  takes_disk-part b =
      and-wider_second question.for_good (part b && not (bookies.is_registered b)) (whole b && not (bookies.is_registered b))
      (and-wider_first (part b) (whole b) (not (bookies.is_registered b)) (within b))

  takes_refilled-part : (b : ℕ) → takes_refilled bookies part b ≡ true → takes_refilled bookies whole b ≡ true
  takes_refilled-part b = and-wider_first (part b) (whole b) (bookies.is_registered b && bookies.is_empty b) (within b)

  is_at_stake-part : (b : ℕ) → is_at_stake bookies question part b ≡ true → is_at_stake bookies question whole b ≡ true
  is_at_stake-part b =
      or-wider (is_holder bookies b) (takes_disk bookies question part b || takes_refilled bookies part b) (is_holder bookies b)
      (takes_disk bookies question whole b || takes_refilled bookies whole b) (λ is. is)
      (or-wider (takes_disk bookies question part b) (takes_refilled bookies part b) (takes_disk bookies question whole b) (takes_refilled bookies whole b)
      (takes_disk-part b) (takes_refilled-part b))

  pub needs_disk-part : (class : Class) → needs_disk bookies question part class ≡ true → needs_disk bookies question whole class ≡ true
  needs_disk-part class =
      and-wider_second (nat_lt (length class.known) (copies_to_keep question.keep class.ack_quorum)) (list_any (takes_disk bookies question part) bookies.names) (list_any (takes_disk bookies question whole) bookies.names)
      (list_any-implied (takes_disk bookies question part) (takes_disk bookies question whole) bookies.names takes_disk-part)

  keeps_members-part : (tail : Tail) (entry : ℕ) → keeps_members bookies question whole tail entry ≡ true → keeps_members bookies question part tail entry ≡ true
  keeps_members-part tail entry =
      still_keeps (count_by (is_at_stake bookies question part) (members tail entry)) (count_by (is_at_stake bookies question whole) (members tail entry))
      (members_to_keep question tail)
      (count_by (is_holder_left bookies part) (members tail entry)) (count_by (is_holder_left bookies whole) (members tail entry))
      (count-le (is_at_stake bookies question part) (is_at_stake bookies question whole) (members tail entry) is_at_stake-part)
      (count-le (is_holder_left bookies whole) (is_holder_left bookies part) (members tail entry) is_holder_left-part)

  all_keep_members-part : (tail : Tail) → all_keep_members bookies question whole tail ≡ true → all_keep_members bookies question part tail ≡ true
  all_keep_members-part tail =
      list_all-implied (keeps_members bookies question whole tail) (keeps_members bookies question part tail) (range 0 tail.size) (keeps_members-part tail)

  writable-part : writable bookies whole ≤ writable bookies part
  writable-part = count-le (is_writable bookies whole) (is_writable bookies part) bookies.names is_writable-part

  lacks_bookies-part : (size : ℕ) → lacks_bookies bookies part size ≡ true → lacks_bookies bookies whole size ≡ true
  lacks_bookies-part size = fewer_lacks (writable bookies whole) (writable bookies part) size writable-part

  lacks_acks-part : (tail : Tail) (entry : ℕ) → lacks_acks bookies part tail entry ≡ true → lacks_acks bookies whole tail entry ≡ true
  lacks_acks-part tail entry =
      fewer_lacks (count_by (is_writable bookies whole) (members tail entry)) (count_by (is_writable bookies part) (members tail entry)) tail.ack_quorum
      (count-le (is_writable bookies whole) (is_writable bookies part) (members tail entry) is_writable-part)

  is_stuck-part : (tail : Tail) → is_stuck bookies part tail ≡ true → is_stuck bookies whole tail ≡ true
  is_stuck-part tail stuck =
      and-both (lacks_bookies bookies whole tail.size) (list_any (lacks_acks bookies whole tail) (range 0 tail.size))
      (lacks_bookies-part tail.size (and-first (lacks_bookies bookies part tail.size) (list_any (lacks_acks bookies part tail) (range 0 tail.size)) stuck))
      (list_any-implied (lacks_acks bookies part tail) (lacks_acks bookies whole tail) (range 0 tail.size) (lacks_acks-part tail)
      (and-second (lacks_bookies bookies part tail.size) (list_any (lacks_acks bookies part tail) (range 0 tail.size)) stuck))

  is_new-part : (before after later : Bool) → (after ≡ true → later ≡ true) → is_new before after ≡ true → is_new before later ≡ true
  is_new-part before after later = and-wider_first after later (not before)

  newly_stuck-part : (tail : Tail) → is_new (is_stuck bookies none tail) (is_stuck bookies part tail) ≡ true
      → is_new (is_stuck bookies none tail) (is_stuck bookies whole tail) ≡ true
  newly_stuck-part tail = is_new-part (is_stuck bookies none tail) (is_stuck bookies part tail) (is_stuck bookies whole tail) (is_stuck-part tail)

  lacks_ensemble-part : (tail : Tail) → lacks_ensemble bookies part tail ≡ true → lacks_ensemble bookies whole tail ≡ true
  lacks_ensemble-part tail =
      and-wider_second (not tail.is_open) (lacks_bookies bookies part tail.size) (lacks_bookies bookies whole tail.size) (lacks_bookies-part tail.size)

  blocks_recovery-part : (tail : Tail) → blocks_recovery bookies part tail ≡ true → blocks_recovery bookies whole tail ≡ true
  blocks_recovery-part tail =
      or-wider (is_new (is_stuck bookies none tail) (is_stuck bookies part tail)) (is_new (lacks_ensemble bookies none tail) (lacks_ensemble bookies part tail))
      (is_new (is_stuck bookies none tail) (is_stuck bookies whole tail)) (is_new (lacks_ensemble bookies none tail) (lacks_ensemble bookies whole tail))
      (newly_stuck-part tail)
      (is_new-part (lacks_ensemble bookies none tail) (lacks_ensemble bookies part tail) (lacks_ensemble bookies whole tail) (lacks_ensemble-part tail))

  pub breaks_recoverable-part : (tail : Tail) → breaks_recoverable bookies question part tail ≡ true → breaks_recoverable bookies question whole tail ≡ true
  breaks_recoverable-part tail =
      or-wider (not (all_keep_members bookies question part tail)) (not question.allow_blocked_recovery && blocks_recovery bookies part tail)
      (not (all_keep_members bookies question whole tail)) (not question.allow_blocked_recovery && blocks_recovery bookies whole tail)
      (not-implied (all_keep_members bookies question whole tail) (all_keep_members bookies question part tail) (all_keep_members-part tail))
      (and-wider_second (not question.allow_blocked_recovery) (blocks_recovery bookies part tail) (blocks_recovery bookies whole tail)
      (blocks_recovery-part tail))

  has_writable-part : (rack : ℕ) → has_writable bookies whole rack ≡ true → has_writable bookies part rack ≡ true
  has_writable-part rack =
      list_any-implied
      (λ b. is_writable bookies whole b && option_map_or (λ r. r == rack) (bookies.rack_of b) false)
      (λ b. is_writable bookies part b && option_map_or (λ r. r == rack) (bookies.rack_of b) false) bookies.names
      (λ b. and-wider_first (is_writable bookies whole b) (is_writable bookies part b) (option_map_or (λ r. r == rack) (bookies.rack_of b) false) (is_writable-part b))

  lacks_racks-part : lacks_racks bookies question part ≡ true → lacks_racks bookies question whole ≡ true
  lacks_racks-part =
      option-implied (λ least. nat_lt (racks bookies part) least) (λ least. nat_lt (racks bookies whole) least) question.min_racks
      (λ least. fewer_lacks (racks bookies whole) (racks bookies part) least
      (count-le (has_writable bookies whole) (has_writable bookies part) bookies.racks has_writable-part))

  loses_ensemble-part : (size : ℕ) → loses_ensemble bookies question part size ≡ true → loses_ensemble bookies question whole size ≡ true
  loses_ensemble-part size =
      or-wider (is_new (lacks_bookies bookies none size) (lacks_bookies bookies part size)) (is_new (lacks_racks bookies question none) (lacks_racks bookies question part))
      (is_new (lacks_bookies bookies none size) (lacks_bookies bookies whole size)) (is_new (lacks_racks bookies question none) (lacks_racks bookies question whole))
      (is_new-part (lacks_bookies bookies none size) (lacks_bookies bookies part size) (lacks_bookies bookies whole size) (lacks_bookies-part size))
      (is_new-part (lacks_racks bookies question none) (lacks_racks bookies question part) (lacks_racks bookies question whole) lacks_racks-part)

  pub breaks_writable-part : (tail : Tail) → breaks_writable bookies question part tail ≡ true → breaks_writable bookies question whole tail ≡ true
  breaks_writable-part tail =
      and-wider_second (not question.allow_blocked_writers && tail.is_open)
      (loses_ensemble bookies question part tail.size || is_new (is_stuck bookies none tail) (is_stuck bookies part tail))
      (loses_ensemble bookies question whole tail.size || is_new (is_stuck bookies none tail) (is_stuck bookies whole tail))
      (or-wider (loses_ensemble bookies question part tail.size) (is_new (is_stuck bookies none tail) (is_stuck bookies part tail))
      (loses_ensemble bookies question whole tail.size) (is_new (is_stuck bookies none tail) (is_stuck bookies whole tail))
      (loses_ensemble-part tail.size) (newly_stuck-part tail))

  pub breaks_new_ledgers-part : breaks_new_ledgers bookies question part ≡ true → breaks_new_ledgers bookies question whole ≡ true
  breaks_new_ledgers-part =
      and-wider_second (not question.allow_blocked_writers)
      (option_map_or (loses_ensemble bookies question part) question.ensemble false) (option_map_or (loses_ensemble bookies question whole) question.ensemble false)
      (option-implied (loses_ensemble bookies question part) (loses_ensemble bookies question whole) question.ensemble loses_ensemble-part)

  unplaced-part : (ensemble : List ℕ) → nat_lt (unplaced bookies none ensemble) (unplaced bookies part ensemble) ≡ true
      → nat_lt (unplaced bookies none ensemble) (unplaced bookies whole ensemble) ≡ true
  unplaced-part ensemble =
      more_unplaced (unplaced bookies none ensemble) (spares bookies part ensemble) (spares bookies whole ensemble)
      (down bookies part ensemble) (down bookies whole ensemble)
      (count-le (λ b. is_writable bookies whole b && not (is_in ensemble b)) (λ b. is_writable bookies part b && not (is_in ensemble b)) bookies.names
      (λ b. and-wider_first (is_writable bookies whole b) (is_writable bookies part b) (not (is_in ensemble b)) (is_writable-part b)))
      (count-le (λ b. not (is_up bookies part b)) (λ b. not (is_up bookies whole b)) ensemble
      (λ b. not-implied (is_up bookies whole b) (is_up bookies part b) (is_up-part b)))

  pub breaks_replaceable-part : (ensemble : List ℕ) → breaks_replaceable bookies question part ensemble ≡ true → breaks_replaceable bookies question whole ensemble ≡ true
  breaks_replaceable-part ensemble =
      and-wider_second question.for_good (nat_lt (unplaced bookies none ensemble) (unplaced bookies part ensemble))
      (nat_lt (unplaced bookies none ensemble) (unplaced bookies whole ensemble)) (unplaced-part ensemble)
