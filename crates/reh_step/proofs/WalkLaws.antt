-- Where a recovery ends, and what it answers of the entries of the last fragment up to there.
use Rattle.std.proofs.Common.{◌≡◌, ◌∙◌, ◌<◌, ◌≤◌, ◌+◌, ◌-◌, ◌%◌, true, false, Bool, List, [], ◌∷◌, ℕ, zero, suc, map}
use Rattle.std.proofs.Common.{cond, not, refl, ap, sym, length, slice_index, All, None, Some, arith, subst, nat_lt}
use Rattle.std.specs.Prelude.{count_by, min, unwrap_or}
use Rattle.std.specs.List.{filter, find, range_with_len}
use Rattle.std.proofs.Math.Nat.{mod-add-mod, mod-le}
use Rattle.std.proofs.lemmas.Bool.Decides.{nat_tests}
use Rattle.std.proofs.lemmas.List.Elements.{All-head, All-tail}
use Rattle.std.proofs.lemmas.List.Sums.{length-filter, sum_by-cons}
use Rattle.std.proofs.lemmas.Nat.{mod_below}
use Rattle.reh_types.specs.declared.limits.TheConstants.{ENTRY_END}
use Rattle.reh_types.specs.declared.refusals.Refusal.TheVariants.{TooFew, Undecided}
use Rattle.reh_model.specs.Striping.{index_at, is_striped, range, rank_of, striped_entries, write_set}
use Rattle.reh_model.specs.Metadata.{Fragment, Metadata, IsMetadata, last_fragment, writes}
use Rattle.reh_model.specs.Cluster.{Cluster, Ledger, is_up, is_readable}
use Rattle.reh_model.specs.WellFormed.{IsWellFormed}
use Rattle.reh_model.specs.Recovery.{up_writes, recovered_end}
use Rattle.reh_model.specs.Checks.{first_reason, reason_if}
use Rattle.reh_model.specs.Refusals.{too_few, undecided}
use Rattle.reh_model.proofs.CheckLaws.{first_reason-only}
use Rattle.reh_model.proofs.Ranges.{IsFirst-found}
use Rattle.reh_model.proofs.RecoveryLaws.{IsHeld-readable, readable_before_end, recovered_end-is, too_few-first, too_few-none}
use Rattle.reh_model.proofs.StripingLaws.{is_striped-rank_of, map-index_at-rest}
use Rattle.reh_model.proofs.WellFormedLaws.{held_below}
use Rattle.reh_scan.proofs.ReadingLaws.{write_set_within}
use Rattle.reh_step.specs.Marks.{is_marked}

-- Members and entries

-- an entry that can be read is one that there can be
pub readable_below : (s : Cluster) (g : Ledger) (fragment : Fragment) (e : ℕ) → IsWellFormed s
    → is_readable s g fragment e ≡ true → e < ENTRY_END
readable_below s g fragment e was is = held_below s g.id e was (IsHeld-readable s g fragment e is)

-- as many indexes pass a test as elements at them pass another, where both give the same answers
count_same : (p q : ℕ → Bool) (at : ℕ → ℕ) (size : ℕ) → ((i : ℕ) → i < size → q i ≡ p (at i)) → (is : List ℕ)
    → All (λ i. i < size) is → count_by p (map at is) ≡ count_by q is
count_same p q at size same [] within = refl
count_same p q at size same (i ∷ is) within =
    sum_by-cons (λ x. cond (p x) 1 0) (at i) (map at is)
    ∙
    (λ j. cond (sym (same i (All-head (λ k. k < size) i is within)) j) 1 0 + count_same p q at size same is (All-tail (λ k. k < size) i is within) j)
    ∙ sym (sum_by-cons (λ x. cond (q x) 1 0) i is)

-- the registered members of a write set of the last fragment are as many as its indexes that are marked
pub up_writes-marked : (s : Cluster) (g : Ledger) (fragment : Fragment) (marks : List Bool) (m : Metadata)
    → fragment ≡ last_fragment g.metadata → m ≡ g.metadata → IsMetadata g.metadata
    → ((index : ℕ) → index < g.metadata.size → is_marked marks index ≡ is_up s (slice_index fragment.ensemble index))
    → (entry : ℕ) → length (up_writes s g entry) ≡ count_by (is_marked marks) (write_set entry m.size m.write_quorum)
up_writes-marked s g fragment marks m last same_metadata rules_of same entry =
    ap (λ (x : Fragment). length (filter (is_up s) (writes g.metadata x entry))) (sym last)
    ∙ length-filter (is_up s) (writes g.metadata fragment entry)
    ∙ count_same (is_up s) (is_marked marks) (slice_index fragment.ensemble) g.metadata.size same
    (write_set entry g.metadata.size g.metadata.write_quorum) (write_set_within g.metadata entry rules_of)
    ∙ ap (λ (m : Metadata). count_by (is_marked marks) (write_set entry m.size m.write_quorum)) (sym same_metadata)

-- Where it ends

-- an ensemble of one member carries each entry there
carries_all : (e : ℕ) → is_striped e 0 1 1 ≡ true
carries_all e = is_striped-rank_of e 0 1 1 (omega arith) (omega arith) (omega arith) ∙ first_rank where
  first_rank : nat_lt (rank_of e 0 1) 1 ≡ true
  first_rank = let rank : rank_of e 0 1 < 1 = mod_below (0 + 1 - e % 1) 1 (omega arith) in grind (arith, nat_tests, rank)

all_striped : (a n : ℕ) → filter (λ e. is_striped e 0 1 1) (range_with_len a n) ≡ range_with_len a n
all_striped a zero = refl
all_striped a (suc n) =
    ap (λ b. cond b (a ∷ filter (λ e. is_striped e 0 1 1) (range_with_len (a + 1) n)) (filter (λ e. is_striped e 0 1 1) (range_with_len (a + 1) n)))
    (carries_all a)
    ∙ ap (λ es. a ∷ es) (all_striped (a + 1) n)

-- the first entry that can't be read, of those that there can be, or the one past them
pub recovered_end-found : (s : Cluster) (g : Ledger) → IsWellFormed s → (last_fragment g.metadata).first ≤ ENTRY_END
    → unwrap_or (find (λ e. not (is_readable s g (last_fragment g.metadata) e))
    (striped_entries (last_fragment g.metadata).first ENTRY_END 0 1 1)) ENTRY_END ≡ recovered_end s g
recovered_end-found s g was below =
    let last : Fragment = last_fragment g.metadata in
    let unread : ℕ → Bool = λ e. not (is_readable s g last e) in
    let long : last.first + (ENTRY_END - last.first) ≡ ENTRY_END = omega (arith, below) in
    let found = IsFirst-found unread last.first (ENTRY_END - last.first) ENTRY_END long (ap not (past_end s g last was)) in
    ap (λ es. unwrap_or (find unread es) ENTRY_END) (all_striped last.first (ENTRY_END - last.first))
    ∙ recovered_end-is s g _ found.from (λ e from before. not_false _ (found.before e from before)) (not_true _ found.passes) where
      past_end : (s : Cluster) (g : Ledger) (fragment : Fragment) → IsWellFormed s → is_readable s g fragment ENTRY_END ≡ false
      past_end s g fragment was = unread (is_readable s g fragment ENTRY_END) refl where
        unread : (b : Bool) → is_readable s g fragment ENTRY_END ≡ b → b ≡ false
        unread false is = refl
        unread true is = let below : ENTRY_END < ENTRY_END = readable_below s g fragment ENTRY_END was is in absurd (omega (arith, below))

      not_true : (b : Bool) → not b ≡ true → b ≡ false
      not_true false is = refl
      not_true true is = cc

      not_false : (b : Bool) → not b ≡ false → b ≡ true
      not_false true is = refl
      not_false false is = cc

-- Write sets repeat

-- those of entries that are as many apart as the ensemble has members are the same
repeats : (first k size quorum : ℕ) → first ≤ k
    → write_set (first + (k - first) % size) size quorum ≡ write_set k size quorum
repeats first k size quorum from =
    let near : ℕ = first + (k - first) % size in
    let swapped : near ≡ (k - first) % size + first = omega arith in
    let whole : (k - first) + first ≡ k = omega (arith, from) in
    let same : near % size ≡ k % size =
    ap (λ n. n % size) swapped ∙ mod-add-mod (k - first) size first ∙ ap (λ n. n % size) whole in
    sym (map-index_at-rest near size (range 0 quorum))
    ∙ ap (λ (n : ℕ). map (index_at n size) (range 0 quorum)) same
    ∙ map-index_at-rest k size (range 0 quorum)

-- so what the entries up to there have, all have
pub all_enough : (s : Cluster) (g : Ledger) (end : ℕ) → 1 ≤ g.metadata.size
    → ((k : ℕ) → (last_fragment g.metadata).first ≤ k → k < min end ((last_fragment g.metadata).first + g.metadata.size)
    → g.metadata.ack_quorum ≤ length (up_writes s g k))
    → (k : ℕ) → (last_fragment g.metadata).first ≤ k → k < end → g.metadata.ack_quorum ≤ length (up_writes s g k)
all_enough s g end some near k from below =
    let last : Fragment = last_fragment g.metadata in
    let rest : ℕ = (k - last.first) % g.metadata.size in
    let less : rest < g.metadata.size = mod_below (k - last.first) g.metadata.size some in
    let within : rest ≤ k - last.first = mod-le (k - last.first) g.metadata.size in
    subst (λ (is : List ℕ). g.metadata.ack_quorum ≤ length (filter (is_up s) (map (λ i. slice_index last.ensemble i) is)))
    (repeats last.first k g.metadata.size g.metadata.write_quorum from)
    (near (last.first + rest) (omega arith) (omega (arith, less, within, below, from)))

-- Answers

-- no entry up to there has too few members
enough_tested : (s : Cluster) (g : Ledger) (e : ℕ)
    → ((k : ℕ) → (last_fragment g.metadata).first ≤ k → k < e → g.metadata.ack_quorum ≤ length (up_writes s g k))
    → (k : ℕ) → (last_fragment g.metadata).first ≤ k → k < e
    → nat_lt (length (up_writes s g k)) g.metadata.ack_quorum ≡ false
enough_tested s g e enough k from below =
    let reached : g.metadata.ack_quorum ≤ length (up_writes s g k) = enough k from below in
    grind (arith, nat_tests, reached)

-- the first entry with too few members refuses the recovery
pub stops_before_end : (s : Cluster) (g : Ledger) (e : ℕ) → (last_fragment g.metadata).first ≤ e → e < recovered_end s g
    → ((k : ℕ) → (last_fragment g.metadata).first ≤ k → k < e → g.metadata.ack_quorum ≤ length (up_writes s g k))
    → length (up_writes s g e) < g.metadata.ack_quorum
    → first_reason (too_few s g ∷ undecided s g ∷ []) ≡ Some (TooFew e)
stops_before_end s g e from before enough less =
    let lacks : nat_lt (length (up_writes s g e)) g.metadata.ack_quorum ≡ true = grind (arith, nat_tests, less) in
    ap (λ o. first_reason (o ∷ undecided s g ∷ []))
    (too_few-first s g e from (λ k first below. readable_before_end s g k first (omega (arith, below, before)))
    (enough_tested s g e enough) (readable_before_end s g e from before) lacks)

module _ (s : Cluster) (g : Ledger)
    (enough : (k : ℕ) → (last_fragment g.metadata).first ≤ k → k < recovered_end s g → g.metadata.ack_quorum ≤ length (up_writes s g k)) where
  -- where all have enough, the members at the end decide
  stops_at_end : first_reason (too_few s g ∷ undecided s g ∷ []) ≡ undecided s g
  stops_at_end =
      ap (λ o. first_reason (o ∷ undecided s g ∷ [])) (too_few-none s g (enough_tested s g (recovered_end s g) enough))
      ∙ first_reason-only (undecided s g)

  -- that it can't be told,
  pub undecided_at_end : length (up_writes s g (recovered_end s g)) < g.metadata.write_quorum - g.metadata.ack_quorum + 1
      → first_reason (too_few s g ∷ undecided s g ∷ []) ≡ Some (Undecided (recovered_end s g))
  undecided_at_end less =
      let lacks : nat_lt (length (up_writes s g (recovered_end s g))) (g.metadata.write_quorum - g.metadata.ack_quorum + 1) ≡ true =
      grind (arith, nat_tests, less) in
      stops_at_end ∙ ap (λ b. reason_if b (Undecided (recovered_end s g))) lacks

  -- or that it can
  pub decided_at_end : g.metadata.write_quorum - g.metadata.ack_quorum + 1 ≤ length (up_writes s g (recovered_end s g))
      → first_reason (too_few s g ∷ undecided s g ∷ []) ≡ None
  decided_at_end reached =
      let decides : nat_lt (length (up_writes s g (recovered_end s g))) (g.metadata.write_quorum - g.metadata.ack_quorum + 1) ≡ false =
      grind (arith, nat_tests, reached) in
      stops_at_end ∙ ap (λ b. reason_if b (Undecided (recovered_end s g))) decides
