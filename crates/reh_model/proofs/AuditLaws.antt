-- What an audit publishes: bookies of the cluster, and at least one.
use Rattle.std.proofs.Common.{get_or, ◌+◌, ◌≡◌, ◌≢◌, ap, Option, ℕ, ◌<◌, Bool, true, false, not, ◌||◌, List, [], ◌∷◌, None, Some, refl, sym, ◌∙◌, true≢false, arith, length, subst}
use Rattle.std.specs.Prelude.{◌≤◌, is_none, nat_le, if◌then◌else◌, unwrap_or, slice_get}
use Rattle.std.specs.Option.{option_and_then, option_map_or}
use Rattle.std.specs.List.{All, filter, flat_map, list_any}
use Rattle.std.specs.Ordering.{nat_cmp, eq_by_cmp}
use Rattle.std.specs.Cmp.{unsigned_tied}
use Rattle.std.proofs.lemmas.Bool.Decides.{nat_tests}
use Rattle.std.proofs.lemmas.List.Elements.{All-nil, All-append, All-filter, All-head, All-tail, All-weaker}
use Rattle.std.proofs.lemmas.Option.{get_or_from_slice_get, slice_get-get_or}
use Rattle.reh_types.specs.Sets.{Set, numbers, contains, items, empty, union, from_list, is_subset, is_empty, len, contains-empty, contains-items, contains-from_list, contains-union, is_subset-contains, contains-is_subset, same_set}
use Rattle.reh_types.proofs.SetLaws.{is_empty-empty, is_empty-union, empty-from_is_empty, All-items}
use Rattle.reh_model.specs.Metadata.{Fragment}
use Rattle.reh_model.specs.Cluster.{Cluster, Ledger, is_up, task_set}
use Rattle.reh_model.specs.Audit.{members_of, missing_members, is_long_lost, long_lost_members, is_news, published_members, audited_ledger}
use Rattle.reh_model.specs.WellFormed.{IsLedger, IsWellFormed}

-- what holds of each number of a list holds of one that is found there
pub All-found : (P : ℕ → Type 0) (bs : List ℕ) → All P bs → (b : ℕ) → list_any (eq_by_cmp nat_cmp b) bs ≡ true → P b
All-found P [] all b found = absurd (true≢false (sym found))
All-found P (x ∷ bs) all b found =
    elim (eq_by_cmp nat_cmp b x) as (λ t. eq_by_cmp nat_cmp b x ≡ t → (t || list_any (eq_by_cmp nat_cmp b) bs) ≡ true → P b) [
      | true ↦ λ tied _. let same : x ≡ b = grind (arith, nat_tests, unsigned_tied b x) in subst P same (All-head P x bs all)
      | false ↦ λ _ later. All-found P bs (All-tail P x bs all) b later
    ] refl found

All-flat_map : {X : Type 0} (P : ℕ → Type 0) (f : X → List ℕ) (xs : List X) → All (λ x. All P (f x)) xs → All P (flat_map f xs)
All-flat_map P f [] all = All-nil P
All-flat_map P f (x ∷ xs) all = All-append P (f x) (flat_map f xs) (All-head (λ x. All P (f x)) x xs all) (All-flat_map P f xs (All-tail (λ x. All P (f x)) x xs all))

-- a long-lost member is a bookie of the cluster
lost_named : (s : Cluster) (g : Ledger) → IsLedger (length s.names) (s.parts.scalars.clock + s.grace) g → (b : ℕ) → contains (long_lost_members s g) b ≡ true → b < length s.names
lost_named s g was b one =
    All-found (λ b. b < length s.names) (filter (is_long_lost s) (members_of g.metadata))
    (All-filter (is_long_lost s) (λ b. b < length s.names) (members_of g.metadata) (All-flat_map (λ b. b < length s.names) (λ (fragment : Fragment). fragment.ensemble) g.metadata.fragments was.members))
    b (sym (contains-from_list numbers (filter (is_long_lost s) (members_of g.metadata)) b) ∙ one)

-- so is one that the task names
task_named : (s : Cluster) (g : Ledger) → IsLedger (length s.names) (s.parts.scalars.clock + s.grace) g → (b : ℕ) → contains (task_set g) b ≡ true → b < length s.names
task_named s g was b =
    elim g.task as (λ o. g.task ≡ o → contains (unwrap_or o empty) b ≡ true → b < length s.names) [
      | None ↦ λ _ one. absurd (true≢false (sym one ∙ contains-empty numbers b))
      | Some task ↦ λ is one. All-found (λ b. b < length s.names) (items task) (was.task task is).1 b (sym (contains-items task b) ∙ one)
    ] refl

-- what is published names bookies of the cluster
pub published_named : (s : Cluster) (g : Ledger) → IsLedger (length s.names) (s.parts.scalars.clock + s.grace) g → All (λ b. b < length s.names) (items (published_members s g))
published_named s g was = All-items (λ b. b < length s.names) (published_members s g) (λ b one.
    either (contains (task_set g) b) (contains (long_lost_members s g) b) (b < length s.names) (task_named s g was b) (lost_named s g was b)
    (sym (contains-union (task_set g) (long_lost_members s g) b) ∙ one))
  where
    either : (p q : Bool) (P : Type 0) → (p ≡ true → P) → (q ≡ true → P) → (p || q) ≡ true → P
    either true q P first second one = first refl
    either false q P first second one = second one

-- where a member is long lost, some bookie is published
pub published_some : (s : Cluster) (g : Ledger) → is_empty (long_lost_members s g) ≡ false → 0 < len (published_members s g)
unfolding is_empty
published_some s g some =
    elim (is_empty (published_members s g)) as (λ b. is_empty (published_members s g) ≡ b → 0 < len (published_members s g)) [
      | true ↦ λ none. absurd (true≢false (sym (is_empty-union (task_set g) (long_lost_members s g) none) ∙ some))
      | false ↦ λ more. grind (arith, nat_tests)
    ] refl

-- What an audit changes

or_both : (a b : Bool) → (b ≡ true → a ≡ true) → (a || b) ≡ a
or_both true b gives = refl
or_both false true gives = sym (gives refl)
or_both false false gives = refl

or_second : (a b : Bool) → b ≡ true → (a || b) ≡ true
or_second true b is = refl
or_second false b is = is

not_not : (b : Bool) → not b ≡ false → b ≡ true
not_not true is = refl
not_not false is = cc

not_true : (b : Bool) → not b ≡ true → b ≡ false
not_true true is = cc
not_true false is = refl

-- where all long-lost members are in the task, the same bookies are published
published_same : (s : Cluster) (g : Ledger) → is_subset (long_lost_members s g) (task_set g) ≡ true → published_members s g ≡ task_set g
published_same s g all = same_set (published_members s g) (task_set g) (λ q.
    contains-union (task_set g) (long_lost_members s g) q
    ∙ or_both (contains (task_set g) q) (contains (long_lost_members s g) q) (is_subset-contains (long_lost_members s g) (task_set g) all q))

-- a set that has no member is a part of each
subset_none : (s t : Set numbers) → is_empty s ≡ true → is_subset s t ≡ true
subset_none s t none = contains-is_subset s t (λ q one. absurd (true≢false (sym one ∙ ap (λ (u : Set numbers). contains u q) (empty-from_is_empty s none) ∙ contains-empty numbers q)))

-- and only such a one is a part of the empty set
none_subset : (s : Set numbers) → is_subset s empty ≡ true → is_empty s ≡ true
none_subset s all = is_empty-union empty s (ap is_empty (same_set (union empty s) empty (λ q. contains-union empty s q ∙ or_both (contains empty q) (contains s q) (is_subset-contains s empty all q))) ∙ is_empty-empty numbers)

-- an audit changes a ledger's task as it says,
pub audited_news : (s : Cluster) (g : Ledger) → is_news s g ≡ true → audited_ledger s g ≡ record g { task = Some (published_members s g) }
audited_news s g news =
    elim (is_empty (long_lost_members s g)) as (λ b. is_empty (long_lost_members s g) ≡ b → (if b then g else record g { task = Some (published_members s g) }) ≡ record g { task = Some (published_members s g) }) [
      | true ↦ λ none. absurd (true≢false (sym (subset_none (long_lost_members s g) (task_set g) none) ∙ not_true (is_subset (long_lost_members s g) (task_set g)) news))
      | false ↦ λ _. refl
    ] refl

-- and no other's
pub audited_same : (s : Cluster) (g : Ledger) → is_news s g ≡ false → audited_ledger s g ≡ g
audited_same s g old =
    let all : is_subset (long_lost_members s g) (task_set g) ≡ true = not_not (is_subset (long_lost_members s g) (task_set g)) old in
    elim (is_empty (long_lost_members s g)) as (λ b. is_empty (long_lost_members s g) ≡ b → (if b then g else record g { task = Some (published_members s g) }) ≡ g) [
      | true ↦ λ _. refl
      | false ↦ λ some. ap (λ (o : Option (Set numbers)). record g { task = o }) (ap Some (published_same s g all) ∙ has_task g.task refl some)
    ] refl
  where
    has_task : (o : Option (Set numbers)) → g.task ≡ o → is_empty (long_lost_members s g) ≡ false → Some (task_set g) ≡ g.task
    has_task None is some = absurd (true≢false (sym (none_subset (long_lost_members s g) (subst (λ (o : Option (Set numbers)). is_subset (long_lost_members s g) (unwrap_or o empty) ≡ true) is (not_not _ old))) ∙ some))
    has_task (Some task) is some = ap (λ (o : Option (Set numbers)). Some (unwrap_or o empty)) is ∙ sym is

-- a task that an audit changes is another one after it
pub news_differs : (s : Cluster) (g : Ledger) → is_news s g ≡ true → g.task ≢ Some (published_members s g)
news_differs s g news same =
    let told : task_set g ≡ published_members s g = ap (λ (o : Option (Set numbers)). unwrap_or o empty) same in
    true≢false (sym (contains-is_subset (long_lost_members s g) (task_set g) (λ q one.
    ap (λ (s : Set numbers). contains s q) told ∙ contains-union (task_set g) (long_lost_members s g) q ∙ or_second (contains (task_set g) q) (contains (long_lost_members s g) q) one))
    ∙ not_true (is_subset (long_lost_members s g) (task_set g)) news)

-- Without a delay

-- a bookie that has a registration is long lost where it is not registered,
long_lost_now : (s : Cluster) (b : ℕ) → IsWellFormed s → s.delay ≡ 0 → b < length s.names → is_long_lost s b ≡ not (is_up s b)
long_lost_now s b was none named = told (slice_get s.parts.lost_at b) refl where
  told : (o : Option (Option ℕ)) → slice_get s.parts.lost_at b ≡ o
      → option_map_or (λ tick. nat_le (tick + s.delay) s.parts.scalars.clock) (option_and_then (λ lost. lost) o) false ≡ not (option_map_or is_none o false)
  told None is =
      let there : slice_get s.parts.lost_at b ≡ Some (get_or s.parts.lost_at b None) =
      slice_get-get_or s.parts.lost_at b None (omega (arith, named, was.registrations.each)) in
      cc
  told (Some None) is = refl
  told (Some (Some tick)) is =
      let within : b < length s.parts.lost_at = omega (arith, named, was.registrations.each) in
      let past : tick ≤ s.parts.scalars.clock =
      was.registrations.ticks b None within tick (get_or_from_slice_get s.parts.lost_at b (Some tick) None is) in
      grind (arith, nat_tests, past, none)

filter-same : (p q : ℕ → Bool) (bs : List ℕ) → All (λ b. p b ≡ q b) bs → filter p bs ≡ filter q bs
filter-same p q [] each = refl
filter-same p q (b ∷ bs) each =
    (λ i. if All-head (λ b. p b ≡ q b) b bs each i then b ∷ filter p bs else filter p bs)
    ∙ ap (λ (more : List ℕ). if q b then b ∷ more else more) (filter-same p q bs (All-tail (λ b. p b ≡ q b) b bs each))

-- so the long-lost members of a ledger are the missing ones
pub long_lost-missing : (s : Cluster) (g : Ledger) → IsWellFormed s → IsLedger (length s.names) (s.parts.scalars.clock + s.grace) g → s.delay ≡ 0
    → long_lost_members s g ≡ missing_members s g
long_lost-missing s g was is none =
    ap (λ (bs : List ℕ). from_list {o = numbers} bs)
    (filter-same (is_long_lost s) (λ b. not (is_up s b)) (members_of g.metadata)
    (All-weaker (λ b. b < length s.names) (λ b. is_long_lost s b ≡ not (is_up s b)) (λ b named. long_lost_now s b was none named) (members_of g.metadata)
    (All-flat_map (λ b. b < length s.names) (λ (fragment : Fragment). fragment.ensemble) g.metadata.fragments is.members)))
