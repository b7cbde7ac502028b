-- Which bookie comes first, bookie by bookie.
use Rattle.std.proofs.Common.{◌≡◌, ◌∙◌, ◌+◌, ◌<◌, ◌≤◌, ◌&&◌, ◌||◌, ◌⊎◌, ℕ, Bool, true, false, List, [], ◌∷◌, Option, None, Some, ap, arith, inl, inr, length, refl, subst, sym, true≢false}
use Rattle.std.specs.Prelude.{◌==◌, IfSome, MatchOption, if◌then◌else◌, slice_get}
use Rattle.std.specs.Option.{option_map_or}
use Rattle.std.proofs.lemmas.Bool.{cases_eq, cases_lt, le-ltb, lt-ltb}
use Rattle.std.proofs.lemmas.Bool.Decides.{nat_tests}
use Rattle.reh_model.specs.Cluster.{Cluster, Ledger, is_up}
use Rattle.reh_model.specs.Metadata.{Fragment}
use Rattle.reh_model.specs.WellFormed.{IsWellFormed}
use Rattle.reh_model.proofs.WellFormedLaws.{up_named}
use Rattle.reh_plan.specs.Choices.{IsChoice, IsFirst, could_join, is_less, ranks_of}
use Rattle.reh_plan.specs.Takers.{could_take}
use Rattle.reh_plan.specs.Workers.{Workers, can_work, may_work}
use Rattle.reh_plan.specs.declared.workers.Candidate.{Candidate}
use Rattle.reh_plan.proofs.FilledLaws.{second_true}
use Rattle.reh_plan.proofs.PlanLaws.{first_true}

-- Ranks

and_false : (a : Bool) → (a && false) ≡ false
and_false true = refl
and_false false = refl

less_first : (m n : ℕ) (ms ns : List ℕ) → m < n → is_less (m ∷ ms) (n ∷ ns) ≡ true
less_first m n ms ns less = ap (λ t. t || ((m == n) && is_less ms ns)) (lt-ltb m n less)

less_past : (m n : ℕ) (ms ns : List ℕ) → n ≤ m → is_less (m ∷ ms) (n ∷ ns) ≡ ((m == n) && is_less ms ns)
less_past m n ms ns past = ap (λ t. t || ((m == n) && is_less ms ns)) (le-ltb m n past)

less_rest : (m n : ℕ) (ms ns : List ℕ) → m ≡ n → is_less ms ns ≡ true → is_less (m ∷ ms) (n ∷ ns) ≡ true
less_rest m n ms ns same less =
    let test : (m == n) ≡ true = grind (arith, nat_tests) in
    less_past m n ms ns (omega (arith, same)) ∙ ap (λ t. t && is_less ms ns) test ∙ less

less_cases : (m n : ℕ) (ms ns : List ℕ) → is_less (m ∷ ms) (n ∷ ns) ≡ true → (m < n) ⊎ ((m ≡ n) × (is_less ms ns ≡ true))
less_cases m n ms ns less = elim (cases_lt m n) [
  | inl first ↦ inl first
  | inr past ↦
      let rest : ((m == n) && is_less ms ns) ≡ true = sym (less_past m n ms ns past) ∙ less in
      let test : (m == n) ≡ true = first_true (m == n) (is_less ms ns) rest in
      let same : m ≡ n = grind (arith, nat_tests) in
      inr (same, second_true (m == n) (is_less ms ns) rest)
]

less-itself : (ns : List ℕ) → is_less ns ns ≡ false
less-itself [] = refl
less-itself (n ∷ ns) =
    less_past n n ns ns (omega arith) ∙ ap (λ t. (n == n) && t) (less-itself ns) ∙ and_false (n == n)

less-chain : (ks ms ns : List ℕ) → is_less ks ms ≡ true → is_less ms ns ≡ true → is_less ks ns ≡ true
less-chain (k ∷ ks) (m ∷ ms) (n ∷ ns) first next = elim (less_cases k m ks ms first) [
  | inl x ↦ elim (less_cases m n ms ns next) [
    | inl y ↦ less_first k n ks ns (omega (arith, x, y))
    | inr y ↦ less_first k n ks ns (omega (arith, x, y.0))
  ]
  | inr x ↦ elim (less_cases m n ms ns next) [
    | inl y ↦ less_first k n ks ns (omega (arith, x.0, y))
    | inr y ↦ less_rest k n ks ns (x.0 ∙ y.0) (less-chain ks ms ns x.1 y.1)
  ]
]
less-chain [] ms ns first next = absurd (true≢false (sym first))
less-chain (k ∷ ks) [] ns first next = absurd (true≢false (sym first))
less-chain (k ∷ ks) (m ∷ ms) [] first next = absurd (true≢false (sym next))

-- what comes before the first comes after no other that doesn't
less_not : (ks ms ns : List ℕ) → is_less ms ns ≡ true → is_less ks ns ≡ false → is_less ks ms ≡ false
less_not ks ms ns next not_first =
    elim (is_less ks ms) as (λ t. is_less ks ms ≡ t → t ≡ false) [
      | true ↦ λ less. absurd (true≢false (sym (less-chain ks ms ns less next) ∙ not_first))
      | false ↦ λ _. refl
    ] refl

-- Bookies that could take a place

joins : (may : ℕ → Bool) (s : Cluster) (b : ℕ) (o : Option Fragment)
    → option_map_or (λ fragment. could_take may s fragment b) o false ≡ true → can_work may s b ≡ true
joins may s b None could = absurd (true≢false (sym could))
joins may s b (Some fragment) could = first_true (can_work may s b) _ could

pub join_can : (w : Workers) (s : Cluster) (g : Ledger) (f b : ℕ) → could_join w s g f b ≡ true
    → can_work (may_work w.rules) s b ≡ true
join_can w s g f b could = joins (may_work w.rules) s b (slice_get g.metadata.fragments f) could

join_named : (w : Workers) (s : Cluster) (g : Ledger) (f b : ℕ) → IsWellFormed s → could_join w s g f b ≡ true
    → b < length s.names
join_named w s g f b well could =
    up_named s b well (second_true (may_work w.rules b) (is_up s b) (join_can w s g f b could))

-- who is chosen can work
pub chosen_can : (w : Workers) (s : Cluster) (g : Ledger) (f i : ℕ) (choice : Option ℕ) → IsChoice w s g f i choice
    → IfSome choice (λ b. can_work (may_work w.rules) s b ≡ true)
chosen_can w s g f i None is = tt
chosen_can w s g f i (Some b) is = join_can w s g f b is.could

-- The first so far

-- of the bookies below that number that could take the place none comes before the candidate
pub record IsFirstBelow (w : Workers) (s : Cluster) (g : Ledger) (f i n : ℕ) (candidate : Candidate) : Type 0 where
  pub could : could_join w s g f candidate.bookie ≡ true
  pub ranks : candidate.ranks ≡ ranks_of w g f i candidate.bookie
  pub first : (other : ℕ) → other < n → could_join w s g f other ≡ true
      → is_less (ranks_of w g f i other) candidate.ranks ≡ false

-- or, where there is none, none of them could
abbrev pub IsFirstSoFar : Workers → Cluster → Ledger → ℕ → ℕ → ℕ → Option Candidate → Type 0
IsFirstSoFar w s g f i n first =
    MatchOption first ((other : ℕ) → other < n → could_join w s g f other ≡ false) (IsFirstBelow w s g f i n)

-- which of two comes first
abbrev pub earlier_of : Candidate → Candidate → Candidate
earlier_of first other = if is_less other.ranks first.ranks then other else first

-- those below a number, and that one
split : (P : ℕ → Type 0) (n : ℕ) → ((k : ℕ) → k < n → P k) → P n → (k : ℕ) → k < n + 1 → P k
split P n below here k within = elim (cases_eq k n) [
  | inl same ↦ subst P (sym same) here
  | inr apart ↦ below k (omega arith)
]

-- one bookie more, that couldn't
pub first_kept : (w : Workers) (s : Cluster) (g : Ledger) (f i n : ℕ) (first : Option Candidate)
    → could_join w s g f n ≡ false → IsFirstSoFar w s g f i n first → IsFirstSoFar w s g f i (n + 1) first
first_kept w s g f i n None couldnt was = split (λ k. could_join w s g f k ≡ false) n was couldnt
first_kept w s g f i n (Some c) couldnt was = record {
  could = was.could;
  ranks = was.ranks;
  first =
      split (λ k. could_join w s g f k ≡ true → is_less (ranks_of w g f i k) c.ranks ≡ false) n was.first
      (λ could. absurd (true≢false (sym could ∙ couldnt)));
}

-- or that could, and comes first or doesn't
pub first_of_two : (w : Workers) (s : Cluster) (g : Ledger) (f i n : ℕ) (c d : Candidate) (less : Bool)
    → is_less d.ranks c.ranks ≡ less → d.bookie ≡ n → d.ranks ≡ ranks_of w g f i n → could_join w s g f n ≡ true
    → IsFirstBelow w s g f i n c → IsFirstBelow w s g f i (n + 1) (if less then d else c)
first_of_two w s g f i n c d true less is ranks could was = record {
  could = ap (could_join w s g f) is ∙ could;
  ranks = ranks ∙ ap (ranks_of w g f i) (sym is);
  first =
      split (λ k. could_join w s g f k ≡ true → is_less (ranks_of w g f i k) d.ranks ≡ false) n
      (λ k below other. less_not (ranks_of w g f i k) d.ranks c.ranks less (was.first k below other))
      (λ _. ap (λ (ns : List ℕ). is_less ns d.ranks) (sym ranks) ∙ less-itself d.ranks);
}
first_of_two w s g f i n c d false less is ranks could was = record {
  could = was.could;
  ranks = was.ranks;
  first =
      split (λ k. could_join w s g f k ≡ true → is_less (ranks_of w g f i k) c.ranks ≡ false) n was.first
      (λ _. ap (λ (ns : List ℕ). is_less ns c.ranks) (sym ranks) ∙ less);
}

first_alone : (w : Workers) (s : Cluster) (g : Ledger) (f i n : ℕ) (d : Candidate) → d.bookie ≡ n
    → d.ranks ≡ ranks_of w g f i n → could_join w s g f n ≡ true → ((k : ℕ) → k < n → could_join w s g f k ≡ false)
    → IsFirstBelow w s g f i (n + 1) d
first_alone w s g f i n d is ranks could none = record {
  could = ap (could_join w s g f) is ∙ could;
  ranks = ranks ∙ ap (ranks_of w g f i) (sym is);
  first =
      split (λ k. could_join w s g f k ≡ true → is_less (ranks_of w g f i k) d.ranks ≡ false) n
      (λ k below other. absurd (true≢false (sym other ∙ none k below)))
      (λ _. ap (λ (ns : List ℕ). is_less ns d.ranks) (sym ranks) ∙ less-itself d.ranks);
}

pub first_more : (w : Workers) (s : Cluster) (g : Ledger) (f i n : ℕ) (first : Option Candidate) (d e : Candidate)
    → d.bookie ≡ n → d.ranks ≡ ranks_of w g f i n → could_join w s g f n ≡ true
    → e ≡ option_map_or (λ c. earlier_of c d) first d → IsFirstSoFar w s g f i n first → IsFirstBelow w s g f i (n + 1) e
first_more w s g f i n None d e is ranks could earlier was =
    subst (IsFirstBelow w s g f i (n + 1)) (sym earlier) (first_alone w s g f i n d is ranks could was)
first_more w s g f i n (Some c) d e is ranks could earlier was =
    subst (IsFirstBelow w s g f i (n + 1)) (sym earlier)
    (first_of_two w s g f i n c d (is_less d.ranks c.ranks) refl is ranks could was)

-- all bookies of the picture are all that could
pub first_chosen : (w : Workers) (s : Cluster) (g : Ledger) (f i n : ℕ) (c : Candidate) → IsWellFormed s → length s.names ≤ n
    → IsFirstBelow w s g f i n c → IsFirst w s g f i c.bookie
first_chosen w s g f i n c well all first = record {
  could = first.could;
  first = λ other could.
      let named : other < length s.names = join_named w s g f other well could in
      ap (is_less (ranks_of w g f i other)) (sym first.ranks) ∙ first.first other (omega (arith, named, all)) could;
}

pub nobody_chosen : (w : Workers) (s : Cluster) (g : Ledger) (f n : ℕ) → IsWellFormed s → length s.names ≤ n
    → ((other : ℕ) → other < n → could_join w s g f other ≡ false) → (other : ℕ) → could_join w s g f other ≡ false
nobody_chosen w s g f n well all none other =
    elim (could_join w s g f other) as (λ t. could_join w s g f other ≡ t → t ≡ false) [
      | true ↦ λ could.
          let named : other < length s.names = join_named w s g f other well could in
          sym could ∙ none other (omega (arith, named, all))
      | false ↦ λ _. refl
    ] refl
