-- How deep the object of a line is.
use Rattle.std.proofs.Common.{◌+◌, ◌-◌, ◌≤◌, ℕ, List, [], ◌∷◌, ◌++◌, true, false, cond, map, arith, Option, Some, None}
use Rattle.std.specs.Prelude.{◌==◌, ◌||◌, flat_map, codes, slice_get}
use Rattle.std.specs.Option.{option_map_or}
use Rattle.std.specs.List.{enumerate_from}
use Rattle.json.specs.Json.{Json, Members, member, no_members, number, string}
use Rattle.json.specs.Tree.{depth, items_depth, members_depth}
use Rattle.reh_types.specs.declared.changes.Change.TheVariants as change
use Rattle.reh_types.specs.declared.locks.Lock.{Lock}
use Rattle.reh_types.specs.declared.moves.Reply.TheVariants.{Done, Clock, Issued, Discarded, Refused}
use Rattle.reh_types.specs.declared.names.LedgerState.{LedgerState}
use Rattle.reh_types.specs.declared.names.LedgerState.TheVariants.{Open, InRecovery, Closed}
use Rattle.reh_types.specs.declared.refusals.Refusal.{Refusal}
use Rattle.reh_types.specs.declared.refusals.Refusal.TheVariants.{Locked}
use Rattle.reh_types.specs.declared.scalars.Scalar.TheVariants as scalar
use Rattle.reh_types.specs.Sets.{Set, numbers}
use Rattle.reh_types.specs.Texts.{refusal_value}
use Rattle.reh_model.specs.Cluster.{Cluster, Ledger, lost_tick}
use Rattle.reh_model.specs.Metadata.{Metadata, Fragment, stop_of}
use Rattle.reh_model.specs.Places.{Change}
use Rattle.reh_answer.specs.Objects.{items_of, number_json}
use Rattle.reh_answer.proofs.ObjectLaws.{items-depth}
use Rattle.reh_commands.specs.Texts.{names_in}
use Rattle.reh_changes.specs.Changes.{is_gained, is_gone, is_same_state}
use Rattle.reh_changes.specs.Ranges.{ranges_in}
use Rattle.reh_play.specs.declared.answers.LineAnswer.{LineAnswer}
use Rattle.reh_play.specs.declared.answers.LineAnswer.TheVariants as answer
use Rattle.reh_run_json.specs.Changes as changes
use Rattle.reh_run_json.specs.Lines.{answer_members, line_json, value_json}
use Rattle.reh_run_json.specs.Reports as reports
use Rattle.reh_run_json.specs.Values.{ensemble_json, is_closed, last_json, lock_json, name_json, or_null, range_json, task_json}

-- Lists

items-append : (n : ℕ) (xs ys : List Json) → items_depth (items_of xs) ≤ n → items_depth (items_of ys) ≤ n
    → items_depth (items_of (xs ++ ys)) ≤ n
items-append n [] ys first second = second
items-append n (x ∷ xs) ys first second = omega (arith, first, items-append n xs ys (omega (arith, first)) second)

items-flat : {X : Type 0} (h : X → List Json) (n : ℕ) → ((x : X) → items_depth (items_of (h x)) ≤ n) → (xs : List X)
    → items_depth (items_of (flat_map h xs)) ≤ n
items-flat h n each [] = omega arith
items-flat h n each (x ∷ xs) = items-append n (h x) (flat_map h xs) (each x) (items-flat h n each xs)

-- Values

null-depth : {X : Type 0} (f : X → Json) (n : ℕ) → ((x : X) → depth (f x) ≤ n) → (o : Option X) → depth (or_null f o) ≤ n
null-depth f n each None = omega arith
null-depth f n each (Some x) = each x

number-depth : (o : Option ℕ) → depth (or_null number_json o) ≤ 0
number-depth o = null-depth number_json 0 (λ n. omega arith) o

last-depth : (state : LedgerState) → depth (last_json state) ≤ 0
last-depth Open = omega arith
last-depth InRecovery = omega arith
last-depth (Closed end) =
    elim (end == 0) as (λ t. depth (cond t (number (codes "-1")) (number_json (end - 1))) ≤ 0) [ true ↦ omega arith | false ↦ omega arith ]

ensemble-depth : (names : List (List ℕ)) (ensemble : List ℕ) → depth (ensemble_json names ensemble) ≤ 1
ensemble-depth names ensemble = omega (arith, items-depth (name_json names) 0 (λ n. omega arith) ensemble)

task-depth : (names : List (List ℕ)) (o : Option (Set numbers)) → depth (or_null (task_json names) o) ≤ 1
task-depth names o =
    null-depth (task_json names) 1 (λ bookies. omega (arith, items-depth string 0 (λ n. omega arith) (names_in names bookies))) o

lock-depth : (names : List (List ℕ)) (o : Option Lock) → depth (or_null (lock_json names) o) ≤ 1
lock-depth names o = null-depth (lock_json names) 1 (λ lock. omega (arith, number-depth lock.due)) o

-- Changes

members-depth : (names : List (List ℕ)) (id f i : ℕ) (was now : List ℕ)
    → items_depth (items_of (changes.member_changes names id f i was now)) ≤ 3
members-depth names id f i [] now = omega arith
members-depth names id f i (b ∷ was) [] = omega arith
members-depth names id f i (b ∷ was) (d ∷ now) =
    let rest = members-depth names id f (i + 1) was now in
    let one : List Json = changes.changed (codes "member") (λ more. changes.of_fragment id f (member (codes "index") (number_json i) more)) (name_json names b) (name_json names d) ∷ [] in
    elim (b == d) as (λ t. items_depth (items_of (cond t [] one ++ changes.member_changes names id f (i + 1) was now)) ≤ 3) [
      | true ↦ rest
      | false ↦ omega (arith, rest)
    ]

kept-depth : (names : List (List ℕ)) (fragment : Fragment) → depth (changes.fragment_json names fragment) ≤ 2
kept-depth names fragment = omega (arith, ensemble-depth names fragment.ensemble)

fragments-depth : (names : List (List ℕ)) (id f : ℕ) (was now : List Fragment)
    → items_depth (items_of (changes.fragment_changes names id f was now)) ≤ 3
fragments-depth names id f [] [] = omega arith
fragments-depth names id f (a ∷ was) [] = omega (arith, kept-depth names a, fragments-depth names id (f + 1) was [])
fragments-depth names id f [] (b ∷ now) = omega (arith, kept-depth names b, fragments-depth names id (f + 1) [] now)
fragments-depth names id f (a ∷ was) (b ∷ now) =
    items-append 3 (changes.member_changes names id f 0 a.ensemble b.ensemble) (changes.fragment_changes names id (f + 1) was now)
    (members-depth names id f 0 a.ensemble b.ensemble) (fragments-depth names id (f + 1) was now)

version-depth : (id was now : ℕ) → items_depth (items_of (changes.version_changes id was now)) ≤ 3
version-depth id was now =
    elim (was == now) as (λ t. items_depth (items_of (cond t [] (changes.version_change id was now ∷ []))) ≤ 3) [ true ↦ omega arith | false ↦ omega arith ]

ends-depth : (id : ℕ) (was now : LedgerState) → items_depth (items_of (changes.last_changes id was now)) ≤ 3
ends-depth id was now =
    let first = last-depth was in
    let second = last-depth now in
    elim (is_closed was || is_closed now) as (λ t. items_depth (items_of (cond t (changes.last_change id was now ∷ []) [])) ≤ 3) [
      | true ↦ omega (arith, first, second)
      | false ↦ omega arith
    ]

states-depth : (id : ℕ) (was now : LedgerState) → items_depth (items_of (changes.state_changes id was now)) ≤ 3
states-depth id was now =
    let ends = ends-depth id was now in
    elim (is_same_state was now) as (λ t. items_depth (items_of (cond t [] (changes.state_change id was now ∷ changes.last_changes id was now))) ≤ 3) [
      | true ↦ omega arith
      | false ↦ omega (arith, ends)
    ]

metadata-depth : (names : List (List ℕ)) (id : ℕ) (was now : Metadata)
    → items_depth (items_of (changes.metadata_changes names id was now)) ≤ 3
metadata-depth names id was now =
    items-append 3 (changes.version_changes id was.version now.version) _ (version-depth id was.version now.version)
    (items-append 3 (changes.state_changes id was.state now.state) _ (states-depth id was.state now.state)
    (fragments-depth names id 0 was.fragments now.fragments))

place-depth : (o : Option Ledger) (f : Ledger → List Json) → ((g : Ledger) → items_depth (items_of (f g)) ≤ 3)
    → items_depth (items_of (option_map_or f o [])) ≤ 3
place-depth None f each = omega arith
place-depth (Some g) f each = each g

ranges-depth : (ranges : List (ℕ × ℕ)) → items_depth (items_of (map range_json ranges)) ≤ 1
ranges-depth ranges = items-depth range_json 1 (λ range. omega arith) ranges

change-depth : (s : Cluster) (c : Change) → items_depth (items_of (changes.change_objects s c)) ≤ 3
change-depth s (change.Registration bookie lost) = omega (arith, number-depth lost, number-depth (lost_tick s bookie))
change-depth s (change.Metadata place metadata) =
    place-depth (slice_get s.parts.ledgers place) _ (λ g. metadata-depth s.names g.id metadata g.metadata)
change-depth s (change.Task place task) =
    place-depth (slice_get s.parts.ledgers place) _ (λ g. omega (arith, task-depth s.names task, task-depth s.names g.task))
change-depth s (change.Lock place lock) =
    place-depth (slice_get s.parts.ledgers place) _ (λ g. omega (arith, lock-depth s.names lock, lock-depth s.names g.lock))
change-depth s (change.Word bookie ledger k bits) =
    omega (
      arith,
      ranges-depth (ranges_in k (is_gained s bookie ledger k bits)),
      ranges-depth (ranges_in k (is_gone s bookie ledger k bits)),
    )
change-depth s (change.Scalar (scalar.Clock was)) = omega arith
change-depth s (change.Scalar (scalar.Enabled was)) = omega arith

-- Reports

bookie-depth : (s : Cluster) (place : ℕ × List ℕ) → depth (reports.bookie_json s place.0 place.1) ≤ 1
bookie-depth s place = omega (arith, number-depth (lost_tick s place.0))

fragment-depth : (names : List (List ℕ)) (m : Metadata) (place : ℕ × Fragment) → depth (reports.fragment_json names m place.0 place.1) ≤ 2
fragment-depth names m place = omega (arith, number-depth (stop_of m place.0), ensemble-depth names place.1.ensemble)

ledger-depth : (names : List (List ℕ)) (g : Ledger) → depth (reports.ledger_json names g) ≤ 4
ledger-depth names g =
    omega (
      arith,
      last-depth g.metadata.state,
      items-depth (λ place. reports.fragment_json names g.metadata place.0 place.1) 2 (fragment-depth names g.metadata) (enumerate_from 0 g.metadata.fragments),
      task-depth names g.task,
      lock-depth names g.lock,
    )

report-depth : (s : Cluster) → depth (reports.report_json s) ≤ 6
report-depth s =
    omega (
      arith,
      items-depth (λ place. reports.bookie_json s place.0 place.1) 1 (bookie-depth s) (enumerate_from 0 s.names),
      items-depth (reports.ledger_json s.names) 4 (ledger-depth s.names) s.parts.ledgers,
    )

-- Lines

value-depth : (names : List (List ℕ)) (refusal : Refusal) → depth (value_json names refusal) ≤ 0
value-depth names (Locked owner) = omega arith
value-depth names refusal = number-depth (refusal_value refusal)

answer-depth : (s : Cluster) (a : LineAnswer) (rest : Members) → members_depth rest ≤ 10
    → members_depth (answer_members s.names (Some s) a rest) ≤ 10
answer-depth s (answer.Said Done) rest few = omega (arith, few)
answer-depth s (answer.Said (Clock clock)) rest few = omega (arith, few)
answer-depth s (answer.Said (Issued n)) rest few = omega (arith, few)
answer-depth s (answer.Said Discarded) rest few = omega (arith, few)
answer-depth s (answer.Said (Refused refusal)) rest few = omega (arith, few, value-depth s.names refusal)
answer-depth s (answer.Faulty fault) rest few = omega (arith, few)
answer-depth s answer.Report rest few = omega (arith, few, report-depth s)
answer-depth s (answer.Survey lines) rest few =
    omega (arith, few, items-depth reports.survey_line_json 1 (λ line. omega (arith, number-depth line.lost)) lines.items)
answer-depth s answer.Hidden rest few = omega (arith, few)

pub line-depth : (s : Cluster) (n : ℕ) (command : Option (List ℕ)) (a : LineAnswer) (cs : List Change)
    → depth (line_json s.names n command s a cs) ≤ 128
line-depth s n command a cs =
    omega (
      arith,
      null-depth string 0 (λ t. omega arith) command,
      answer-depth s a (member (codes "changes") (changes.changes_json s cs) no_members)
          (omega (arith, items-flat (changes.change_objects s) 3 (change-depth s) cs)),
    )
