-- How a plan grows by a line, and what becomes of registrations.
use Rattle.std.proofs.Common.{◌≡◌, ◌≢◌, ℕ, zero, suc, ◌+◌, ◌<◌, length, Bool, true, false, cond, not, List, [], ◌∷◌, ◌++◌}
use Rattle.std.proofs.Common.{refl, sym, ap, ◌∙◌, subst, arith, append_assoc, append-nil, Option, None, Some, is_some, true≢false, inl, inr}
use Rattle.std.specs.Prelude.{◌==◌, ◌&&◌, ◌||◌, nat_lt, Result, Ok, Err, OnOk, OnErr, unwrap_or, is_none, slice_get}
use Rattle.std.specs.List.{filter, flat_map, list_all, onto_first, range_with_len}
use Rattle.std.specs.Option.{option_map, option_map_or}
use Rattle.std.proofs.lemmas.Bool.Decides.{nat_tests}
use Rattle.std.proofs.lemmas.Grind.{flat_map-append}
use Rattle.std.proofs.lemmas.List.Elements.{All-push, filter-append}
use Rattle.std.proofs.lemmas.List.Folds.{list_all-append}
use Rattle.std.proofs.lemmas.Option.{same_Some}
use Rattle.reh_types.specs.declared.moves.Event.{Event}
use Rattle.reh_types.specs.declared.moves.Event.TheVariants.{Lose, Join, Audit, Acquire, Release, Finish, Expire}
use Rattle.reh_types.specs.declared.moves.Event.TheVariants.{Grace, Tick, Roll, Fence, Seal, Copy, Swap}
use Rattle.reh_types.specs.declared.moves.Event.TheVariants.{Disable, Enable}
use Rattle.reh_types.specs.declared.moves.Move.TheVariants.{Do}
use Rattle.reh_types.specs.declared.moves.Reply.TheVariants.{Done, Refused}
use Rattle.reh_types.specs.declared.refusals.Refusal.{Refusal}
use Rattle.reh_model.specs.Checks.{first_reason}
use Rattle.reh_model.specs.Cluster.{Cluster, is_up, change_at}
use Rattle.reh_model.specs.Session.{replay, Session, state_of, reply_unless, no_room, with_event, Performs}
use Rattle.reh_model.specs.Step.{refusal_of, after}
use Rattle.reh_types.specs.Sets as set
use Rattle.reh_types.specs.Sets.{Set, numbers}
use Rattle.reh_model.specs.WellFormed.{IsWellFormed}
use Rattle.reh_model.proofs.ListLaws.{slice_get-here, slice_get-others}
use Rattle.reh_model.proofs.SessionLaws.{replay_first, replay-append, replay_one}
use Rattle.reh_model.proofs.WellFormedLaws.{up_named}
use Rattle.reh_commands.specs.Answers.{asked}
use Rattle.reh_lines.specs.Lines.{lines_of, ended}
use Rattle.reh_commands.specs.declared.commands.Command.{Command}
use Rattle.reh_commands.specs.declared.commands.Command.TheVariants.{Make}
use Rattle.reh_commands.specs.declared.commands.LineFault.{LineFault}
use Rattle.reh_lines.proofs.Parts.{lines_behind}
use Rattle.reh_plan.specs.Plans.{has_lf, event_asked, IsEventOrNone, Asks, Draft, IsMade, IsWithout, Loses, Works}
use Rattle.reh_plan.specs.Plans.{GoesOnBy, is_all_asked, is_nobodys, is_work_by, loss_of, losses_of}
use Rattle.reh_plan.specs.Workers.{Rules}

-- a text that an LF ends
some_lf : (xs : List ℕ) → has_lf (xs ++ 10 ∷ []) ≡ true
some_lf [] = refl
some_lf (x ∷ xs) =
    elim (x == 10) as (λ t. (t || has_lf (xs ++ 10 ∷ [])) ≡ true) [ true ↦ refl | false ↦ some_lf xs ]

pub ended_by : (xs : List ℕ) → ended (xs ++ 10 ∷ []) ≡ xs ++ 10 ∷ []
ended_by [] = refl
ended_by (x ∷ xs) =
    ap (λ (t : Bool). cond t (x ∷ ended (xs ++ 10 ∷ [])) []) (some_lf (x ∷ xs)) ∙ ap (λ (ys : List ℕ). x ∷ ys) (ended_by xs)

-- a line with its LF
pub line_alone : (xs : List ℕ) → has_lf xs ≡ false → lines_of (xs ++ 10 ∷ []) ≡ xs ∷ []
line_alone [] none = refl
line_alone (x ∷ xs) none =
    elim (x == 10) as (λ t. (t || has_lf xs) ≡ false → cond t ([] ∷ lines_of (xs ++ 10 ∷ [])) (onto_first x (lines_of (xs ++ 10 ∷ []))) ≡ (x ∷ xs) ∷ []) [
      | true ↦ λ e. cc
      | false ↦ λ e. ap (onto_first x) (line_alone xs e)
    ] none

-- a text that ends, and a line more
pub grown_lines : (text line : List ℕ) → ended text ≡ text → has_lf line ≡ false → lines_of (text ++ (line ++ 10 ∷ [])) ≡ lines_of text ++ line ∷ []
grown_lines text line ends none =
    lines_behind text (line ++ 10 ∷ []) ends ∙ ap (λ (ls : List (List ℕ)). lines_of text ++ ls) (line_alone line none)

pub grown_ends : (text line : List ℕ) → ended (text ++ (line ++ 10 ∷ [])) ≡ text ++ (line ++ 10 ∷ [])
grown_ends text line = subst (λ (t : List ℕ). ended t ≡ t) (append_assoc text line (10 ∷ [])) (ended_by (text ++ line))

-- no event changes a name
pub names_after : (s : Cluster) (event : Event) → (after s event).names ≡ s.names
names_after s (Lose b) = refl
names_after s (Join b) = refl
names_after s Audit = refl
names_after s (Acquire w l) = refl
names_after s (Release w l) = refl
names_after s (Finish w l) = refl
names_after s (Expire w) = refl
names_after s (Grace w l) = refl
names_after s (Tick n) = refl
names_after s (Roll l i b) = refl
names_after s (Fence w l) = refl
names_after s (Seal w l) = refl
names_after s (Copy w l f i v) = refl
names_after s (Swap w l f i v) = refl
names_after s Disable = refl
names_after s Enable = refl

-- nor do replays
pub names_replay : (events : List Event) (s t : Cluster) → replay s events ≡ Some t → t.names ≡ s.names
names_replay [] s t e = ap (λ (c : Cluster). c.names) (sym (same_Some s t e))
names_replay (event ∷ events) s t e =
    let first = replay_first s event events (ap is_some e) in
    names_replay events (after s event) t (sym first.1 ∙ e) ∙ names_after s event

-- Lines that ask for events

-- a line more that asks for an event
pub Asks-event : (names : List (List ℕ)) (lines : List (List ℕ)) (events : List Event) (line : List ℕ) (event : Event)
    → Asks names lines events → asked names line ≡ Some (Ok (Make (Do event))) → Asks names (lines ++ line ∷ []) (events ++ event ∷ [])
Asks-event names lines events line event asks is = record {
  only = All-push (λ l. IsEventOrNone (asked names l)) lines line asks.only (subst IsEventOrNone (sym is) tt);
  all =
      flat_map-append (λ l. event_asked (asked names l)) lines (line ∷ [])
      ∙ ap (λ (es : List Event). es ++ (event_asked (asked names line) ++ [])) asks.all
      ∙ ap (λ (a : Option (Result Command LineFault)). events ++ (event_asked a ++ [])) is;
}

-- or for nothing
pub Asks-none : (names : List (List ℕ)) (lines : List (List ℕ)) (events : List Event) (line : List ℕ)
    → Asks names lines events → asked names line ≡ None → Asks names (lines ++ line ∷ []) events
Asks-none names lines events line asks is = record {
  only = All-push (λ l. IsEventOrNone (asked names l)) lines line asks.only (subst IsEventOrNone (sym is) tt);
  all =
      flat_map-append (λ l. event_asked (asked names l)) lines (line ∷ [])
      ∙ ap (λ (es : List Event). es ++ (event_asked (asked names line) ++ [])) asks.all
      ∙ ap (λ (a : Option (Result Command LineFault)). events ++ (event_asked a ++ [])) is
      ∙ append-nil events;
}

-- Events

unrefused : (o : Option Refusal) → reply_unless o ≡ Done → o ≡ None
unrefused None e = refl
unrefused (Some r) e = cc

first_none : (o p : Option Refusal) → first_reason (o ∷ p ∷ []) ≡ None → o ≡ None
first_none None p e = refl
first_none (Some r) p e = e

-- an event that is done is accepted, and survives
pub performed : (m n : Session) (event : Event) → Performs m (Do event) Done n → (refusal_of (state_of m) event ≡ None) × (n ≡ with_event m event)
performed m n event (inl answers) =
    (first_none (refusal_of (state_of m) event) (no_room m) (unrefused (first_reason (refusal_of (state_of m) event ∷ no_room m ∷ [])) (sym answers.0)), answers.1)
performed m n event (inr wants) = cc

-- one that is refused changes nothing
pub refused : (m n : Session) (event : Event) (r : Refusal) → Performs m (Do event) (Refused r) n → n ≡ m
refused m n event r (inl answers) = answers.1
refused m n event r (inr wants) = wants.3

-- the state after an accepted event
pub state_after : (m : Session) (s : Cluster) (event : Event) → replay m.opening m.done ≡ Some s → refusal_of (state_of m) event ≡ None → state_of (with_event m event) ≡ after (state_of m) event
state_after m s event is none =
    let now : state_of m ≡ s = ap (λ (o : Option Cluster). unwrap_or o m.opening) is in
    let fine : refusal_of s event ≡ None = ap (λ (c : Cluster). refusal_of c event) (sym now) ∙ none in
    ap (λ (o : Option Cluster). unwrap_or o m.opening) (replay-append m.opening s m.done (event ∷ []) is ∙ replay_one s event fine)
    ∙ ap (λ (c : Cluster). after c event) (sym now)

-- Registrations

-- work leaves them
pub lost_at-after : (rules : Rules) (s : Cluster) (event : Event) → is_work_by rules event ≡ true
    → (after s event).parts.lost_at ≡ s.parts.lost_at
lost_at-after rules s Audit e = refl
lost_at-after rules s Enable e = refl
lost_at-after rules s (Tick n) e = refl
lost_at-after rules s (Release w l) e = refl
lost_at-after rules s (Finish w l) e = refl
lost_at-after rules s (Acquire w l) e = refl
lost_at-after rules s (Grace w l) e = refl
lost_at-after rules s (Fence w l) e = refl
lost_at-after rules s (Seal w l) e = refl
lost_at-after rules s (Roll l i b) e = refl
lost_at-after rules s (Copy w l f i v) e = refl
lost_at-after rules s (Swap w l f i v) e = refl
lost_at-after rules s other e = absurd (true≢false (sym e))

put_down : (t : ℕ) (o : Option (Option ℕ)) → option_map_or is_none (option_map (λ (_ : Option ℕ). Some t) o) false ≡ false
put_down t None = refl
put_down t (Some lost) = refl

and_false : (a : Bool) → (a && false) ≡ false
and_false true = refl
and_false false = refl

and_true : (a : Bool) → (a && true) ≡ a
and_true true = refl
and_true false = refl

pub both_true : (a b : Bool) → a ≡ true → b ≡ true → (a && b) ≡ true
both_true a b first second = ap (λ t. t && b) first ∙ second

pub first_true : (a b : Bool) → (a && b) ≡ true → a ≡ true
first_true true b both = refl
first_true false b both = both

one_lost : (xs : List (Option ℕ)) (b c t : ℕ) → option_map_or is_none (slice_get (change_at xs b (λ _. Some t)) c) false ≡ (option_map_or is_none (slice_get xs c) false && not (b == c))
one_lost xs b c t =
    elim (b == c) as (λ u. (b == c) ≡ u → option_map_or is_none (slice_get (change_at xs b (λ _. Some t)) c) false ≡ (option_map_or is_none (slice_get xs c) false && not u)) [
      | true ↦ λ e.
          let same : b ≡ c = grind (arith, nat_tests) in
          ap (λ k. option_map_or is_none (slice_get (change_at xs k (λ _. Some t)) c) false) same
          ∙ ap (λ (o : Option (Option ℕ)). option_map_or is_none o false) (slice_get-here (λ _. Some t) xs c)
          ∙ put_down t (slice_get xs c) ∙ sym (and_false (option_map_or is_none (slice_get xs c) false))
      | false ↦ λ e.
          let other : b ≢ c = grind (arith, nat_tests) in
          ap (λ (o : Option (Option ℕ)). option_map_or is_none o false) (slice_get-others (λ _. Some t) xs b c other)
          ∙ sym (and_true (option_map_or is_none (slice_get xs c) false))
    ] refl

-- a loss is of the one bookie
pub IsWithout-lose : (s : Cluster) (b : ℕ) → IsWithout s (λ c. b == c) (after s (Lose b))
IsWithout-lose s b c = one_lost s.parts.lost_at b c s.parts.scalars.clock

-- of a bookie that isn't registered there is nothing to lose
pub IsWithout-down : (s : Cluster) (b : ℕ) → is_up s b ≡ false → IsWithout s (λ c. b == c) s
IsWithout-down s b down c =
    elim (b == c) as (λ u. (b == c) ≡ u → is_up s c ≡ (is_up s c && not u)) [
      | true ↦ λ e.
          let same : b ≡ c = grind (arith, nat_tests) in
          let fine : is_up s c ≡ false = ap (is_up s) (sym same) ∙ down in
          fine ∙ sym (and_false (is_up s c))
      | false ↦ λ e. sym (and_true (is_up s c))
    ] refl

-- the bookies below a number that are to be lost
abbrev pub below : Set numbers → ℕ → ℕ → Bool
below lost n b = nat_lt b n && set.contains lost b

below-here : (lost : Set numbers) (n : ℕ) (v : Bool) → set.contains lost n ≡ v → below lost (n + 1) n ≡ v
below-here lost n v is =
    let within : nat_lt n (n + 1) ≡ true = grind (arith, nat_tests) in
    ap (λ t. t && set.contains lost n) within ∙ is

below-others : (lost : Set numbers) (n b : ℕ) → n ≢ b → below lost (n + 1) b ≡ below lost n b
below-others lost n b other =
    let same : nat_lt b (n + 1) ≡ nat_lt b n = grind (arith, nat_tests) in
    ap (λ t. t && set.contains lost b) same

-- the next bookie is to be lost
pub IsWithout-next : (s t u : Cluster) (lost : Set numbers) (n : ℕ) → set.contains lost n ≡ true
    → IsWithout s (below lost n) t → IsWithout t (λ b. n == b) u → IsWithout s (below lost (n + 1)) u
IsWithout-next s t u lost n in_lost first then b =
    then b ∙ elim (n == b) as (λ v. (n == b) ≡ v → (is_up t b && not v) ≡ (is_up s b && not (below lost (n + 1) b))) [
      | true ↦ λ e.
          let same : n ≡ b = grind (arith, nat_tests) in
          let gone : below lost (n + 1) b ≡ true =
          subst (λ k. below lost (n + 1) k ≡ true) same (below-here lost n true in_lost) in
          and_false (is_up t b) ∙ sym (and_false (is_up s b)) ∙ ap (λ g. is_up s b && not g) (sym gone)
      | false ↦ λ e.
          let other : n ≢ b = grind (arith, nat_tests) in
          and_true (is_up t b) ∙ first b ∙ ap (λ g. is_up s b && not g) (sym (below-others lost n b other))
    ] refl

-- the next bookie isn't
pub IsWithout-kept : (s t : Cluster) (lost : Set numbers) (n : ℕ) → set.contains lost n ≡ false
    → IsWithout s (below lost n) t → IsWithout s (below lost (n + 1)) t
IsWithout-kept s t lost n stays first b =
    first b ∙ ap (λ g. is_up s b && not g) (elim (n == b) as (λ v. (n == b) ≡ v → below lost n b ≡ below lost (n + 1) b) [
      | true ↦ λ e.
          let same : n ≡ b = grind (arith, nat_tests) in
          let not_yet : nat_lt b n ≡ false = grind (arith, nat_tests) in
          ap (λ t. t && set.contains lost b) not_yet
          ∙ sym (subst (λ k. below lost (n + 1) k ≡ false) same (below-here lost n false stays))
      | false ↦ λ e.
          let other : n ≢ b = grind (arith, nat_tests) in
          sym (below-others lost n b other)
    ] refl)

pub IsWithout-none : (s : Cluster) (lost : Set numbers) → IsWithout s (below lost 0) s
IsWithout-none s lost b =
    let none : nat_lt b 0 ≡ false = grind (arith, nat_tests) in
    sym (ap (λ t. is_up s b && not (t && set.contains lost b)) none ∙ and_true (is_up s b))

-- no bookie is registered but the cluster's
pub IsWithout-all : (s t : Cluster) (lost : Set numbers) → IsWellFormed s → IsWithout s (below lost (length s.names)) t
    → IsWithout s (set.contains lost) t
IsWithout-all s t lost well first b =
    first b ∙ elim (is_up s b) as (λ v. is_up s b ≡ v
    → (v && not (below lost (length s.names) b)) ≡ (v && not (set.contains lost b))) [
      | true ↦ λ up.
          let named : b < length s.names = up_named s b well up in
          let within : nat_lt b (length s.names) ≡ true = grind (arith, nat_tests) in
          ap (λ t. not (t && set.contains lost b)) within
      | false ↦ λ down. refl
    ] refl

-- what leaves all registrations leaves that
pub IsWithout-works : (s t u : Cluster) (is_lost : ℕ → Bool) → IsWithout s is_lost t
    → u.parts.lost_at ≡ t.parts.lost_at → IsWithout s is_lost u
IsWithout-works s t u is_lost first same b =
    ap (λ (xs : List (Option ℕ)). option_map_or is_none (slice_get xs b) false) same ∙ first b

-- Plans

-- no work yet
works_nothing : (rules : Rules) (events : List Event) → GoesOnBy rules events events
works_nothing rules events = ([], sym (append-nil events), refl)

-- and work after work
works_behind : (rules : Rules) (a b c : List Event) → GoesOnBy rules a b → GoesOnBy rules b c → GoesOnBy rules a c
works_behind rules a b c first then = (
  first.0 ++ then.0,
  then.1 ∙ ap (λ (es : List Event). es ++ then.0) first.1 ∙ append_assoc a first.0 then.0,
  list_all-append (is_work_by rules) first.0 then.0 ∙ ap (λ t. t && list_all (is_work_by rules) then.0) first.2 ∙ then.2,
)

-- the line of an event
made_commands : (d n : Draft) (event : Event) → IsMade d event n → is_all_asked n ≡ is_all_asked d
made_commands d n event made =
    let is_asked : List (List ℕ) → List ℕ → Bool = λ names line. is_some (asked names line) in
    ap (λ (names : List (List ℕ)). list_all (is_asked names) n.lines) (ap (λ (s : Cluster). s.names) made.opening)
    ∙ ap (list_all (is_asked d.opening.names)) made.lines.2
    ∙ list_all-append (is_asked d.opening.names) d.lines (made.lines.0 ∷ [])
    ∙ ap (λ (a : Option (Result Command LineFault)). is_all_asked d && (is_some a && true)) made.lines.1
    ∙ and_true (is_all_asked d)

-- a plan that has gone on by work, and then does so again
pub works_on : (rules : Rules) (d n p : Draft) → Works rules n p → Works rules d n → Works rules d p
works_on rules d n p then first = record {
  opening = then.opening ∙ first.opening;
  lost_at = then.lost_at ∙ first.lost_at;
  work = works_behind rules d.events n.events p.events first.work then.work;
  commands = then.commands ∙ first.commands;
}

pub works_none : (rules : Rules) (d : Draft) → Works rules d d
works_none rules d = record { opening = refl; lost_at = refl; work = works_nothing rules d.events; commands = refl }

-- and then stays
pub works_same : (rules : Rules) (d n p : Draft) → p ≡ n → Works rules d n → Works rules d p
works_same rules d n p same first = subst (λ (x : Draft). Works rules d x) (sym same) first

-- what is tried is taken back
pub works_tried : (rules : Rules) (d n : Draft) → n ≡ d → Works rules d n
works_tried rules d n same = works_same rules d d n same (works_none rules d)

-- and then makes an event that is work
pub works_made : (rules : Rules) (d n p : Draft) (event : Event) → IsMade n event p
    → is_work_by rules event ≡ true → Works rules d n → Works rules d p
works_made rules d n p event made by first =
    let then : Works rules n p = record {
      opening = made.opening;
      lost_at = ap (λ (c : Cluster). c.parts.lost_at) made.state ∙ lost_at-after rules n.state event by;
      work = (event ∷ [], made.events, ap (λ t. t && true) by);
      commands = made_commands n p event made;
    } in
    works_on rules d n p then first

-- if it is accepted
pub works_done : {A B : Type 0} (rules : Rules) (d n p : Draft) (event : Event) (r : Result A B)
    → OnOk r (IsMade n event p) → OnErr r (p ≡ n) → is_work_by rules event ≡ true
    → Works rules d n → Works rules d p
works_done rules d n p event (Ok done) made same by first = works_made rules d n p event made by first
works_done rules d n p event (Err stop) made same by first = works_same rules d n p same first

-- or an event of no bookie
pub works_alone : (rules : Rules) (d n p : Draft) (event : Event) → IsMade n event p → is_nobodys event ≡ true
    → Works rules d n → Works rules d p
works_alone rules d n p Audit made nobodys = works_made rules d n p Audit made refl
works_alone rules d n p (Tick ticks) made nobodys = works_made rules d n p (Tick ticks) made refl
works_alone rules d n p Enable made nobodys = works_made rules d n p Enable made refl
works_alone rules d n p other made nobodys = cc

-- if it is accepted
pub works_attempted : {A B : Type 0} (rules : Rules) (d n : Draft) (event : Event) (r : Result A B)
    → OnOk r (IsMade d event n) → OnErr r (n ≡ d) → is_nobodys event ≡ true → Works rules d n
works_attempted rules d n event (Ok done) made same nobodys = works_alone rules d d n event made nobodys (works_none rules d)
works_attempted rules d n event (Err stop) made same nobodys = works_tried rules d n same

-- plans that lose bookies
pub loses_made : (d n : Draft) (bookie : ℕ) → is_up d.state bookie ≡ true → IsMade d (Lose bookie) n
    → Loses d (λ b. bookie == b) (loss_of d.state bookie) n
loses_made d n bookie up made = record {
  opening = made.opening;
  lost =
      subst (λ (s : Cluster). IsWithout d.state (λ b. bookie == b) s) (sym made.state)
      (IsWithout-lose d.state bookie);
  events = made.events ∙ ap (λ (t : Bool). d.events ++ cond t (Lose bookie ∷ []) []) (sym up);
  commands = made_commands d n (Lose bookie) made;
}

pub loses_down : (d : Draft) (bookie : ℕ) → is_up d.state bookie ≡ false
    → Loses d (λ b. bookie == b) (loss_of d.state bookie) d
loses_down d bookie down = record {
  opening = refl;
  lost = IsWithout-down d.state bookie down;
  events = sym (append-nil d.events) ∙ ap (λ (t : Bool). d.events ++ cond t (Lose bookie ∷ []) []) (sym down);
  commands = refl;
}

range_more : (a n b : ℕ) → a + n ≡ b → range_with_len a (n + 1) ≡ range_with_len a n ++ b ∷ []
range_more a zero b is = let here : a ≡ b = omega (arith, is) in ap (λ k. k ∷ []) here
range_more a (suc n) b is =
    let more : suc n + 1 ≡ suc (n + 1) = omega arith in
    ap (range_with_len a) more ∙ ap (λ (ks : List ℕ). a ∷ ks) (range_more (a + 1) n b (omega (arith, is)))

-- the next bookie's loss, if it is to be lost
losses_next : (s : Cluster) (is_lost : ℕ → Bool) (k : ℕ) (v : Bool) → is_lost k ≡ v
    → losses_of s is_lost (k + 1) ≡ losses_of s is_lost k ++ cond v (loss_of s k) []
losses_next s is_lost k v is =
    ap (λ (bs : List ℕ). flat_map (loss_of s) (filter is_lost bs)) (range_more 0 k k (omega arith))
    ∙ ap (flat_map (loss_of s)) (filter-append is_lost (range_with_len 0 k) (k ∷ []))
    ∙ flat_map-append (loss_of s) (filter is_lost (range_with_len 0 k)) (filter is_lost (k ∷ []))
    ∙ ap (λ (t : Bool). losses_of s is_lost k ++ flat_map (loss_of s) (cond t (k ∷ []) [])) is
    ∙ ap (λ (es : List Event). losses_of s is_lost k ++ es) (one v) where
      one : (t : Bool) → flat_map (loss_of s) (cond t (k ∷ []) []) ≡ cond t (loss_of s k) []
      one true = append-nil (loss_of s k)
      one false = refl

pub loses_none : (d : Draft) (lost : Set numbers) → Loses d (below lost 0) (losses_of d.state (set.contains lost) 0) d
loses_none d lost = record {
  opening = refl;
  lost = IsWithout-none d.state lost;
  events = sym (append-nil d.events);
  commands = refl;
}

pub loses_next : (d n p : Draft) (lost : Set numbers) (k : ℕ) → set.contains lost k ≡ true
    → Loses d (below lost k) (losses_of d.state (set.contains lost) k) n
    → Loses n (λ b. k == b) (loss_of n.state k) p
    → Loses d (below lost (k + 1)) (losses_of d.state (set.contains lost) (k + 1)) p
loses_next d n p lost k in_lost first then =
    let not_yet : nat_lt k k ≡ false = grind (arith, nat_tests) in
    let still : is_up n.state k ≡ is_up d.state k =
    first.lost k ∙ ap (λ t. is_up d.state k && not (t && set.contains lost k)) not_yet ∙ and_true (is_up d.state k) in
    record {
      opening = then.opening ∙ first.opening;
      lost = IsWithout-next d.state n.state p.state lost k in_lost first.lost then.lost;
      events =
          then.events
          ∙ ap (λ (es : List Event). es ++ loss_of n.state k) first.events
          ∙ append_assoc d.events (losses_of d.state (set.contains lost) k) (loss_of n.state k)
          ∙ ap (λ (t : Bool). d.events ++ (losses_of d.state (set.contains lost) k ++ cond t (Lose k ∷ []) [])) still
          ∙ ap (λ (es : List Event). d.events ++ es) (sym (losses_next d.state (set.contains lost) k true in_lost));
      commands = then.commands ∙ first.commands;
    }

pub loses_kept : (d n : Draft) (lost : Set numbers) (k : ℕ) → set.contains lost k ≡ false
    → Loses d (below lost k) (losses_of d.state (set.contains lost) k) n
    → Loses d (below lost (k + 1)) (losses_of d.state (set.contains lost) (k + 1)) n
loses_kept d n lost k stays first = record {
  opening = first.opening;
  lost = IsWithout-kept d.state n.state lost k stays first.lost;
  events =
      first.events
      ∙ ap (λ (es : List Event). d.events ++ es)
      (sym (losses_next d.state (set.contains lost) k false stays ∙ append-nil (losses_of d.state (set.contains lost) k)));
  commands = first.commands;
}

pub loses_all : (d n : Draft) (lost : Set numbers) (losses : List Event) → IsWellFormed d.state
    → Loses d (below lost (length d.state.names)) losses n → Loses d (set.contains lost) losses n
loses_all d n lost losses well first = record {
  opening = first.opening;
  lost = IsWithout-all d.state n.state lost well first.lost;
  events = first.events;
  commands = first.commands;
}
