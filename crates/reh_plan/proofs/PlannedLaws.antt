-- What all of a plan's steps come to.
use Rattle.std.proofs.Common.{◌≡◌, ◌∙◌, ◌⊎◌, inl, All, Bool, List, [], ◌++◌, ℕ, length, map, true, false, None, is_some, sym, ap, refl, subst, true≢false}
use Rattle.std.proofs.lemmas.List.Elements.{All-push, All-weaker}
use Rattle.std.specs.List.{filter}
use Rattle.std.proofs.lemmas.List.{length-map}
use Rattle.std.proofs.lemmas.List.Sums.{AllPass-from_list_all, length-filter}
use Rattle.reh_types.specs.declared.moves.Event.{Event}
use Rattle.reh_types.specs.Sets as set
use Rattle.reh_types.specs.Sets.{Set, numbers}
use Rattle.reh_model.specs.Cluster.{Cluster}
use Rattle.reh_commands.specs.Answers.{asked}
use Rattle.reh_plan.specs.Ends.{Ends, IsDone, IsFull, IsHarmless, full_line, says_full}
use Rattle.reh_plan.specs.Needed.{AreNeeded, are_used}
use Rattle.reh_plan.specs.Plans.{AllLeft, AllNamed, AreLeft, Draft, GoesOnBy, IsWithout, IsLeftFor, IsLeftLine, IsNaming, IsPlayed, IsRepaired, Loses, OnlyLeft, Tells, comment_of, is_all_asked, is_left, left_ids, losses_of, with_full}
use Rattle.reh_plan.specs.Racks.{Racks, lines_before, racks_line}
use Rattle.reh_plan.specs.Summaries.{left_of}
use Rattle.reh_plan.specs.Takers.{AreWellTaken}
use Rattle.reh_plan.specs.Workers.{Rules, may_work}
use Rattle.reh_plan.specs.declared.fewer.FewerRacks.{FewerRacks}
use Rattle.reh_plan.proofs.FewerLaws.{before-told}
use Rattle.reh_plan.specs.declared.reasons.Left.{Left}
use Rattle.reh_plan.proofs.FullLaws.{commands_dont, comments_same, full_after, told}
use Rattle.reh_plan.proofs.NamedLaws.{left_after, named_by, named_on}
use Rattle.reh_plan.proofs.PlanLaws.{IsWithout-works}

abbrev pub empty_draft : Cluster → Draft
empty_draft s = record { opening = s; state = s; events = []; lines = [] }

pub record IsPlanned (s : Cluster) (lost : Set numbers) (rules : Rules) (ledgers : List Left) (n : Draft) : Type 0 where
  pub opening : n.opening ≡ s
  pub without : IsWithout s (set.contains lost) n.state
  pub order : GoesOnBy rules (losses_of s (set.contains lost) (length s.names)) n.events
  pub named : AllNamed n.state n.lines n.state.parts.ledgers
  pub only : OnlyLeft rules s.names n.state n.lines
  pub left : AreLeft rules s.names n.state n.lines ledgers
  pub ends : Ends rules n.state n.lines
  pub needed : AreNeeded n.lines n.events

-- a comment that the script is full leaves all else
full_opening : (full : Bool) (d : Draft) → (with_full full d).opening ≡ d.opening
full_opening true d = refl
full_opening false d = refl

pub full_state : (full : Bool) (d : Draft) → (with_full full d).state ≡ d.state
full_state true d = refl
full_state false d = refl

full_events : (full : Bool) (d : Draft) → (with_full full d).events ≡ d.events
full_events true d = refl
full_events false d = refl

-- comments leave the cluster on which the plan begins
pub tells_opening : (rules : Rules) (d : Draft) (left : List Left) (n : Draft) → Tells rules d left n → n.opening ≡ d.opening
tells_opening rules d left n tells = ap (λ (x : Draft). x.opening) tells.naming.told ∙ full_opening tells.full d

-- and its events
tells_events : (rules : Rules) (d : Draft) (left : List Left) (n : Draft) → Tells rules d left n → n.events ≡ d.events
tells_events rules d left n tells = ap (λ (x : Draft). x.events) tells.naming.told ∙ full_events tells.full d

-- so that what was true of each place that is taken is still so
pub taken-told : (rules : Rules) (r : Racks) (d w n : Draft) (left : List Left) → w ≡ d → Tells rules w left n
    → AreWellTaken (may_work rules) r d.opening d.events → AreWellTaken (may_work rules) r n.opening n.events
taken-told rules r d w n left same tells taken =
    let opening : n.opening ≡ d.opening = tells_opening rules w left n tells ∙ ap (λ (x : Draft). x.opening) same in
    let events : n.events ≡ d.events = tells_events rules w left n tells ∙ ap (λ (x : Draft). x.events) same in
    subst (λ (s : Cluster). AreWellTaken (may_work rules) r s n.events) (sym opening)
    (subst (λ (es : List Event). AreWellTaken (may_work rules) r d.opening es) (sym events) taken)

-- of a plan of commands alone no line is without an answer, but the last one that may say that its script is full
all_commands : (d : Draft) → is_all_asked d ≡ true → All (λ line. asked d.opening.names line ≡ None → line ≡ full_line) d.lines
all_commands d all =
    All-weaker (λ line. is_some (asked d.opening.names line) ≡ true) (λ line. asked d.opening.names line ≡ None → line ≡ full_line)
    (λ line some none. absurd (true≢false (sym some ∙ ap is_some none)))
    d.lines (AllPass-from_list_all (λ line. is_some (asked d.opening.names line)) d.lines all)

only_full : (full : Bool) (d : Draft) → is_all_asked d ≡ true
    → All (λ line. asked d.opening.names line ≡ None → line ≡ full_line) (with_full full d).lines
only_full true d all =
    All-push (λ line. asked d.opening.names line ≡ None → line ≡ full_line) d.lines full_line (all_commands d all) (λ _. refl)
only_full false d all = all_commands d all

-- bookies are lost, work is done, and what is left is named
planned : (s : Cluster) (lost : Set numbers) (rules : Rules) (l : Draft) (left : List Left) (n : Draft) → Loses (empty_draft s) (set.contains lost) (losses_of s (set.contains lost) (length s.names)) l
    → IsRepaired rules l left n → IsPlanned s lost rules left n
planned s lost rules l left n first done =
    let w : Draft = done.worked in
    let full : Bool = done.tells.full in
    let before : Draft = with_full full w in
    let naming : IsNaming rules full before left n = done.tells.naming in
    let opening : n.opening ≡ s = tells_opening rules w left n done.tells ∙ done.works.opening ∙ first.opening in
    let state : n.state ≡ w.state = ap (λ (x : Draft). x.state) naming.told ∙ full_state full w in
    let events : n.events ≡ w.events = ap (λ (x : Draft). x.events) naming.told ∙ full_events full w in
    let lines : n.lines ≡ before.lines ++ map comment_of left = ap (λ (x : Draft). x.lines) naming.told in
    let all : is_all_asked w ≡ true = done.works.commands ∙ first.commands in
    let said : says_full n.lines ≡ full =
    ap says_full lines ∙ comments_same before.lines left ∙ told w full (commands_dont w all) in
    let same : before.state ≡ n.state = sym (ap (λ (x : Draft). x.state) naming.told) in
    let of : map (λ x. x.ledger) left ≡ left_ids n.state n.state.parts.ledgers =
    naming.of ∙ ap (λ (t : Cluster). left_ids t t.parts.ledgers) same in
    let why : All (IsLeftFor rules full n.state n.state.parts.ledgers) left =
    subst (λ (t : Cluster). All (IsLeftFor rules full t t.parts.ledgers) left) same naming.why in
    let others : All (λ line. asked s.names line ≡ None → line ≡ full_line) before.lines =
    subst (λ (o : Cluster). All (λ line. asked o.names line ≡ None → line ≡ full_line) before.lines)
    (done.works.opening ∙ first.opening) (only_full full w all) in
    let first_lines : AllLeft rules full s.names n.state before.lines =
    All-weaker (λ line. asked s.names line ≡ None → line ≡ full_line)
    (λ line. asked s.names line ≡ None → (line ≡ full_line) ⊎ IsLeftLine rules full n.state n.state.parts.ledgers line)
    (λ line is none. inl (is none)) before.lines others in
    record {
      opening = opening;
      without =
          subst (λ (t : Cluster). IsWithout s (set.contains lost) t) (sym state)
          (IsWithout-works s l.state w.state (set.contains lost) first.lost done.works.lost_at);
      order = (
        done.works.work.0,
        events ∙ done.works.work.1 ∙ ap (λ (events : List Event). events ++ done.works.work.0) first.events,
        done.works.work.2,
      );
      named =
          subst (λ (ls : List (List ℕ)). AllNamed n.state ls n.state.parts.ledgers) (sym lines)
          (named_by n.state before.lines left n.state.parts.ledgers of);
      only = record {
        full = λ says.
            let is : full ≡ true = sym said ∙ says in
            subst (λ (ls : List (List ℕ)). IsFull s.names ls) (sym lines)
            (subst (λ (o : Cluster). IsFull o.names (before.lines ++ map comment_of left)) (done.works.opening ∙ first.opening)
            (full_after w full left is all (done.tells.cut_off is)));
        left =
            subst (λ (x : Bool). AllLeft rules x s.names n.state n.lines) (sym said)
            (subst (λ (ls : List (List ℕ)). AllLeft rules full s.names n.state ls) (sym lines)
            (left_after rules full s.names n.state before.lines left first_lines why));
      };
      left = record {
        before = before.lines;
        told = lines;
        others = others;
        of = of;
        why = subst (λ (x : Bool). All (IsLeftFor rules x n.state n.state.parts.ledgers) left) (sym said) why;
      };
      ends = λ says. subst (IsDone rules) (sym state) (done.tells.through (sym said ∙ says)).done;
      needed = λ says. ap are_used events ∙ (done.tells.through (sym said ∙ says)).needed;
    }

-- so a plan that begins without a line
pub planned-alone : (s : Cluster) (lost : Set numbers) (rules : Rules) (d : Draft) (left : List Left) (n : Draft) → d ≡ empty_draft s
    → IsPlayed d (set.contains lost) rules left n → IsPlanned s lost rules left n
planned-alone s lost rules d left n begun played =
    planned s lost rules played.lost left n
    (subst (λ (b : Draft). Loses b (set.contains lost) (losses_of b.state (set.contains lost) (length b.state.names)) played.lost)
    begun played.loses)
    played.repaired

-- what such a plan comes to, with comments on these fragments at its end
pub record IsTold (s : Cluster) (lost : Set numbers) (rules : Rules) (ledgers : List Left) (fewer : List FewerRacks) (n : Draft) : Type 0 where
  pub opening : n.opening ≡ s
  pub without : IsWithout s (set.contains lost) n.state
  pub order : GoesOnBy rules (losses_of s (set.contains lost) (length s.names)) n.events
  pub named : AllNamed n.state n.lines n.state.parts.ledgers
  pub told : n.lines ≡ lines_before fewer n.lines ++ map racks_line fewer
  pub only : OnlyLeft rules s.names n.state (lines_before fewer n.lines)
  pub left : AreLeft rules s.names n.state (lines_before fewer n.lines) ledgers
  pub ends : Ends rules n.state (lines_before fewer n.lines)
  pub harmless : IsHarmless s n.state
  pub needed : AreNeeded (lines_before fewer n.lines) n.events

pub told-alone : (s : Cluster) (lost : Set numbers) (rules : Rules) (d p n : Draft) (left : List Left) (fewer : List FewerRacks) → d ≡ empty_draft s
    → IsPlayed d (set.contains lost) rules left p → n ≡ record p { lines = p.lines ++ map racks_line fewer } → IsTold s lost rules left fewer n
told-alone s lost rules d p n left fewer begun played told =
    let done : IsPlanned s lost rules left p = planned-alone s lost rules d left p begun played in
    let before : lines_before fewer (p.lines ++ map racks_line fewer) ≡ p.lines = before-told fewer p.lines in
    subst (IsTold s lost rules left fewer) (sym told) record {
      opening = done.opening;
      without = done.without;
      order = done.order;
      named = named_on p.state p.lines (map racks_line fewer) p.state.parts.ledgers done.named;
      told = ap (λ (lines : List (List ℕ)). lines ++ map racks_line fewer) (sym before);
      only = subst (OnlyLeft rules s.names p.state) (sym before) done.only;
      left = subst (λ (ls : List (List ℕ)). AreLeft rules s.names p.state ls left) (sym before) done.left;
      ends = subst (Ends rules p.state) (sym before) done.ends;
      harmless = subst (λ (x : Draft). IsHarmless x.state p.state) begun played.harmless;
      needed = subst (λ (lines : List (List ℕ)). AreNeeded lines p.events) (sym before) done.needed;
    }

-- so many ledgers are left as the list has
pub left-counted : (s : Cluster) (left : List Left) → map (λ l. l.ledger) left ≡ left_ids s s.parts.ledgers → left_of s ≡ length left
left-counted s left of =
    sym (length-filter (is_left s) s.parts.ledgers)
    ∙ sym (length-map (filter (is_left s) s.parts.ledgers) (λ g. g.id))
    ∙ ap length (sym of)
    ∙ length-map left (λ l. l.ledger)
