-- A play after its first lines, one line at a time.
use Rattle.std.proofs.Common.{◌≡◌, ℕ, suc, ◌+◌, ◌<◌, List, [], ◌∷◌, ◌++◌, length, Option, None, Ok}
use Rattle.std.proofs.Common.{Err, true, refl, sym, ap, ◌∙◌, subst, arith, append-nil, length-append}
use mathlib.Core.List.{append_assoc}
use Rattle.std.proofs.KnownBytes.{Appends-trans, Appends-nil, Appends-kept}
use Rattle.std.specs.Io.KnownBytes.{Appends, Keeps}
use Rattle.reh_desk.specs.Numbered.{Numbered}
use Rattle.reh_desk.specs.Seats.{SeatView}
use Rattle.reh_crew.specs.declared.surveyors.SurveyFault.{SurveyFault}
use Rattle.reh_crew.specs.declared.surveyors.SurveyFault.TheVariants as survey_fault
use Rattle.reh_play.specs.declared.faults.PlayFault.{PlayFault}
use Rattle.reh_play.specs.declared.faults.PlayFault.TheVariants.{WriteFault}
use Rattle.reh_commands.specs.Answers.{asked}
use Rattle.reh_lines.specs.Lines.{lines_of}
use Rattle.std.specs.Prelude.{◌==◌}
use Rattle.std.proofs.lemmas.Bool.Decides.{nat_tests}
use Rattle.reh_play.specs.Faults.{play_fault_of}
use Rattle.reh_play.specs.Players.{Setting, Player, Takes, TakesAll, Begins}
use Rattle.reh_play.specs.Plays.{StopsWanting, IsPlayed}
use Rattle.reh_play.specs.Turns.{player, held, IsAt, IsWanted, LeadsTo, GoesOn, Halts}

-- lines, and one more
takes_more : {S : Type 0} (place : Setting S) (x : Player S) (n : ℕ) (lines : List (List ℕ)) (text : List ℕ)
    (y : Player S) (line answer : List ℕ) (z : Player S) → TakesAll place x n lines text y
    → Takes place y (n + length lines) (asked place.names line) answer z
    → TakesAll place x n (lines ++ line ∷ []) (text ++ answer) z
takes_more place x n [] text y line answer z taken next =
    let none : n + 0 ≡ n = omega arith in (
      answer,
      [],
      z,
      ap (λ t. t ++ answer) taken.0
          ∙ sym (append-nil answer),
      subst (λ v. Takes place v n (asked place.names line) answer z) taken.1
          (subst (λ i. Takes place y i (asked place.names line) answer z) none next),
      (refl, refl),
    )
takes_more place x n (l ∷ lines) text y line answer z taken next =
    let shift : n + suc (length lines) ≡ n + 1 + length lines = omega arith in (
      taken.0,
      taken.1 ++ answer,
      taken.2,
      ap (λ t. t ++ answer) taken.3 ∙ append_assoc taken.0 taken.1 answer,
      taken.4,
      takes_more place taken.2 (n + 1) lines taken.1 y line answer z taken.5
          (subst (λ i. Takes place y i (asked place.names line) answer z) shift next),
    )

pub is_at_start : {S : Type 0} (place : Setting S) (all : List (List ℕ)) (x : Player S) (old : Option (List ℕ))
    → IsAt place all all 0 x x old old
is_at_start place all x old =
    record { done = []; text = []; split = refl; count = refl; taken = (refl, refl); written = Appends-nil old }

-- after one more line
pub is_at_next : {S : Type 0} (place : Setting S) (all lines rest : List (List ℕ)) (line answer : List ℕ) (k : ℕ)
    (x y z : Player S) (old mid new : Option (List ℕ)) → IsAt place all lines k x y old mid
    → lines ≡ line ∷ rest → Takes place y (k + 1) (asked place.names line) answer z → Appends mid new answer
    → IsAt place all rest (k + 1) x z old new
is_at_next place all lines rest line answer k x y z old mid new at first next sent =
    let number : k + 1 ≡ 1 + length at.done = omega (arith, at.count) in
    record {
      done = at.done ++ line ∷ [];
      text = at.text ++ answer;
      split = at.split ∙ ap (λ (ls : List (List ℕ)). at.done ++ ls) first
          ∙ sym (append_assoc at.done (line ∷ []) rest);
      count = omega (arith, at.count, length-append at.done (line ∷ []));
      taken = takes_more place x 1 at.done at.text y line answer z at.taken
          (subst (λ i. Takes place y i (asked place.names line) answer z) number next);
      written = Appends-trans old mid new at.text answer at.written sent;
    }

pub none_left : (text : List ℕ) → (length text == 0) ≡ true → lines_of text ≡ []
none_left [] none = refl
none_left (b ∷ bs) none =
    let zero : length (b ∷ bs) ≡ 0 = grind (arith, nat_tests, none) in
    absurd (omega (arith, zero))

-- and all the lines after them
pub is_at_more : {S : Type 0} (place : Setting S) (all left more : List (List ℕ)) (k : ℕ) (x y : Player S)
    (old mid : Option (List ℕ)) → IsAt place all left k x y old mid
    → IsAt place (all ++ more) (left ++ more) k x y old mid
is_at_more place all left more k x y old mid at = record {
  done = at.done;
  text = at.text;
  split = ap (λ (ls : List (List ℕ)). ls ++ more) at.split ∙ append_assoc at.done left more;
  count = at.count;
  taken = at.taken;
  written = at.written;
}

-- where nothing more was written
pub is_at_kept : {S : Type 0} (place : Setting S) (all left : List (List ℕ)) (k : ℕ) (x y : Player S)
    (old mid new : Option (List ℕ)) → IsAt place all left k x y old mid → Keeps mid new
    → IsAt place all left k x y old new
is_at_kept place all left k x y old mid new at keeps = record {
  done = at.done;
  text = at.text;
  split = at.split;
  count = at.count;
  taken = at.taken;
  written = Appends-kept old mid new at.text at.written keeps;
}

-- where no line is left
pub all_answered : {S : Type 0} (place : Setting S) (all lines : List (List ℕ)) (k : ℕ) (x y : Player S)
    (old new : Option (List ℕ)) → IsAt place all lines k x y old new → lines ≡ []
    → LeadsTo place all (Ok tt) x y old new
all_answered place all lines k x y old new at none = λ end ends.
    let same : at.done ≡ all =
    sym (append-nil at.done) ∙ ap (λ (ls : List (List ℕ)). at.done ++ ls) (sym none) ∙ sym at.split in (
      refl,
      record {
        text = at.text;
        y = y;
        taken =
            subst (λ (ls : List (List ℕ)). TakesAll place x 1 ls at.text y) same at.taken;
        ends = ends;
        written =
            at.written;
      },
    )

-- where the lines are all that there are
at_first : {S : Type 0} (place : Setting S) (lines : List (List ℕ)) (x : Player S) (old : Option (List ℕ))
    → IsAt place lines (lines ++ []) 0 x x old old
at_first place lines x old =
    subst (λ (ls : List (List ℕ)). IsAt place lines ls 0 x x old old) (sym (append-nil lines))
    (is_at_start place lines x old)

pub goes_to_end : {S : Type 0} (place : Setting S) (lines : List (List ℕ)) (number : ℕ) (x y : Player S)
    (old new : Option (List ℕ)) → GoesOn place 0 lines number [] x y old new → LeadsTo place lines (Ok tt) x y old new
goes_to_end place lines number x y old new goes =
    all_answered place lines [] number x y old new (goes lines [] x old (at_first place lines x old)) refl

pub halts_first : {S : Type 0} (place : Setting S) (lines : List (List ℕ)) (fault : PlayFault) (x y : Player S)
    (old new : Option (List ℕ)) → Halts place 0 lines fault x y old new → LeadsTo place lines (Err fault) x y old new
halts_first place lines fault x y old new halts = halts lines [] x old (at_first place lines x old)

number_is : (k : ℕ) (done : List (List ℕ)) → k ≡ length done → k + 1 ≡ length done + 1
number_is k done count = omega (arith, count)

-- where a write fails
pub stops_writing : {S : Type 0} (place : Setting S) (all lines rest : List (List ℕ)) (line answer : List ℕ) (k : ℕ)
    (x y z : Player S) (old mid new : Option (List ℕ)) → IsAt place all lines k x y old mid
    → lines ≡ line ∷ rest → Takes place y (k + 1) (asked place.names line) answer z → (part : List ℕ)
    × (lost : List ℕ) × (part ++ lost ≡ answer) × (0 < length lost) × Appends mid new part
    → LeadsTo place all (Err WriteFault) x z old new
stops_writing place all lines rest line answer k x y z old mid new at first next (part, lost, whole, some, sent) =
    λ end ends.
    record {
      done = at.done;
      line = line;
      rest = rest;
      text = at.text;
      part = part;
      lost = lost;
      mid = y;
      y = z;
      split = at.split ∙ ap (λ (ls : List (List ℕ)). at.done ++ ls) first;
      before = at.taken;
      taken = subst (λ t. Takes place y (length at.done + 1) (asked place.names line) t z) (sym whole)
          (subst (λ i. Takes place y i (asked place.names line) answer z) (number_is k at.done at.count) next);
      is_lost = some;
      ends = ends;
      written = Appends-trans old mid new at.text part at.written sent;
    }

wants : {S : Type 0} (place : Setting S) (all : List (List ℕ)) (fault : SurveyFault) (x z : Player S)
    (old mid : Option (List ℕ)) (stops : StopsWanting place all x z old mid)
    → IsWanted fault (asked place.names stops.line) → IsPlayed place all None (Err (play_fault_of fault)) x z old mid
wants place all survey_fault.NoMemory x z old mid stops wanted = stops
wants place all survey_fault.NoThread x z old mid stops wanted = (stops, wanted)

-- where there is no memory, or no thread for a survey
pub stops_wanting : {S : Type 0} (place : Setting S) (all lines rest : List (List ℕ)) (line : List ℕ) (k : ℕ)
    (fault : SurveyFault) (x y z : Player S) (old mid : Option (List ℕ)) → IsAt place all lines k x y old mid
    → lines ≡ line ∷ rest → Begins place.go place.scene y (asked place.names line) z
    → IsWanted fault (asked place.names line) → LeadsTo place all (Err (play_fault_of fault)) x z old mid
stops_wanting place all lines rest line k fault x y z old mid at first begun wanted = λ end ends.
    let stops : StopsWanting place all x end old mid = record {
      done = at.done;
      line = line;
      rest = rest;
      text = at.text;
      mid = y;
      y = z;
      split = at.split ∙ ap (λ (ls : List (List ℕ)). at.done ++ ls) first;
      before = at.taken;
      begun = begun;
      ends = ends;
      written = at.written;
    } in
    wants place all fault x end old mid stops wanted

-- where a write fails, no ticket is at hand
pub stops_lost : {S : Type 0} (place : Setting S) (all lines rest : List (List ℕ)) (line answer : List ℕ) (k : ℕ)
    (x y : Player S) (s : S) (seat : SeatView) (hand : List Numbered) (old mid new : Option (List ℕ))
    → IsAt place all lines k x y old mid → lines ≡ line ∷ rest
    → Takes place y (k + 1) (asked place.names line) answer (player s seat hand)
    → (part : List ℕ) × (lost : List ℕ) × (part ++ lost ≡ answer) × (0 < length lost) × Appends mid new part
    → LeadsTo place all (Err WriteFault) x (player s seat (hand ++ held None)) old new
stops_lost place all lines rest line answer k x y s seat hand old mid new at first next part =
    subst (λ h. LeadsTo place all (Err WriteFault) x (player s seat h) old new) (sym (append-nil hand))
    (stops_writing place all lines rest line answer k x y (player s seat hand) old mid new at first next part)
