-- How a play reads on in its script and answers the lines that are complete.
use Rattle.std.proofs.Common.{◌≡◌, ℕ, ◌-◌, ◌<◌, ◌≤◌, ◌⊎◌, inl, inr, Bool, true, false, List, [], ◌∷◌, ◌++◌, length}
use Rattle.std.proofs.Common.{take, drop, Option, None, Result, Ok, Err, refl, sym, ap, ◌∙◌, subst, arith, append-nil}
use Rattle.std.proofs.Common.{length-append}
use mathlib.Core.List.{append_assoc}
use Rattle.std.proofs.lemmas.List.{take_at}
use Rattle.std.proofs.KnownBytes.{Appends-trans, Consumes-trans, Consumes-whole}
use Rattle.std.specs.Io.KnownBytes.{Appends, Consumes, Keeps, IsAtEnd}
use Rattle.reh_types.specs.declared.limits.TheConstants.{MAX_SCRIPT_BYTES}
use Rattle.reh_lines.specs.Lines.{lines_of, ended, answered_lines}
use Rattle.reh_play.specs.Players.{Setting, Player, TakesAll}
use Rattle.reh_play.specs.Plays.{stop_of, StopsBetween, GoesOut}
use Rattle.reh_lines.specs.Readings.{IsQuiet, ReadsOn}
use Rattle.reh_lines.specs.Streams.{Grows}
use Rattle.reh_play.specs.Turns.{player, with_ticket, IsAt, GoesOn, Halts, LeadsTo, PlaysTo}
use Rattle.reh_desk.specs.Numbered.{Numbered}
use Rattle.reh_desk.specs.Seats.{SeatView}
use Rattle.reh_play.specs.declared.faults.PlayFault.{PlayFault}
use Rattle.reh_play.specs.declared.faults.PlayFault.TheVariants.{ReadFault, TooLong, WriteFault, NoMemory}
use Rattle.reh_lines.specs.declared.readings.Progress.{Progress}
use Rattle.reh_lines.specs.declared.readings.Progress.TheVariants as progress
use Rattle.reh_play.proofs.Answered.{stop_of-long, stop_of-within, stops_early, ends_well, ends_stopped}
use Rattle.reh_lines.proofs.Parts.{ended-quiet}
use Rattle.reh_play.proofs.Steps.{is_at_more, is_at_kept, all_answered}
use Rattle.reh_lines.proofs.ScriptLaws.{answered_front, answered_lines-failed, answered_lines-long, answered_lines-whole, not_script}
use Rattle.reh_lines.proofs.Standing.{Stands, all_parts, front_stays, grown_by, lines_stand, told, whole_part}
use Rattle.reh_lines.proofs.Parts.{lines_behind}

-- the lines after those that were answered are the next
at_part : {S : Type 0} (place : Setting S) (first part : List ℕ) (rest : List (List ℕ)) (k : ℕ) (x y : Player S)
    (old mid : Option (List ℕ)) → ended first ≡ first → IsAt place (lines_of first) [] k x y old mid
    → IsAt place (lines_of (first ++ part) ++ rest) (lines_of part ++ rest) k x y old mid
at_part place first part rest k x y old mid ends at =
    subst (λ (all : List (List ℕ)). IsAt place all (lines_of part ++ rest) k x y old mid)
    (sym (append_assoc (lines_of first) (lines_of part) rest)
    ∙ ap (λ (ls : List (List ℕ)). ls ++ rest) (sym (lines_behind first part ends)))
    (is_at_more place (lines_of first) [] (lines_of part ++ rest) k x y old mid at)

-- they were answered
pub part_goes : {S : Type 0} (place : Setting S) (first part : List ℕ) (k n : ℕ) (x y z : Player S)
    (old mid new : Option (List ℕ)) → ended first ≡ first → IsAt place (lines_of first) [] k x y old mid
    → GoesOn place k (lines_of part) n [] y z mid new → IsAt place (lines_of (first ++ part)) [] n x z old new
part_goes place first part k n x y z old mid new ends at goes =
    subst (λ (all : List (List ℕ)). IsAt place all [] n x z old new) (append-nil (lines_of (first ++ part)))
    (goes (lines_of (first ++ part) ++ []) [] x old (at_part place first part [] k x y old mid ends at))

-- one of them was not
pub part_halts : {S : Type 0} (place : Setting S) (first part : List ℕ) (k : ℕ) (fault : PlayFault) (x y z : Player S)
    (old mid new : Option (List ℕ)) (rest : List (List ℕ)) → ended first ≡ first
    → IsAt place (lines_of first) [] k x y old mid → Halts place k (lines_of part) fault y z mid new
    → LeadsTo place (lines_of (first ++ part) ++ rest) (Err fault) x z old new
part_halts place first part k fault x y z old mid new rest ends at halts =
    halts (lines_of (first ++ part) ++ rest) rest x old (at_part place first part rest k x y old mid ends at)

-- a play that stops at a line among those that are complete
pub stops_within : {S : Type 0} (place : Setting S) (fault : PlayFault) (script : List ℕ)
    (left_old left : Option (List ℕ)) (x y : Player S) (old new : Option (List ℕ)) → Consumes left_old left script
    → length script ≤ MAX_SCRIPT_BYTES
    → ((rest : List (List ℕ)) → LeadsTo place (lines_of (ended script) ++ rest) (Err fault) x y old new)
    → PlaysTo place (Err fault) false left_old left x y old new
stops_within place fault script left_old left x y old new given within leads = λ z ends.
    let behind = told left_old left script given in
    let text : List ℕ = script ++ behind.0 in
    let front = answered_front script behind.0 within in
    record {
      text = text;
      given = behind.1;
      played = inl (stops_early place (lines_of (ended script) ++ front.0) (answered_lines false text)
          (stop_of false text) fault x y z old new (sym front.1) (leads front.0) ends);
    }

-- a play that breaks off after them
breaks_off : {S : Type 0} (place : Setting S) (fault : PlayFault) (script : List ℕ)
    (left_old left next : Option (List ℕ)) (k : ℕ) (x y : Player S) (old new : Option (List ℕ))
    → (fault ≡ NoMemory) ⊎ (fault ≡ WriteFault) → Consumes left_old left script → length script ≤ MAX_SCRIPT_BYTES
    → IsAt place (lines_of (ended script)) [] k x y old new
    → PlaysTo place (Err fault) false left_old next x y old new
breaks_off place fault script left_old left next k x y old new is given within at = λ z ends.
    let behind = told left_old left script given in
    let front = answered_front script behind.0 within in
    let stops : StopsBetween place (answered_lines false (script ++ behind.0)) x z old new = record {
      done = at.done;
      rest = front.0;
      text = at.text;
      y = y;
      split = front.1 ∙ ap (λ (ls : List (List ℕ)). ls ++ front.0) (at.split ∙ append-nil at.done);
      taken = at.taken;
      ends = ends;
      written = at.written;
    } in
    record {
      text = script ++ behind.0;
      given = behind.1;
      played = elim is [
        | inl want ↦ inr (inl (ap (λ (f : PlayFault). Err f) want), refl, stops)
        | inr lost ↦ inr (inr (ap (λ (f : PlayFault). Err f) lost), refl, stops)
      ];
    }

pub lacks_memory : {S : Type 0} (place : Setting S) (script : List ℕ)
    (left_old left next : Option (List ℕ)) (failed : Bool) (k : ℕ) (x y : Player S) (old new : Option (List ℕ))
    → Consumes left_old left script → length script ≤ MAX_SCRIPT_BYTES → failed ≡ false
    → IsAt place (lines_of (ended script)) [] k x y old new
    → PlaysTo place (Err NoMemory) failed left_old next x y old new
lacks_memory place script left_old left next failed k x y old new given within fine at =
    subst (λ (f : Bool). PlaysTo place (Err NoMemory) f left_old next x y old new) (sym fine)
    (breaks_off place NoMemory script left_old left next k x y old new (inl refl) given within at)

pub keeps_back : {S : Type 0} (place : Setting S) (script : List ℕ)
    (left_old left : Option (List ℕ)) (failed : Bool) (k : ℕ) (x y : Player S) (old new : Option (List ℕ))
    → Consumes left_old left script → length script ≤ MAX_SCRIPT_BYTES → failed ≡ false
    → IsAt place (lines_of (ended script)) [] k x y old new
    → PlaysTo place (Err WriteFault) failed left_old left x y old new
keeps_back place script left_old left failed k x y old new given within fine at =
    subst (λ (f : Bool). PlaysTo place (Err WriteFault) f left_old left x y old new) (sym fine)
    (breaks_off place WriteFault script left_old left left k x y old new (inr refl) given within at)

-- no ticket is at hand
pub holds_none : {S : Type 0} (place : Setting S) (result : Result (Unit {0}) PlayFault) (failed : Bool)
    (left_old left : Option (List ℕ)) (x : Player S) (s : S) (seat : SeatView) (hand : List Numbered)
    (old new : Option (List ℕ)) → PlaysTo place result failed left_old left x (player s seat hand) old new
    → PlaysTo place result failed left_old left x (with_ticket s seat hand None) old new
holds_none place result failed left_old left x s seat hand old new plays =
    subst (λ (h : List Numbered). PlaysTo place result failed left_old left x (player s seat h) old new)
    (sym (append-nil hand)) plays

-- The lines that are complete

-- they are answered
pub answered_to : {S : Type 0} (place : Setting S) (p : Progress) (end done number n : ℕ) (script : List ℕ)
    (left_old left : Option (List ℕ)) (failed : Bool) (x y z : Player S) (old mid new : Option (List ℕ))
    → p ≡ progress.Lines end → Stands p done script left_old left failed
    → ended (take done script) ≡ take done script → IsAt place (lines_of (take done script)) [] number x y old mid
    → GoesOn place number (lines_of (take (end - done) (drop done script))) n [] y z mid new
    → IsAt place (lines_of (ended script)) [] n x z old new
answered_to place p end done number n script left_old left failed x y z old mid new is stands whole at goes =
    let lines = lines_stand p end done script left_old left failed is stands in
    subst (λ (t : List ℕ). IsAt place (lines_of t) [] n x z old new)
    (whole_part done end script lines.0 lines.2)
    (part_goes place (take done script) (take (end - done) (drop done script)) number n x y z old mid new whole at goes)

-- or one of them is not
pub stops_among : {S : Type 0} (place : Setting S) (p : Progress) (fault : PlayFault) (end done number : ℕ)
    (script : List ℕ) (left_old left : Option (List ℕ)) (failed : Bool) (x y z : Player S)
    (old mid new : Option (List ℕ)) → p ≡ progress.Lines end → Stands p done script left_old left failed
    → ended (take done script) ≡ take done script → length script ≤ MAX_SCRIPT_BYTES
    → IsAt place (lines_of (take done script)) [] number x y old mid
    → Halts place number (lines_of (take (end - done) (drop done script))) fault y z mid new
    → PlaysTo place (Err fault) failed left_old left x z old new
stops_among place p fault end done number script left_old left failed x y z old mid new is stands whole within at halts =
    let lines = lines_stand p end done script left_old left failed is stands in
    subst (λ (f : Bool). PlaysTo place (Err fault) f left_old left x z old new) (sym lines.4)
    (stops_within place fault script left_old left x z old new lines.3 within (λ rest.
    subst (λ (t : List ℕ). LeadsTo place (lines_of t ++ rest) (Err fault) x z old new)
    (whole_part done end script lines.0 lines.2)
    (part_halts place (take done script) (take (end - done) (drop done script)) number fault x y z old mid new rest
    whole at halts)))

-- a play after whose script a read failed
pub ends_failed : {S : Type 0} (place : Setting S) (script : List ℕ) (left_old left : Option (List ℕ)) (failed : Bool)
    (k : ℕ) (x y : Player S) (old new : Option (List ℕ)) → Consumes left_old left script
    → length script ≤ MAX_SCRIPT_BYTES → failed ≡ true → IsAt place (lines_of (ended script)) [] k x y old new
    → PlaysTo place (Err ReadFault) failed left_old left x y old new
ends_failed place script left_old left failed k x y old new given within fails at =
    subst (λ (f : Bool). PlaysTo place (Err ReadFault) f left_old left x y old new) (sym fails) (λ z ends. record {
      text = script;
      given = given;
      played = inl (ends_stopped place true script (lines_of (ended script)) ReadFault x y z old new
          (sym (answered_lines-failed script within)) (sym (stop_of-within true script within))
          (all_answered place (lines_of (ended script)) [] k x y old new at refl) ends);
    })

-- a play whose script is too long
pub ends_long : {S : Type 0} (place : Setting S) (script : List ℕ) (byte : ℕ) (left_old left : Option (List ℕ))
    (failed : Bool) (k : ℕ) (x y : Player S) (old new : Option (List ℕ))
    → Consumes left_old left (script ++ byte ∷ []) → length script ≡ MAX_SCRIPT_BYTES → failed ≡ false
    → IsAt place (lines_of (ended script)) [] k x y old new
    → PlaysTo place (Err TooLong) failed left_old left x y old new
ends_long place script byte left_old left failed k x y old new given full fine at =
    let behind = told left_old left (script ++ byte ∷ []) given in
    let text : List ℕ = (script ++ byte ∷ []) ++ behind.0 in
    let split : text ≡ script ++ (byte ∷ behind.0) = append_assoc script (byte ∷ []) behind.0 in
    let longer : MAX_SCRIPT_BYTES < length text =
    omega (arith, full, ap length split, length-append script (byte ∷ behind.0)) in
    let lines : lines_of (ended script) ≡ answered_lines false text =
    ap (λ (t : List ℕ). lines_of (ended t))
    (sym (ap (take MAX_SCRIPT_BYTES) split ∙ take_at script (byte ∷ behind.0) MAX_SCRIPT_BYTES full))
    ∙ sym (answered_lines-long false text (not_script text longer)) in
    subst (λ (f : Bool). PlaysTo place (Err TooLong) f left_old left x y old new) (sym fine) (λ z ends. record {
      text = text;
      given = behind.1;
      played = inl (ends_stopped place false text (lines_of (ended script)) TooLong x y z old new lines
          (sym (stop_of-long false text (not_script text longer)))
          (all_answered place (lines_of (ended script)) [] k x y old new at refl) ends);
    })

-- a play whose script was read to its end
pub ends_whole : {S : Type 0} (place : Setting S) (script : List ℕ) (left_old left : Option (List ℕ)) (failed : Bool)
    (k : ℕ) (x y : Player S) (old new : Option (List ℕ)) → Consumes left_old left script → IsAtEnd left
    → length script ≤ MAX_SCRIPT_BYTES → failed ≡ false → IsAt place (lines_of script) [] k x y old new
    → PlaysTo place (Ok tt) failed left_old left x y old new
ends_whole place script left_old left failed k x y old new given end within fine at =
    subst (λ (f : Bool). PlaysTo place (Ok tt) f left_old left x y old new) (sym fine) (λ z ends. record {
      text = script;
      given = Consumes-whole left_old left script (λ all. script ≡ all) given end refl;
      played = inl (ends_well place (lines_of script) (answered_lines false script) (stop_of false script) x y z old new
          (sym (answered_lines-whole script within)) (stop_of-within false script within)
          (all_answered place (lines_of script) [] k x y old new at refl) ends);
    })

-- one that stops at its last line, which no LF ends
pub stops_last : {S : Type 0} (place : Setting S) (fault : PlayFault) (script : List ℕ)
    (left_old left : Option (List ℕ)) (failed : Bool) (x y : Player S) (old new : Option (List ℕ))
    → Consumes left_old left script → IsAtEnd left → length script ≤ MAX_SCRIPT_BYTES → failed ≡ false
    → LeadsTo place (lines_of script ++ []) (Err fault) x y old new
    → PlaysTo place (Err fault) failed left_old left x y old new
stops_last place fault script left_old left failed x y old new given end within fine leads =
    subst (λ (f : Bool). PlaysTo place (Err fault) f left_old left x y old new) (sym fine) (λ z ends. record {
      text = script;
      given = Consumes-whole left_old left script (λ all. script ≡ all) given end refl;
      played = inl (stops_early place (lines_of script ++ []) (answered_lines false script) (stop_of false script) fault
          x y z old new (append-nil (lines_of script) ∙ sym (answered_lines-whole script within)) leads ends);
    })

-- one whose last answers can't be handed on
pub keeps_last : {S : Type 0} (place : Setting S) (script : List ℕ) (left_old left : Option (List ℕ)) (failed : Bool)
    (k : ℕ) (x y : Player S) (old new : Option (List ℕ)) → Consumes left_old left script → IsAtEnd left
    → length script ≤ MAX_SCRIPT_BYTES → failed ≡ false → IsAt place (lines_of script) [] k x y old new
    → PlaysTo place (Err WriteFault) failed left_old left x y old new
keeps_last place script left_old left failed k x y old new given end within fine at =
    subst (λ (f : Bool). PlaysTo place (Err WriteFault) f left_old left x y old new) (sym fine) (λ z ends. record {
      text = script;
      given = Consumes-whole left_old left script (λ all. script ≡ all) given end refl;
      played = inr (
        inr refl,
        refl,
        record {
          done = at.done;
          rest = [];
          text = at.text;
          y = y;
          split = answered_lines-whole script within ∙ at.split;
          taken = at.taken;
          ends = ends;
          written = at.written;
        },
      );
    })

-- The last line, which no LF ends

pub answered_last : {S : Type 0} (place : Setting S) (done number n : ℕ) (script : List ℕ) (x y z : Player S)
    (old mid new : Option (List ℕ)) → ended (take done script) ≡ take done script
    → IsAt place (lines_of (take done script)) [] number x y old mid
    → GoesOn place number (lines_of (take (length script - done) (drop done script))) n [] y z mid new
    → IsAt place (lines_of script) [] n x z old new
answered_last place done number n script x y z old mid new whole at goes =
    subst (λ (t : List ℕ). IsAt place (lines_of t) [] n x z old new) (all_parts done script)
    (part_goes place (take done script) (take (length script - done) (drop done script)) number n x y z old mid new whole
    at goes)

pub stops_at_last : {S : Type 0} (place : Setting S) (fault : PlayFault) (done number : ℕ) (script : List ℕ)
    (left_old left : Option (List ℕ)) (failed : Bool) (x y z : Player S) (old mid new : Option (List ℕ))
    → Stands progress.End done script left_old left failed → ended (take done script) ≡ take done script
    → length script ≤ MAX_SCRIPT_BYTES → IsAt place (lines_of (take done script)) [] number x y old mid
    → Halts place number (lines_of (take (length script - done) (drop done script))) fault y z mid new
    → PlaysTo place (Err fault) failed left_old left x z old new
stops_at_last place fault done number script left_old left failed x y z old mid new stands whole within at halts =
    stops_last place fault script left_old left failed x z old new stands.1 stands.2 within stands.3
    (subst (λ (t : List ℕ). LeadsTo place (lines_of t ++ []) (Err fault) x z old new) (all_parts done script)
    (part_halts place (take done script) (take (length script - done) (drop done script)) number fault x y z old mid new
    [] whole at halts))

-- the answers to all complete lines could be seen when the reader was read
pub goes_out : {S : Type 0} (place : Setting S) (script quiet : List ℕ) (left_old left before : Option (List ℕ)) (k : ℕ)
    (x y : Player S) (old mid shown : Option (List ℕ)) → Consumes left_old left script → IsQuiet quiet
    → Consumes left before quiet → IsAt place (lines_of (ended script)) [] k x y old mid → shown ≡ mid
    → GoesOut place left_old before x old shown
goes_out place script quiet left_old left before k x y old mid shown given none next at same = record {
  earlier = script ++ quiet;
  text = at.text;
  y = y;
  given = Consumes-trans left_old left before script quiet given next;
  taken = subst (λ (ls : List (List ℕ)). TakesAll place x 1 ls at.text y)
      (sym (append-nil at.done) ∙ sym at.split ∙ ap lines_of (sym (ended-quiet script quiet none))) at.taken;
  reaches = (
    [],
    subst (λ (bytes : List ℕ). Appends old shown bytes) (sym (append-nil at.text))
        (subst (λ (held : Option (List ℕ)). Appends old held at.text) (sym same) at.written),
  );
}

-- and still can
pub out_grown : {S : Type 0} (place : Setting S) (unread : Type 0) (left_old before : Option (List ℕ)) (x : Player S)
    (old shown grown : Option (List ℕ)) → unread ⊎ GoesOut place left_old before x old shown → Grows shown grown
    → unread ⊎ GoesOut place left_old before x old grown
out_grown place unread left_old before x old shown grown (inl not) more = inl not
out_grown place unread left_old before x old shown grown (inr out) more = inr (record {
  earlier = out.earlier;
  text = out.text;
  y = out.y;
  given = out.given;
  taken = out.taken;
  reaches = (
    out.reaches.0 ++ more.0,
    subst (λ (bytes : List ℕ). Appends old grown bytes) (append_assoc out.text out.reaches.0 more.0)
        (Appends-trans old shown grown (out.text ++ out.reaches.0) more.0 out.reaches.1 more.1),
  );
})

-- the bytes whose lines were answered, after more was read
pub still_at : {S : Type 0} (place : Setting S) (end n : ℕ) (script new : List ℕ) (p : Progress)
    (left next : Option (List ℕ)) (failed : Bool) (x y : Player S) (old mid kept : Option (List ℕ))
    → end ≤ length script → take end script ≡ ended script → ReadsOn p script new left next failed
    → IsAt place (lines_of (ended script)) [] n x y old mid → Keeps mid kept
    → IsAt place (lines_of (take end new)) [] n x y old kept
still_at place end n script new p left next failed x y old mid kept within all reads at keeps =
    let more = grown_by p script new left next failed reads in
    subst (λ (t : List ℕ). IsAt place (lines_of t) [] n x y old kept)
    (sym (front_stays end script new more.0 within more.1 ∙ all))
    (is_at_kept place (lines_of (ended script)) [] n x y old mid kept at keeps)

pub lines_answered : {S : Type 0} (place : Setting S) (done number : ℕ) (script : List ℕ) (x y : Player S)
    (old mid : Option (List ℕ)) → take done script ≡ ended script
    → IsAt place (lines_of (take done script)) [] number x y old mid
    → IsAt place (lines_of (ended script)) [] number x y old mid
lines_answered place done number script x y old mid all at =
    subst (λ (t : List ℕ). IsAt place (lines_of t) [] number x y old mid) all at
