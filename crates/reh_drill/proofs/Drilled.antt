-- How a drill ends.
use Rattle.std.proofs.Common.{◌≡◌, inl, inr, ℕ, suc, ◌+◌, List, [], ◌∷◌, ◌++◌, map, length, refl, sym, ap, ◌∙◌, subst}
use Rattle.std.proofs.Common.{Option, None, Some, Result, Ok, Err, Bool, true, false}
use Rattle.std.specs.Prelude.{◌≢◌, ◌↔◌, ◌⊎◌, IfErr, IfOk, IsErrAnd, is_some, is_err}
use Rattle.std.specs.List.{flat_map}
use Rattle.std.specs.Io.KnownBytes.{Appends}
use Rattle.reh_drill.proofs.Writing.{appends_kept}
use Rattle.std.proofs.KnownBytes.{Keeps-refl, Appends-trans}
use Rattle.std.proofs.lemmas.Bool.{false≢true}
use Rattle.reh_types.specs.declared.calls.Line.{Line}
use Rattle.reh_model.specs.Cluster.{Cluster}
use Rattle.reh_model.specs.Session.{Session, state_of}
use Rattle.reh_desk.specs.Closings.{IsUnsettled}
use Rattle.reh_desk.specs.Desks.{DeskView, AreNewFrom, AreSeated, AreSeats, AllAgree, IsClosed, IsHistory, own_lines}
use Rattle.reh_desk.specs.Seats.{SeatView, new_seat}
use Rattle.reh_desk.specs.declared.desks.CloseCause.{CloseCause}
use Rattle.reh_desk.specs.declared.desks.CloseCause.TheVariants.{Seats}
use Rattle.reh_desk.specs.declared.desks.CloseFault.{CloseFault}
use Rattle.reh_desk.specs.declared.desks.Closed.{Closed}
use Rattle.reh_fields.specs.declared.faults.PictureFault.{PictureFault}
use Rattle.reh_fields.specs.declared.faults.PictureFault.TheVariants as picture_fault
use Rattle.reh_play.specs.DeskPlays.{at_desk, sitting, PlaysAtDesk}
use Rattle.reh_lines.specs.Lines.{answered_lines}
use Rattle.reh_play.specs.Plays.{AnswersAll, stop_of, is_write_fault}
use Rattle.reh_play.specs.declared.faults.PlayFault.{PlayFault}
use Rattle.reh_play.specs.declared.faults.PlayFault.TheVariants as play_fault
use Rattle.reh_lines.specs.declared.streams.StreamFault.{StreamFault}
use Rattle.reh_play.proofs.Sitting.{number_at_desk}
use Rattle.reh_drill.specs.Drills.{end_text, Writes, desk_of, IsRoom, OpensDesk, fault_in_memory, IsOutcome}
use Rattle.reh_drill.specs.Drills.{OnePlayed, AllPlayed, transcript_of, fault_of, or_else, first_fault, seat_of}
use Rattle.reh_drill.specs.Drills.{IsOperated, AreOperated, IsDrilled, AreOutcomes, transcripts_of, ClosesWith, Closes, EndsClosed, closed_text}
use Rattle.reh_drill.specs.Drills.{IsCauseOf, IsUnclosed, EndsFor, EndsWith, Ends, Drills, is_lost, is_lost_play}
use Rattle.reh_drill.specs.Faults.{drill_fault_of, refusal_of}
use Rattle.reh_drill.specs.declared.faults.DrillFault.{DrillFault}
use Rattle.reh_drill.specs.declared.faults.DrillFault.TheVariants.{Picture, WriteFault, NoMemory}
use Rattle.reh_drill.specs.declared.openings.Room.{Room}
use Rattle.reh_drill.specs.declared.operators.Outcome.{Outcome}
use Rattle.reh_drill.proofs.Writing.{writes_then}

-- Openings

lacking : (read : Result Cluster PictureFault) (count : ℕ) → OpensDesk read count (Err NoMemory)
lacking (Ok state) count = refl
lacking (Err fault) count = inr refl

-- where there is no memory
pub opens_lacking : (read : Result Cluster PictureFault) (count : ℕ) (result : Result Room DrillFault)
    → IsErrAnd result (λ e. e ≡ NoMemory) → OpensDesk read count result
opens_lacking read count (Ok room) is = absurd is
opens_lacking read count (Err e) is = subst (λ (f : DrillFault). OpensDesk read count (Err f)) (sym is) (lacking read count)

refused_or_lacks : (read : Result Cluster PictureFault) (count : ℕ) (fault : PictureFault)
    → (fault ≢ picture_fault.NoMemory → read ≡ Err fault)
    → OpensDesk read count (Err (refusal_of fault))
refused_or_lacks read count picture_fault.NoMemory is = lacking read count
refused_or_lacks read count fault is =
    subst (λ (r : Result Cluster PictureFault). OpensDesk r count (Err (Picture fault))) (sym (is (λ same. cc)))
    (inl refl)

-- where the picture is refused
pub opens_refused : (read : Result Cluster PictureFault) (count : ℕ) (fault : PictureFault)
    (result : Result Room DrillFault) → (fault ≢ picture_fault.NoMemory → read ≡ Err fault)
    → IsErrAnd result (λ e. e ≡ refusal_of fault) → OpensDesk read count result
opens_refused read count fault (Ok room) refuses is = absurd is
opens_refused read count fault (Err e) refuses is =
    subst (λ (f : DrillFault). OpensDesk read count (Err f)) (sym is) (refused_or_lacks read count fault refuses)

-- where it shows a state
pub opens_state : (read : Result Cluster PictureFault) (state : Cluster) (count : ℕ) (room : Room)
    → read ≡ Ok state → IsRoom state count room → OpensDesk read count (Ok room)
opens_state read state count room is opened =
    subst (λ (r : Result Cluster PictureFault). OpensDesk r count (Ok room)) (sym is) opened

-- a desk has as many seats as were asked for
pub opens_count : (read : Result Cluster PictureFault) (count : ℕ) (room : Room) → OpensDesk read count (Ok room)
    → length room.seats.items ≡ count
opens_count (Ok state) count room opened = opened.seats.count
opens_count (Err fault) count room opened = absurd opened

-- Outcomes

-- a play that ended because there was no memory for its transcript, or for any other fault
pub ended_wanting : (fault : PlayFault) → is_write_fault (Err fault) ≡ true
    → fault_in_memory (Err fault) ≡ Some play_fault.NoMemory
ended_wanting play_fault.ReadFault is = absurd (false≢true is)
ended_wanting play_fault.TooLong is = absurd (false≢true is)
ended_wanting play_fault.WriteFault is = refl
ended_wanting play_fault.NoMemory is = absurd (false≢true is)
ended_wanting play_fault.NoThread is = absurd (false≢true is)

pub ended_otherwise : (fault : PlayFault) → is_write_fault (Err fault) ≡ false
    → fault_in_memory (Err fault) ≡ Some fault
ended_otherwise play_fault.ReadFault is = refl
ended_otherwise play_fault.TooLong is = refl
ended_otherwise play_fault.WriteFault is = absurd (false≢true (sym is))
ended_otherwise play_fault.NoMemory is = refl
ended_otherwise play_fault.NoThread is = refl

-- one operator more
pub played_push : (names : List (List ℕ)) (ss : List SeatView) (cs : List (List ℕ)) (os : List (Result Outcome PlayFault))
    (s : SeatView) (c : List ℕ) (o : Result Outcome PlayFault) → AllPlayed names ss cs os → OnePlayed names s c o
    → AllPlayed names (ss ++ s ∷ []) (cs ++ c ∷ []) (os ++ o ∷ [])
played_push names [] [] [] s c o all one = (one, tt)
played_push names [] [] (x ∷ os) s c o all one = absurd all
played_push names [] (x ∷ cs) os s c o all one = absurd all
played_push names (x ∷ ss) [] os s c o all one = absurd all
played_push names (x ∷ ss) (y ∷ cs) [] s c o all one = absurd all
played_push names (x ∷ ss) (y ∷ cs) (z ∷ os) s c o all one = (all.0, played_push names ss cs os s c o all.1 one)

-- as many as there are scripts
pub count_played : (names : List (List ℕ)) (ss : List SeatView) (cs : List (List ℕ))
    (os : List (Result Outcome PlayFault)) → AllPlayed names ss cs os → length os ≡ length cs
count_played names [] [] [] all = refl
count_played names [] [] (o ∷ os) all = absurd all
count_played names [] (c ∷ cs) os all = absurd all
count_played names (s ∷ ss) [] os all = absurd all
count_played names (s ∷ ss) (c ∷ cs) [] all = absurd all
count_played names (s ∷ ss) (c ∷ cs) (o ∷ os) all = ap suc (count_played names ss cs os all.1)

-- No operator's fault is that of a write, since none writes to a stream.

memory_loses_none : (ended : Result (Unit {0}) PlayFault) → is_lost_play (fault_in_memory ended) ≡ false
memory_loses_none (Ok done) = refl
memory_loses_none (Err play_fault.ReadFault) = refl
memory_loses_none (Err play_fault.TooLong) = refl
memory_loses_none (Err play_fault.WriteFault) = refl
memory_loses_none (Err play_fault.NoMemory) = refl
memory_loses_none (Err play_fault.NoThread) = refl

either_loses : (a b : Option PlayFault) → is_lost_play a ≡ false → is_lost_play b ≡ false → is_lost_play (or_else a b) ≡ false
either_loses None b first second = second
either_loses (Some fault) b first second = first

one_loses_none : (names : List (List ℕ)) (s : SeatView) (c : List ℕ) (o : Result Outcome PlayFault)
    → OnePlayed names s c o → is_lost_play (fault_of o) ≡ false
one_loses_none names s c (Ok o) one = ap is_lost_play one.fault ∙ memory_loses_none one.ended
one_loses_none names s c (Err fault) one = ap (λ f. is_lost_play (Some f)) one

pub first_loses_none : (names : List (List ℕ)) (ss : List SeatView) (cs : List (List ℕ))
    (os : List (Result Outcome PlayFault)) → AllPlayed names ss cs os → is_lost_play (first_fault os) ≡ false
first_loses_none names [] [] [] all = refl
first_loses_none names [] [] (o ∷ os) all = absurd all
first_loses_none names [] (c ∷ cs) os all = absurd all
first_loses_none names (s ∷ ss) [] os all = absurd all
first_loses_none names (s ∷ ss) (c ∷ cs) [] all = absurd all
first_loses_none names (s ∷ ss) (c ∷ cs) (o ∷ os) all =
    either_loses (fault_of o) (first_fault os) (one_loses_none names s c o all.0)
    (first_loses_none names ss cs os all.1)

-- what an operator's fault is to the run
pub lost_play : (fault : PlayFault) → is_lost (Err (drill_fault_of fault)) ≡ is_lost_play (Some fault)
lost_play play_fault.ReadFault = refl
lost_play play_fault.TooLong = refl
lost_play play_fault.WriteFault = refl
lost_play play_fault.NoMemory = refl
lost_play play_fault.NoThread = refl

-- whether a write failed, told by a fault that is handed on
pub lost_as : (lost : Bool) (fault : DrillFault) (result : Result (Unit {0}) DrillFault)
    → IsErrAnd result (λ e. e ≡ fault) → lost ≡ is_lost (Err fault) → lost ≡ is_lost result
lost_as lost fault (Ok done) is same = absurd is
lost_as lost fault (Err e) is same = same ∙ ap (λ f. is_lost (Err f)) (sym is)

-- where no desk is opened, no write failed
pub opens_lose_none : (read : Result Cluster PictureFault) (count : ℕ) (fault : DrillFault)
    → OpensDesk read count (Err fault) → false ≡ is_lost (Err fault)
opens_lose_none (Ok state) count fault refused = ap (λ f. is_lost (Err f)) (sym refused)
opens_lose_none (Err reason) count fault (inl refused) = ap (λ f. is_lost (Err f)) (sym refused)
opens_lose_none (Err reason) count fault (inr refused) = ap (λ f. is_lost (Err f)) (sym refused)

-- Ends without a closed desk

-- where no desk is opened
pub drills_unopened : (read : Result Cluster PictureFault) (count : ℕ) (scripts : List (List ℕ)) (fault : DrillFault)
    (result : Result (Unit {0}) DrillFault) (old : Option (List ℕ)) → OpensDesk read count (Err fault)
    → IsErrAnd result (λ e. e ≡ fault) → Drills read scripts result old old
drills_unopened read count scripts fault (Ok done) old opens is = absurd is
drills_unopened (Ok state) count scripts fault (Err e) old opens is = inl (is ∙ opens, Keeps-refl old)
drills_unopened (Err reason) count scripts fault (Err e) old (inl refused) is = (inl (is ∙ refused), Keeps-refl old)
drills_unopened (Err reason) count scripts fault (Err e) old (inr want) is = (inr (is ∙ want), Keeps-refl old)

-- where there is no memory for the operators
pub drills_unbegun : (read : Result Cluster PictureFault) (count : ℕ) (room : Room) (scripts : List (List ℕ))
    (result : Result (Unit {0}) DrillFault) (old : Option (List ℕ)) → OpensDesk read count (Ok room)
    → IsErrAnd result (λ e. e ≡ NoMemory) → Drills read scripts result old old
drills_unbegun read count room scripts (Ok done) old opens is = absurd is
drills_unbegun (Err reason) count room scripts (Err e) old opens is = absurd opens
drills_unbegun (Ok state) count room scripts (Err e) old opens is = inl (is, Keeps-refl old)

are_outcomes : (state : Cluster) (count : ℕ) (room : Room) (scripts : List (List ℕ))
    (outcomes : List (Result Outcome PlayFault)) → IsRoom state count room
    → AllPlayed room.names room.seats.items scripts outcomes → AreOutcomes state scripts outcomes
are_outcomes state count room scripts outcomes is played = record {
  seats = room.seats.items;
  new = is.seats.each;
  played = subst (λ names. AllPlayed names room.seats.items scripts outcomes) is.names played;
}

-- Ends with a closed desk

neither : (a b : Option PlayFault) → or_else a b ≡ None → (a ≡ None) × (b ≡ None)
neither None b is = (refl, is)
neither (Some x) b is = absurd (false≢true (ap is_some (sym is)))

ended_well : (ended : Result (Unit {0}) PlayFault) → fault_in_memory ended ≡ None → ended ≡ Ok tt
ended_well (Ok done) is = refl
ended_well (Err play_fault.ReadFault) is = absurd (false≢true (ap is_some (sym is)))
ended_well (Err play_fault.TooLong) is = absurd (false≢true (ap is_some (sym is)))
ended_well (Err play_fault.WriteFault) is = absurd (false≢true (ap is_some (sym is)))
ended_well (Err play_fault.NoMemory) is = absurd (false≢true (ap is_some (sym is)))
ended_well (Err play_fault.NoThread) is = absurd (false≢true (ap is_some (sym is)))

-- a play that ended well answered all lines
answered : (names : List (List ℕ)) (script : List ℕ) (seat end : SeatView) (old new : Option (List ℕ))
    → PlaysAtDesk names script (Ok tt) seat end old new
    → (stop_of false script ≡ None)
    × AnswersAll (at_desk names) (answered_lines false script) (sitting seat) (sitting end) old new
answered names script seat end old new (inl played) = played
answered names script seat end old new (inr none) = absurd (false≢true (ap is_err none.0))

operated : (names : List (List ℕ)) (k : ℕ) (tape : List Line) (seat : SeatView) (script : List ℕ) (o : Outcome)
    → seat ≡ new_seat k → IsOutcome names seat script o → o.fault ≡ None
    → own_lines o.seat.number tape ≡ o.seat.lines → IsOperated names k tape script o.transcript.items
operated names k tape seat script o new outcome fine agrees =
    let number : o.seat.number ≡ k =
    number_at_desk names script outcome.ended seat o.seat (Some []) (Some o.transcript.items) outcome.played
    ∙ ap (λ (v : SeatView). v.number) new in
    let well : outcome.ended ≡ Ok tt = ended_well outcome.ended (sym outcome.fault ∙ fine) in
    let all =
    answered names script seat o.seat (Some []) (Some o.transcript.items)
    (subst (λ r. PlaysAtDesk names script r seat o.seat (Some []) (Some o.transcript.items)) well outcome.played) in
    let play =
    subst
    (λ (v : SeatView). AnswersAll (at_desk names) (answered_lines false script) (sitting v) (sitting o.seat) (Some [])
    (Some o.transcript.items)) new all.1 in
    record {
      end = o.seat;
      whole = all.0;
      play = play;
      text = sym play.written;
      lines = sym agrees ∙ ap (λ n. own_lines n tape) number;
    }

are_operated : (names : List (List ℕ)) (k : ℕ) (tape : List Line) (ss : List SeatView) (cs : List (List ℕ))
    (os : List (Result Outcome PlayFault)) → AreNewFrom k ss → AllPlayed names ss cs os → first_fault os ≡ None
    → AllAgree tape (flat_map seat_of os) → AreOperated names k tape cs (map transcript_of os)
are_operated names k tape [] [] [] new all fine agree = tt
are_operated names k tape [] [] (o ∷ os) new all fine agree = absurd all
are_operated names k tape [] (c ∷ cs) os new all fine agree = absurd all
are_operated names k tape (s ∷ ss) [] os new all fine agree = absurd all
are_operated names k tape (s ∷ ss) (c ∷ cs) [] new all fine agree = absurd all
are_operated names k tape (s ∷ ss) (c ∷ cs) (Err fault ∷ os) new all fine agree =
    absurd (false≢true (ap is_some (sym fine)))
are_operated names k tape (s ∷ ss) (c ∷ cs) (Ok o ∷ os) new all fine agree =
    let both : (o.fault ≡ None) × (first_fault os ≡ None) = neither o.fault (first_fault os) fine in (
      operated names k tape s c o new.0 all.0 both.0 agree.0,
      are_operated names (k + 1) tape ss cs os new.1 all.1 both.1 agree.1,
    )

drilled : (state : Cluster) (count : ℕ) (room : Room) (scripts : List (List ℕ))
    (outcomes : List (Result Outcome PlayFault)) (after : List SeatView) (tape : List Line) (end : Session)
    → IsRoom state count room → count ≡ length scripts
    → AllPlayed room.names room.seats.items scripts outcomes → first_fault outcomes ≡ None
    → after ≡ flat_map seat_of outcomes → IsClosed room.desk after end tape
    → IsDrilled state scripts (transcripts_of outcomes ++ end_text (length tape) (state_of end))
drilled state count room scripts outcomes after tape end is counted played fine handed closed = record {
  tape = tape;
  end = end;
  transcripts = map transcript_of outcomes;
  history = subst (λ (d : DeskView). IsHistory d.opening tape end) is.desk closed.history;
  seated = subst (λ (n : ℕ). AreSeated n tape) (ap (λ (d : DeskView). d.seats) is.desk ∙ counted) closed.seated;
  operated =
      are_operated state.names 0 tape room.seats.items scripts outcomes is.seats.each
      (subst (λ names. AllPlayed names room.seats.items scripts outcomes) is.names played) fine
      (subst (AllAgree tape) handed closed.agree);
  text_is = refl;
}

printed : (state : Cluster) (count : ℕ) (room : Room) (scripts : List (List ℕ))
    (outcomes : List (Result Outcome PlayFault)) (text : List ℕ) → IsRoom state count room → count ≡ length scripts
    → AllPlayed room.names room.seats.items scripts outcomes → EndsWith room.desk outcomes text
    → IsDrilled state scripts text
printed state count room scripts outcomes text is counted played ends =
    subst (IsDrilled state scripts) (sym (ends.is ∙ ap (λ t. transcripts_of outcomes ++ t) ends.closes.is))
    (drilled state count room scripts outcomes (flat_map seat_of outcomes) ends.closes.tape ends.closes.end is counted
    played ends.fine refl ends.closes.closed)

-- as its desk ends
pub drills_ended : (read : Result Cluster PictureFault) (count : ℕ) (room : Room) (scripts : List (List ℕ))
    (outcomes : List (Result Outcome PlayFault)) (result : Result (Unit {0}) DrillFault) (old new : Option (List ℕ))
    → OpensDesk read count (Ok room) → count ≡ length scripts
    → AllPlayed room.names room.seats.items scripts outcomes → Ends room.desk outcomes result old new
    → Drills read scripts result old new
drills_ended (Err reason) count room scripts outcomes result old new opens counted played ends = absurd opens
drills_ended (Ok state) count room scripts outcomes (Ok done) old new opens counted played (text, ends, written) =
    (text, printed state count room scripts outcomes text opens counted played ends, written)
drills_ended (Ok state) count room scripts outcomes (Err fault) old new opens counted played (inl (reason, written)) =
    inr
    (inl (record {
      outcomes = outcomes;
      are = are_outcomes state count room scripts outcomes opens played;
      reason =
          subst (λ (d : DeskView). EndsFor d outcomes fault)
          (opens.desk ∙ ap (λ (n : ℕ). desk_of state n) counted) reason;
      written = written;
    }))
drills_ended (Ok state) count room scripts outcomes (Err fault) old new opens counted played
    (inr (is, text, inl all, part)) =
    inr
    (inr (record {
      is = is;
      text = text;
      prints = inl (outcomes, are_outcomes state count room scripts outcomes opens played, all);
      written = part;
    }))
drills_ended (Ok state) count room scripts outcomes (Err fault) old new opens counted played
    (inr (is, text, inr ends, part)) =
    inr
    (inr (record {
      is = is;
      text = text;
      prints = inr (printed state count room scripts outcomes text opens counted played ends);
      written = part;
    }))

-- Ends of a desk

-- what a desk that doesn't close answers
pub cause_is : (desk : DeskView) (seats : List SeatView) (cause : CloseCause)
    → ((cause ≡ Seats) ↔ (AreSeats desk.seats seats → ⊥)) → (cause ≡ Seats) ⊎ IsUnsettled desk.opening seats cause
    → IsCauseOf desk seats cause
cause_is desk seats cause own (inl is) = inl (is, own.0 is)
cause_is desk seats cause own (inr unsettled) = inr unsettled

closes_with : (desk : DeskView) (seats : List SeatView) (closed : Closed) → IsClosed desk seats closed.session closed.tape.items
    → ClosesWith desk seats (closed_text closed)
closes_with desk seats closed is = record { tape = closed.tape.items; end = closed.session; closed = is; is = refl }

-- by what it answered
pub closes_as : (desk : DeskView) (seats : List SeatView) (closed : Result Closed CloseFault)
    (result : Result (Unit {0}) DrillFault) (old new : Option (List ℕ))
    → IfOk closed (λ c. IsClosed desk seats c.session c.tape.items)
    → IfErr closed (λ f. (f.cause ≡ Seats) ↔ (AreSeats desk.seats seats → ⊥))
    → IfErr closed (λ f. (f.cause ≡ Seats) ⊎ IsUnsettled desk.opening seats f.cause)
    → EndsClosed closed result old new → Closes desk seats result old new
closes_as desk seats (Ok c) (Ok done) old new is own book ends = (closed_text c, closes_with desk seats c is, ends)
closes_as desk seats (Ok c) (Err e) old new is own book (inl want) = inl (inr want.0, want.1)
closes_as desk seats (Ok c) (Err e) old new is own book (inr lost) =
    inr (lost.0, closed_text c, closes_with desk seats c is, lost.1)
closes_as desk seats (Err f) (Ok done) old new is own book ends = absurd ends
closes_as desk seats (Err f) (Err e) old new is own book ends =
    inl (inl (f.cause, cause_is desk seats f.cause own book, ends.0), ends.1)

-- of one that closed: where there is no memory for its text
pub closed_untold : (answer : Result Closed CloseFault) (closed : Closed) (result : Result (Unit {0}) DrillFault)
    (old : Option (List ℕ)) → answer ≡ Ok closed → IsErrAnd result (λ e. e ≡ NoMemory) → EndsClosed answer result old old
closed_untold answer closed (Ok done) old closes is = absurd is
closed_untold answer closed (Err e) old closes is =
    subst (λ (a : Result Closed CloseFault). EndsClosed a (Err e) old old) (sym closes) (inl (is, Keeps-refl old))

-- where a write fails
pub closed_short : (answer : Result Closed CloseFault) (closed : Closed) (text : List ℕ) (lost : StreamFault)
    (result : Result (Unit {0}) DrillFault) (old new : Option (List ℕ)) → answer ≡ Ok closed → text ≡ closed_text closed
    → Writes (Err lost) text old new → IsErrAnd result (λ e. e ≡ WriteFault) → EndsClosed answer result old new
closed_short answer closed text lost (Ok done) old new closes told part is = absurd is
closed_short answer closed text lost (Err e) old new closes told part is =
    subst (λ (a : Result Closed CloseFault). EndsClosed a (Err e) old new) (sym closes)
    (inr (is, subst (λ (t : List ℕ). Writes (Err lost) t old new) told part))

-- where all is written
pub closed_whole : (answer : Result Closed CloseFault) (closed : Closed) (text : List ℕ) (old new : Option (List ℕ))
    → answer ≡ Ok closed → text ≡ closed_text closed → Appends old new text → EndsClosed answer (Ok tt) old new
closed_whole answer closed text old new closes told written =
    subst (λ (a : Result Closed CloseFault). EndsClosed a (Ok tt) old new) (sym closes)
    (subst (λ (t : List ℕ). Appends old new t) told written)

-- Ends of a drill

-- where a transcript is not written
pub ends_short : (desk : DeskView) (outcomes : List (Result Outcome PlayFault)) (lost : StreamFault)
    (result : Result (Unit {0}) DrillFault) (old new : Option (List ℕ))
    → Writes (Err lost) (transcripts_of outcomes) old new → IsErrAnd result (λ e. e ≡ WriteFault)
    → Ends desk outcomes result old new
ends_short desk outcomes lost (Ok done) old new part is = absurd is
ends_short desk outcomes lost (Err e) old new part is = inr (is, transcripts_of outcomes, inl refl, part)

-- where an operator ended early
pub ends_early : (desk : DeskView) (outcomes : List (Result Outcome PlayFault)) (reason : PlayFault) (fault : DrillFault)
    (old new : Option (List ℕ)) → first_fault outcomes ≡ Some reason → fault ≡ drill_fault_of reason
    → Appends old new (transcripts_of outcomes) → Ends desk outcomes (Err fault) old new
ends_early desk outcomes reason fault old new first is written = inl (inl (reason, first, is), written)

-- as its desk is closed
pub ends_closing : (desk : DeskView) (outcomes : List (Result Outcome PlayFault)) (seats : List SeatView)
    (result : Result (Unit {0}) DrillFault) (old mid new : Option (List ℕ)) → first_fault outcomes ≡ None
    → seats ≡ flat_map seat_of outcomes → Appends old mid (transcripts_of outcomes)
    → Closes desk seats result mid new → Ends desk outcomes result old new
ends_closing desk outcomes seats (Ok done) old mid new fine handed before (text, closes, written) = (
  transcripts_of outcomes ++ text,
  record { fine = fine; behind = text; closes = subst (λ s. ClosesWith desk s text) handed closes; is = refl },
  Appends-trans old mid new _ _ before written,
)
ends_closing desk outcomes seats (Err fault) old mid new fine handed before (inl (unclosed, kept)) =
    inl (
      inr (fine, subst (λ s. IsUnclosed desk s fault) handed unclosed),
      appends_kept old mid new (transcripts_of outcomes) before kept,
    )
ends_closing desk outcomes seats (Err fault) old mid new fine handed before (inr (is, text, closes, part)) =
    inr (
      is,
      transcripts_of outcomes ++ text,
      inr (record {
        fine = fine;
        behind = text;
        closes = subst (λ s. ClosesWith desk s text) handed closes;
        is = refl;
      }),
      writes_then (Err fault) _ _ old mid new before part,
    )
