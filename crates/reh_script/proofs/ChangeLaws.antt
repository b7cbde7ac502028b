-- What a line that is answered at a book changes: the record of its event, or nothing.
use Rattle.std.proofs.Common.{◌≡◌, ℕ, zero, suc, ◌+◌, ◌-◌, ◌<◌, Bool, true, false, List, [], ◌∷◌, ◌++◌, length, take}
use Rattle.std.proofs.Common.{drop, Option, None, Some, Result, Ok, Err, inl, inr, refl, sym, ap, ◌∙◌, subst, arith}
use Rattle.std.proofs.Common.{append-nil, is_some, IsSome, cond, length-append, nat_le}
use Rattle.std.specs.Prelude.{◌≢◌, ◌==◌, All, OnOk, slice_get, unwrap_or}
use Rattle.std.proofs.lemmas.List.{append_assoc, take-append-drop}
use Rattle.std.proofs.lemmas.List.Elements.{All-nil}
use Rattle.std.proofs.lemmas.Bool.{false≢true}
use Rattle.reh_types.specs.declared.calls.Call.{Call}
use Rattle.reh_types.specs.declared.calls.Call.TheVariants as call
use Rattle.reh_types.specs.declared.contents.Content.{Content}
use Rattle.reh_types.specs.declared.limits.TheConstants.{MAX_HAND}
use Rattle.reh_types.specs.declared.names.Aim.{Aim}
use Rattle.reh_types.specs.declared.moves.Event.{Event}
use Rattle.reh_types.specs.declared.moves.Move.{Move}
use Rattle.reh_types.specs.declared.moves.Move.TheVariants.{Do, Post, Undo, Redo, Look}
use Rattle.reh_types.specs.declared.moves.Reply.{Reply}
use Rattle.reh_types.specs.declared.moves.Reply.TheVariants.{Done, Clock, Issued, Discarded, Refused}
use Rattle.reh_types.specs.declared.refusals.Refusal.{Refusal}
use Rattle.reh_types.specs.declared.refusals.Refusal.TheVariants.{NothingToUndo, NothingToRedo}
use Rattle.reh_model.specs.Checks.{reason_if}
use Rattle.reh_model.specs.Scan.{copy_of}
use Rattle.reh_model.specs.Book.{Book, answer_to, book_after, changed, is_written, or_refused, Answers}
use Rattle.reh_model.specs.Cluster.{Cluster}
use Rattle.reh_model.specs.Places.{Change, Place, at_registration, at_metadata, at_task, at_lock, at_word, at_scalar}
use Rattle.reh_model.specs.Places.{exchanged, SameAt, IsDelta, IsThere}
use Rattle.reh_model.specs.Session.{Session, unless, replay, state_of, reply_to, moved_session, reply_unless}
use Rattle.reh_model.specs.Step.{refusal_of, after}
use Rattle.reh_model.specs.WellFormed.{IsWellFormed}
use Rattle.reh_model.proofs.SessionLaws.{replay-append, replay-prefix, replay_one}
use Rattle.reh_session.specs.Kept.{Trail, Ahead}
use Rattle.reh_session.proofs.Trails.{trail_less}
use Rattle.reh_desk.specs.Kept.{Kept, Called}
use Rattle.reh_commands.specs.declared.commands.Command.{Command}
use Rattle.reh_commands.specs.declared.commands.Command.TheVariants as command
use Rattle.reh_commands.specs.declared.commands.LineFault.{LineFault}
use Rattle.reh_play.specs.declared.answers.LineAnswer.{LineAnswer}
use Rattle.reh_play.specs.declared.answers.LineAnswer.TheVariants.{Said, Faulty}
use Rattle.reh_play.specs.declared.answers.LineAnswer.TheVariants as line_answer
use Rattle.reh_desk.specs.Numbered.{Numbered}
use Rattle.reh_transcript.specs.Hand.{call_of, of_oldest, spend_of, discard_of}
use Rattle.reh_play.specs.Players.{Player, answer_text, IsAnswered, Commands}
use Rattle.reh_changes.specs.Changes.{all_lines}
use Rattle.reh_commands.specs.Answers.{asked, numbered}
use Rattle.reh_play.specs.Turns.{IsPrinted, PrintsLine}
use Rattle.reh_script.specs.Changes.{shown_at, state_in, is_done, is_undo, asks_undo, IsMadeBy, answers_and_changes}

-- Records

-- as many records as events
trail_length : (s : Cluster) (es : List Event) (rs : List (List Change)) (t : Cluster) → Trail s es rs t
    → length rs ≡ length es
trail_length s [] [] t h = refl
trail_length s (e ∷ es) (q ∷ rs) t h = ap suc (trail_length (after s e) es rs t h.2)
trail_length s [] (q ∷ rs) t h = absurd h
trail_length s (e ∷ es) [] t h = absurd h

-- the last of them leads back over the last event
delta_at : (s : Cluster) (es : List Event) (rs : List (List Change)) (t : Cluster) → Trail s es rs t → (j : ℕ)
    → length es ≡ suc j → (r : List Change) → Some r ≡ slice_get rs j
    → IsDelta t (exchanged t r) r × (replay s (take j es) ≡ Some (exchanged t r))
delta_at s [] rs t h j many r is = absurd (omega (arith, many))
delta_at s (e ∷ es) [] t h j many r is = absurd h
delta_at s (e ∷ []) (q ∷ []) t h zero many r is =
    let same : q ≡ r = cc in
    let one = trail_less s [] [] e q t h in (
      subst (λ (v : List Change). IsDelta t (exchanged t v) v) same one.delta,
      ap (λ (u : Cluster). Some u) (one.before ∙ ap (λ (v : List Change). exchanged t v) same),
    )
delta_at s (e ∷ []) (q ∷ p ∷ rs) t h zero many r is = absurd h.2
delta_at s (e ∷ []) (q ∷ rs) t h (suc j) many r is = absurd (omega (arith, many))
delta_at s (e ∷ d ∷ es) (q ∷ rs) t h zero many r is = absurd (omega (arith, many))
delta_at s (e ∷ d ∷ es) (q ∷ rs) t h (suc j) many r is =
    let rest = delta_at (after s e) (d ∷ es) rs t h.2 j (omega (arith, many)) r is in
    (rest.0, ap (λ (x : Option Refusal). unless x (replay (after s e) (take j (d ∷ es)))) h.0 ∙ rest.1)

pub last_delta : (s : Cluster) (es : List Event) (rs : List (List Change)) (t : Cluster) → Trail s es rs t
    → (r : List Change) → Some r ≡ slice_get rs (length rs - 1)
    → IsDelta t (exchanged t r) r × (replay s (take (length es - 1) es) ≡ Some (exchanged t r))
last_delta s [] [] t h r is = cc
last_delta s [] (q ∷ rs) t h r is = absurd h
last_delta s (e ∷ es) rs t h r is =
    let same : length rs ≡ length (e ∷ es) = trail_length s (e ∷ es) rs t h in
    let last : length rs - 1 ≡ length es = omega (arith, same) in
    let less : length (e ∷ es) - 1 ≡ length es = omega arith in
    let one = delta_at s (e ∷ es) rs t h (length es) refl r (is ∙ ap (slice_get rs) last) in
    (one.0, ap (λ (k : ℕ). replay s (take k (e ∷ es))) less ∙ one.1)

-- the first record that lies ahead makes the event that is next
pub first_delta : (s : Cluster) (es : List Event) (rs : List (List Change)) → Ahead s es rs → (r : List Change)
    → Some r ≡ slice_get rs 0
    → (e : Event) × (later : List Event) × (es ≡ e ∷ later) × (refusal_of s e ≡ None) × IsDelta s (after s e) r
first_delta s [] [] h r is = cc
first_delta s (e ∷ es) (q ∷ rs) h r is =
    let same : q ≡ r = cc in
    (e, es, refl, h.0, subst (λ v. IsDelta s (after s e) v) same h.1)
first_delta s [] (q ∷ rs) h r is = absurd h
first_delta s (e ∷ es) [] h r is = absurd h

same_at : (s : Cluster) (p : Place) → SameAt s.parts s.parts p
same_at s (at_registration b) = refl
same_at s (at_metadata i) = refl
same_at s (at_task i) = refl
same_at s (at_lock i) = refl
same_at s (at_word b l k) = λ e is. refl
same_at s (at_scalar n) = λ scalar is. refl

-- nothing has changed
pub no_delta : (s : Cluster) → IsWellFormed s → IsDelta s s []
no_delta s good = record {
  rising = tt;
  fits = record { there = All-nil (IsThere s); well_formed = good };
  makes = refl;
  differ = All-nil (λ (p : Place). ¬ SameAt s.parts s.parts p);
  elsewhere = λ p away. same_at s p;
}

-- Calls

-- the session stays, unless a call is done
changed_kept : (b : Book) (seat : ℕ) (k : Call) (reply : Reply) → reply ≢ Done
    → (changed b seat k reply).session ≡ b.session
changed_kept b seat k Done not = absurd (not refl)
changed_kept b seat (call.Ask move) (Clock c) not = refl
changed_kept b seat (call.Ask move) (Issued n) not = refl
changed_kept b seat (call.Ask move) Discarded not = refl
changed_kept b seat (call.Ask move) (Refused r) not = refl
changed_kept b seat (call.Checkout aim) (Clock c) not = refl
changed_kept b seat (call.Checkout aim) (Issued n) not = refl
changed_kept b seat (call.Checkout aim) Discarded not = refl
changed_kept b seat (call.Checkout aim) (Refused r) not = refl
changed_kept b seat (call.Spend number content) (Clock c) not = refl
changed_kept b seat (call.Spend number content) (Issued n) not = refl
changed_kept b seat (call.Spend number content) Discarded not = refl
changed_kept b seat (call.Spend number content) (Refused r) not = refl
changed_kept b seat (call.Discard number aim) reply not = refl

kept_if : (written : Bool) (b c : Book) → c.session ≡ b.session → (cond written c b).session ≡ b.session
kept_if true b c same = same
kept_if false b c same = refl

session_kept : (b : Book) (seat : ℕ) (k : Call) (reply : Reply) → reply ≢ Done
    → (book_after b seat k reply).session ≡ b.session
session_kept b seat k reply not =
    kept_if (is_written reply) b (record (changed b seat k reply) { lines = b.lines + 1 }) (changed_kept b seat k reply not)

-- Lines

made_kept : (x : Player Kept) (c : Command) (made : Option Call) (answer : LineAnswer) (y : Player Kept)
    → answer ≢ Said Done → Commands Called shown_at x c made answer y
    → y.counter.book.session ≡ x.counter.book.session
made_kept x c None answer y not (own, stays) = ap (λ (v : Player Kept). v.counter.book.session) stays
made_kept x c (Some k) answer y not (reply, said, calls) =
    ap (λ (b : Book). b.session) calls.goes.answers.1
    ∙ session_kept x.counter.book x.seat.number k reply (λ is. not (said ∙ ap Said is))

-- a line with another answer changes nothing
pub answered_kept : (x : Player Kept) (q : Result Command LineFault) (answer : LineAnswer) (y : Player Kept)
    → answer ≢ Said Done → IsAnswered Called shown_at x q answer y
    → y.counter.book.session ≡ x.counter.book.session
answered_kept x (Err fault) answer y not (is, stays) = ap (λ (v : Player Kept). v.counter.book.session) stays
answered_kept x (Ok c) answer y not made = made_kept x c (call_of c x.hand) answer y not made

-- a move, or a post, that was done, and whether it is an undo
pub record IsStep (m : Session) (undone : Bool) (n : Session) : Type 0 where
  pub move : Move
  pub kind : is_undo move ≡ undone
  pub done : reply_to m move ≡ Done
  pub moved : n ≡ moved_session m move

or_done : (refused : Option Refusal) (reply : Reply) → or_refused refused reply ≡ Done → reply ≡ Done
or_done None reply is = is
or_done (Some refusal) reply is = cc

-- the book answered so itself
own_done : (b : Book) (seat : ℕ) (k : Call) (c : Book) → Answers b seat k Done c → answer_to b seat k ≡ Done
own_done b seat k c (inl is, left) = sym is
own_done b seat k c (inr want, left) = cc

said_is : (reply : Reply) → Said Done ≡ Said reply → Done ≡ reply
said_is reply is = cc

asked_step : (x : Player Kept) (move : Move) (reply : Reply) (y : Player Kept) → Done ≡ reply
    → Called x.counter x.seat.number (call.Ask move) reply y.counter
    → IsStep x.counter.book.session (is_undo move) y.counter.book.session
asked_step x move reply y is called =
    let answers : Answers x.counter.book x.seat.number (call.Ask move) Done y.counter.book =
    subst (λ r. Answers x.counter.book x.seat.number (call.Ask move) r y.counter.book) (sym is) called.answers in
    record {
      move = move;
      kind = refl;
      done = or_done _ (reply_to x.counter.book.session move)
          (own_done x.counter.book x.seat.number (call.Ask move) y.counter.book answers);
      moved = ap (λ (b : Book). b.session) answers.1;
    }

spent_step : (x : Player Kept) (number : ℕ) (content : Content) (reply : Reply) (y : Player Kept) → Done ≡ reply
    → Called x.counter x.seat.number (call.Spend number content) reply y.counter
    → IsStep x.counter.book.session false y.counter.book.session
spent_step x number content reply y is called =
    let answers : Answers x.counter.book x.seat.number (call.Spend number content) Done y.counter.book =
    subst (λ r. Answers x.counter.book x.seat.number (call.Spend number content) r y.counter.book) (sym is) called.answers in
    record {
      move = Post content;
      kind = refl;
      done = or_done _ (reply_to x.counter.book.session (Post content))
          (own_done x.counter.book x.seat.number (call.Spend number content) y.counter.book answers);
      moved = ap (λ (b : Book). b.session) answers.1;
    }

-- no checkout and no discard is answered so
issues_not : (b : Book) (seat : ℕ) (aim : Aim) (reply : Reply) (c : Book) → Done ≡ reply
    → Answers b seat (call.Checkout aim) reply c → ⊥
issues_not b seat aim reply c is answers =
    let own : Issued (b.last_ticket + 1) ≡ Done =
    or_done _ (Issued (b.last_ticket + 1))
    (own_done b seat (call.Checkout aim) c (subst (λ r. Answers b seat (call.Checkout aim) r c) (sym is) answers)) in
    cc

discards_not : (b : Book) (seat number : ℕ) (aim : Aim) (reply : Reply) (c : Book) → Done ≡ reply
    → Answers b seat (call.Discard number aim) reply c → ⊥
discards_not b seat number aim reply c is answers =
    let own : Discarded ≡ Done =
    or_done _ Discarded
    (own_done b seat (call.Discard number aim) c (subst (λ r. Answers b seat (call.Discard number aim) r c) (sym is) answers)) in
    cc

checkout_not : (full : Bool) (x : Player Kept) (aim : Aim) (y : Player Kept)
    → Commands Called shown_at x (command.Checkout aim) (cond full None (Some (call.Checkout aim))) (Said Done) y → ⊥
checkout_not true x aim y (own, stays) = cc
checkout_not false x aim y (reply, said, calls) =
    issues_not x.counter.book x.seat.number aim reply y.counter.book (said_is reply said) calls.goes.answers

spend_step : (hand : List Numbered) (x : Player Kept) (y : Player Kept)
    → Commands Called shown_at x command.Spend (of_oldest spend_of hand) (Said Done) y
    → IsStep x.counter.book.session false y.counter.book.session
spend_step [] x y (own, stays) = cc
spend_step (finding ∷ hand) x y (reply, said, calls) =
    spent_step x finding.number finding.content reply y (said_is reply said) calls.goes

discard_not : (hand : List Numbered) (x : Player Kept) (y : Player Kept)
    → Commands Called shown_at x command.Discard (of_oldest discard_of hand) (Said Done) y → ⊥
discard_not [] x y (own, stays) = cc
discard_not (finding ∷ hand) x y (reply, said, calls) =
    discards_not x.counter.book x.seat.number finding.number finding.content.aim reply y.counter.book
    (said_is reply said) calls.goes.answers

-- a line that was done is a step of the session
pub step_of : (x : Player Kept) (q : Result Command LineFault) (y : Player Kept)
    → IsAnswered Called shown_at x q (Said Done) y
    → IsStep x.counter.book.session (asks_undo (Some q)) y.counter.book.session
step_of x (Err fault) y (is, stays) = cc
step_of x (Ok (command.Make move)) y (reply, said, calls) = asked_step x move reply y (said_is reply said) calls.goes
step_of x (Ok (command.Checkout aim)) y made =
    absurd (checkout_not (nat_le MAX_HAND (length x.hand)) x aim y made)
step_of x (Ok command.Spend) y made = spend_step x.hand x y made
step_of x (Ok command.Discard) y made = absurd (discard_not x.hand x y made)
step_of x (Ok command.Report) y (own, stays) = cc
step_of x (Ok command.Survey) y (own, stays) = absurd own

-- Steps

pub state_is : (m : Session) (s : Cluster) → replay m.opening m.done ≡ Some s → state_of m ≡ s
state_is m s is = ap (λ (o : Option Cluster). unwrap_or o m.opening) is

some_state : (o : Option Cluster) (d : Cluster) → IsSome o → o ≡ Some (unwrap_or o d)
some_state None d there = cc
some_state (Some s) d there = refl

unless_done : (refusal : Option Refusal) → reply_unless refusal ≡ Done → refusal ≡ None
unless_done None is = refl
unless_done (Some refusal) is = cc

take_front : (es : List Event) (e : Event) → take (length es) (es ++ e ∷ []) ≡ es
take_front [] e = refl
take_front (d ∷ es) e = ap (λ (rest : List Event). d ∷ rest) (take_front es e)

-- with one event more
with_one : (m n : Session) (event : Event) → n.opening ≡ m.opening → n.done ≡ m.done ++ event ∷ [] → (s : Cluster)
    → replay n.opening n.done ≡ Some s
    → (0 < length n.done) × (replay n.opening (take (length n.done - 1) n.done) ≡ Some (state_of m))
with_one m n event same more s leads =
    let there : IsSome (replay m.opening (m.done ++ event ∷ [])) =
    subst (λ (es : List Event). IsSome (replay m.opening es)) more
    (subst (λ (c : Cluster). IsSome (replay c n.done)) same (ap is_some leads)) in
    let many : length n.done ≡ length m.done + 1 = ap length more ∙ length-append m.done (event ∷ []) in
    let less : length n.done - 1 ≡ length m.done = omega (arith, many) in
    let first : take (length n.done - 1) n.done ≡ m.done =
    (λ i. take (less i) (more i)) ∙ take_front m.done event in (
      omega (arith, many),
      (λ i. replay (same i) (first i))
          ∙ some_state (replay m.opening m.done) m.opening (replay-prefix m.opening m.done (event ∷ []) there),
    )

redone : (undone : List Event) → reply_unless (reason_if (length undone == 0) NothingToRedo) ≡ Done
    → (event : Event) × (take 1 undone ≡ event ∷ [])
redone [] is = cc
redone (event ∷ later) is = (event, refl)

done_by : (m n : Session) (move : Move) → is_undo move ≡ false → reply_to m move ≡ Done → n ≡ moved_session m move
    → (s : Cluster) → replay n.opening n.done ≡ Some s
    → (0 < length n.done) × (replay n.opening (take (length n.done - 1) n.done) ≡ Some (state_of m))
done_by m n (Do event) kind done moved s leads =
    with_one m n event (ap (λ (v : Session). v.opening) moved) (ap (λ (v : Session). v.done) moved) s leads
done_by m n (Post content) kind done moved s leads =
    with_one m n (copy_of content) (ap (λ (v : Session). v.opening) moved) (ap (λ (v : Session). v.done) moved) s leads
done_by m n Undo kind done moved s leads = cc
done_by m n Redo kind done moved s leads =
    let (event, is) = redone m.undone done in
    with_one m n event (ap (λ (v : Session). v.opening) moved)
    (ap (λ (v : Session). v.done) moved ∙ ap (λ (es : List Event). m.done ++ es) is) s leads
done_by m n Look kind done moved s leads = cc

-- a step that is no undo leaves the events from before, and one more
pub done_step : (m n : Session) (step : IsStep m false n) (s : Cluster) → replay n.opening n.done ≡ Some s
    → (0 < length n.done) × (replay n.opening (take (length n.done - 1) n.done) ≡ Some (state_of m))
done_step m n step s leads = done_by m n step.move step.kind step.done step.moved s leads

-- what an undo leaves: the last event is undone
last_of : (e : Event) (es : List Event) → (event : Event) × (drop (length es) (e ∷ es) ≡ event ∷ [])
last_of e [] = (e, refl)
last_of e (d ∷ es) = last_of d es

last_split : (es : List Event) → reply_unless (reason_if (length es == 0) NothingToUndo) ≡ Done
    → (event : Event) × (drop (length es - 1) es ≡ event ∷ [])
last_split [] is = cc
last_split (e ∷ es) is =
    let less : length (e ∷ es) - 1 ≡ length es = omega arith in
    let (event, at) = last_of e es in
    (event, ap (λ (k : ℕ). drop k (e ∷ es)) less ∙ at)

pub record IsUndone (m n : Session) : Type 0 where
  pub event : Event
  pub later : List Event
  pub same : n.opening ≡ m.opening
  pub undone : n.undone ≡ event ∷ later
  pub done : m.done ≡ n.done ++ event ∷ []

undone_by : (m n : Session) (move : Move) → is_undo move ≡ true → reply_to m move ≡ Done → n ≡ moved_session m move
    → IsUndone m n
undone_by m n (Do event) kind done moved = cc
undone_by m n (Post content) kind done moved = cc
undone_by m n Undo kind done moved =
    let (event, is) = last_split m.done done in
    record {
      event = event;
      later = m.undone;
      same = ap (λ (v : Session). v.opening) moved;
      undone = ap (λ (v : Session). v.undone) moved ∙ ap (λ (es : List Event). es ++ m.undone) is;
      done = sym (take-append-drop (length m.done - 1) m.done)
          ∙ (λ i. (sym (ap (λ (v : Session). v.done) moved)) i ++ is i);
    }
undone_by m n Redo kind done moved = cc
undone_by m n Look kind done moved = cc

pub undone_step : (m n : Session) → IsStep m true n → IsUndone m n
undone_step m n step = undone_by m n step.move step.kind step.done step.moved

-- where that event leads from the state now
pub undone_from : (m n : Session) (step : IsUndone m n) (s : Cluster) → replay n.opening n.done ≡ Some s
    → refusal_of s step.event ≡ None → state_of m ≡ after s step.event
undone_from m n step s leads accepted =
    let back : replay m.opening m.done ≡ Some (after s step.event) =
    (λ i. replay ((sym step.same) i) (step.done i))
    ∙ replay-append n.opening s n.done (step.event ∷ []) leads ∙ replay_one s step.event accepted in
    ap (λ (o : Option Cluster). unwrap_or o m.opening) back

-- Records of lines

-- the newest event's record
pub made_last : (m : Session) (rs : List (List Change)) (r : List Change) → Trail m.opening m.done rs (state_of m)
    → Some r ≡ slice_get rs (length rs - 1) → (before : Cluster)
    → replay m.opening (take (length m.done - 1) m.done) ≡ Some before → IsDelta (state_of m) before r
made_last m rs r trail is before back =
    let last = last_delta m.opening m.done rs (state_of m) trail r is in
    let same : Some before ≡ Some (exchanged (state_of m) r) = sym back ∙ last.1 in
    let was : exchanged (state_of m) r ≡ before = cc in
    subst (λ (b : Cluster). IsDelta (state_of m) b r) was last.0

pub there_last : (m : Session) (rs : List (List Change)) (r : List Change) → Trail m.opening m.done rs (state_of m)
    → Some r ≡ slice_get rs (length rs - 1) → All (IsThere (state_of m)) r
there_last m rs r trail is = (last_delta m.opening m.done rs (state_of m) trail r is).0.fits.there

-- the record of the event that is next
pub made_next : (s : Cluster) (es : List Event) (rs : List (List Change)) (r : List Change) → Ahead s es rs
    → Some r ≡ slice_get rs 0 → (event : Event) (later : List Event) → es ≡ event ∷ later
    → (refusal_of s event ≡ None) × IsDelta s (after s event) r
made_next s es rs r ahead is event later undone =
    let (e, others, first, accepted, delta) = first_delta s es rs ahead r is in
    let same : e ≡ event = cc in (
      subst (λ (x : Event). refusal_of s x ≡ None) same accepted,
      subst (λ (x : Event). IsDelta s (after s x) r) same delta,
    )

pub there_next : (s : Cluster) (es : List Event) (rs : List (List Change)) (r : List Change) → Ahead s es rs
    → Some r ≡ slice_get rs 0 → All (IsThere s) r
there_next s es rs r ahead is =
    let (e, others, first, accepted, delta) = first_delta s es rs ahead r is in
    delta.fits.there

done_is : (answer : LineAnswer) → is_done answer ≡ true → answer ≡ Said Done
done_is (Said Done) is = refl
done_is (Said (Clock clock)) is = cc
done_is (Said (Issued number)) is = cc
done_is (Said Discarded) is = cc
done_is (Said (Refused refusal)) is = cc
done_is (line_answer.Faulty fault) is = cc
done_is line_answer.Report is = cc
done_is (line_answer.Survey lines) is = cc
done_is line_answer.Hidden is = cc

step_as : (x : Player Kept) (q : Result Command LineFault) (answer : LineAnswer) (y : Player Kept) (b : Kept)
    (names : List (List ℕ)) (line : List ℕ) (undone : Bool) → is_done answer ≡ true
    → asks_undo (asked names line) ≡ undone → asked names line ≡ Some q → y.counter ≡ b
    → IsAnswered Called shown_at x q answer y → IsStep x.counter.book.session undone b.book.session
step_as x q answer y b names line undone done kind asks there answered =
    subst (λ (u : Bool). IsStep x.counter.book.session u b.book.session) (ap asks_undo (sym asks) ∙ kind)
    (subst (λ (k : Kept). IsStep x.counter.book.session (asks_undo (Some q)) k.book.session) there
    (step_of x q y (subst (λ a. IsAnswered Called shown_at x q a y) (done_is answer done) answered)))

-- of a line that was done, and is no undo
pub made_done : (b : Kept) (names : List (List ℕ)) (line : List ℕ) (answer : LineAnswer) (s : Cluster)
    (r : List Change) → replay b.book.session.opening b.book.session.done ≡ Some s
    → is_done answer ≡ true → asks_undo (asked names line) ≡ false
    → ((before : Cluster) → 0 < length b.book.session.done
    → replay b.book.session.opening (take (length b.book.session.done - 1) b.book.session.done) ≡ Some before
    → IsDelta (state_of b.book.session) before r)
    → IsMadeBy names b line answer r
made_done b names line answer s r leads done kind made = λ x y q asks there answered.
    let step = step_as x q answer y b names line false done kind asks there answered in
    let led = done_step x.counter.book.session b.book.session step s leads in
    made (state_of x.counter.book.session) led.0 led.1

-- of an undo
pub made_undone : (b : Kept) (names : List (List ℕ)) (line : List ℕ) (answer : LineAnswer) (s : Cluster)
    (r : List Change) → replay b.book.session.opening b.book.session.done ≡ Some s
    → is_done answer ≡ true → asks_undo (asked names line) ≡ true
    → ((event : Event) (later : List Event) → b.book.session.undone ≡ event ∷ later
    → (refusal_of (state_of b.book.session) event ≡ None)
    × IsDelta (state_of b.book.session) (after (state_of b.book.session) event) r)
    → IsMadeBy names b line answer r
made_undone b names line answer s r leads done kind made = λ x y q asks there answered.
    let step = undone_step x.counter.book.session b.book.session
    (step_as x q answer y b names line true done kind asks there answered) in
    let now : state_of b.book.session ≡ s = state_is b.book.session s leads in
    let event = made step.event step.later step.undone in
    let was : state_of x.counter.book.session ≡ after (state_of b.book.session) step.event =
    undone_from x.counter.book.session b.book.session step (state_of b.book.session)
    (leads ∙ ap (λ (t : Cluster). Some t) (sym now)) event.0 in
    subst (λ (t : Cluster). IsDelta (state_of b.book.session) t r) (sym was) event.1

-- of any other line
pub made_nothing : (b : Kept) (names : List (List ℕ)) (line : List ℕ) (answer : LineAnswer) (s : Cluster)
    → replay b.book.session.opening b.book.session.done ≡ Some s → IsWellFormed s
    → is_done answer ≡ false → IsMadeBy names b line answer []
made_nothing b names line answer s leads good not = λ x y q asks there answered.
    let stays : b.book.session ≡ x.counter.book.session =
    ap (λ (k : Kept). k.book.session) (sym there)
    ∙ answered_kept x q answer y (λ is. false≢true (sym not ∙ ap is_done is)) answered in
    let now : IsWellFormed (state_of b.book.session) =
    subst IsWellFormed (sym (state_is b.book.session s leads)) good in
    subst (λ (m : Session). IsDelta (state_of b.book.session) (state_of m) []) stays
    (no_delta (state_of b.book.session) now)

pub there_in : (b : Kept) (s : Cluster) (r : List Change) → replay b.book.session.opening b.book.session.done ≡ Some s
    → All (IsThere (state_in b)) r → All (IsThere s) r
there_in b s r leads there = subst (λ (t : Cluster). All (IsThere t) r) (state_is b.book.session s leads) there

-- What is printed

-- the changes after the answer
pub tells_both : {T E : Type 0} (result : Result T E) (names : List (List ℕ)) (b : Kept) (n : ℕ) (line : List ℕ)
    (answer : LineAnswer) (s : Cluster) (r : List Change) (old mid new : List ℕ)
    → replay b.book.session.opening b.book.session.done ≡ Some s → IsMadeBy names b line answer r
    → mid ≡ old ++ numbered n (answer_text names (shown_at b) answer) → OnOk result (new ≡ mid ++ all_lines s r)
    → OnOk result (PrintsLine Called shown_at answers_and_changes names b n line answer old new)
tells_both (Err want) names b n line answer s r old mid new leads made first more = more
tells_both (Ok ok) names b n line answer s r old mid new leads made first more = λ x y q asks there answered.
    let text : List ℕ = numbered n (answer_text names (shown_at b) answer) in
    let now : s ≡ state_in b = sym (state_is b.book.session s leads) in (
      text ++ all_lines s r,
      more ∙ ap (λ t. t ++ all_lines s r) first ∙ append_assoc old text (all_lines s r),
      (all_lines s r, refl, (r, made x y q asks there answered, ap (λ (t : Cluster). all_lines t r) now)),
    )
