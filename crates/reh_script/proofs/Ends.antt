-- How a pipe ends.
use Rattle.std.proofs.Common.{◌≡◌, ℕ, ◌<◌, ◌≤◌, ◌⊎◌, Bool, false, List, [], length, Option}
use Rattle.std.proofs.Common.{Result, Ok, Err, inl, inr, refl, sym, ap, ◌∙◌, subst, arith}
use Rattle.std.proofs.Common.{take, drop}
use Rattle.std.proofs.lemmas.List.{take-append-le, take-append-drop, length-take-le}
use Rattle.std.specs.Prelude.{IsErrAnd, OnOk}
use Rattle.std.proofs.KnownBytes.{Appends-nil, Keeps-refl}
use Rattle.reh_model.specs.Cluster.{Cluster}
use Rattle.reh_model.specs.Session.{opened_session}
use Rattle.reh_model.specs.Book.{Book, new_book}
use Rattle.reh_desk.specs.Kept.{Kept}
use Rattle.reh_desk.specs.Seats.{SeatView}
use Rattle.reh_fields.specs.declared.faults.PictureFault.{PictureFault}
use Rattle.reh_picture.specs.Pictures.{picture_of}
use Rattle.reh_script.specs.BookPlays.{Transcribes, at_book}
use Rattle.reh_lines.specs.Lines.{lines_of, ended, cut_of, answered_lines}
use Rattle.reh_script.specs.Openings.{Opens, IsOpened}
use Rattle.reh_script.specs.Pipes.{piped, loses_output, PlaysBehind, GoesOutBehind}
use Rattle.reh_script.specs.Pipes.{rehearsal_by, rehearsal_of, IsPiped}
use Rattle.reh_play.specs.Players.{seated}
use Rattle.reh_play.specs.Plays.{GoesOut}
use Rattle.reh_lines.specs.Streams.{Reaches}
use Rattle.reh_transcript.specs.Transcript.{starting, transcript}
use Rattle.reh_play.specs.declared.faults.PlayFault.{PlayFault}
use Rattle.reh_play.specs.declared.faults.PlayFault.TheVariants.{NoMemory}
use Rattle.reh_script.specs.declared.faults.PipeFault.{PipeFault}
use Rattle.reh_script.specs.declared.faults.PipeFault.TheVariants.{Play}
use Rattle.reh_script.specs.declared.openings.Opened.{Opened}
use Rattle.reh_script.proofs.Transcripts.{lines_follow}

-- where there was no memory before the script was played
lacks : (read : Result Cluster PictureFault) (failed : Bool) (left_old left_new old : Option (List ℕ))
    → failed ≡ false → PlaysBehind read (Err (Play NoMemory)) failed left_old left_new old old
lacks (Ok state) failed left_old left_new old fine = inr (refl, fine, Keeps-refl old)
lacks (Err fault) failed left_old left_new old fine = inr (refl, fine, Keeps-refl old)

-- handed on
pub behind_lacking : (read : Result Cluster PictureFault) (result : Result (Unit {0}) PipeFault) (failed : Bool)
    (left_old left_new old : Option (List ℕ)) → IsErrAnd result (λ e. e ≡ Play NoMemory) → failed ≡ false
    → PlaysBehind read result failed left_old left_new old old
behind_lacking read (Ok x) failed left_old left_new old is fine = absurd is
behind_lacking read (Err e) failed left_old left_new old is fine =
    subst (λ (f : PipeFault). PlaysBehind read (Err f) failed left_old left_new old old) (sym is)
    (lacks read failed left_old left_new old fine)

unopened : (read : Result Cluster PictureFault) (fault : PipeFault) (failed : Bool)
    (left_old left_new old : Option (List ℕ)) → Opens read (Err fault) → failed ≡ false
    → PlaysBehind read (Err fault) failed left_old left_new old old
unopened (Ok state) fault failed left_old left_new old want fine =
    inr (ap (λ (f : PipeFault). Err f) want, fine, Keeps-refl old)
unopened (Err reason) fault failed left_old left_new old (inl refusal) fine =
    inl (ap (λ (f : PipeFault). Err f) refusal, fine, Keeps-refl old)
unopened (Err reason) fault failed left_old left_new old (inr want) fine =
    inr (ap (λ (f : PipeFault). Err f) want, fine, Keeps-refl old)

pub behind_unopened : (read : Result Cluster PictureFault) (fault : PipeFault) (result : Result (Unit {0}) PipeFault)
    (failed : Bool) (left_old left_new old : Option (List ℕ)) → Opens read (Err fault)
    → IsErrAnd result (λ e. e ≡ fault) → failed ≡ false
    → PlaysBehind read result failed left_old left_new old old
behind_unopened read fault (Ok x) failed left_old left_new old opens is fine = absurd is
behind_unopened read fault (Err e) failed left_old left_new old opens is fine =
    subst (λ (f : PipeFault). PlaysBehind read (Err f) failed left_old left_new old old) (sym is)
    (unopened read fault failed left_old left_new old opens fine)

-- a play by the seat of a book that was opened
at_opened : (state : Cluster) (o : Opened) (end : Result (Unit {0}) PlayFault) (failed : Bool)
    (left_old left_new : Option (List ℕ)) (b : Book) (old new : Option (List ℕ)) → IsOpened state o
    → Transcribes o.names o.seat.number end failed left_old left_new o.book.book b old new
    → Transcribes state.names 0 end failed left_old left_new (new_book (opened_session state)) b old new
at_opened state o end failed left_old left_new b old new is played =
    let fresh : Book = new_book (opened_session state) in
    subst (λ (names : List (List ℕ)). Transcribes names 0 end failed left_old left_new fresh b old new) is.names
    (subst (λ (s : SeatView). Transcribes o.names s.number end failed left_old left_new fresh b old new) is.seat
    (subst (λ (k : Kept). Transcribes o.names o.seat.number end failed left_old left_new k.book b old new) is.book
    played))

pub behind_played : (read : Result Cluster PictureFault) (o : Opened) (end : Result (Unit {0}) PlayFault)
    (result : Result (Unit {0}) PipeFault) (failed : Bool) (left_old left_new : Option (List ℕ)) (b : Book)
    (old new : Option (List ℕ)) → Opens read (Ok o) → result ≡ piped end
    → Transcribes o.names o.seat.number end failed left_old left_new o.book.book b old new
    → PlaysBehind read result failed left_old left_new old new
behind_played (Err fault) o end result failed left_old left_new b old new opens same played = absurd opens
behind_played (Ok state) o end result failed left_old left_new b old new opens same played = inl (record {
  end = end;
  book = b;
  same = same;
  played = at_opened state o end failed left_old left_new b old new opens played;
})

-- what holds where a play ends well holds where the pipe does
pub piped_well : (holds : Type 0) (end : Result (Unit {0}) PlayFault) (result : Result (Unit {0}) PipeFault)
    → result ≡ piped end → OnOk end holds → OnOk result holds
piped_well holds (Ok x) result same well = subst (λ (r : Result (Unit {0}) PipeFault). OnOk r holds) (sym same) well
piped_well holds (Err fault) result same well = subst (λ (r : Result (Unit {0}) PipeFault). OnOk r holds) (sym same) tt

-- the answers that could be seen are the transcript's
seen_of : (state : Cluster) (o : Opened) (left_old left_before old shown : Option (List ℕ)) → IsOpened state o
    → GoesOut (at_book o.names) left_old left_before (seated o.book o.seat) old shown
    → GoesOutBehind (Ok state) left_old left_before old shown
seen_of state o left_old left_before old shown is out =
    let follows = lines_follow o.names (seated o.book o.seat) 1 (lines_of (ended out.earlier)) out.text out.y out.taken in
    let fresh : Book = new_book (opened_session state) in
    let lines : List (List ℕ) = lines_of (ended out.earlier) in
    record {
      earlier = out.earlier;
      given = out.given;
      reaches =
          subst (λ (names : List (List ℕ)). Reaches old shown (transcript names 0 (starting fresh) 1 lines)) is.names
          (subst (λ (s : SeatView). Reaches old shown (transcript o.names s.number (starting fresh) 1 lines)) is.seat
          (subst (λ (k : Kept). Reaches old shown (transcript o.names o.seat.number (starting k.book) 1 lines)) is.book
          (subst (λ (text : List ℕ). Reaches old shown text) follows.text_is out.reaches)));
    }

pub out_of_opened : (read : Result Cluster PictureFault) (o : Opened)
    (left_old left_before old shown : Option (List ℕ)) → Opens read (Ok o)
    → GoesOut (at_book o.names) left_old left_before (seated o.book o.seat) old shown
    → GoesOutBehind read left_old left_before old shown
out_of_opened (Err fault) o left_old left_before old shown opens out = absurd opens
out_of_opened (Ok state) o left_old left_before old shown opens out =
    seen_of state o left_old left_before old shown opens out

pub behind_out : (read : Result Cluster PictureFault) (o : Opened) (unread : Type 0)
    (left_old left_before old shown : Option (List ℕ)) → Opens read (Ok o)
    → unread ⊎ GoesOut (at_book o.names) left_old left_before (seated o.book o.seat) old shown
    → unread ⊎ GoesOutBehind read left_old left_before old shown
behind_out read o unread left_old left_before old shown opens (inl not) = inl not
behind_out read o unread left_old left_before old shown opens (inr out) =
    inr (out_of_opened read o left_old left_before old shown opens out)

-- a picture that is not opened is no failed write
pub unopened_writes : (read : Result Cluster PictureFault) (fault : PipeFault) → Opens read (Err fault)
    → loses_output (Err fault) ≡ false
unopened_writes (Ok state) fault is = ap (λ (f : PipeFault). loses_output (Err f)) is
unopened_writes (Err reason) fault (inl is) = ap (λ (f : PipeFault). loses_output (Err f)) is
unopened_writes (Err reason) fault (inr is) = ap (λ (f : PipeFault). loses_output (Err f)) is

-- handed on
pub keeps_writer : (lost : Bool) (fault : PipeFault) (result : Result (Unit {0}) PipeFault) → lost ≡ false
    → loses_output (Err fault) ≡ false → IsErrAnd result (λ e. e ≡ fault) → lost ≡ loses_output result
keeps_writer lost fault (Ok x) fine none is = absurd is
keeps_writer lost fault (Err e) fine none is =
    fine ∙ sym none ∙ sym (ap (λ (f : PipeFault). loses_output (Err f)) is)

-- the picture stands before the script
pub front_of : (p n : ℕ) (input front : List ℕ) → p < n → n ≤ length input → front ≡ take n input
    → take p front ≡ take p input
front_of p n input front before within is =
    let room : p ≤ length (take n input) = omega (arith, length-take-le n input within) in
    ap (take p) is ∙ sym (take-append-le p (take n input) (drop n input) room)
    ∙ ap (take p) (take-append-drop n input)

-- An input without a script

-- nothing is taken of it, and nothing written
plays_none : (state : Cluster) (held : Option (List ℕ))
    → IsPiped false (rehearsal_by false (Ok state) []) (Ok tt) held held
unfolding answered_lines
plays_none state held = inl (record {
  end = Ok tt;
  book = new_book (opened_session state);
  same = refl;
  played = inl (refl, record { taken = refl; written = Appends-nil held });
})

whole_by : (read : Result Cluster PictureFault) (script : List ℕ) (o : Opened) (held : Option (List ℕ)) → script ≡ []
    → Opens read (Ok o) → IsPiped false (rehearsal_by false read script) (Ok tt) held held
whole_by (Ok state) script o held none opens =
    subst (λ (t : List ℕ). IsPiped false (rehearsal_by false (Ok state) t) (Ok tt) held held) (sym none)
    (plays_none state held)
whole_by (Err fault) script o held none opens = absurd opens

whole_refused : (read : Result Cluster PictureFault) (script : List ℕ) (fault : PipeFault) (held : Option (List ℕ))
    → Opens read (Err fault) → IsPiped false (rehearsal_by false read script) (Err fault) held held
whole_refused (Ok state) script fault held want = inr (ap (λ (f : PipeFault). Err f) want, Keeps-refl held)
whole_refused (Err reason) script fault held (inl refusal) = inl (ap (λ (f : PipeFault). Err f) refusal, Keeps-refl held)
whole_refused (Err reason) script fault held (inr want) = inr (ap (λ (f : PipeFault). Err f) want, Keeps-refl held)

pub whole_opened : (input picture : List ℕ) (o : Opened) (held : Option (List ℕ)) → (cut_of input).script ≡ []
    → picture ≡ (cut_of input).picture → Opens (picture_of picture) (Ok o)
    → IsPiped false (rehearsal_of false input) (Ok tt) held held
whole_opened input picture o held none is opens =
    whole_by (picture_of (cut_of input).picture) (cut_of input).script o held none
    (subst (λ (p : List ℕ). Opens (picture_of p) (Ok o)) is opens)

pub whole_unopened : (input picture : List ℕ) (fault : PipeFault) (result : Result (Unit {0}) PipeFault)
    (held : Option (List ℕ)) → picture ≡ (cut_of input).picture → Opens (picture_of picture) (Err fault)
    → IsErrAnd result (λ e. e ≡ fault) → IsPiped false (rehearsal_of false input) result held held
whole_unopened input picture fault (Ok x) held is opens same = absurd same
whole_unopened input picture fault (Err e) held is opens same =
    subst (λ (f : PipeFault). IsPiped false (rehearsal_of false input) (Err f) held held) (sym same)
    (whole_refused (picture_of (cut_of input).picture) (cut_of input).script fault held
    (subst (λ (p : List ℕ). Opens (picture_of p) (Err fault)) is opens))
