-- What a pipe's input is, by what came of reading its head.
use Rattle.std.proofs.Common.{◌≡◌, ℕ, ◌+◌, ◌<◌, ◌≤◌, ◌⊎◌, Bool, true, false, cond, inl, inr, List, [], ◌++◌, length}
use Rattle.std.proofs.Common.{take, drop, Option, None, Some, Result, Ok, Err, refl, sym, ap, ◌∙◌, subst, arith, append-nil}
use Rattle.std.proofs.Common.{length-append}
use Rattle.std.proofs.lemmas.List.{take-append-drop, length-take-le}
use Rattle.std.proofs.lemmas.Bool.Decides.{nat_tests}
use Rattle.std.proofs.KnownBytes.{Consumes-trans, Consumes-all, Keeps-refl}
use Rattle.std.specs.Prelude.{IsErrAnd, OnOk}
use Rattle.std.specs.Io.KnownBytes.{Consumes, IsAtEnd, prepend_known}
use mathlib.Core.List.{append_assoc}
use Rattle.reh_types.specs.declared.limits.TheConstants.{MAX_PICTURE_BYTES}
use Rattle.reh_model.specs.Book.{new_book}
use Rattle.reh_model.specs.Cluster.{Cluster}
use Rattle.reh_model.specs.Session.{opened_session}
use Rattle.reh_fields.specs.declared.faults.PictureFault.{PictureFault}
use Rattle.reh_fields.specs.declared.faults.PictureFault.TheVariants as picture_fault
use Rattle.reh_picture.specs.Pictures.{picture_of}
use Rattle.reh_lines.specs.Heads.{IsHead, IsUntold, IsUntoldUntil, ReadsHead}
use Rattle.reh_lines.specs.Lines.{Cut, cut_of, ended, is_told, lines_of}
use Rattle.reh_script.specs.Pipes.{Rehearsal, rehearsal_by, rehearsal_of, IsPiped, Pipes, IsOut, AnswersGoOut, PlaysBehind}
use Rattle.reh_script.specs.Pipes.{GoesOutBehind}
use Rattle.reh_lines.specs.Readings.{Gives}
use Rattle.reh_lines.specs.Streams.{Reaches}
use Rattle.reh_transcript.specs.Transcript.{starting, transcript}
use Rattle.reh_lines.specs.declared.heads.Head.{Head}
use Rattle.reh_lines.specs.declared.heads.Head.TheVariants.{Ended, Whole, TooLong, Failed}
use Rattle.reh_lines.specs.declared.heads.Percent.{Percent}
use Rattle.reh_script.specs.declared.faults.PipeFault.{PipeFault}
use Rattle.reh_script.specs.declared.faults.PipeFault.TheVariants.{Picture, Play}
use Rattle.reh_play.specs.declared.faults.PlayFault.TheVariants.{NoMemory, ReadFault}
use Rattle.reh_lines.proofs.EndedLaws.{has_lf, ended_none}
use Rattle.reh_lines.proofs.HeadLaws.{has_none, stays_long, lines_untold}
use Rattle.reh_picture.proofs.PicturesLemmas.{picture_of-long}
use Rattle.reh_lines.proofs.Parts.{ended-loud, ended-quiet}

-- What is given

-- the first of some bytes, where the others are at hand
front_given : (n : ℕ) (old mid : Option (List ℕ)) (bytes : List ℕ) → Consumes old mid bytes
    → Consumes old (prepend_known (drop n bytes) mid) (take n bytes)
front_given n None mid bytes given = tt
front_given n (Some all) None bytes given = absurd given
front_given n (Some all) (Some rest) bytes given =
    given ∙ ap (λ (t : List ℕ). t ++ rest) (sym (take-append-drop n bytes))
    ∙ append_assoc (take n bytes) (drop n bytes) rest

gives_more : (failed : Bool) (old mid new : Option (List ℕ)) (front text : List ℕ) → Consumes old mid front
    → Gives mid new failed text → Gives old new failed (front ++ text)
gives_more true old mid new front text first given = Consumes-trans old mid new front text first given
gives_more false None mid new front text first given = tt
gives_more false (Some all) None new front text first given = absurd first
gives_more false (Some all) (Some rest) new front text first given = ap (λ (t : List ℕ). front ++ t) given ∙ sym first

-- all of it, where no read failed
gives_all : (failed : Bool) (old new : Option (List ℕ)) → failed ≡ false → (text : List ℕ) × Gives old new failed text
gives_all failed None new fine = ([], subst (λ (f : Bool). Gives None new f []) (sym fine) tt)
gives_all failed (Some all) new fine = (all, subst (λ (f : Bool). Gives (Some all) new f all) (sym fine) refl)

-- Inputs with a script

-- lines that end stay in front
ended_behind : (head text : List ℕ) → ended head ≡ head → ended (head ++ text) ≡ head ++ ended text
ended_behind head text whole =
    elim (has_lf text) as (λ t. has_lf text ≡ t → ended (head ++ text) ≡ head ++ ended text) [
      | true ↦ λ loud. ended-loud head text loud
      | false ↦ λ quiet.
          ended-quiet head text quiet ∙ whole
          ∙ sym (ap (λ (t : List ℕ). head ++ t) (ended_none text quiet) ∙ append-nil head)
    ] refl

tells_picture : (failed : Bool) (head picture text : List ℕ) → IsHead head picture → length picture < length head
    → is_told failed (head ++ text) ≡ true
tells_picture false head picture text is shorter = refl
tells_picture true head picture text is shorter =
    let lines : ended (head ++ text) ≡ head ++ ended text = ended_behind head text is.0 in
    let front : length (cut_of (ended (head ++ text))).picture ≡ length picture =
    ap (λ (t : List ℕ). length (cut_of t).picture) lines ∙ ap (λ (c : Cut). length c.picture) (is.1 (ended text)) in
    let room : length (cut_of (ended (head ++ text))).picture < length (ended (head ++ text)) =
    omega (arith, front, ap length lines, length-append head (ended text), shorter) in
    grind (arith, nat_tests)

rehearsal_behind : (failed : Bool) (head picture text : List ℕ) → IsHead head picture
    → length picture < length head → rehearsal_of failed (head ++ text) ≡ rehearsal_by failed (picture_of picture) text
rehearsal_behind failed head picture text is shorter =
    ap (λ (t : Bool). cond t (rehearsal_by failed (picture_of (cut_of (head ++ text)).picture) (cut_of (head ++ text)).script)
    (Err (Play ReadFault))) (tells_picture failed head picture text is shorter)
    ∙ ap (λ (c : Cut). rehearsal_by failed (picture_of c.picture) c.script) (is.1 text)

played_text : (read : Result Cluster PictureFault) (result : Result (Unit {0}) PipeFault) (failed : Bool)
    (left left_new old new : Option (List ℕ)) → PlaysBehind read result failed left left_new old new
    → (text : List ℕ) × Gives left left_new failed text × IsPiped failed (rehearsal_by failed read text) result old new
played_text (Ok state) result failed left left_new old new (inl behind) =
    let play = behind.played in
    (play.text, play.given, inl (record { end = behind.end; book = behind.book; same = behind.same; played = play.played }))
played_text (Ok state) result failed left left_new old new (inr (want, fine, keeps)) =
    let all = gives_all failed left left_new fine in (all.0, all.1, inr (want, keeps))
played_text (Err fault) result failed left left_new old new (inl (refused, fine, keeps)) =
    let all = gives_all failed left left_new fine in (all.0, all.1, inl (refused, keeps))
played_text (Err fault) result failed left left_new old new (inr (want, fine, keeps)) =
    let all = gives_all failed left left_new fine in (all.0, all.1, inr (want, keeps))

shorter_front : (input : List ℕ) (p n : ℕ) → p < n → n ≤ length input → length (take p input) < length (take n input)
shorter_front input p n order within =
    omega (arith, length-take-le p input (omega arith), length-take-le n input within)

pipes_behind : (p n : ℕ) (input : List ℕ) (left_old left_mid left_new : Option (List ℕ)) (failed : Bool)
    (result : Result (Unit {0}) PipeFault) (old new : Option (List ℕ)) → Consumes left_old left_mid input
    → IsHead (take n input) (take p input) → p < n → n ≤ length input
    → PlaysBehind (picture_of (take p input)) result failed (prepend_known (drop n input) left_mid) left_new old new
    → Pipes result failed left_old left_new old new
pipes_behind p n input left_old left_mid left_new failed result old new given is order within plays =
    let behind = played_text (picture_of (take p input)) result failed (prepend_known (drop n input) left_mid) left_new
    old new plays in
    record {
      input = take n input ++ behind.0;
      given = gives_more failed left_old (prepend_known (drop n input) left_mid) left_new (take n input) behind.0
          (front_given n left_old left_mid input given) behind.1;
      ends = subst (λ (r : Result Rehearsal PipeFault). IsPiped failed r result old new)
          (sym (rehearsal_behind failed (take n input) (take p input) behind.0 is (shorter_front input p n order within)))
          behind.2;
    }

-- Inputs without one

pipes_whole : (input : List ℕ) (left_old left_new : Option (List ℕ)) (failed : Bool)
    (result : Result (Unit {0}) PipeFault) (held : Option (List ℕ)) → Consumes left_old left_new input → failed ≡ false
    → IsAtEnd left_new → IsPiped false (rehearsal_of false input) result held held
    → Pipes result failed left_old left_new held held
pipes_whole input left_old left_new failed result held given fine end ends =
    subst (λ (f : Bool). Pipes result f left_old left_new held held) (sym fine) (record {
      input = input;
      given = Consumes-all left_old left_new input [] input given end refl;
      ends = ends;
    })

-- a picture that is too long stays it, whatever follows
long_picture : (input more : List ℕ) → IsUntold input → MAX_PICTURE_BYTES + 4 ≤ length input
    → MAX_PICTURE_BYTES < length (cut_of (input ++ more)).picture
long_picture input more untold long = omega (arith, stays_long input more untold)

too_long : (input : List ℕ) → MAX_PICTURE_BYTES < length (cut_of input).picture
    → rehearsal_of false input ≡ rehearsal_by false (Err picture_fault.TooLong) (cut_of input).script
too_long input long =
    ap (λ (r : Result Cluster PictureFault). rehearsal_by false r (cut_of input).script)
    (picture_of-long (cut_of input).picture long)

untold_long : (input more : List ℕ) (result : Result (Unit {0}) PipeFault) (held : Option (List ℕ)) → IsUntold input
    → MAX_PICTURE_BYTES + 4 ≤ length input → IsPiped false (rehearsal_of false input) result held held
    → IsPiped false (rehearsal_of false (input ++ more)) result held held
untold_long input more result held untold long ends =
    let short : MAX_PICTURE_BYTES < length (cut_of input).picture =
    subst (λ (t : List ℕ). MAX_PICTURE_BYTES < length (cut_of t).picture) (append-nil input)
    (long_picture input [] untold long) in
    subst (λ (r : Result Rehearsal PipeFault). IsPiped false r result held held)
    (too_long input short ∙ sym (too_long (input ++ more) (long_picture input more untold long))) ends

all_long : (input : List ℕ) (left_old left_new : Option (List ℕ)) (result : Result (Unit {0}) PipeFault)
    (held : Option (List ℕ)) → Consumes left_old left_new input → IsUntold input
    → MAX_PICTURE_BYTES + 4 ≤ length input → IsPiped false (rehearsal_of false input) result held held
    → Pipes result false left_old left_new held held
all_long input None left_new result held given untold long ends = record { input = input; given = tt; ends = ends }
all_long input (Some all) None result held given untold long ends = absurd given
all_long input (Some all) (Some rest) result held given untold long ends = record {
  input = all;
  given = refl;
  ends = subst (λ (t : List ℕ). IsPiped false (rehearsal_of false t) result held held) (sym given)
      (untold_long input rest result held untold long ends);
}

pipes_long : (input : List ℕ) (left_old left_new : Option (List ℕ)) (failed : Bool)
    (result : Result (Unit {0}) PipeFault) (held : Option (List ℕ)) → Consumes left_old left_new input → failed ≡ false
    → IsUntold input → MAX_PICTURE_BYTES + 4 ≤ length input → IsPiped false (rehearsal_of false input) result held held
    → Pipes result failed left_old left_new held held
pipes_long input left_old left_new failed result held given fine untold long ends =
    subst (λ (f : Bool). Pipes result f left_old left_new held held) (sym fine)
    (all_long input left_old left_new result held given untold long ends)

-- Inputs that a failed read cut short

-- such an input tells no picture
untold : (input : List ℕ) → IsUntold input → length input < MAX_PICTURE_BYTES + 4
    → rehearsal_of true input ≡ Err (Play ReadFault)
untold input is short =
    let none : is_told true input ≡ false = grind (arith, nat_tests, lines_untold input is) in
    ap (λ (t : Bool). cond t (rehearsal_by true (picture_of (cut_of input).picture) (cut_of input).script)
    (Err (Play ReadFault))) none

pipes_failed : (input : List ℕ) (left_old left_new : Option (List ℕ)) (failed : Bool) (held : Option (List ℕ))
    → Consumes left_old left_new input → failed ≡ true → IsUntold input → length input < MAX_PICTURE_BYTES + 4
    → Pipes (Err (Play ReadFault)) failed left_old left_new held held
pipes_failed input left_old left_new failed held given fails is short =
    subst (λ (f : Bool). Pipes (Err (Play ReadFault)) f left_old left_new held held) (sym fails) (record {
      input = input;
      given = given;
      ends = subst (λ (r : Result Rehearsal PipeFault). IsPiped true r (Err (Play ReadFault)) held held)
          (sym (untold input is short)) (refl, Keeps-refl held);
    })

-- Where there is no memory for the input

lacks_state : (read : Result Cluster PictureFault) (script : List ℕ) (held : Option (List ℕ))
    → IsPiped false (rehearsal_by false read script) (Err (Play NoMemory)) held held
lacks_state (Ok state) script held = inr (refl, Keeps-refl held)
lacks_state (Err fault) script held = inr (refl, Keeps-refl held)

lacks_input : (left_old left_new held : Option (List ℕ)) → Pipes (Err (Play NoMemory)) false left_old left_new held held
lacks_input None left_new held = record { input = []; given = tt; ends = lacks_state _ _ held }
lacks_input (Some all) left_new held = record { input = all; given = refl; ends = lacks_state _ _ held }

pub pipes_none : (result : Result (Unit {0}) PipeFault) (failed : Bool) (left_old left_new held : Option (List ℕ))
    → IsErrAnd result (λ e. e ≡ Play NoMemory) → failed ≡ false → Pipes result failed left_old left_new held held
pipes_none (Ok x) failed left_old left_new held is fine = absurd is
pipes_none (Err e) failed left_old left_new held is fine =
    subst (λ (f : Bool). Pipes (Err e) f left_old left_new held held) (sym fine)
    (subst (λ (f : PipeFault). Pipes (Err f) false left_old left_new held held) (sym is)
    (lacks_input left_old left_new held))

-- The answers that could be seen

-- before the script there is none
out_untold : (left_old left_before old shown : Option (List ℕ)) → IsUntoldUntil left_old left_before
    → AnswersGoOut left_old left_before old shown
out_untold left_old left_before old shown (earlier, given, is, short) = record {
  earlier = earlier;
  given = given;
  out = subst (λ (r : Result Rehearsal PipeFault). IsOut r (lines_of (ended (cut_of earlier).script)) old shown)
      (sym (untold earlier is short)) tt;
}

pub out_of_head : (unread : Type 0) (left_old left_before old shown : Option (List ℕ))
    → unread ⊎ IsUntoldUntil left_old left_before → unread ⊎ AnswersGoOut left_old left_before old shown
out_of_head unread left_old left_before old shown (inl not) = inl not
out_of_head unread left_old left_before old shown (inr until) =
    inr (out_untold left_old left_before old shown until)

out_at : (read : Result Cluster PictureFault) (failed : Bool) (left left_before old shown : Option (List ℕ))
    → GoesOutBehind read left left_before old shown → (earlier : List ℕ) × Consumes left left_before earlier × ((script : List ℕ) → script ≡ earlier
    → IsOut (rehearsal_by failed read earlier) (lines_of (ended script)) old shown)
out_at (Ok state) failed left left_before old shown out = (
  out.earlier,
  out.given,
  λ script is.
      subst (λ (t : List ℕ). Reaches old shown
      (transcript state.names 0 (starting (new_book (opened_session state))) 1 (lines_of (ended t)))) (sym is) out.reaches,
)
out_at (Err fault) failed left left_before old shown out = absurd out

-- after a head
out_behind : (p n : ℕ) (input : List ℕ) (left_old left_mid left_before old shown : Option (List ℕ))
    → Consumes left_old left_mid input → IsHead (take n input) (take p input) → p < n → n ≤ length input
    → GoesOutBehind (picture_of (take p input)) (prepend_known (drop n input) left_mid) left_before old shown
    → AnswersGoOut left_old left_before old shown
out_behind p n input left_old left_mid left_before old shown given is order within out =
    let at = out_at (picture_of (take p input)) true (prepend_known (drop n input) left_mid) left_before old shown out in
    record {
      earlier = take n input ++ at.0;
      given = Consumes-trans left_old (prepend_known (drop n input) left_mid) left_before (take n input) at.0
          (front_given n left_old left_mid input given) at.1;
      out = subst (λ (r : Result Rehearsal PipeFault).
          IsOut r (lines_of (ended (cut_of (take n input ++ at.0)).script)) old shown)
          (sym (rehearsal_behind true (take n input) (take p input) at.0 is (shorter_front input p n order within)))
          (at.2 (cut_of (take n input ++ at.0)).script (ap (λ (c : Cut). c.script) (is.1 at.0)));
    }

-- A whole pipe, by what came of reading its head

pub pipes_ended : (head : Head) (percent : Percent) (input : List ℕ) (left_old left_mid left_new : Option (List ℕ))
    (fine failed : Bool) (result : Result (Unit {0}) PipeFault) (old new : Option (List ℕ)) → head ≡ Ended percent
    → ReadsHead head input left_old left_mid fine
    → PlaysBehind (picture_of (take percent.picture input)) result failed
    (prepend_known (drop percent.script input) left_mid) left_new old new
    → Pipes result failed left_old left_new old new
pipes_ended head percent input left_old left_mid left_new fine failed result old new is reads plays =
    let read = subst (λ (h : Head). ReadsHead h input left_old left_mid fine) is reads in
    pipes_behind percent.picture percent.script input left_old left_mid left_new failed result old new read.0 read.2
    read.3 read.4 plays

pub out_ended : {A : Type 0} (first mid last : A) (before : A → Option (List ℕ)) (head : Head) (percent : Percent)
    (input : List ℕ) (left_old left_mid : Option (List ℕ)) (fine : Bool) (old shown : Option (List ℕ))
    → head ≡ Ended percent → ReadsHead head input left_old left_mid fine
    → (mid ≡ first) ⊎ IsUntoldUntil left_old (before mid)
    → (last ≡ mid) ⊎ GoesOutBehind (picture_of (take percent.picture input))
    (prepend_known (drop percent.script input) left_mid) (before last) old shown
    → (last ≡ first) ⊎ AnswersGoOut left_old (before last) old shown
out_ended {A} first mid last before head percent input left_old left_mid fine old shown is reads until (inl same) =
    subst (λ (reader : A). (reader ≡ first) ⊎ AnswersGoOut left_old (before reader) old shown) (sym same)
    (out_of_head (mid ≡ first) left_old (before mid) old shown until)
out_ended {A} first mid last before head percent input left_old left_mid fine old shown is reads until (inr out) =
    let read = subst (λ (h : Head). ReadsHead h input left_old left_mid fine) is reads in
    inr (out_behind percent.picture percent.script input left_old left_mid (before last) old shown read.0 read.2 read.3
    read.4 out)

-- where the head is all that there is, or too long
pub alone_has_none : (head : Head) (input : List ℕ) (left_old left_new : Option (List ℕ)) (fine : Bool)
    → (head ≡ Whole) ⊎ (head ≡ TooLong) → ReadsHead head input left_old left_new fine → (cut_of input).script ≡ []
alone_has_none head input left_old left_new fine (inl is) reads =
    let read = subst (λ (h : Head). ReadsHead h input left_old left_new fine) is reads in
    has_none input read.2
alone_has_none head input left_old left_new fine (inr is) reads =
    let read = subst (λ (h : Head). ReadsHead h input left_old left_new fine) is reads in
    has_none input read.2

pub pipes_alone : (head : Head) (input : List ℕ) (left_old left_new : Option (List ℕ)) (failed : Bool)
    (result : Result (Unit {0}) PipeFault) (held : Option (List ℕ)) → (head ≡ Whole) ⊎ (head ≡ TooLong)
    → ReadsHead head input left_old left_new failed → IsPiped false (rehearsal_of false input) result held held
    → Pipes result failed left_old left_new held held
pipes_alone head input left_old left_new failed result held (inl is) reads ends =
    let read = subst (λ (h : Head). ReadsHead h input left_old left_new failed) is reads in
    pipes_whole input left_old left_new failed result held read.0 read.1 read.3 ends
pipes_alone head input left_old left_new failed result held (inr is) reads ends =
    let read = subst (λ (h : Head). ReadsHead h input left_old left_new failed) is reads in
    pipes_long input left_old left_new failed result held read.0 read.1 read.2 read.3 ends

-- it was read to its end, where the pipe ends well
ends_refused : (fault : PictureFault) (result : Result (Unit {0}) PipeFault) (held : Option (List ℕ)) (holds : Type 0)
    → IsPiped false (Err (Picture fault)) result held held → OnOk result holds
ends_refused fault result held holds (inl (refused, keeps)) =
    subst (λ (r : Result (Unit {0}) PipeFault). OnOk r holds) (sym refused) tt
ends_refused fault result held holds (inr (want, keeps)) =
    subst (λ (r : Result (Unit {0}) PipeFault). OnOk r holds) (sym want) tt

ends_long : (input : List ℕ) (result : Result (Unit {0}) PipeFault) (held : Option (List ℕ)) (holds : Type 0)
    → IsUntold input → MAX_PICTURE_BYTES + 4 ≤ length input → IsPiped false (rehearsal_of false input) result held held
    → OnOk result holds
ends_long input result held holds untold long ends =
    let more : MAX_PICTURE_BYTES < length (cut_of input).picture =
    subst (λ (t : List ℕ). MAX_PICTURE_BYTES < length (cut_of t).picture) (append-nil input)
    (long_picture input [] untold long) in
    ends_refused picture_fault.TooLong result held holds
    (subst (λ (r : Result Rehearsal PipeFault). IsPiped false r result held held) (too_long input more) ends)

holds_anyhow : (holds : Type 0) (result : Result (Unit {0}) PipeFault) → holds → OnOk result holds
holds_anyhow holds (Ok x) so = so
holds_anyhow holds (Err fault) so = tt

-- what holds where it was read to its end
pub alone_finished : (head : Head) (input : List ℕ) (left_old left_new : Option (List ℕ)) (failed : Bool) (holds : Type 0)
    (result : Result (Unit {0}) PipeFault) (held : Option (List ℕ)) → (head ≡ Whole) ⊎ (head ≡ TooLong)
    → ReadsHead head input left_old left_new failed → (head ≡ Whole → holds)
    → IsPiped false (rehearsal_of false input) result held held → OnOk result holds
alone_finished head input left_old left_new failed holds result held (inl is) reads so ends =
    holds_anyhow holds result (so is)
alone_finished head input left_old left_new failed holds result held (inr is) reads so ends =
    let read = subst (λ (h : Head). ReadsHead h input left_old left_new failed) is reads in
    ends_long input result held holds read.2 read.3 ends

pub alone_ended : (head : Head) (input : List ℕ) (left_old left_new : Option (List ℕ)) (failed : Bool)
    (result : Result (Unit {0}) PipeFault) (held : Option (List ℕ)) → (head ≡ Whole) ⊎ (head ≡ TooLong)
    → ReadsHead head input left_old left_new failed → IsPiped false (rehearsal_of false input) result held held
    → OnOk result (IsAtEnd left_new)
alone_ended head input left_old left_new failed result held which reads ends =
    alone_finished head input left_old left_new failed (IsAtEnd left_new) result held which reads
    (λ is. (subst (λ (h : Head). ReadsHead h input left_old left_new failed) is reads).3) ends

pub pipes_unread : (head : Head) (input : List ℕ) (left_old left_new : Option (List ℕ)) (failed : Bool)
    (held : Option (List ℕ)) → head ≡ Failed → ReadsHead head input left_old left_new failed
    → Pipes (Err (Play ReadFault)) failed left_old left_new held held
pipes_unread head input left_old left_new failed held is reads =
    let read = subst (λ (h : Head). ReadsHead h input left_old left_new failed) is reads in
    pipes_failed input left_old left_new failed held read.0 read.1 read.2 read.3
