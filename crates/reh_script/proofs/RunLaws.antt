-- How a run of a picture and a script ends.
use Rattle.std.proofs.Common.{◌≡◌, ◌⊎◌, ℕ, Bool, true, false, inl, inr, List, Option, Result, Ok, Err, ap}
use Rattle.std.specs.Prelude.{IsErrAnd}
use Rattle.std.proofs.KnownBytes.{Keeps-refl}
use Rattle.reh_model.specs.Book.{Book}
use Rattle.reh_picture.specs.Pictures.{picture_of}
use Rattle.reh_script.specs.BookPlays.{Transcribes, at_book}
use Rattle.reh_script.specs.Openings.{OpensRead, OpensText}
use Rattle.reh_script.specs.Pipes.{piped, loses_output, GoesOutBehind}
use Rattle.reh_play.specs.Players.{seated}
use Rattle.reh_play.specs.Plays.{GoesOut}
use Rattle.reh_script.specs.Runs.{Runs, RunsOut}
use Rattle.reh_play.specs.declared.faults.PlayFault.{PlayFault}
use Rattle.reh_script.specs.declared.faults.PipeFault.{PipeFault}
use Rattle.reh_script.specs.declared.openings.Opened.{Opened}
use Rattle.reh_script.proofs.Ends.{unopened_writes, out_of_opened}

pub handed : (result : Result (Unit {0}) PipeFault) (fault : PipeFault) → IsErrAnd result (λ e. e ≡ fault)
    → result ≡ Err fault
handed (Ok x) fault is = absurd is
handed (Err e) fault is = ap (λ (f : PipeFault). Err f) is

-- where the picture is not opened
pub runs_unopened : (result : Result (Unit {0}) PipeFault) (untouched : Type 0) (unread : Bool)
    (first_old first_new : Option (List ℕ)) (failed : Bool) (left_old left_new old : Option (List ℕ))
    (fault : PipeFault)
    → OpensText unread first_old first_new (Err fault) → IsErrAnd result (λ e. e ≡ fault) → untouched
    → Runs result untouched unread first_old first_new failed left_old left_new old old
runs_unopened result untouched unread first_old first_new failed left_old left_new old fault opens is same =
    record { opened = Err fault; opens = opens; ends = (handed result fault is, same, Keeps-refl old) }

lost : Result Opened PipeFault → Bool
lost (Ok o) = false
lost (Err fault) = loses_output (Err fault)

read_writes : (unread : Bool) (picture : List ℕ) (fault : PipeFault) → OpensRead unread picture (Err fault)
    → loses_output (Err fault) ≡ false
unfolding lost
read_writes true picture fault is = ap lost is
read_writes false picture fault opens = unopened_writes (picture_of picture) fault opens

-- this is no failed write
pub text_writes : (unread : Bool) (first_old first_new : Option (List ℕ)) (fault : PipeFault)
    → OpensText unread first_old first_new (Err fault) → loses_output (Err fault) ≡ false
text_writes unread first_old first_new fault opens = read_writes unread opens.picture fault opens.opens

-- where the script is played
pub runs_played : (result : Result (Unit {0}) PipeFault) (untouched : Type 0) (unread : Bool)
    (first_old first_new : Option (List ℕ)) (failed : Bool) (left_old left_new old new : Option (List ℕ)) (o : Opened)
    (end : Result (Unit {0}) PlayFault) (b : Book) → OpensText unread first_old first_new (Ok o) → result ≡ piped end
    → Transcribes o.names o.seat.number end failed left_old left_new o.book.book b old new
    → Runs result untouched unread first_old first_new failed left_old left_new old new
runs_played result untouched unread first_old first_new failed left_old left_new old new o end b opens same played =
    record { opened = Ok o; opens = opens; ends = record { end = end; book = b; same = same; transcribed = played } }

out_read : (unread : Bool) (picture : List ℕ) (o : Opened) (left_old left_before old shown : Option (List ℕ))
    → OpensRead unread picture (Ok o)
    → GoesOut (at_book o.names) left_old left_before (seated o.book o.seat) old shown
    → GoesOutBehind (picture_of picture) left_old left_before old shown
out_read true picture o left_old left_before old shown opens out = cc
out_read false picture o left_old left_before old shown opens out =
    out_of_opened (picture_of picture) o left_old left_before old shown opens out

-- the answers that could be seen
pub runs_out : (same : Type 0) (unread : Bool) (first_old first_new left_old left_before old shown : Option (List ℕ))
    (o : Opened) → OpensText unread first_old first_new (Ok o)
    → same ⊎ GoesOut (at_book o.names) left_old left_before (seated o.book o.seat) old shown
    → same ⊎ RunsOut unread first_old first_new left_old left_before old shown
runs_out same unread first_old first_new left_old left_before old shown o opens (inl untouched) = inl untouched
runs_out same unread first_old first_new left_old left_before old shown o opens (inr out) = inr (record {
  picture = opens.picture;
  given = opens.given;
  out = out_read unread opens.picture o left_old left_before old shown opens.opens out;
})
