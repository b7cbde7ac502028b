-- How a run ends of which a printer says what is printed of each line.
use Rattle.std.proofs.Common.{◌≡◌, ◌⊎◌, ℕ, Bool, inl, inr, Option, List, Result, Ok, Err}
use Rattle.std.specs.Prelude.{IsErrAnd}
use Rattle.std.proofs.KnownBytes.{Keeps-refl}
use Rattle.reh_lines.specs.Streams.{Grows}
use Rattle.reh_desk.specs.Kept.{Kept}
use Rattle.reh_play.specs.Players.{Printing, Player, seated}
use Rattle.reh_play.specs.Plays.{Plays, GoesOut}
use Rattle.reh_play.specs.declared.faults.PlayFault.{PlayFault}
use Rattle.reh_play.proofs.ReadLaws.{out_grown}
use Rattle.reh_script.specs.Openings.{OpensText}
use Rattle.reh_script.specs.Pipes.{piped}
use Rattle.reh_script.specs.Printed.{book_printing, RunsPrinting, PrintsInTime}
use Rattle.reh_script.specs.declared.faults.PipeFault.{PipeFault}
use Rattle.reh_script.specs.declared.openings.Opened.{Opened}
use Rattle.reh_script.proofs.RunLaws.{handed}

-- where the picture is not opened
pub prints_unopened : (prints : Printing Kept) (result : Result (Unit {0}) PipeFault) (untouched : Type 0)
    (unread : Bool) (first_old first_new : Option (List ℕ)) (failed : Bool) (left_old left_new old : Option (List ℕ))
    (fault : PipeFault)
    → OpensText unread first_old first_new (Err fault) → IsErrAnd result (λ e. e ≡ fault) → untouched
    → RunsPrinting prints result untouched unread first_old first_new failed left_old left_new old old
prints_unopened prints result untouched unread first_old first_new failed left_old left_new old fault opens is same =
    record { opened = Err fault; opens = opens; ends = (handed result fault is, same, Keeps-refl old) }

-- where the script is played
pub prints_played : (prints : Printing Kept) (result : Result (Unit {0}) PipeFault) (untouched : Type 0)
    (unread : Bool) (first_old first_new : Option (List ℕ)) (failed : Bool)
    (left_old left_new old new : Option (List ℕ)) (o : Opened)
    (end : Result (Unit {0}) PlayFault) (last : Player Kept) → OpensText unread first_old first_new (Ok o)
    → result ≡ piped end
    → Plays (book_printing prints o.names) end failed left_old left_new (seated o.book o.seat) last old new
    → RunsPrinting prints result untouched unread first_old first_new failed left_old left_new old new
prints_played prints result untouched unread first_old first_new failed left_old left_new old new o end last opens same
    plays =
    record { opened = Ok o; opens = opens; ends = (last, record { end = end; same = same; plays = plays }) }

-- what could be seen
pub prints_out : (prints : Printing Kept) (same : Type 0) (unread : Bool)
    (first_old first_new left_old left_before old shown : Option (List ℕ))
    (o : Opened) → OpensText unread first_old first_new (Ok o)
    → same ⊎ GoesOut (book_printing prints o.names) left_old left_before (seated o.book o.seat) old shown
    → same ⊎ PrintsInTime prints unread first_old first_new left_old left_before old shown
prints_out prints same unread first_old first_new left_old left_before old shown o opens (inl untouched) = inl untouched
prints_out prints same unread first_old first_new left_old left_before old shown o opens (inr out) =
    inr (record { rehearsal = o; opens = opens; out = out })

-- and still can
pub in_time_grown : (prints : Printing Kept) (same : Type 0) (unread : Bool)
    (first_old first_new left_old left_before old shown grown : Option (List ℕ))
    → same ⊎ PrintsInTime prints unread first_old first_new left_old left_before old shown → Grows shown grown
    → same ⊎ PrintsInTime prints unread first_old first_new left_old left_before old grown
in_time_grown prints same unread first_old first_new left_old left_before old shown grown (inl not) more = inl not
in_time_grown prints same unread first_old first_new left_old left_before old shown grown (inr out) more =
    prints_out prints same unread first_old first_new left_old left_before old grown out.rehearsal out.opens
    (out_grown (book_printing prints out.rehearsal.names) same left_old left_before
    (seated out.rehearsal.book out.rehearsal.seat) old shown grown (inr out.out) more)
