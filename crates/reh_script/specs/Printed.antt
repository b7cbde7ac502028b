-- Runs of a picture and a script, each of its own reader, where it is said what is printed of each line.
use Rattle.std.specs.Prelude.{◌≡◌, Bool, List, ℕ, Option, Result, Ok, Err}
use Rattle.std.specs.Io.KnownBytes.{Keeps}
use Rattle.reh_desk.specs.Kept.{Kept, Called}
use Rattle.reh_play.specs.declared.faults.PlayFault.{PlayFault}
use Rattle.reh_play.specs.Players.{Printing, Player, Setting, setting_by, seated}
use Rattle.reh_play.specs.Plays.{Plays, GoesOut}
use Rattle.reh_script.specs.declared.faults.PipeFault.{PipeFault}
use Rattle.reh_script.specs.declared.openings.Opened.{Opened}
use Rattle.reh_script.specs.Changes.{shown_at}
use Rattle.reh_script.specs.Openings.{OpensText}
use Rattle.reh_script.specs.Pipes.{piped}

-- a book where this is printed of a line
abbrev pub book_printing : Printing Kept → List (List ℕ) → Setting Kept
book_printing prints names = setting_by Called shown_at prints names

-- The end is that of a play, by the seat that was opened, of the script that a reader gives.
pub record EndsPrinting (prints : Printing Kept) (rehearsal : Opened) (last : Player Kept)
    (result : Result (Unit {0}) PipeFault) (failed : Bool) (left_old left_new old new : Option (List ℕ)) : Type 0 where
  pub end : Result (Unit {0}) PlayFault
  pub same : result ≡ piped end
  pub plays : Plays (book_printing prints rehearsal.names) end failed left_old left_new
      (seated rehearsal.book rehearsal.seat) last old new

-- How it ends, given what was opened of its picture: where nothing was, it has that fault, the script's reader is
-- untouched, and nothing is written.
abbrev pub IsRunPrinting : Printing Kept → Type 0 → Result Opened PipeFault → Result (Unit {0}) PipeFault → Bool
    → Option (List ℕ) → Option (List ℕ) → Option (List ℕ) → Option (List ℕ) → Type 0
IsRunPrinting prints untouched (Err fault) result failed left_old left_new old new =
    (result ≡ Err fault) × untouched × Keeps old new
IsRunPrinting prints untouched (Ok rehearsal) result failed left_old left_new old new =
    (last : Player Kept) × EndsPrinting prints rehearsal last result failed left_old left_new old new

-- The bytes to come of the picture were first_old and are first_new, those of the script left_old and left_new.
pub record RunsPrinting (prints : Printing Kept) (result : Result (Unit {0}) PipeFault) (untouched : Type 0)
    (unread : Bool) (first_old first_new : Option (List ℕ)) (failed : Bool)
    (left_old left_new old new : Option (List ℕ)) : Type 0 where
  pub opened : Result Opened PipeFault
  pub opens : OpensText unread first_old first_new opened
  pub ends : IsRunPrinting prints untouched opened result failed left_old left_new old new

-- When the script's reader was last read, the picture had been given and accepted. After the run the other end can see what
-- is printed of all lines of the script that were complete at that read.
pub record PrintsInTime (prints : Printing Kept) (unread : Bool)
    (first_old first_new left_old left_before old shown : Option (List ℕ)) : Type 0 where
  pub rehearsal : Opened
  pub opens : OpensText unread first_old first_new (Ok rehearsal)
  pub out : GoesOut (book_printing prints rehearsal.names) left_old left_before (seated rehearsal.book rehearsal.seat)
      old shown
