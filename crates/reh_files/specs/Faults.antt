-- The statuses and texts of faults.
use Rattle.std.specs.Prelude.{◌≡◌, ◌⊎◌, ⊤, ℕ, List, ◌++◌, None, Some, codes, string_bytes}
use Rattle.std.specs.Fmt.{decimal}
use Rattle.reh_desk.specs.declared.desks.CloseCause.{CloseCause}
use Rattle.reh_desk.specs.declared.desks.CloseCause.TheVariants.{Seats, StillOut, Mismatch}
use Rattle.reh_fields.specs.declared.faults.PictureFault.{PictureFault}
use Rattle.reh_fields.specs.declared.faults.PictureFault.TheVariants as picture_fault
use Rattle.reh_picture.specs.declared.places.LocatedFault.{LocatedFault}
use Rattle.reh_fields.specs.Faults.{fault_text}
use Rattle.reh_picture.specs.Expected.{located_text}
use Rattle.reh_files.specs.declared.faults.RunFault.{RunFault}
use Rattle.reh_files.specs.declared.faults.RunFault.TheVariants.{Picture, ReadFault, TooLong, WriteFault, NoMemory}
use Rattle.reh_files.specs.declared.faults.RunFault.TheVariants.{NoThread, Refused, Unfit, Misnamed, Unread, Unwritten, Close}

-- the exit status of a run that ends so
abbrev pub status_number : RunFault → ℕ
status_number (Picture fault) = 3
status_number (Refused path located) = 3
status_number (Unfit reason) = 3
status_number (Misnamed reason) = 2
status_number (Unread reason) = 4
status_number ReadFault = 4
status_number TooLong = 4
status_number WriteFault = 5
status_number (Unwritten reason) = 5
status_number NoMemory = 6
status_number NoThread = 7
status_number (Close cause) = 7

-- why a desk doesn't close: its number, name and value
abbrev pub cause_text : CloseCause → List ℕ
cause_text Seats = codes "1 Seats"
cause_text (StillOut count) = codes "2 StillOut " ++ decimal count
cause_text (Mismatch number) = codes "3 Mismatch " ++ decimal number

-- the fault as a rehearsal tells it: of a read that failed neither the file nor the reason
abbrev pub untold : RunFault → RunFault
untold (Unread reason) = ReadFault
untold fault = fault

-- what standard error shows
abbrev pub run_fault_text : RunFault → List ℕ
run_fault_text (Picture fault) = codes "picture: " ++ fault_text fault
run_fault_text (Refused None located) = codes "picture: " ++ located_text located
run_fault_text (Refused (Some path) located) = codes "picture " ++ (string_bytes path ++ (codes ": " ++ located_text located))
run_fault_text (Unfit reason) = string_bytes reason
run_fault_text (Misnamed reason) = string_bytes reason
run_fault_text (Unread reason) = string_bytes reason
run_fault_text ReadFault = codes "read fault"
run_fault_text TooLong = codes "script too long"
run_fault_text WriteFault = codes "write fault"
run_fault_text (Unwritten reason) = string_bytes reason
run_fault_text NoMemory = codes "no memory"
run_fault_text NoThread = codes "no thread"
run_fault_text (Close cause) = codes "close: " ++ cause_text cause

-- the fault of a picture that is checked as the run's
abbrev pub refused_by : PictureFault → LocatedFault → RunFault
refused_by picture_fault.NoMemory located = NoMemory
refused_by fault located = Refused None located

-- Files

-- what couldn't be done with the file, and some reason
pub record SaysUndone (failed path text : List ℕ) : Type 0 where
  pub reason : List ℕ
  pub says : text ≡ codes "cannot " ++ (failed ++ (codes " " ++ (path ++ (codes ": " ++ reason))))

-- the fault says that this can't be done with a file to be read, or there is no memory
abbrev pub TellsUnread : List ℕ → List ℕ → RunFault → Type 0
TellsUnread failed path (Unread text) = SaysUndone failed path (string_bytes text)
TellsUnread failed path NoMemory = ⊤
TellsUnread failed path other = ⊥

-- the fault says that this file can't be opened or that it can't be read, or there is no memory
abbrev pub TellsUnreadFile : List ℕ → RunFault → Type 0
TellsUnreadFile path run = TellsUnread (codes "open") path run ⊎ TellsUnread (codes "read") path run

-- the fault says that a file can't be written, or there is no memory
abbrev pub TellsUnwritten : List ℕ → RunFault → Type 0
TellsUnwritten path (Unwritten text) = SaysUndone (codes "write") path (string_bytes text)
TellsUnwritten path NoMemory = ⊤
TellsUnwritten path other = ⊥
