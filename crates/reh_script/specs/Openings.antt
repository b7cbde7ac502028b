-- What is opened of a picture.
use Rattle.std.specs.Prelude.{◌≡◌, ℕ, ◌⊎◌, Bool, true, false, List, Option, Result, Ok, Err}
use Rattle.reh_model.specs.Cluster.{Cluster}
use Rattle.reh_model.specs.Session.{opened_session}
use Rattle.reh_desk.specs.Kept.{opened}
use Rattle.reh_desk.specs.Seats.{new_seat}
use Rattle.reh_fields.specs.declared.faults.PictureFault.{PictureFault}
use Rattle.reh_picture.specs.Pictures.{picture_of}
use Rattle.reh_lines.specs.Readings.{Gives}
use Rattle.reh_play.specs.declared.faults.PlayFault.TheVariants.{ReadFault, NoMemory}
use Rattle.reh_script.specs.declared.faults.PipeFault.{PipeFault}
use Rattle.reh_script.specs.declared.faults.PipeFault.TheVariants.{Picture, Play}
use Rattle.reh_script.specs.declared.openings.Opened.{Opened}

-- A book on this state before its first call, its seat, and the names of the bookies.
pub record IsOpened (state : Cluster) (rehearsal : Opened) : Type 0 where
  pub book : rehearsal.book ≡ opened (opened_session state)
  pub seat : rehearsal.seat ≡ new_seat 0
  pub names : rehearsal.names ≡ state.names

-- A picture that shows a state is opened, and any other refused with its fault, unless there is no memory for it.
abbrev pub Opens : Result Cluster PictureFault → Result Opened PipeFault → Type 0
Opens (Ok state) (Ok rehearsal) = IsOpened state rehearsal
Opens (Ok state) (Err refused) = refused ≡ Play NoMemory
Opens (Err fault) (Ok rehearsal) = ⊥
Opens (Err fault) (Err refused) = (refused ≡ Picture fault) ⊎ (refused ≡ Play NoMemory)

-- A picture after which a read failed is not judged.
abbrev pub OpensRead : Bool → List ℕ → Result Opened PipeFault → Type 0
OpensRead true picture result = result ≡ Err (Play ReadFault)
OpensRead false picture result = Opens (picture_of picture) result

-- What is opened of the picture that a reader gives, whose bytes to come were left_old and are left_new.
pub record OpensText (failed : Bool) (left_old left_new : Option (List ℕ)) (result : Result Opened PipeFault)
    : Type 0 where
  pub picture : List ℕ
  pub given : Gives left_old left_new failed picture
  pub opens : OpensRead failed picture result
