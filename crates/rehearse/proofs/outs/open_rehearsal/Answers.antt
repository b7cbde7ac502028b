-- A book that is opened has no ticket out.
use Rattle.std.proofs.Common.{◌≡◌, ◌∙◌, length, ap, sym}
use Rattle.std.specs.Prelude.{Result, Ok, Err}
use Rattle.reh_model.specs.Cluster.{Cluster}
use Rattle.reh_desk.specs.Kept.{Kept}
use Rattle.reh_desk.specs.Seats.{SeatView}
use Rattle.reh_fields.specs.declared.faults.PictureFault.{PictureFault}
use Rattle.reh_picture.specs.Pictures.{picture_of}
use Rattle.reh_script.specs.declared.openings.Opened.{Opened}
use Rattle.reh_script.specs.Openings.{Opens}
use Rattle.rehearse.proofs.outs.open_rehearsal.Goals as goal

none-out : (read : Result Cluster PictureFault) (o : Opened) → Opens read (Ok o) → length o.book.book.out ≡ o.seat.out
none-out (Ok state) o opens =
    ap (λ (k : Kept). length k.book.out) opens.book ∙ sym (ap (λ (s : SeatView). s.out) opens.seat)
none-out (Err fault) o opens = absurd opens

pub returns-in-Ok : goal.returns-in-Ok
returns-in-Ok c = none-out (picture_of c.args.bytes.now) c.in-Ok.rehearsal c.in-Ok.ensures
