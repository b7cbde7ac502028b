-- Faults of drills.
use Rattle.reh_fields.specs.declared.faults.PictureFault.{PictureFault}
use Rattle.reh_fields.specs.declared.faults.PictureFault.TheVariants as picture_fault
use Rattle.reh_play.specs.declared.faults.PlayFault.{PlayFault}
use Rattle.reh_play.specs.declared.faults.PlayFault.TheVariants as play_fault
use Rattle.reh_drill.specs.declared.faults.DrillFault.{DrillFault}
use Rattle.reh_drill.specs.declared.faults.DrillFault.TheVariants.{Picture, ReadFault, TooLong, WriteFault, NoMemory}
use Rattle.reh_drill.specs.declared.faults.DrillFault.TheVariants.{NoThread}

-- a play's fault as the drill's
abbrev pub drill_fault_of : PlayFault → DrillFault
drill_fault_of play_fault.ReadFault = ReadFault
drill_fault_of play_fault.TooLong = TooLong
drill_fault_of play_fault.WriteFault = WriteFault
drill_fault_of play_fault.NoMemory = NoMemory
drill_fault_of play_fault.NoThread = NoThread

-- and a picture's: out of memory is no fault of the picture
abbrev pub refusal_of : PictureFault → DrillFault
refusal_of picture_fault.NoMemory = NoMemory
refusal_of fault = Picture fault
