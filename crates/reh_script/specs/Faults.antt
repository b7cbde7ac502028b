-- A picture's fault as a pipe's.
use Rattle.reh_fields.specs.declared.faults.PictureFault.{PictureFault}
use Rattle.reh_fields.specs.declared.faults.PictureFault.TheVariants as picture_fault
use Rattle.reh_play.specs.declared.faults.PlayFault.TheVariants.{NoMemory}
use Rattle.reh_script.specs.declared.faults.PipeFault.{PipeFault}
use Rattle.reh_script.specs.declared.faults.PipeFault.TheVariants.{Picture, Play}

-- out of memory is no fault of the picture
abbrev pub pipe_fault_of : PictureFault → PipeFault
pipe_fault_of picture_fault.NoMemory = Play NoMemory
pipe_fault_of fault = Picture fault
