-- How a run ends. Where no fault ends it, its status is 0, or that of what was answered.
use Rattle.std.specs.Prelude.{◌≡◌, ◌⊎◌, ℕ, Some, Result, Ok, Err}
use Rattle.reh_drill.specs.declared.faults.DrillFault.{DrillFault}
use Rattle.reh_drill.specs.declared.faults.DrillFault.TheVariants as drill_fault
use Rattle.reh_files.specs.Faults.{status_number}
use Rattle.reh_files.specs.declared.faults.RunFault.{RunFault}
use Rattle.reh_files.specs.declared.faults.RunFault.TheVariants.{Picture, ReadFault, TooLong, WriteFault, NoMemory, NoThread, Close}
use Rattle.reh_lines.specs.declared.streams.StreamFault.{StreamFault}
use Rattle.reh_play.specs.declared.faults.PlayFault.TheVariants as play_fault
use Rattle.reh_questions.specs.Endings.{EndsCensus, EndsRisk, EndsStop, EndsWaves}
use Rattle.reh_script.specs.declared.faults.PipeFault.{PipeFault}
use Rattle.reh_script.specs.declared.faults.PipeFault.TheVariants as pipe_fault
use Rattle.reh_words.specs.declared.tasks.Task.{Task}
use Rattle.reh_words.specs.declared.tasks.Task.TheVariants as task
use Rattle.rehearse.specs.Checks.{IsChecked}
use Rattle.rehearse.specs.Plans.{IsStatus}

-- what is asked was answered, and that is the status; of tasks that ask no question it is 0
abbrev pub Answers : Task → ℕ → Type 0
Answers (task.Stop words) status = EndsStop words status
Answers (task.Waves words) status = EndsWaves words × (status ≡ 0)
Answers (task.Risk words) status = EndsRisk words × (status ≡ 0)
Answers (task.Census words) status = EndsCensus words × (status ≡ 0)
Answers (task.Plan words) status = IsStatus words status
Answers (task.Check picture (Some script) as_json) status = IsChecked status
Answers other status = status ≡ 0

-- the status of a run that ends well is 0
abbrev pub done_well : Result (Unit {0}) RunFault → Result ℕ RunFault
done_well (Ok done) = Ok 0
done_well (Err fault) = Err fault

-- the status of a run, or that of its fault, which is none of an answer's
abbrev pub end_status : Result ℕ RunFault → ℕ
end_status (Ok status) = status
end_status (Err fault) = status_number fault

-- what is asked was answered, with that status, or some fault has it
abbrev pub EndsTask : Task → ℕ → Type 0
EndsTask asked status = Answers asked status ⊎ ((fault : RunFault) × (status ≡ status_number fault))

-- how a run ends once its answers were flushed: a failed flush is a write fault where answers were lost, and any
-- other fault stays
abbrev pub end_after_flush : Result (Unit {0}) RunFault → Result (Unit {0}) StreamFault → Result (Unit {0}) RunFault
end_after_flush played (Ok flushed) = played
end_after_flush (Ok played) (Err lost) = Err WriteFault
end_after_flush (Err ReadFault) (Err lost) = Err WriteFault
end_after_flush (Err TooLong) (Err lost) = Err WriteFault
end_after_flush (Err fault) (Err lost) = Err fault

-- a pipe's fault as the run's
abbrev pub run_fault_of : PipeFault → RunFault
run_fault_of (pipe_fault.Picture fault) = Picture fault
run_fault_of (pipe_fault.Play play_fault.ReadFault) = ReadFault
run_fault_of (pipe_fault.Play play_fault.TooLong) = TooLong
run_fault_of (pipe_fault.Play play_fault.WriteFault) = WriteFault
run_fault_of (pipe_fault.Play play_fault.NoMemory) = NoMemory
run_fault_of (pipe_fault.Play play_fault.NoThread) = NoThread

-- a drill's fault as the run's
abbrev pub run_fault_of_drill : DrillFault → RunFault
run_fault_of_drill (drill_fault.Picture fault) = Picture fault
run_fault_of_drill drill_fault.ReadFault = ReadFault
run_fault_of_drill drill_fault.TooLong = TooLong
run_fault_of_drill drill_fault.WriteFault = WriteFault
run_fault_of_drill drill_fault.NoMemory = NoMemory
run_fault_of_drill drill_fault.NoThread = NoThread
run_fault_of_drill (drill_fault.Close cause) = Close cause
