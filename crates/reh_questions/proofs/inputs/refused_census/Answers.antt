-- The census's fault is told.
use Rattle.std.proofs.Common.{◌≢◌, ℕ, List, refl}
use Rattle.reh_census_file.specs.declared.faults.CensusFault.{CensusFault}
use Rattle.reh_census_file.specs.declared.faults.CensusFault.TheVariants as census_fault
use Rattle.reh_files.specs.declared.faults.RunFault.{RunFault}
use Rattle.reh_questions.specs.Inputs.{IsUnfit, TellsCensus, census_text}
use Rattle.reh_questions.proofs.inputs.refused_census.Goals as goal

told : (path : List ℕ) (fault : CensusFault) (run : RunFault) → fault ≢ census_fault.NoMemory
    → IsUnfit (census_text path fault) run → TellsCensus path fault run
told path census_fault.NoMemory run not is = absurd (not refl)
told path fault run not is = is

pub returns-in_default : goal.returns-in_default
returns-in_default c = told _ _ _ c.in_default.not-NoMemory c.faulty_census.ensures
