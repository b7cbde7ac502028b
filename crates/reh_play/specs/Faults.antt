-- A survey's fault as a play's.
use Rattle.reh_crew.specs.declared.surveyors.SurveyFault.{SurveyFault}
use Rattle.reh_crew.specs.declared.surveyors.SurveyFault.TheVariants as survey_fault
use Rattle.reh_play.specs.declared.faults.PlayFault.{PlayFault}
use Rattle.reh_play.specs.declared.faults.PlayFault.TheVariants.{NoMemory, NoThread}

abbrev pub play_fault_of : SurveyFault → PlayFault
play_fault_of survey_fault.NoMemory = NoMemory
play_fault_of survey_fault.NoThread = NoThread
