-- What is answered as a survey.
use Rattle.std.specs.Prelude.{◌≡◌, IfOk, Result, Vec}
use Rattle.std.specs.declared.alloc.Global.{Global}
use Rattle.reh_types.specs.declared.surveys.SurveyLine.{SurveyLine}
use Rattle.reh_crew.specs.declared.surveyors.SurveyFault.{SurveyFault}
use Rattle.reh_model.specs.Cluster.{Cluster}
use Rattle.reh_model.specs.Survey.{survey}

-- if it is a list, it is the survey
abbrev pub FindsSurvey : Cluster → Result (Vec SurveyLine Global) SurveyFault → Type 0
FindsSurvey s found = IfOk found (λ lines. lines.items ≡ survey s)
