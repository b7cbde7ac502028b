-- What a question that no fault ends has answered.
use Rattle.std.specs.Prelude.{◌≡◌, ℕ}
use Rattle.reh_stop.specs.declared.stops.Said.{Said}
use Rattle.reh_words.specs.declared.tasks.CensusWords.{CensusWords}
use Rattle.reh_words.specs.declared.tasks.RiskWords.{RiskWords}
use Rattle.reh_words.specs.declared.tasks.StopWords.{StopWords}
use Rattle.reh_words.specs.declared.tasks.WaveWords.{WaveWords}
use Rattle.reh_questions.specs.Inputs.{SaysCensus, SaysRisk, SaysStop, SaysWaves}
use Rattle.reh_questions.specs.declared.noted.Noted.{Noted}

-- of a stop the status of the answer by all files: 0 for yes, 8 for no, and 9 for unknown
pub record EndsStop (words : StopWords) (status : ℕ) : Type 0 where
  pub said : Said
  pub says : SaysStop words said
  pub status_is : status ≡ said.status

-- there is an answer of rounds, of the next losses, or of a census, by all files
abbrev pub EndsWaves : WaveWords → Type 0
EndsWaves words = (noted : Noted) × SaysWaves words noted

abbrev pub EndsRisk : RiskWords → Type 0
EndsRisk words = (noted : Noted) × SaysRisk words noted

abbrev pub EndsCensus : CensusWords → Type 0
EndsCensus words = (noted : Noted) × SaysCensus words noted
