use Rattle.reh_crew.proofs.threads.+survey_rest.Given as goal

abbrev pub decreases-survey_rest : goal.decreases-survey_rest
decreases-survey_rest g l = l.workers
