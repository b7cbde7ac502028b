-- The lines of a worker's run, and those of the others.
use Rattle.reh_crew.proofs.RunLaws.{joined}
use Rattle.reh_crew.proofs.threads.+survey_rest.Goals as goal

pub returns : goal.returns
returns g t c =
    joined _ _ _ _ _ _ _ _ _ c.in_ok-append.ensures.items c.in_ok-lines-2.ensures c.in_ok-started.ensures
    c.in_ok-rest.ensures
