use Rattle.reh_scan.proofs.PlaceLaws.{survey-places}
use Rattle.reh_scan.proofs.laws.surveys_list_places.Goals as goal

pub returns : goal.returns
returns c = survey-places
