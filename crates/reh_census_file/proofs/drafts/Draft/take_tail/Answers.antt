use Rattle.reh_census_file.specs.Reading.{words_after}
use Rattle.reh_census_file.proofs.LineTakes.{tail_takes}
use Rattle.reh_census_file.proofs.drafts.Draft.take_tail.Goals as goal

pub add_tail-requires : goal.add_tail-requires
add_tail-requires c = (tail_takes _ (words_after c.args.rest.now) c.in_ok-counted.counted c.in_ok-counted.ensures).whole
