use Rattle.reh_census.proofs.OnlyLaws.{only-census}
use Rattle.reh_census.proofs.laws.a_census_in_order_is_the_only_one.Goals as goal

pub returns : goal.returns
returns c = only-census
