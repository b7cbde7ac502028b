-- The text of minus one is a number.
use Rattle.std.proofs.Common.{refl}
use Rattle.json.specs.Word.{after_number}
use Rattle.reh_run_json.proofs.values.add_last.Goals as goal

pub number-requires : goal.number-requires
unfolding after_number
number-requires c = refl
