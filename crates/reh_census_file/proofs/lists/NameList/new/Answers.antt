-- A list of no names has at most 4,096, each once.
use Rattle.std.proofs.Common.{arith, ap, length}
use Rattle.reh_census_file.proofs.NameLemmas.{IsNameList-keys}
use Rattle.reh_census_file.proofs.lists.NameList.new.Goals as goal

pub invariant_of-result : goal.invariant_of-result
invariant_of-result c = IsNameList-keys c.new.result.keys (omega (arith, ap length c.new.ensures.empty)) c.new.ensures.unique
