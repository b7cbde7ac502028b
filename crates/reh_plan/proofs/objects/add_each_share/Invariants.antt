-- What is added so far.
use Rattle.std.proofs.Common.{take}
use Rattle.std.specs.Prelude.{flat_map}
use Rattle.json.specs.Tree.{json_tokens}
use Rattle.reh_answer.specs.Objects.{Adds}
use Rattle.reh_plan.specs.Objects.{share_json}
use Rattle.reh_plan.proofs.objects.add_each_share.Given as goal

abbrev pub invariant-loop-share : goal.invariant-loop-share
invariant-loop-share l = Adds (flat_map (λ s. json_tokens (share_json l.names s)) (take l.share-index l.shares)) l.fn.json l.json
