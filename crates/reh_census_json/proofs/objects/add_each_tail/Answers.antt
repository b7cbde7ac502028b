-- One tail more.
use Rattle.json.specs.Tree.{json_tokens}
use Rattle.reh_answer.proofs.ObjectLaws.{adds-more}
use Rattle.reh_census_json.specs.Objects.{tail_json}
use Rattle.reh_census_json.proofs.objects.add_each_tail.Goals as goal

pub loop-counted-preserved : goal.loop-counted-preserved
loop-counted-preserved c =
    adds-more (λ t. json_tokens (tail_json c.args.names.now t)) c.args.tails.now c.loop-counted.counted-index c.counted-item.result
    c.args.json.now c.loop-counted.json c.add_tail.new.json c.loop-counted-test.true c.counted-item.is c.loop-counted.invariant
    c.in_ok-add_tail.ensures
