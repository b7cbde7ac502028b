-- One bookie more, and none that is left.
use Rattle.std.proofs.Common.{arith, ap}
use Rattle.std.proofs.lemmas.List.{drop_all}
use Rattle.reh_run_json.proofs.TokenLaws.{leaves-more, leaves-none, member-more, members_from}
use Rattle.reh_run_json.proofs.values.add_each_member.Goals as goal

pub loop-i-preserved : goal.loop-i-preserved
loop-i-preserved c =
    leaves-more _ _ _ _ _ _ _ (member-more c.args.bookies.now c.loop-i.i c.args.names.now (omega arith)) c.loop-i.invariant
    c.in_ok-add_member.ensures

pub returns : goal.returns
returns c =
    leaves-none _ _ _ _ (ap (members_from c.args.bookies.now c.loop-i.i) (drop_all c.loop-i.i c.args.names.now (omega arith)))
    c.loop-i.invariant
