-- An id that is there already comes again.
use Rattle.std.proofs.Common.{refl, slice_index_or}
use Rattle.std.proofs.lemmas.List.{get_or_default}
use Rattle.reh_inputs.proofs.FaultLaws.{comes_again, was_there}
use Rattle.reh_inputs.proofs.apart.add_ids.Goals as goal

pub returns-then-not-branch-clause-fault : goal.returns-then-not-branch-clause-fault
returns-then-not-branch-clause-fault c =
    let ids = c.args.ids.now in
    let k = c.loop-id.id-index in
    let id = slice_index_or ids k 0 in (
      refl,
      comes_again c.args.seen.now.keys ids k id c.loop-id.seen.keys c.insert.new.self.keys c.loop-id-test.true
          (get_or_default ids k 0 id c.loop-id-test.true) c.loop-id.invariant
          (was_there _ _ c.if-not-branch.true c.in_ok-insert.ensures.added)
          c.in_ok-insert.ensures.keys c.insert.ensures.unique,
    )
