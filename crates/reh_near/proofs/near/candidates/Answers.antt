use Rattle.std.proofs.Common.{◌∙◌, sym, ap, Vec, Global}
use Rattle.reh_near.specs.declared.near.Candidate.{Candidate}
use Rattle.reh_near.proofs.CandidateLaws.{push_near, pass_far}
use Rattle.reh_near.proofs.near.candidates.Goals.{in-Some+in_ok-push, in_default}
use Rattle.reh_near.proofs.near.candidates.Goals as goal

pub loop-name-preserved : goal.loop-name-preserved
loop-name-preserved c =
    elim c.match-branch-2.branch [
      | in-Some+in_ok-push w ↦
          push_near c.args.word.now c.args.names.now c.loop-name.name-index _ w.in-Some.rank c.loop-name.near.items
          c.match-branch-2.near.items _ c.loop-name-test.true (sym w.in-Some.is ∙ c.in_ok-rank.ensures)
          (ap (λ (v : Vec Candidate Global). v.items) w.near-is ∙ w.in_ok-push.ensures.items) c.loop-name.invariant
      | in_default w ↦
          pass_far c.args.word.now c.args.names.now c.loop-name.name-index _ c.in_ok-rank.field-0
          c.loop-name.near.items c.match-branch-2.near.items _ c.loop-name-test.true c.in_ok-rank.ensures
          w.in_default.not-Some (ap (λ (v : Vec Candidate Global). v.items) w.near-is) c.loop-name.invariant
    ]
