use Rattle.std.proofs.Common.{◌∙◌, ℕ, List, ap, Vec, Global, Bor}
use Rattle.reh_near.proofs.CandidateLaws.{push_name, pass_name}
use Rattle.reh_near.proofs.near.push_at.Goals.{then-candidate-rank+in_ok-push, else-candidate-rank}
use Rattle.reh_near.proofs.near.push_at.Goals as goal

pub loop-candidate-preserved : goal.loop-candidate-preserved
loop-candidate-preserved c =
    elim c.if-candidate-rank.branch [
      | then-candidate-rank+in_ok-push w ↦
          push_name c.args.rank c.args.candidates.now c.loop-candidate.candidate-index _
          c.loop-candidate.near.items c.if-candidate-rank.near.items _ c.loop-candidate-test.true
          w.if-candidate-rank.true
          (ap (λ (v : Vec (Bor (List ℕ)) Global). v.items) w.near-is ∙ w.in_ok-push.ensures.items)
          c.loop-candidate.invariant
      | else-candidate-rank w ↦
          pass_name c.args.rank c.args.candidates.now c.loop-candidate.candidate-index _
          c.loop-candidate.near.items c.if-candidate-rank.near.items _ c.loop-candidate-test.true
          w.if-candidate-rank.false (ap (λ (v : Vec (Bor (List ℕ)) Global). v.items) w.near-is)
          c.loop-candidate.invariant
    ]
