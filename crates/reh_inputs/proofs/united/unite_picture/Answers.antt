-- One bookie more is there, and shown so.
use Rattle.std.proofs.Common.{◌≡◌, ℕ, true, ap, ◌∙◌, ◌∷◌, [], fold, subst, sym, inl, inr, arith}
use Rattle.std.proofs.lemmas.Bool.{cases_lt}
use Rattle.std.proofs.lemmas.List.Sums.{fold-append}
use Rattle.reh_census.specs.Striping.{range}
use Rattle.reh_inputs.specs.Cluster.{Cluster}
use Rattle.reh_inputs.specs.United.{shows_listed, with_listed}
use Rattle.reh_inputs.proofs.AlikeLaws.{Keeps-listed}
use Rattle.reh_inputs.proofs.RangeLaws.{range-more}
use Rattle.reh_inputs.proofs.united.unite_picture.Goals as goal

pub loop-number-preserved : goal.loop-number-preserved
loop-number-preserved c =
    let listed = c.args.listed.now in
    let before = c.args.cluster.now in
    let cluster = c.loop-number.cluster in
    let after = c.add_listed.new.cluster in
    let n = c.loop-number.number in
    let step = c.in-Ok.ensures in (
      step.added
          ∙ ap (λ (cluster : Cluster). with_listed listed cluster n) c.loop-number.invariant.0
          ∙ sym (ap (fold (with_listed listed) before) (range-more n)
          ∙ fold-append (with_listed listed) before (range 0 n) (n ∷ [])),
      λ k within. elim (cases_lt k n) [
        | inl less ↦ Keeps-listed cluster after step.kept listed k (c.loop-number.invariant.1 k less)
        | inr ge ↦
            let last : n ≡ k = omega (arith, ge, within) in
            subst (λ (b : ℕ). shows_listed after listed b ≡ true) last step.alike
      ],
      λ name shown so. step.kept name shown (c.loop-number.invariant.2 name shown so),
    )
