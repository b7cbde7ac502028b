-- A bookie more is passed, which can't take the place, or with which no fewer write sets lack racks.
use Rattle.std.proofs.Common.{◌≡◌, ◌≤◌, ◌∙◌, ℕ, List, Some, ap, arith, length, slice_get, subst, sym, true≢false}
use Rattle.std.specs.Prelude.{IsTrue}
use Rattle.reh_model.specs.Cluster.{Cluster, Ledger}
use Rattle.reh_model.specs.Metadata.{Fragment, Metadata}
use Rattle.reh_model.proofs.ListLaws.{slice_get-there}
use Rattle.reh_plan.specs.Racks.{lacking}
use Rattle.reh_plan.specs.Takers.{could_take}
use Rattle.reh_plan.specs.Workers.{may_work}
use Rattle.reh_plan.proofs.TakerLaws.{lacking_there, least_at, least_of_named, passed_more}
use Rattle.reh_plan.proofs.takers.lacks_least.Goals as goal
use Rattle.reh_plan.proofs.takers.lacks_least.Goals.{else-could_take-via-then-could_take+else-lacking_with-least, else-could_take-via-else-could_take}

pub loop-number-preserved : goal.loop-number-preserved
loop-number-preserved c =
    let s : Cluster = c.args.state.now in
    let g : Ledger = c.args.ledger.now in
    let f : Fragment = c.in-Some.fragment.now in
    let k : ℕ = c.loop-number.number in
    let there : slice_get g.metadata.fragments c.args.aim.now.fragment ≡ Some f =
    ap (λ (fragments : List Fragment). slice_get fragments c.args.aim.now.fragment) (sym (c.fragments.ensures.fragments ∙ ap (λ (m : Metadata). m.fragments) c.metadata.ensures))
    ∙ slice_get-there c.fragments.result.now c.args.aim.now.fragment f c.in-Some.ensures.lookup.3.0
    c.in-Some.ensures.lookup.1 in
    passed_more
    (λ b. IsTrue (could_take (may_work c.args.workers.now.rules) s f b)
    → c.lacking_with-least.result ≤ lacking c.args.racks.now g.metadata f c.args.aim.now.index b)
    k c.loop-number.invariant
    (elim c.else-could_take.branch [
      | else-could_take-via-then-could_take+else-lacking_with-least w ↦ λ _.
          let is : w.lacking_with.result ≡ lacking c.args.racks.now g.metadata f c.args.aim.now.index k =
          lacking_there c.args.racks.now g.metadata c.args.aim.now.fragment c.args.aim.now.index k w.lacking_with.result f
          there w.lacking_with.ensures in
          omega (arith, is, w.if-lacking_with-least.false)
      | else-could_take-via-else-could_take w ↦ λ could.
          absurd (true≢false (sym could ∙ sym c.could_take.ensures ∙ w.if-could_take.false))
    ])

pub returns : goal.returns
returns c = λ _.
    let s : Cluster = c.args.state.now in
    let g : Ledger = c.args.ledger.now in
    let f : Fragment = c.in-Some.fragment.now in
    let b : ℕ = c.args.aim.now.worker in
    let there : slice_get g.metadata.fragments c.args.aim.now.fragment ≡ Some f =
    ap (λ (fragments : List Fragment). slice_get fragments c.args.aim.now.fragment) (sym (c.fragments.ensures.fragments ∙ ap (λ (m : Metadata). m.fragments) c.metadata.ensures))
    ∙ slice_get-there c.fragments.result.now c.args.aim.now.fragment f c.in-Some.ensures.lookup.3.0
    c.in-Some.ensures.lookup.1 in
    let is : c.lacking_with-least.result ≡ lacking c.args.racks.now g.metadata f c.args.aim.now.index b =
    lacking_there c.args.racks.now g.metadata c.args.aim.now.fragment c.args.aim.now.index b c.lacking_with-least.result f
    there c.lacking_with-least.ensures in
    let names : length c.names.result.now ≡ length s.names = ap length c.names.ensures.names in
    least_at (may_work c.args.workers.now.rules) c.args.racks.now s g c.args.aim.now.fragment c.args.aim.now.index b f there
    (least_of_named (may_work c.args.workers.now.rules) c.args.racks.now s g.metadata f c.args.aim.now.index b
    c.names.ensures.well_formed
    (λ other named could.
    subst (λ n. n ≤ lacking c.args.racks.now g.metadata f c.args.aim.now.index other) is
    (c.loop-number.invariant other
    (omega (arith, named, names, c.len-number-end.ensures.count, c.len-number-end.ensures.limit, c.loop-number-test.false, c.loop-number.auto.number-end))
    could)))
