use Rattle.std.proofs.Common.{◌≡◌, ◌∙◌, ◌+◌, ℕ, List, ap, cond, take, get_or, arith}
use Rattle.std.specs.Prelude.{sum_by}
use Rattle.std.proofs.lemmas.List.Sums.{sum_by_more, sum_by_push}
use Rattle.reh_census.specs.declared.censuses.CountedEnsemble.{CountedEnsemble}
use Rattle.reh_census.specs.declared.ledgers.Fragment.{Fragment}
use Rattle.reh_census.specs.Copies.{in_order}
use Rattle.reh_census.specs.Counting.{count_ensembles_in}
use Rattle.reh_tally.proofs.tails.add_ensembles.Goals as goal

pub loop-fragment-preserved : goal.loop-fragment-preserved
loop-fragment-preserved c test =
    let fragments : List Fragment = c.args.fragments.now in
    let n : ℕ = c.loop-fragment.fragment-index in
    let once : List ℕ → ℕ = λ members. cond (test members) 1 0 in
    let f : Fragment → ℕ = λ fragment. once (in_order fragment.ensemble) in
    let x : CountedEnsemble = record { members = c.in_ok-members.members; count = 1 } in
    let more : sum_by f (take (n + 1) fragments) ≡ sum_by f (take n fragments) + f (get_or fragments n c.fragment-item.result) =
    sum_by_more f fragments n c.fragment-item.result c.loop-fragment-test.true in
    let added : count_ensembles_in c.push.new.self.items test ≡ count_ensembles_in c.loop-fragment.ensembles.items test + once c.in_ok-members.members =
    ap (λ (items : List CountedEnsemble). count_ensembles_in items test) c.in_ok-push.ensures.items
    ∙ sum_by_push (λ (e : CountedEnsemble). cond (test e.members) e.count 0) c.loop-fragment.ensembles.items x in
    omega (arith, more, added, c.loop-fragment.invariant test, ap once c.in_ok-members.ensures, ap f c.fragment-item.is)
