-- The fault is that of the bookie of that name.
use Rattle.std.proofs.Common.{◌≡◌, Option, Some, List, ℕ, rules, subst, sym}
use Rattle.std.proofs.lemmas.Result.{MatchResult-weaker}
use Rattle.std.specs.Option.{IsSomeAnd}
use Rattle.std.specs.Prelude.{slice_get}
use Rattle.reh_inputs.specs.Faults.{IsClusterFault}
use Rattle.reh_inputs.specs.Shown.{Shown}
use Rattle.reh_inputs.specs.United.{shown_at}
use Rattle.reh_inputs.proofs.united.add_listed.Goals as goal

pub returns-clause-fault : goal.returns-clause-fault
returns-clause-fault c =
    let cluster = c.args.cluster.now in
    let shown = shown_at c.args.listed.now c.args.number in
    let at : slice_get c.args.listed.now.listing.names c.args.number ≡ Some c.in-Some.name.now = search rules in
    MatchResult-weaker c.add.result c.add.ensures.fault (λ _ nothing. nothing)
    (λ fault is.
    subst (λ (o : Option (List ℕ)). IsSomeAnd o (λ name. IsClusterFault cluster name shown fault)) (sym at)
    (subst (λ (s : Shown). IsClusterFault cluster c.in-Some.name.now s fault) c.in_ok-shown.ensures is))
