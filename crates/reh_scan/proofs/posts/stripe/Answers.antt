-- There are no more striped entries than entries.
use Rattle.std.proofs.Common.{ℕ, List, ap, arith, length}
use Rattle.reh_scan.proofs.PostLaws.{striped_entries-few}
use Rattle.reh_scan.proofs.posts.stripe.Goals as goal

pub returns-clause-few : goal.returns-clause-few
returns-clause-few c =
    let few =
    striped_entries-few c.args.first c.args.stop c.args.index c.size-size.result c.write_quorum.result in
    let long = ap (λ (es : List ℕ). length es) c.new.ensures in
    omega (arith, few, long)
