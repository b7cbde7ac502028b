use Rattle.std.proofs.Common.{◌≡◌, rules, of_calls, nat_lt, ℕ, true, false, arith}
use Rattle.std.specs.List.Sorted.{IsPartitionPoint}
use Rattle.std.proofs.lemmas.Fn.{always_returns_same}
use Rattle.std.proofs.lemmas.List.Sorted.{IsPartitionedBy-ltb}
use Rattle.reh_cut.proofs.RangeLaws.{all-ended, first-decides}
use Rattle.reh_cut.proofs.ranges.find_around.Goals as goal
use Rattle.reh_cut.proofs.ranges.find_around.Goals.{After-partition_point-place}

-- where the ranges part into those that end before the entry, and the others
parted : (c : After-partition_point-place) → IsPartitionPoint (λ (r : ℕ × ℕ). nat_lt r.1 c.args.entry ≡ true)
    (λ (r : ℕ × ℕ). nat_lt r.1 c.args.entry ≡ false) c.args.ranges.now c.partition_point-place.result
parted c =
    c.partition_point-place.ensures.partitioned (λ r. nat_lt r.1 c.args.entry)
    (always_returns_same _ _ _ (λ a r f k. search (rules, of_calls)))
    (IsPartitionedBy-ltb (λ r. r.1) c.args.ranges.now c.args.entry c.requires.lasts)

pub returns-then-place-ranges : goal.returns-then-place-ranges
returns-then-place-ranges c =
    all-ended c.args.ranges.now c.partition_point-place.result c.args.entry c.if-place-ranges.true (parted c.before).0

pub returns : goal.returns
returns c =
    let point = parted c.before.before in
    first-decides c.args.ranges.now c.partition_point-place.result c.args.entry (0, 0) c.requires
    (omega (arith, c.if-place-ranges.false, c.partition_point-place.ensures.bound)) point.0 point.1
