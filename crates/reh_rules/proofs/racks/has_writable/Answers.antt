use Rattle.std.proofs.Common.{◌∙◌, ◌+◌, ◌-◌, ◌<◌, ◌&&◌, ℕ, Bool, false, length, sym, arith}
use Rattle.std.specs.Prelude.{◌==◌}
use Rattle.std.specs.Option.{option_map_or}
use Rattle.reh_census.specs.Bookies.{bookies_of, is_flagged, is_writable}
use Rattle.reh_rules.proofs.RangeTests.{none_passes, one_passes}
use Rattle.reh_rules.proofs.racks.has_writable.Goals as goal

pub returns-then-is_writable_in : goal.returns-then-is_writable_in
returns-then-is_writable_in c =
    let p : ℕ → Bool =
    λ b. is_writable (bookies_of c.args.bookies.now) (is_flagged c.args.stopped.now) b
    && option_map_or (λ r. r == c.args.rack) ((bookies_of c.args.bookies.now).rack_of b) false in
    let below : c.loop-bookie.bookie < 0 + (length c.args.bookies.now - 0) = omega (arith, c.loop-bookie-test.true, c.len-bookie-end.ensures) in
    sym (one_passes p 0 (length c.args.bookies.now - 0) c.loop-bookie.bookie (omega arith) below (sym c.is_writable_in.ensures ∙ c.if-is_writable_in.true))

pub returns : goal.returns
returns c =
    let p : ℕ → Bool =
    λ b. is_writable (bookies_of c.args.bookies.now) (is_flagged c.args.stopped.now) b
    && option_map_or (λ r. r == c.args.rack) ((bookies_of c.args.bookies.now).rack_of b) false in
    sym
    (none_passes p 0 (length c.args.bookies.now - 0)
    (λ b from below. c.loop-bookie.invariant b (omega (arith, below, c.loop-bookie-test.false, c.len-bookie-end.ensures))))
