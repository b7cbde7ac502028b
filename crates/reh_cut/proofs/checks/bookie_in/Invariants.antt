-- It is among those that are left.
use Rattle.std.proofs.Common.{◌≡◌, drop}
use Rattle.std.specs.Prelude.{bytes_eq, find}
use Rattle.reh_cut.proofs.checks.bookie_in.Given as goal

abbrev pub invariant-loop-bookie : goal.invariant-loop-bookie
invariant-loop-bookie l =
    find (λ b. bytes_eq b.name l.name) (drop l.bookie-index l.bookie-items) ≡ find (λ b. bytes_eq b.name l.name) l.bookie-items
