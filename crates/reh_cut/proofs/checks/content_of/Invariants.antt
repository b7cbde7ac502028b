-- It is among those that are left.
use Rattle.std.proofs.Common.{◌≡◌, drop}
use Rattle.std.specs.Prelude.{bytes_eq, find}
use Rattle.reh_cut.proofs.checks.content_of.Given as goal

abbrev pub invariant-loop-content : goal.invariant-loop-content
invariant-loop-content l =
    find (λ content. bytes_eq content.bookie l.name) (drop l.content-index l.content-items)
    ≡ find (λ content. bytes_eq content.bookie l.name) l.content-items
