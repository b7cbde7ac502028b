-- What is shown so far, and what is to be shown of the rest.
use Rattle.std.proofs.Common.{◌≡◌, ◌++◌, length}
use Rattle.reh_colors.specs.Shades.{colored}
use Rattle.reh_colors.proofs.texts.colored.Given as goal

abbrev pub invariant-loop-line : goal.invariant-loop-line
invariant-loop-line l = l.shown.items ++ colored l.rest ≡ colored l.text

abbrev pub decreases-loop-line : goal.decreases-loop-line
decreases-loop-line l = length l.rest
