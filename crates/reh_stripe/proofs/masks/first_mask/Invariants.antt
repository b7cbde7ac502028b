-- The bits of the mask, and the entries that are left, are those that index 0 carries.
use Rattle.reh_stripe.proofs.MaskLaws.{IsMasking}
use Rattle.reh_stripe.proofs.masks.first_mask.Given as goal

abbrev pub invariant-loop-entry : goal.invariant-loop-entry
invariant-loop-entry l = IsMasking l.size l.quorum 0 l.mask l.entry-iterator
