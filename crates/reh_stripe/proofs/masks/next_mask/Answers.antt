-- The first entry is carried where the index is below the quorum.
use Rattle.std.proofs.Common.{◌≡◌, ◌+◌, ◌-◌, arith}
use Rattle.reh_stripe.proofs.MaskLaws.{mask-next_with, mask-next_without}
use Rattle.reh_stripe.proofs.masks.next_mask.Goals as goal

pub returns-then-index-quorum : goal.returns-then-index-quorum
returns-then-index-quorum c =
    let behind : c.args.index - 1 + 1 ≡ c.args.index = omega (arith, c.requires.some) in
    mask-next_with c.args.size c.args.quorum (c.args.index - 1) c.args.index c.args.before
    c.requires.quorum c.requires.within behind c.requires.inside c.requires.mask (omega arith)

pub returns-else-index-quorum : goal.returns-else-index-quorum
returns-else-index-quorum c =
    let behind : c.args.index - 1 + 1 ≡ c.args.index = omega (arith, c.requires.some) in
    mask-next_without c.args.size c.args.quorum (c.args.index - 1) c.args.index c.args.before
    c.requires.quorum c.requires.within behind c.requires.inside c.requires.mask (omega arith)
