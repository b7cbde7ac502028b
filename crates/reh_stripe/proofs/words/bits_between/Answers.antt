-- The bits from the first entry on, and those to the last.
use Rattle.std.proofs.Common.{◌≡◌, ◌-◌, ◌*◌, ◌/◌, ◌%◌, ◌^◌, ◌∙◌}
use Rattle.std.specs.Prelude.{bit_and, min}
use Rattle.reh_stripe.specs.Words.{has_bit}
use Rattle.reh_stripe.proofs.WordLaws.{mask-bits}
use Rattle.reh_stripe.proofs.words.bits_between.Goals as goal

pub returns : goal.returns
returns c = λ i inside.
    let low : c.saturating_sub-low.result ≡ c.args.first - 64 * c.args.number = c.saturating_sub-low.ensures in
    let high : c.min-high.result ≡ min (c.args.last - 64 * c.args.number) 63 = c.min-high.ensures in
    (λ j. has_bit (bit_and ((2 ^ 64 - 1) * 2 ^ low j % 2 ^ 64) ((2 ^ 64 - 1) / 2 ^ (63 - high j))) i)
    ∙ mask-bits c.args.number c.args.first c.args.last i c.requires.first c.requires.last inside
