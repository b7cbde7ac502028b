use Rattle.std.proofs.Common.{◌≡◌, ◌∙◌, ◌+◌, ◌%◌, ◌<◌, ℕ, ap, arith, length, mod-lt}
use Rattle.reh_census.specs.Striping.{index_at}
use Rattle.reh_tally.specs.Masks.{mask_of}
use Rattle.reh_tally.proofs.ClassLaws.{carries_first, mask-all, mask-first, mask-rank}
use Rattle.reh_tally.proofs.masks.mask_at.Goals as goal

pub loop-rank-init : goal.loop-rank-init
loop-rank-init c members fragment are = mask-first c.args.ledger.now fragment c.args.remainder members

pub loop-rank-preserved : goal.loop-rank-preserved
loop-rank-preserved c members fragment are =
    let size : ℕ = c.args.ledger.now.size in
    let at : c.remainder_behind.result ≡ index_at c.args.remainder size c.loop-rank.rank =
    c.remainder_behind.ensures ∙ ap (λ n. (c.args.remainder + c.loop-rank.rank) % n) c.size-size.ensures.size in
    let some : 0 < size = omega (arith, c.requires.remainder) in
    let within : c.remainder_behind.result < length c.args.bits.now =
    omega (arith, at, c.requires.whole, mod-lt (c.args.remainder + c.loop-rank.rank) some) in
    mask-rank c.args.ledger.now fragment c.args.remainder c.loop-rank.rank members c.args.bits.now c.loop-rank.mask
    c.remainder_behind.result are at within (c.loop-rank.invariant members fragment are)

pub returns : goal.returns
returns c members fragment are =
    let all : c.loop-rank.rank ≡ c.args.ledger.now.write_quorum =
    omega (arith, c.loop-rank-test.false, c.loop-rank.auto.rank-end, c.write_quorum-rank-end.ensures) in
    c.loop-rank.invariant members fragment are
    ∙ (λ i. mask_of (carries_first c.args.ledger.now fragment c.args.remainder (all i)) members)
    ∙ mask-all c.args.ledger.now fragment c.args.remainder members
