-- A word more has as many entries as ones.
use Rattle.std.proofs.Common.{◌+◌, ◌<◌, ◌^◌, List, ℕ, get_or, arith, refl, sym, ap, ◌∙◌}
use Rattle.std.specs.Int.Count.{ones}
use Rattle.std.proofs.lemmas.Nat.{ones-le}
use Rattle.reh_held.proofs.CountLaws.{entries-more}
use Rattle.reh_held.proofs.rows.Row.count.Goals as goal

pub loop-word-preserved : goal.loop-word-preserved
loop-word-preserved c =
    let words : List ℕ = c.deref-word-items.result.now in
    let i : ℕ = c.loop-word.word-index in
    let w : ℕ = get_or words i 0 in
    let fits : w < 2 ^ 64 = omega (arith, c.type_inv.word-items i) in (
      ap (λ n. n + ones w) c.loop-word.invariant.0 ∙ sym (entries-more words i w c.loop-word-test.true refl fits),
      omega (arith, ones-le 64 w fits),
    )
