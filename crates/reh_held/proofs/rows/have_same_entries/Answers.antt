-- Rows with words that differ have other entries.
use Rattle.std.proofs.Common.{arith, sym, true≢false}
use Rattle.reh_held.proofs.SameRows.{word_at}
use Rattle.reh_held.proofs.rows.have_same_entries.Goals as goal

pub returns-then-words-number : goal.returns-then-words-number
returns-then-words-number c = (
  λ told. absurd (true≢false (sym told)),
  λ same. absurd (c.if-words-number.true
      (word_at c.args.words.now c.args.others.now c.loop-number.number
      (omega (arith, c.type_inv.words c.loop-number.number)) (omega (arith, c.type_inv.others c.loop-number.number))
      same)),
)
