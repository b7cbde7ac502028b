-- A word without bits has no entry, and else its least bit is that of its least entry.
use Rattle.std.proofs.Common.{◌≡◌, ◌∙◌, ℕ, arith, sym, ap}
use Rattle.std.specs.Prelude.{slice_get}
use Rattle.std.specs.Int.{w64, trailing_zeros}
use Rattle.reh_stripe.specs.Words.{entries_in}
use Rattle.reh_stripe.proofs.WordLaws.{least-bit, least-none, least-some}
use Rattle.reh_stripe.proofs.words.least_entry.Goals as goal

pub returns-then-word-eq0 : goal.returns-then-word-eq0
returns-then-word-eq0 c =
    let none : c.args.word.bits ≡ 0 = c.if-word-eq0.true in
    sym (ap (λ (n : ℕ). slice_get (entries_in (record { number = c.args.word.number; bits = n })) 0) none
    ∙ least-none c.args.word.number)

pub returns-else-word-eq0 : goal.returns-else-word-eq0
returns-else-word-eq0 c =
    sym (least-some c.args.word.number c.args.word.bits (trailing_zeros w64 c.args.word.bits)
    (least-bit c.args.word.bits c.if-word-eq0.false (omega arith)))
