-- One byte more is printable.
use Rattle.std.proofs.Common.{◌≤◌, ◌<◌, ◌∙◌, ℕ, List, subst, take_all, arith}
use Rattle.std.specs.Prelude.{All}
use Rattle.std.proofs.lemmas.List.Elements.{All-more}
use Rattle.reh_waves.proofs.printable.is_printable.Goals as goal

pub loop-byte-preserved : goal.loop-byte-preserved
loop-byte-preserved c =
    All-more (λ b. (32 ≤ b) × (b < 127)) c.as_bytes-byte-items.result.now c.loop-byte.byte-index 0 c.loop-byte-test.true
    c.loop-byte.invariant (omega (arith, c.if-byte-lt32.false), omega (arith, c.if-byte-ge127.false))

pub returns-clause-yes : goal.returns-clause-yes
returns-clause-yes c = λ _.
    subst (λ (bytes : List ℕ). All (λ b. (32 ≤ b) × (b < 127)) bytes)
    (take_all c.loop-byte.byte-index c.as_bytes-byte-items.result.now (omega (arith, c.loop-byte-test.false))
    ∙ c.as_bytes-byte-items.ensures.value)
    c.loop-byte.invariant
