use Rattle.std.proofs.Common.{arith}
use Rattle.reh_commands.proofs.Numbers.{digits_fit}
use Rattle.reh_commands.proofs.words.parse_number.Goals as goal

pub overflow_mul-value : goal.overflow_mul-value
overflow_mul-value c = omega (arith, digits_fit _ _ _ c.loop-digit.invariant.bound c.loop-digit-test.true c.if-word-gt13.false)

pub overflow_add-value : goal.overflow_add-value
overflow_add-value c = omega (arith, digits_fit _ _ _ c.loop-digit.invariant.bound c.loop-digit-test.true c.if-word-gt13.false, c.from.ensures, c.if-not-is_ascii_digit.ensures.cases)
