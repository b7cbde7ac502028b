use Rattle.std.proofs.Common.{◌≡◌, false, slice_index_or, sym, ◌∙◌, arith, inl, inr}
use Rattle.std.specs.Char.{is_ascii_digit}
use Rattle.std.proofs.lemmas.Bool.Decides.{nat_tests}
use Rattle.reh_census_file.proofs.NumberLaws.{digits_fit, number_of-long, number_of-digits, number_of-other, number_of-value, other_byte, value_at_end}
use Rattle.reh_census_file.proofs.words.number_of.Goals as goal

pub overflow_mul-value : goal.overflow_mul-value
overflow_mul-value c = omega (arith, digits_fit _ _ _ c.loop-digit.invariant.bound c.loop-digit-test.true c.if-word-gt19.false)

pub overflow_add-value : goal.overflow_add-value
overflow_add-value c = omega (arith, digits_fit _ _ _ c.loop-digit.invariant.bound c.loop-digit-test.true c.if-word-gt19.false, c.from.ensures, c.if-not-is_ascii_digit.ensures.cases)

pub returns-then-word-gt19 : goal.returns-then-word-gt19
returns-then-word-gt19 c = sym (number_of-long c.args.word.now c.if-word-gt19.true)

pub returns-then-not-is_ascii_digit : goal.returns-then-not-is_ascii_digit
returns-then-not-is_ascii_digit c =
    let other : is_ascii_digit (slice_index_or c.args.word.now c.loop-digit.digit-index 0) ≡ false = grind (arith, nat_tests, c.if-not-is_ascii_digit.ensures.cases) in
    sym (number_of-digits c.args.word.now (sym c.loop-digit.invariant.digits ∙ other_byte c.args.word.now c.loop-digit.digit-index c.loop-digit-test.true other))

pub returns-then-value-gt-MAX_COUNT : goal.returns-then-value-gt-MAX_COUNT
returns-then-value-gt-MAX_COUNT c =
    let is = value_at_end c.args.word.now c.loop-digit.value c.loop-digit.digit-index c.loop-digit-test.false c.loop-digit.invariant.value in
    sym (number_of-other c.args.word.now c.loop-digit.value is (inr c.if-value-gt-MAX_COUNT.true))

pub returns-then-is_written : goal.returns-then-is_written
returns-then-is_written c =
    let is = value_at_end c.args.word.now c.loop-digit.value c.loop-digit.digit-index c.loop-digit-test.false c.loop-digit.invariant.value in
    sym (number_of-value c.args.word.now c.loop-digit.value is (sym c.if-is_written.ensures) c.if-value-gt-MAX_COUNT.false)

pub returns-else-is_written : goal.returns-else-is_written
returns-else-is_written c =
    let is = value_at_end c.args.word.now c.loop-digit.value c.loop-digit.digit-index c.loop-digit-test.false c.loop-digit.invariant.value in
    sym (number_of-other c.args.word.now c.loop-digit.value is (inl (sym c.if-is_written.ensures)))
