-- One of the sums is too much.
use Rattle.std.proofs.Common.{arith}
use Rattle.reh_inputs.proofs.files.judged_in.Goals as goal

pub returns-in_err-ledgers-clause-too_many : goal.returns-in_err-ledgers-clause-too_many
returns-in_err-ledgers-clause-too_many c =
    rw c.from_residual.ensures (λ are. omega (arith, are.ledgers, c.in_err-ledgers.ensures.too_many))

pub returns-in_err-assumed-clause-too_many : goal.returns-in_err-assumed-clause-too_many
returns-in_err-assumed-clause-too_many c =
    rw c.from_residual-in_err-assumed.ensures (λ are. omega (arith, are.assumed, c.in_err-assumed.ensures.too_many))

pub returns-in_err-unread-clause-too_many : goal.returns-in_err-unread-clause-too_many
returns-in_err-unread-clause-too_many c =
    rw c.from_residual-in_err-unread.ensures (λ are. omega (arith, are.not_judged, c.in_err-unread.ensures.too_many))

pub returns-in_err-missing-clause-too_many : goal.returns-in_err-missing-clause-too_many
returns-in_err-missing-clause-too_many c =
    rw c.from_residual-in_err-missing.ensures (λ are. omega (arith, are.not_judged, c.in_err-missing.ensures.too_many))

pub returns-in_err-_not_judged-clause-too_many : goal.returns-in_err-_not_judged-clause-too_many
returns-in_err-_not_judged-clause-too_many c =
    rw c.from_residual-in_err-_not_judged.ensures
    (λ are.
    omega (
      arith,
      are.not_judged,
      c.in_ok-unread.ensures.sum.0,
      c.in_ok-missing.ensures.sum.0,
      c.in_err-_not_judged.ensures.too_many,
    ))

pub returns-clause-few : goal.returns-clause-few
returns-clause-few c = record {
  ledgers = c.in_ok-ledgers.ensures.sum.1;
  assumed = c.in_ok-assumed.ensures.sum.1;
  not_judged = omega (arith, c.in_ok-_not_judged.ensures.sum.0, c.in_ok-_not_judged.ensures.sum.1);
}
