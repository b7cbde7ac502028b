use Rattle.std.proofs.lemmas.Result.{err_from_is_err_and}
use Rattle.reh_census_file.specs.Reading.{bookies_at, words_after}
use Rattle.reh_census_file.proofs.ReadLoops.{goes_on, ends, is_done}
use Rattle.reh_census_file.proofs.words.bookies_at.Goals as goal

pub returns-in_err-number : goal.returns-in_err-number
returns-in_err-number c =
    let p = err_from_is_err_and c.from_residual.result c.from_residual.ensures.1 in
    rw (p.1, p.2) (ends c.args.names.now c.in_err-number.field-0.0 c.loop.numbers.items c.args.count c.loop.counter (words_after c.loop.left.now) (bookies_at c.args.names.now c.args.count (words_after c.args.rest.now)) c.loop-test.true c.in_err-number.ensures c.loop.invariant)

pub loop-preserved : goal.loop-preserved
loop-preserved c =
    rw c.in_ok-push.ensures.items (goes_on c.args.names.now c.loop.numbers.items c.args.count c.loop.counter (words_after c.loop.left.now) c.in_ok-number.number (words_after c.in_ok-number.after.now) (bookies_at c.args.names.now c.args.count (words_after c.args.rest.now)) c.loop-test.true c.in_ok-number.ensures c.loop.invariant)

pub returns : goal.returns
returns c =
    is_done c.args.names.now c.loop.numbers.items c.args.count c.loop.counter (words_after c.loop.left.now) (bookies_at c.args.names.now c.args.count (words_after c.args.rest.now)) c.loop-test.false c.loop.invariant
