-- What was looked at, in this order; and where all of it is as it should be, only room can be missing.
use Rattle.reh_plan.proofs.reasons.reason_for.Goals as goal

pub returns-in-Some : goal.returns-in-Some
returns-in-Some c = record { reason = c.in-Some.ensures.some c.args.workers.now.rules c.args.full; room = tt }

pub returns-in-Some-unsettled : goal.returns-in-Some-unsettled
returns-in-Some-unsettled c = record { reason = c.in-Some-unsettled.ensures.some c.args.full; room = tt }

pub returns-in-Some-without_worker : goal.returns-in-Some-without_worker
returns-in-Some-without_worker c = record {
  reason = (
    c.in-Some-without_worker.ensures.some,
    record {
      places = c.unfilled.ensures.none c.in_default.is;
      seal = c.unsettled.ensures.seal c.in_default-unsettled.is;
      roll = c.unsettled.ensures.roll c.in_default-unsettled.is;
    },
  );
  room = tt;
}

pub returns-then-full : goal.returns-then-full
returns-then-full c = record {
  reason = (
    c.if-full.true,
    record {
      workers = c.without_worker.ensures.none c.in_default-without_worker.is;
      unrefused = record {
        places = c.unfilled.ensures.none c.in_default.is;
        seal = c.unsettled.ensures.seal c.in_default-unsettled.is;
        roll = c.unsettled.ensures.roll c.in_default-unsettled.is;
      };
    },
  );
  room = tt;
}
