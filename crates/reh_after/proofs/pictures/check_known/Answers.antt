-- What is found is so of the state at the end.
use Rattle.std.proofs.Common.{◌≡◌, ap, sym, Option, unwrap_or}
use Rattle.reh_model.specs.Cluster.{Cluster}
use Rattle.reh_model.specs.Session.{state_of}
use Rattle.reh_after.proofs.pictures.check_known.Goals as goal

pub returns-in-Some-clause-fault : goal.returns-in-Some-clause-fault
returns-in-Some-clause-fault c =
    let state : c.state.result.now ≡ state_of c.args.begun.now.session =
    sym (ap (λ (o : Option Cluster). unwrap_or o c.args.begun.now.session.opening) c.state.ensures.replays) in
    record {
      found = c.in-Some.found;
      doubted = rw (state, c.done.ensures) at c.in-Some.ensures.some;
      says = c.doubt_of.ensures;
    }
