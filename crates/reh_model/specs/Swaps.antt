-- The promise of swaps: no swap that is accepted loses an entry.
use Rattle.std.specs.Prelude.{◌≡◌, true, List, ◌∷◌, IsSome, All}
use Rattle.reh_types.specs.declared.moves.Event.{Event}
use Rattle.reh_types.specs.declared.moves.Event.TheVariants.{Swap}
use Rattle.reh_types.specs.declared.moves.Move.{Move}
use Rattle.reh_types.specs.declared.moves.Move.TheVariants.{Do}
use Rattle.reh_types.specs.declared.moves.Reply.{Reply}
use Rattle.reh_types.specs.declared.moves.Reply.TheVariants.{Done}
use Rattle.reh_model.specs.Cluster.{Cluster, holds, stop_at, stripe_at}
use Rattle.reh_model.specs.Session.{Session, state_of, session_after}

-- what a swap promises of a cluster: the fragment has a stop there, so that its entries are known, and the worker's
-- bookie holds every entry that it stripes onto the index. Other events promise nothing.
abbrev pub HoldsStripe : Cluster → Event → Type 0
HoldsStripe s (Swap w l f i v) = IsSome (stop_at s l f) × All (λ e. holds s w l e ≡ true) (stripe_at s l f i)
HoldsStripe s event = Unit {0}

-- a move with its reply: where a swap is done, it keeps its promise in the state that it is made on
abbrev pub IsSafe : Cluster → Move → Reply → Type 0
IsSafe s (Do event) Done = HoldsStripe s event
IsSafe s move reply = Unit {0}

-- so it is with each move of a run
abbrev pub IsSafeRun : Session → List Move → List Reply → Type 0
IsSafeRun m (move ∷ moves) (reply ∷ replies) =
    IsSafe (state_of m) move reply × IsSafeRun (session_after m move reply) moves replies
IsSafeRun m moves replies = Unit {0}

-- each swap among the surviving events keeps its promise in the present state
abbrev pub AllSafe : Session → Type 0
AllSafe m = All (HoldsStripe (state_of m)) m.done
