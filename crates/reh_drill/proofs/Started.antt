-- An operator's thread, if there was one for it.
use Rattle.std.proofs.Common.{◌≡◌, ℕ, List, Result, Ok, Err}
use Rattle.std.specs.Prelude.{IfOk, IfErr, MatchResult}
use Rattle.std.specs.declared.thread.PromisedHandle.{PromisedHandle}
use Rattle.reh_desk.specs.Seats.{SeatView}
use Rattle.reh_play.specs.declared.faults.PlayFault.{PlayFault}
use Rattle.reh_play.specs.declared.faults.PlayFault.TheVariants.{NoThread}
use Rattle.reh_drill.specs.Drills.{OnePlayed}
use Rattle.reh_drill.specs.declared.operators.Outcome.{Outcome}
use Rattle.reh_drill.specs.declared.outcomes.PlayOf.{PlayOf}

pub one_played : (names : List (List ℕ)) (s : SeatView) (c : List ℕ)
    (started : Result (PromisedHandle Outcome PlayOf) PlayFault) (o : Result Outcome PlayFault)
    → IfOk started (λ h. (h.promise.names.value ≡ names) × (h.promise.seat.value ≡ s)
    × (h.promise.script.value.items ≡ c))
    → IfErr started (λ fault. fault ≡ NoThread)
    → MatchResult started
    (λ h. OnePlayed h.promise.names.value h.promise.seat.value h.promise.script.value.items o)
    (λ fault. o ≡ Err fault)
    → OnePlayed names s c o
one_played names s c (Ok h) o same none ended = rw (same.0, same.1, same.2) at ended
one_played names s c (Err fault) o same none ended = rw ended none
