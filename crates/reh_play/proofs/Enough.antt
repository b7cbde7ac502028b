-- A play that finds no memory for its hand.
use Rattle.std.proofs.Common.{◌≡◌, ℕ, Bool, false, inl, inr, List, [], Option, None, Some, Result, Ok, Err, refl, sym}
use Rattle.std.proofs.Common.{subst}
use Rattle.std.specs.Prelude.{IsErrAnd}
use Rattle.std.proofs.KnownBytes.{Appends-nil}
use Rattle.reh_play.specs.Players.{Setting, seated}
use Rattle.reh_play.specs.Plays.{StopsBetween, Plays}
use Rattle.reh_play.specs.declared.faults.PlayFault.{PlayFault}
use Rattle.reh_play.specs.declared.faults.PlayFault.TheVariants.{NoMemory}
use Rattle.reh_desk.specs.Seats.{SeatView}

begins_not : {S : Type 0} (place : Setting S) (lines : List (List ℕ)) (counter : S) (seat : SeatView)
    (old : Option (List ℕ)) → StopsBetween place lines (seated counter seat) (seated counter seat) old old
begins_not place lines counter seat old = record {
  done = [];
  rest = lines;
  text = [];
  y = seated counter seat;
  split = refl;
  taken = (refl, refl);
  ends = (refl, refl);
  written = Appends-nil old;
}

plays_not : {S : Type 0} (place : Setting S) (left_old left_new : Option (List ℕ)) (counter : S) (seat : SeatView)
    (old : Option (List ℕ))
    → Plays place (Err NoMemory) false left_old left_new (seated counter seat) (seated counter seat) old old
plays_not place None left_new counter seat old =
    record { text = []; given = tt; played = inr (inl refl, refl, begins_not place _ counter seat old) }
plays_not place (Some all) left_new counter seat old =
    record { text = all; given = refl; played = inr (inl refl, refl, begins_not place _ counter seat old) }

-- handed on
pub plays_nothing : {S : Type 0} (place : Setting S) (result : Result (Unit {0}) PlayFault) (failed : Bool)
    (left_old left_new : Option (List ℕ)) (counter : S) (seat : SeatView) (old : Option (List ℕ))
    → IsErrAnd result (λ e. e ≡ NoMemory) → failed ≡ false
    → Plays place result failed left_old left_new (seated counter seat) (seated counter seat) old old
plays_nothing place (Ok done) failed left_old left_new counter seat old is fine = absurd is
plays_nothing place (Err fault) failed left_old left_new counter seat old is fine =
    subst (λ (f : Bool). Plays place (Err fault) f left_old left_new (seated counter seat) (seated counter seat) old old)
    (sym fine)
    (subst (λ (f : PlayFault). Plays place (Err f) false left_old left_new (seated counter seat) (seated counter seat)
    old old) (sym is) (plays_not place left_old left_new counter seat old))
