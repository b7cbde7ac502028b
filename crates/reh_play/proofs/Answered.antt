-- How a play of the lines ends that are answered.
use Rattle.std.proofs.Common.{◌≡◌, ℕ, ◌≤◌, Bool, true, false, cond, List, length, sym, ap, ◌∙◌}
use Rattle.std.proofs.Common.{Option, None, Some, subst, inl, inr}
use Rattle.std.specs.Prelude.{Ok, Err, ◌⊎◌}
use Rattle.reh_types.specs.declared.limits.TheConstants.{MAX_SCRIPT_BYTES}
use Rattle.reh_lines.specs.Lines.{is_script, answered_lines}
use Rattle.reh_play.specs.Players.{Setting, Player, Ends}
use Rattle.reh_play.specs.Plays.{stop_of, AnswersAll, IsPlayed}
use Rattle.reh_play.specs.Turns.{LeadsTo}
use Rattle.reh_play.specs.declared.faults.PlayFault.{PlayFault}
use Rattle.reh_lines.proofs.ScriptLaws.{is_script-within}
use Rattle.reh_play.specs.declared.faults.PlayFault.TheVariants.{ReadFault, TooLong, WriteFault, NoMemory, NoThread}

pub stop_of-long : (failed : Bool) (script : List ℕ) → is_script script ≡ false → stop_of failed script ≡ Some TooLong
stop_of-long failed script long = ap (λ (t : Bool). cond t (cond failed (Some ReadFault) None) (Some TooLong)) long

pub stop_of-within : (failed : Bool) (script : List ℕ) → length script ≤ MAX_SCRIPT_BYTES
    → stop_of failed script ≡ cond failed (Some ReadFault) None
stop_of-within failed script within =
    ap (λ (t : Bool). cond t (cond failed (Some ReadFault) None) (Some TooLong)) (is_script-within script within)

-- where a line's answer is the last
stops : {S : Type 0} (place : Setting S) (lines : List (List ℕ)) (stop : Option PlayFault) (fault : PlayFault)
    (x z : Player S) (old new : Option (List ℕ))
    → IsPlayed place lines None (Err fault) x z old new → IsPlayed place lines stop (Err fault) x z old new
stops place lines stop ReadFault x z old new played = let none : None ≡ Some ReadFault = played.0 in cc
stops place lines stop TooLong x z old new played = let none : None ≡ Some TooLong = played.0 in cc
stops place lines stop WriteFault x z old new played = played
stops place lines stop NoMemory x z old new played = played
stops place lines stop NoThread x z old new played = played

pub stops_early : {S : Type 0} (place : Setting S) (lines all : List (List ℕ)) (stop : Option PlayFault)
    (fault : PlayFault) (x y z : Player S) (old new : Option (List ℕ)) → lines ≡ all
    → LeadsTo place lines (Err fault) x y old new → Ends place y z → IsPlayed place all stop (Err fault) x z old new
stops_early place lines all stop fault x y z old new same leads ends =
    subst (λ (ls : List (List ℕ)). IsPlayed place ls stop (Err fault) x z old new) same
    (stops place lines stop fault x z old new (leads z ends))

-- a play stops for no other fault
not_lost : (failed : Bool) (script : List ℕ) (fault : PlayFault) → stop_of failed script ≡ Some fault
    → (fault ≡ ReadFault) ⊎ (fault ≡ TooLong)
not_lost failed script fault is =
    elim (is_script script) as
    (λ t. cond t (cond failed (Some ReadFault) None) (Some TooLong) ≡ Some fault → (fault ≡ ReadFault)
    ⊎ (fault ≡ TooLong)) [
      | true ↦ elim failed as
          (λ f. cond f (Some ReadFault) None ≡ Some fault → (fault ≡ ReadFault) ⊎ (fault ≡ TooLong)) [
            | true ↦ λ is. inl (cc)
            | false ↦ λ is. cc
          ]
      | false ↦ λ is. inr (cc)
    ] is

-- where all lines are answered
pub ends_well : {S : Type 0} (place : Setting S) (lines all : List (List ℕ)) (stop : Option PlayFault)
    (x y z : Player S) (old new : Option (List ℕ)) → lines ≡ all → stop ≡ None
    → LeadsTo place lines (Ok tt) x y old new → Ends place y z → IsPlayed place all stop (Ok tt) x z old new
ends_well place lines all stop x y z old new same none leads ends =
    (none, subst (λ (ls : List (List ℕ)). AnswersAll place ls x z old new) same (leads z ends).1)

pub ends_stopped : {S : Type 0} (place : Setting S) (failed : Bool) (script : List ℕ) (lines : List (List ℕ))
    (fault : PlayFault) (x y z : Player S) (old new : Option (List ℕ))
    → lines ≡ answered_lines failed script → Some fault ≡ stop_of failed script
    → LeadsTo place lines (Ok tt) x y old new → Ends place y z
    → IsPlayed place (answered_lines failed script) (stop_of failed script) (Err fault) x z old new
ends_stopped place failed script lines fault x y z old new same is leads ends =
    let all : AnswersAll place (answered_lines failed script) x z old new =
    subst (λ (ls : List (List ℕ)). AnswersAll place ls x z old new) same (leads z ends).1 in
    let plays : PlayFault → Type 0 =
    λ f. IsPlayed place (answered_lines failed script) (stop_of failed script) (Err f) x z old new in
    elim (not_lost failed script fault (sym is)) [
      | inl read ↦ subst plays (sym read) (sym is ∙ ap (λ (f : PlayFault). Some f) read, all)
      | inr long ↦ subst plays (sym long) (sym is ∙ ap (λ (f : PlayFault). Some f) long, all)
    ]
