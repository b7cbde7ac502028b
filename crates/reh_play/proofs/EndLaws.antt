-- What the end of a play tells.
use Rattle.std.proofs.Common.{◌≡◌, ℕ, ◌≤◌, ◌⊎◌, inl, inr, Bool, true, false, cond, List, length, refl, sym, ap, ◌∙◌, subst}
use Rattle.std.proofs.Common.{Option, None, Some, Result, Ok, Err, arith}
use Rattle.std.proofs.lemmas.Bool.Decides.{nat_tests}
use Rattle.reh_types.specs.declared.limits.TheConstants.{MAX_SCRIPT_BYTES}
use Rattle.reh_lines.specs.Lines.{lines_of, is_script, answered_lines}
use Rattle.reh_lines.specs.Readings.{Gives}
use Rattle.reh_play.specs.Players.{Setting, Player}
use Rattle.reh_play.specs.Plays.{stop_of, AnswersAll, Plays, is_write_fault}
use Rattle.reh_play.specs.declared.faults.PlayFault.{PlayFault}
use Rattle.reh_play.specs.declared.faults.PlayFault.TheVariants.{ReadFault, TooLong, WriteFault, NoMemory}
use Rattle.reh_lines.proofs.ScriptLaws.{answered_lines-whole}

-- no more lines are to be answered
stops_for_none : (failed : Bool) (script : List ℕ) → stop_of failed script ≡ None
    → (is_script script ≡ true) × (failed ≡ false)
stops_for_none failed script is =
    elim (is_script script) as
    (λ t. cond t (cond failed (Some ReadFault) None) (Some TooLong) ≡ None → (t ≡ true) × (failed ≡ false)) [
      | true ↦ elim failed as (λ f. cond f (Some ReadFault) None ≡ None → (true ≡ true) × (f ≡ false)) [
        | true ↦ λ is. cc
        | false ↦ λ is. (refl, refl)
      ]
      | false ↦ λ is. cc
    ] is

stops_for_read : (failed : Bool) (script : List ℕ) → stop_of failed script ≡ Some ReadFault → failed ≡ true
stops_for_read failed script is =
    elim (is_script script) as
    (λ t. cond t (cond failed (Some ReadFault) None) (Some TooLong) ≡ Some ReadFault → failed ≡ true) [
      | true ↦ elim failed as (λ f. cond f (Some ReadFault) None ≡ Some ReadFault → f ≡ true) [
        | true ↦ λ is. refl
        | false ↦ λ is. cc
      ]
      | false ↦ λ is. cc
    ] is

stops_for_length : (script : List ℕ) → stop_of false script ≡ Some TooLong → is_script script ≡ false
stops_for_length script is =
    elim (is_script script) as (λ t. cond t None (Some TooLong) ≡ Some TooLong → t ≡ false) [
      | true ↦ λ is. cc
      | false ↦ λ is. refl
    ] is

not_between : (result : Result (Unit {0}) PlayFault) → is_write_fault result ≡ false → (result ≡ Err NoMemory → ⊥)
    → (result ≡ Err NoMemory) ⊎ (result ≡ Err WriteFault) → ⊥
not_between result written stored (inl want) = stored want
not_between result written stored (inr lost) =
    let wrong : false ≡ true = sym written ∙ ap is_write_fault lost in cc

-- a play that ends well
pub well_unfailed : {S : Type 0} (place : Setting S) (failed : Bool) (left_old left_new : Option (List ℕ))
    (x z : Player S) (old new : Option (List ℕ)) → Plays place (Ok tt) failed left_old left_new x z old new
    → failed ≡ false
well_unfailed place failed left_old left_new x z old new plays = elim plays.played [
  | inl played ↦ (stops_for_none failed plays.text played.0).1
  | inr breaks ↦ breaks.1
]

within_of : (script : List ℕ) → is_script script ≡ true → length script ≤ MAX_SCRIPT_BYTES
within_of script is = grind (arith, nat_tests)

-- all that was to come
text_is : (script text : List ℕ) (left_new : Option (List ℕ)) (failed : Bool) → failed ≡ false
    → Gives (Some script) left_new failed text → text ≡ script
text_is script text left_new failed fine given =
    subst (λ (f : Bool). Gives (Some script) left_new f text) fine given

lines_are : (script text : List ℕ) (failed : Bool) → is_script text ≡ true → failed ≡ false → text ≡ script
    → answered_lines failed text ≡ lines_of script
lines_are script text failed is fine same =
    ap (λ (f : Bool). answered_lines f text) fine ∙ answered_lines-whole text (within_of text is) ∙ ap lines_of same

pub well_whole : {S : Type 0} (place : Setting S) (failed : Bool) (script : List ℕ) (left_new : Option (List ℕ))
    (x z : Player S) (old new : Option (List ℕ)) → Plays place (Ok tt) failed (Some script) left_new x z old new
    → (is_script script ≡ true) × AnswersAll place (lines_of script) x z old new
well_whole place failed script left_new x z old new plays = elim plays.played [
  | inl played ↦
      let told = stops_for_none failed plays.text played.0 in
      let same = text_is script plays.text left_new failed told.1 plays.given in (
        ap is_script (sym same) ∙ told.0,
        subst (λ (ls : List (List ℕ)). AnswersAll place ls x z old new)
            (lines_are script plays.text failed told.0 told.1 same) played.1,
      )
  | inr breaks ↦ absurd (not_between (Ok tt) refl (λ is. cc) breaks.0)
]

-- one that ends for a fault
pub read_failed : {S : Type 0} (place : Setting S) (failed : Bool) (left_old left_new : Option (List ℕ))
    (x z : Player S) (old new : Option (List ℕ)) → Plays place (Err ReadFault) failed left_old left_new x z old new
    → failed ≡ true
read_failed place failed left_old left_new x z old new plays = elim plays.played [
  | inl played ↦ stops_for_read failed plays.text played.0
  | inr breaks ↦ absurd (not_between (Err ReadFault) refl (λ is. cc) breaks.0)
]

pub long_script : {S : Type 0} (place : Setting S) (script : List ℕ) (left_new : Option (List ℕ))
    (x z : Player S) (old new : Option (List ℕ)) → Plays place (Err TooLong) false (Some script) left_new x z old new
    → is_script script ≡ false
long_script place script left_new x z old new plays = elim plays.played [
  | inl played ↦ ap is_script (sym plays.given) ∙ stops_for_length plays.text played.0
  | inr breaks ↦ absurd (not_between (Err TooLong) refl (λ is. cc) breaks.0)
]

-- one that breaks off
pub break_has_cause : (result : Result (Unit {0}) PlayFault) (lost : Bool)
    → (result ≡ Err NoMemory) ⊎ (result ≡ Err WriteFault) → lost ≡ is_write_fault result
    → ((result ≡ Err NoMemory) × (lost ≡ false)) ⊎ ((result ≡ Err WriteFault) × (lost ≡ true))
break_has_cause result lost (inl want) is = inl (want, is ∙ ap is_write_fault want)
break_has_cause result lost (inr fault) is = inr (fault, is ∙ ap is_write_fault fault)
