-- What is printed of a line as JSON, and how such a run ends.
use Rattle.std.proofs.Common.{◌≡◌, ℕ, List, [], ◌++◌, length, drop, inl, inr, Option, None, Some, Result, Ok, Err}
use Rattle.std.proofs.Common.{refl, sym, ap, ◌∙◌, subst}
use Rattle.std.proofs.lemmas.List.{drop_at}
use Rattle.std.specs.Prelude.{OnOk, codes}
use Rattle.json.specs.Json.{Json}
use Rattle.reh_model.specs.Cluster.{Cluster}
use Rattle.reh_model.specs.Places.{Change}
use Rattle.reh_model.specs.Session.{replay}
use Rattle.reh_desk.specs.Kept.{Kept, Called}
use Rattle.reh_commands.specs.Answers.{asked}
use Rattle.reh_play.specs.declared.answers.LineAnswer.{LineAnswer}
use Rattle.reh_play.specs.Turns.{PrintsLine}
use Rattle.reh_run_json.specs.Lines.{IsLineAdded, line_json, line_text}
use Rattle.reh_script.specs.AsJson.{command_in, lines_as_json, IsTold}
use Rattle.reh_script.specs.Changes.{shown_at, state_in, IsMadeBy}
use Rattle.reh_script.specs.declared.faults.PipeFault.{PipeFault}
use Rattle.reh_script.proofs.ChangeLaws.{state_is}

-- what was added is that line
added_alone : (value : Json) (old new text : List ℕ) → new ≡ old ++ text → IsLineAdded value old new
    → IsLineAdded value [] text
added_alone value old new text is added =
    let rest : List ℕ = added.line ++ codes "\n" in
    let same : old ++ text ≡ old ++ rest = sym is ∙ added.ends in
    record {
      line = added.line;
      ends = sym (drop_at old text (length old) refl) ∙ ap (drop (length old)) same ∙ drop_at old rest (length old) refl;
      reads = added.reads;
    }

-- the object of a line
pub tells_object : {T E : Type 0} (result : Result T E) (names : List (List ℕ)) (b : Kept) (n : ℕ) (line : List ℕ)
    (answer : LineAnswer) (s : Cluster) (command : Option (List ℕ)) (r : List Change) (old new : List ℕ)
    → replay b.book.session.opening b.book.session.done ≡ Some s → IsMadeBy names b line answer r
    → command ≡ command_in names (asked names line)
    → OnOk result (new ≡ old ++ line_text s.names n command s answer r)
    → OnOk result (IsLineAdded (line_json s.names n command s answer r) old new)
    → OnOk result (PrintsLine Called shown_at lines_as_json names b n line answer old new)
tells_object (Err want) names b n line answer s command r old new leads made asks printed reads = printed
tells_object (Ok ok) names b n line answer s command r old new leads made asks printed reads = λ x y q is there answered.
    let now : s ≡ state_in b = sym (state_is b.book.session s leads) in
    let given : command ≡ command_in names (Some q) = asks ∙ ap (command_in names) is in (
      line_text s.names n command s answer r,
      printed,
      (
        r,
        made x y q is there answered,
        (λ i. line_text (now i).names n (given i) (now i) answer r),
        subst (λ (t : Cluster). IsLineAdded (line_json t.names n (command_in names (Some q)) t answer r) []
            (line_text s.names n command s answer r)) now
            (subst (λ (c : Option (List ℕ)). IsLineAdded (line_json s.names n c s answer r) []
            (line_text s.names n command s answer r)) given
            (added_alone (line_json s.names n command s answer r) old new (line_text s.names n command s answer r) printed
            reads)),
      ),
    )

-- what holds where the play ends well holds where it still does after its last object
pub told_well : (holds : Type 0) (text : Option (List ℕ)) (end result : Result (Unit {0}) PipeFault)
    (old new : Option (List ℕ)) → IsTold text end result old new → OnOk end holds → OnOk result holds
told_well holds None end result old new (same, keeps) well =
    subst (λ (r : Result (Unit {0}) PipeFault). OnOk r holds) (sym same) well
told_well holds (Some text) end result old new (inl (same, grown)) well =
    subst (λ (r : Result (Unit {0}) PipeFault). OnOk r holds) (sym same) well
told_well holds (Some text) end result old new (inr (lost, part)) well =
    subst (λ (r : Result (Unit {0}) PipeFault). OnOk r holds) (sym lost) tt
