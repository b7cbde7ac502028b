use Rattle.std.proofs.Common.{◌≡◌, ◌∙◌, ap, ℕ, List, ◌++◌, cond, Option, None, Some, Result, Ok, Err, append_assoc}
use Rattle.std.specs.Prelude.{OnOk, codes, is_ok}
use Rattle.reh_model.specs.Cluster.{Cluster}
use Rattle.reh_commands.specs.Answers.{report_answer, shown}
use Rattle.reh_commands.specs.Texts.{report, text_of}
use Rattle.reh_play.proofs.answers.push_state.Goals as goal

-- the report of the state that is shown
report_shown : {T E : Type 0} (result : Result T E) (scene : Option Cluster) (s : Cluster) (text mid new : List ℕ)
    → Some s ≡ scene → mid ≡ text ++ codes "report\n" → OnOk result (new ≡ mid ++ text_of (report s))
    → OnOk result (new ≡ text ++ shown scene report_answer)
report_shown (Ok done) scene s text mid new is first more =
    more ∙ ap (λ v. v ++ text_of (report s)) first ∙ append_assoc text (codes "report\n") (text_of (report s))
    ∙ ap (λ o. text ++ shown o report_answer) is
report_shown (Err want) scene s text mid new is first more = more

-- where no state is shown
none_shown : {T E : Type 0} (result : Result T E) (scene : Option Cluster) (text new : List ℕ) → None ≡ scene
    → new ≡ cond (is_ok result) (text ++ codes "not in a drill\n") text
    → OnOk result (new ≡ text ++ shown scene report_answer)
none_shown (Ok done) scene text new is more = more ∙ ap (λ o. text ++ shown o report_answer) is
none_shown (Err want) scene text new is more = tt

pub returns-in_ok-push_str-in-Some : goal.returns-in_ok-push_str-in-Some
returns-in_ok-push_str-in-Some g c =
    report_shown c.push_report.result _ c.in-Some.state.now _ _ _ c.in-Some.ensures
    c.in_ok-push_str-in-Some.ensures.bytes c.push_report.ensures

pub returns-in-None : goal.returns-in-None
returns-in-None g c =
    none_shown c.push_str-in-None.result _ _ _ c.in-None.ensures c.push_str-in-None.ensures.bytes
