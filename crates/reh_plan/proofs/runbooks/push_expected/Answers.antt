-- The line, and before a command its expectation.
use Rattle.std.proofs.Common.{◌≡◌, ◌∙◌, List, ℕ, Bool, true, false, cond, [], ◌∷◌, ◌++◌, ap, sym, is_some, append_assoc, append-nil}
use Rattle.std.specs.Prelude.{codes}
use Rattle.reh_commands.specs.Answers.{asked}
use Rattle.reh_commands.specs.Texts.{text_of}
use Rattle.reh_plan.proofs.runbooks.push_expected.Goals as goal
use Rattle.reh_plan.proofs.runbooks.push_expected.Goals.{then-has_answer+in_ok-push_line, else-has_answer}

-- the expectation before a line, if it has an answer
abbrev before : Bool → List ℕ
before has = cond has (codes "# expect ok" ++ 10 ∷ []) []

line_more : (has : Bool) (old line : List ℕ)
    → (old ++ before has) ++ (line ++ 10 ∷ []) ≡ old ++ text_of (cond has (codes "# expect ok" ∷ line ∷ []) (line ∷ []))
line_more true old line =
    append_assoc old (codes "# expect ok" ++ 10 ∷ []) (line ++ 10 ∷ [])
    ∙ ap (λ (t : List ℕ). old ++ ((codes "# expect ok" ++ 10 ∷ []) ++ t)) (sym (append-nil (line ++ 10 ∷ [])))
line_more false old line =
    append_assoc old [] (line ++ 10 ∷ []) ∙ ap (λ (t : List ℕ). old ++ t) (sym (append-nil (line ++ 10 ∷ [])))

pub returns : goal.returns
returns c =
    let has : Bool = is_some (asked c.args.names.now c.args.line.now) in
    let old : List ℕ = c.args.text.now.items in
    let expected : c.if-has_answer.text.items ≡ old ++ before has =
    elim c.if-has_answer.branch [
      | then-has_answer+in_ok-push_line w ↦
          ap (λ x. x.items) w.text-is ∙ w.in_ok-push_line.ensures.ok
          ∙ ap (λ b. old ++ before b) (sym (sym c.has_answer.ensures ∙ w.if-has_answer.true))
      | else-has_answer w ↦
          ap (λ x. x.items) w.text-is ∙ sym (append-nil old)
          ∙ ap (λ b. old ++ before b) (sym (sym c.has_answer.ensures ∙ w.if-has_answer.false))
    ] in
    c.in_ok-push_line-2.ensures.ok
    ∙ ap (λ (t : List ℕ). t ++ (c.args.line.now ++ 10 ∷ [])) expected
    ∙ line_more has old c.args.line.now
