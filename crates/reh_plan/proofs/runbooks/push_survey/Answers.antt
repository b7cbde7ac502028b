-- Two lines more.
use Rattle.std.proofs.Common.{◌≡◌, ◌∙◌, List, ℕ, [], ◌∷◌, ◌++◌, ap, sym, append_assoc, append-nil}
use Rattle.std.specs.Prelude.{codes}
use Rattle.std.specs.Fmt.{decimal}
use Rattle.reh_commands.specs.Texts.{text_of}
use Rattle.reh_plan.proofs.runbooks.push_survey.Goals as goal

two_more : (old between new first second bytes : List ℕ) → bytes ≡ first → between ≡ old ++ (bytes ++ 10 ∷ [])
    → new ≡ between ++ (second ++ 10 ∷ []) → new ≡ old ++ text_of (first ∷ second ∷ [])
two_more old between new first second bytes is grown again =
    again
    ∙ ap (λ (t : List ℕ). t ++ (second ++ 10 ∷ [])) (grown ∙ ap (λ (t : List ℕ). old ++ (t ++ 10 ∷ [])) is)
    ∙ append_assoc old (first ++ 10 ∷ []) (second ++ 10 ∷ [])
    ∙ ap (λ (t : List ℕ). old ++ ((first ++ 10 ∷ []) ++ t)) (sym (append-nil (second ++ 10 ∷ [])))

pub returns : goal.returns
returns c =
    two_more c.args.text.now.items c.push_line.new.text.items c.push_line-2.new.text.items
    (codes "# expect lost " ++ decimal c.args.lost) (codes "survey") c.as_bytes.result.now
    (c.as_bytes.ensures.value ∙ c.in_ok-expected.ensures.ok) c.in_ok-push_line.ensures.ok c.in_ok-push_line-2.ensures.ok
