-- The first line left doesn't say it.
use Rattle.std.proofs.Common.{◌≡◌, ◌∙◌, ◌||◌, Bool, List, ℕ, ap, false, sym}
use Rattle.std.specs.Prelude.{bytes_eq}
use Rattle.reh_lines.specs.Lines.{lines_of}
use Rattle.reh_plan.specs.Ends.{full_line, says_full}
use Rattle.reh_plan.proofs.plans.has_full_line.Goals as goal

pub loop-rest-preserved : goal.loop-rest-preserved
loop-rest-preserved c =
    let line : List ℕ = c.first_line.result.0.now in
    let more : List ℕ = c.first_line.result.1.now in
    let other : bytes_eq full_line line ≡ false =
    ap (λ (said : List ℕ). bytes_eq said line) (sym c.as_bytes.ensures.value) ∙ sym c.eq.ensures ∙ c.if-eq.false in
    sym (ap says_full c.first_line.ensures.lines ∙ ap (λ (t : Bool). t || says_full (lines_of more)) other)
    ∙ c.loop-rest.invariant
