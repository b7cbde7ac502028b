-- One line more.
use Rattle.std.proofs.Common.{◌≡◌, ◌∙◌, List, ℕ, [], ◌∷◌, ◌++◌, ap, sym, append_assoc}
use Rattle.std.proofs.lemmas.Grind.{flat_map-append}
use Rattle.reh_commands.specs.Texts.{text_of}
use Rattle.reh_lines.specs.Lines.{lines_of}
use Rattle.reh_plan.specs.Runbooks.{expected_lines, with_expectations}
use Rattle.reh_plan.proofs.runbooks.push_expectations.Goals as goal

one_more : (names : List (List ℕ)) (before after rest more line whole : List ℕ)
    → lines_of rest ≡ line ∷ lines_of more → after ≡ before ++ text_of (expected_lines names line)
    → before ++ text_of (with_expectations names (lines_of rest)) ≡ whole
    → after ++ text_of (with_expectations names (lines_of more)) ≡ whole
one_more names before after rest more line whole parts grown is =
    ap (λ (t : List ℕ). t ++ text_of (with_expectations names (lines_of more))) grown
    ∙ append_assoc before (text_of (expected_lines names line)) (text_of (with_expectations names (lines_of more)))
    ∙ ap (λ (t : List ℕ). before ++ t)
    (sym (flat_map-append (λ (l : List ℕ). l ++ 10 ∷ []) (expected_lines names line) (with_expectations names (lines_of more))))
    ∙ ap (λ (ls : List (List ℕ)). before ++ text_of (with_expectations names ls)) (sym parts)
    ∙ is

pub loop-rest-preserved : goal.loop-rest-preserved
loop-rest-preserved c =
    one_more c.args.names.now c.loop-rest.text.items c.push_expected.new.text.items c.loop-rest.rest.now c.first_line.result.1.now
    c.first_line.result.0.now _
    c.first_line.ensures.lines c.in_ok-push_expected.ensures c.loop-rest.invariant
