-- One name more is printable.
use Rattle.std.proofs.Common.{◌≤◌, ◌<◌, ◌∙◌, ap, refl, ℕ, List, String, Global, subst, string_bytes, take_all, arith}
use Rattle.std.specs.Prelude.{All}
use Rattle.std.proofs.lemmas.List.Elements.{All-more}
use Rattle.reh_waves.specs.Json.{ArePrintable}
use Rattle.reh_waves.proofs.printable.are_printable.Goals as goal

pub loop-name-preserved : goal.loop-name-preserved
loop-name-preserved c =
    All-more (λ name. All (λ b. (32 ≤ b) × (b < 127)) (string_bytes name)) c.args.names.now c.loop-name.name-index
    c.name-item.result c.loop-name-test.true c.loop-name.invariant
    (subst (λ (bytes : List ℕ). All (λ b. (32 ≤ b) × (b < 127)) bytes)
    (c.as_str.ensures.value ∙ ap (λ (name : String Global). string_bytes name) c.name-item.is)
    (c.if-not-is_printable.ensures.yes refl))

pub returns-clause-yes : goal.returns-clause-yes
returns-clause-yes c = λ _.
    subst (λ (names : List (String Global)). ArePrintable names)
    (take_all c.loop-name.name-index c.args.names.now (omega (arith, c.loop-name-test.false))) c.loop-name.invariant
