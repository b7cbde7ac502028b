-- The number, and then the kinds.
use Rattle.std.proofs.Common.{◌∙◌, ◌++◌, append_assoc}
use Rattle.std.specs.Prelude.{codes, string_bytes}
use Rattle.std.specs.Fmt.{decimal}
use Rattle.reh_plan.specs.Summaries.{kinds_text}
use Rattle.reh_plan.proofs.summaries.push_left.Goals as goal

pub returns : goal.returns
returns c =
    let kinds = c.deref.ensures ∙ c.in_ok-kinds.ensures in
    c.in_ok-push_str.ensures.bytes
    ∙ (λ i. c.in_ok-write.ensures.bytes i ++ kinds i)
    ∙ append_assoc (string_bytes c.args.text.now) (codes "ledgers left " ++ (decimal c.args.count ++ codes "\n"))
    (kinds_text c.args.left.now)
