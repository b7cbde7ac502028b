-- It is said by the verdict.
use Rattle.std.proofs.Common.{◌∙◌, ap, map, option_copied, string_bytes, List, Option, ℕ}
use Rattle.reh_stop.specs.Stops.{text_by}
use Rattle.reh_stop.proofs.VerdictLaws.{said-by}
use Rattle.reh_stop.proofs.stops.say_stop.Goals as goal

pub returns : goal.returns
returns c = λ g ids ledgers same judged says.
    let asked = c.args.asked.now in
    let verdict = c.args.verdict.now in
    let taken : Option (List ℕ) = option_copied c.args.taken in
    let further = map string_bytes c.args.further.now in
    said-by g asked verdict c.args.against.now taken further _ ids ledgers judged says
    (c.in_ok-text.ensures
    ∙ ap (λ (names : List (List ℕ)). text_by asked verdict.facts names c.args.against.now taken further) same)
    c.status_of.ensures
