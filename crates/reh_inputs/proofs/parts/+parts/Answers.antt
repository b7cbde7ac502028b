-- What both halves show is what all inputs show.
use Rattle.std.proofs.Common.{◌∙◌, ◌++◌, List, MatchResult, ap, length, length-take, subst, arith}
use Rattle.std.proofs.lemmas.List.{take-append-drop}
use Rattle.reh_census.specs.Bookies.{bookies_of, holders}
use Rattle.reh_inputs.specs.declared.inputs.Input.{Input}
use Rattle.reh_inputs.specs.Parts.{IsPart}
use Rattle.reh_inputs.specs.Uncounted.{IsPartFault}
use Rattle.reh_inputs.proofs.parts.+parts.Goals as goal

pub returns : goal.returns
returns g t c =
    let all = holders (bookies_of c.args.bookies.now) in
    let names = c.args.names.now in
    let strict = c.args.strict in
    let first = c.args.first in
    let cut = c.split_at.ensures in
    subst (λ (inputs : List Input).
    MatchResult c.both.result (IsPart all names strict inputs) (IsPartFault all names strict first inputs))
    ((λ i. cut.front i ++ cut.back i) ∙ take-append-drop _ c.args.inputs.now)
    (c.both.ensures all names strict first _ c.split_at.result.0.now c.split_at.result.1.now
    (omega (arith, ap (λ (xs : List Input). length xs) cut.front, length-take {A = Input}))
    c.join-low.ensures.first c.join-low.ensures.second)
