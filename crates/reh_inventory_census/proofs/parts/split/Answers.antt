-- The fragments that stop, and the last one.
use Rattle.std.proofs.Common.{◌∙◌, ◌∷◌, [], sym, refl}
use Rattle.reh_inventory_census.proofs.PartsLaws.{has-last, parts-are}
use Rattle.reh_inventory_census.proofs.parts.split.Goals as goal

pub returns-in_err-last : goal.returns-in_err-last
returns-in_err-last c =
    absurd (has-last c.args.line.now (sym c.has_parts.ensures ∙ c.if-not-has_parts.false) c.in_err-last.ensures.last)

pub returns : goal.returns
returns c =
    parts-are c.args.line.now c.in_ok-last.last c.pop.new.self (c.in_ok-last.last ∷ [])
    (sym c.has_parts.ensures ∙ c.if-not-has_parts.false) c.in_ok-last.ensures.last c.pop.ensures.rest refl
