-- What both show, one after the other; or more rests on an assumption than a census counts.
use Rattle.std.proofs.Common.{rules, arith}
use Rattle.reh_inputs.proofs.PartLaws.{IsPart-append, too_many_assumed}
use Rattle.reh_inputs.proofs.parts.joined.Goals as goal

pub returns : goal.returns
returns c holders names strict first before behind one other =
    IsPart-append holders names before behind strict c.args.low c.args.high _ one other c.in_ok-append.ensures.items
    c.in_ok-append_counts.ensures.entries c.in_ok-append_counts.ensures.tails c.in_ok-append_counts.ensures.ensembles
    (search rules)

pub returns-in_default : goal.returns-in_default
returns-in_default c holders names strict first before behind one other =
    too_many_assumed holders names before behind strict c.args.low c.args.high one other (omega arith)
