-- The first that has the name, or none.
use Rattle.std.proofs.Common.{◌∙◌, ap, sym}
use Rattle.std.specs.Prelude.{bytes_eq}
use Rattle.reh_cut.proofs.PlaceLaws.{position_here, position_none}
use Rattle.reh_cut.proofs.checks.index_in.Goals as goal

pub returns-then-eq : goal.returns-then-eq
returns-then-eq c =
    sym (position_here (bytes_eq c.args.name.now) c.args.ensemble.now c.loop-index.index c.index-ensemble-index.result
    c.loop-index-test.true c.loop-index.invariant
    (ap (bytes_eq c.args.name.now) (sym c.index-ensemble-index.is ∙ sym c.as_str.ensures) ∙ sym c.eq.ensures ∙ c.if-eq.true))

pub returns : goal.returns
returns c =
    sym (position_none (bytes_eq c.args.name.now) c.args.ensemble.now c.loop-index.index c.loop-index-test.false
    c.loop-index.invariant)
