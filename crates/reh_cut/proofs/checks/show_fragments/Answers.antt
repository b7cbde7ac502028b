-- One that fails is enough.
use Rattle.std.proofs.Common.{◌∙◌, ap, arith, length, sym}
use Rattle.std.specs.Prelude.{option_copied}
use Rattle.reh_cut.specs.Cuts.{shows_fragment}
use Rattle.reh_cut.proofs.RangeLaws.{fails_at}
use Rattle.reh_cut.proofs.checks.show_fragments.Goals as goal

pub returns-then-not-shows_fragment : goal.returns-then-not-shows_fragment
returns-then-not-shows_fragment c =
    sym (fails_at (shows_fragment c.args.rules c.args.line.now c.args.name.now (option_copied c.args.holding))
    (length c.args.line.now.fragments) c.loop-fragment.fragment
    (omega (arith, c.loop-fragment-test.true, ap length c.as_slice-fragment-end.ensures))
    (sym c.shows_fragment.ensures ∙ c.if-not-shows_fragment.true))
