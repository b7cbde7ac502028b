-- No entry that is held is past the last one that there can be.
use Rattle.std.proofs.Common.{◌≡◌, ◌∙◌, ◌<◌, sym, arith, Some}
use Rattle.reh_types.specs.declared.limits.TheConstants.{ENTRY_END}
use Rattle.reh_model.specs.Contents.{greatest_held}
use Rattle.reh_model.specs.Cluster.{Cluster}
use Rattle.reh_model.proofs.ContentsLaws.{greatest_held-held}
use Rattle.reh_model.proofs.WellFormedLaws.{held_below}
use Rattle.reh_scan.proofs.writers.next_entry.Goals as goal

pub overflow_add-greatest : goal.overflow_add-greatest
overflow_add-greatest c =
    let s : Cluster = c.args.state.now in
    let is : greatest_held s.parts.held c.id.result ≡ Some c.in-Some.greatest = sym c.greatest.ensures ∙ c.in-Some.is in
    let below : c.in-Some.greatest < ENTRY_END =
    held_below s c.id.result c.in-Some.greatest c.assert_well_formed.ensures
    (greatest_held-held s.parts.held c.id.result c.in-Some.greatest is) in
    omega (arith, below)
