-- Lists of changes are compared one by one, and each by its parts.
use Rattle.std.proofs.Common.{◌∙◌, sym}
use Rattle.std.proofs.lemmas.Slice.Eq.{slice_eq-Decides}
use Rattle.reh_types.specs.Same.{told_by}
use Rattle.reh_types.specs.contracts.changes.ChangePartialEq.TheImpl.{no_dict}
use Rattle.reh_types.proofs.ChangeLaws.{changes_tell}
use Rattle.reh_meta.specs.Same.{tells_metadata}
use Rattle.reh_meta.specs.contracts.ledgers.LedgerMeta.{the_row}
use Rattle.reh_meta.specs.contracts.ledgers.LedgerMetaPartialEq.TheImpl.{ghosts}
use Rattle.reh_cluster.proofs.changes.Changes.same.Goals as goal

pub returns : goal.returns
returns c =
    told_by (slice_eq-Decides (changes_tell the_row ghosts no_dict tells_metadata) _ _ c.eq.result c.eq.ensures)
    (λ same. sym c.as_slice.ensures.list ∙ same ∙ c.as_slice-2.ensures.list)
    (λ same. c.as_slice.ensures.list ∙ same ∙ sym c.as_slice-2.ensures.list)
