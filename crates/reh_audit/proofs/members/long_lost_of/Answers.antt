-- The long-lost members of the metadata's fragments are those of the ledger.
use Rattle.std.proofs.Common.{◌∙◌, ap, List}
use Rattle.std.specs.List.{filter, flat_map}
use Rattle.reh_types.specs.Sets.{numbers, from_list}
use Rattle.reh_model.specs.Metadata.{Fragment, Metadata}
use Rattle.reh_audit.specs.declared.members.Loss.TheVariants.{Long}
use Rattle.reh_audit.specs.Members.{is_lost}
use Rattle.reh_audit.proofs.members.long_lost_of.Goals as goal

pub returns : goal.returns
returns c =
    c.lost_from.ensures
    ∙ ap (λ (fs : List Fragment). from_list {o = numbers} (filter (is_lost Long c.args.state.now) (flat_map (λ fragment. fragment.ensemble) fs)))
    (c.fragments.ensures.fragments ∙ ap (λ (m : Metadata). m.fragments) c.metadata.ensures)
