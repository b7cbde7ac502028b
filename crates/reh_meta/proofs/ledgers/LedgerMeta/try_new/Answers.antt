-- Parts that passed all four tests, with copied fragments, keep the limits and the rules of metadata.
use Rattle.std.proofs.Common.{◌≡◌, List, sym, subst, rules}
use Rattle.reh_model.specs.Metadata.{Fragment, IsMetadata}
use Rattle.reh_model.proofs.MetadataLaws.{KeepsRules, IsMetadata-from_rules}
use Rattle.reh_meta.specs.Faults.{metadata_of}
use Rattle.reh_meta.proofs.ledgers.LedgerMeta.try_new.Goals as goal

pub invariant_of-result : goal.invariant_of-result
invariant_of-result c =
    let copied : c.in_ok-from_clones.field-0.items ≡ c.args.fragments.now =
    c.in_ok-from_clones.ensures.items_if_clones_equal (λ x y same. same) in
    let m = metadata_of c.args.sizes c.args.state c.args.version c.args.fragments.now in
    let rules : KeepsRules m =
    record { quorums = search rules; fragments = search rules; ensembles = search rules; end = search rules } in
    let P : List Fragment → Type 0 =
    λ fragments. IsMetadata (metadata_of c.args.sizes c.args.state c.args.version fragments) in
    subst P (sym copied)
    (IsMetadata-from_rules m rules c.requires.version c.requires.end c.requires.count c.requires.firsts)
