-- Cloned fragments with one member replaced are the old metadata's with that member, and keep its rules.
use Rattle.std.proofs.Common.{◌≡◌, ◌∙◌, List, get_or, sym, ap, subst}
use Rattle.std.specs.Prelude.{slice_set}
use Rattle.std.specs.List.{each_same}
use Rattle.reh_model.specs.Metadata.{Metadata, Fragment, IsMetadata, with_member_at, next_version}
use Rattle.reh_model.proofs.MemberLaws.{IsMetadata-member, with_member_at-found}
use Rattle.reh_meta.specs.LedgerMeta.{changed_metadata}
use Rattle.reh_meta.proofs.ledgers.LedgerMeta.with_member.Goals as goal
use Rattle.reh_meta.proofs.ledgers.LedgerMeta.with_member.Goals.{After-replace}

made : (c : After-replace)
    → changed_metadata c.args.self.now c.self.inside.state
    (slice_set c.in_ok-fragments.fragments.items c.args.fragment c.replace.new.self)
    ≡ next_version (with_member_at c.args.self.now c.args.fragment c.args.index c.args.bookie)
made c =
    let m = c.args.self.now in
    let old = c.index_mut.result.now in
    let cloned : c.in_ok-fragments.fragments.items ≡ m.fragments =
    each_same _ _ c.in_ok-fragments.ensures.cases.0 ∙ ap (λ (n : Metadata). n.fragments) c.self.view_is in
    let at : old ≡ get_or m.fragments c.args.fragment old =
    c.index_mut.ensures.value ∙ ap (λ (fragments : List Fragment). get_or fragments c.args.fragment old) cloned in
    (λ i. changed_metadata m (c.self.view_is i).state (slice_set (cloned i) c.args.fragment (c.replace.ensures i)))
    ∙ sym (ap next_version
    (with_member_at-found m c.args.fragment c.args.index c.args.bookie old c.requires.fragment at))

pub changed-requires : goal.changed-requires
changed-requires c =
    subst IsMetadata (sym (made (goal.at.changed-requires c).After-replace))
    (IsMetadata-member c.args.self.now c.args.fragment c.args.index c.args.bookie c.requires.fragment c.requires.new
    c.requires.version (subst IsMetadata c.self.view_is c.self.invariant))

pub returns : goal.returns
returns c = c.changed.ensures ∙ made (goal.at.returns c).After-replace
