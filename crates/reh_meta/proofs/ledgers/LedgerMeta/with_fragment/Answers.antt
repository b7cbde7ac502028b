-- Cloned fragments and the one that succeeds the last are the old metadata's with that fragment, and keep its rules.
use Rattle.std.proofs.Common.{◌≡◌, ◌∙◌, List, [], ◌∷◌, ◌++◌, ◌-◌, length, get_or, sym, ap, subst}
use Rattle.std.specs.List.{each_same}
use Rattle.reh_model.specs.Metadata.{Metadata, Fragment, IsMetadata, last_fragment, with_member, with_fragment_at}
use Rattle.reh_model.specs.Metadata.{next_version}
use Rattle.reh_model.proofs.FragmentLaws.{IsMetadata-added, last_fragment-is}
use Rattle.reh_meta.specs.LedgerMeta.{changed_metadata}
use Rattle.reh_meta.proofs.ledgers.LedgerMeta.with_fragment.Goals as goal
use Rattle.reh_meta.proofs.ledgers.LedgerMeta.with_fragment.Goals.{In_ok-push}

well_formed : (c : In_ok-push) → IsMetadata c.args.self.now
well_formed c = subst IsMetadata c.self.view_is c.self.invariant

last : (c : In_ok-push) → c.index-last.result.now ≡ last_fragment c.args.self.now
last c =
    let m = c.args.self.now in
    let x = c.index-last.result.now in
    let size : c.len.result ≡ length m.fragments =
    c.len.ensures ∙ c.self.inside.fragments.ok.0 ∙ ap (λ (n : Metadata). length n.fragments) c.self.view_is in
    c.index-last.ensures ∙ (λ i. get_or (c.self.view_is i).fragments (size i - 1) x)
    ∙ sym (last_fragment-is m x (well_formed c))

copied : (c : In_ok-push) → c.extend_with_clones.new.self.items ≡ c.args.self.now.fragments
copied c =
    let clones = c.in_ok-extend_with_clones.ensures.items in
    clones.1 ∙ ap (λ (none : List Fragment). none ++ clones.0) c.in_ok-fragments.ensures.items ∙ each_same _ _ clones.2
    ∙ c.deref.ensures.value ∙ ap (λ (n : Metadata). n.fragments) c.self.view_is

made : (c : In_ok-push)
    → changed_metadata c.args.self.now c.self.inside.state c.push.new.self.items
    ≡ next_version (with_fragment_at c.args.self.now c.args.first c.args.index c.args.bookie)
made c =
    let added : c.in_ok-successor.field-0
    ≡ record (with_member (last_fragment c.args.self.now) c.args.index c.args.bookie) { first = c.args.first } =
    c.in_ok-successor.ensures
    ∙ ap (λ (x : Fragment). record (with_member x c.args.index c.args.bookie) { first = c.args.first }) (last c) in
    let fragments : c.push.new.self.items
    ≡ (with_fragment_at c.args.self.now c.args.first c.args.index c.args.bookie).fragments =
    c.in_ok-push.ensures.items ∙ (λ i. copied c i ++ added i ∷ []) in
    λ i. changed_metadata c.args.self.now (c.self.view_is i).state (fragments i)

pub changed-requires : goal.changed-requires
changed-requires c =
    subst IsMetadata (sym (made (goal.at.changed-requires c).In_ok-push))
    (IsMetadata-added c.args.self.now c.args.first c.args.index c.args.bookie c.requires.unended c.requires.above
    c.requires.first c.requires.room c.requires.new c.requires.version
    (well_formed (goal.at.changed-requires c).In_ok-push))

pub returns : goal.returns
returns c = c.changed.ensures ∙ made (goal.at.returns c).In_ok-push
