-- The words that turn are the only differences.
use Rattle.std.proofs.Common.{ℕ, List, ◌<◌, ◌*◌, ◌∙◌, ◌++◌, All, ap, sym, subst}
use Rattle.reh_types.specs.Sets.{union}
use Rattle.reh_types.specs.declared.names.Aim.{Aim}
use Rattle.reh_held.specs.Turns.{IsTurning}
use Rattle.reh_model.specs.Contents.{copies_of}
use Rattle.reh_model.specs.Cluster.{Cluster, words_among}
use Rattle.reh_model.specs.Places.{Change}
use Rattle.reh_step.specs.Records.{word_changes}
use Rattle.reh_step.proofs.CopyLaws.{copied_within, copy_listed}
use Rattle.reh_step.proofs.records.copy_record.Goals as goal

pub delta_of-requires-clause-entries : goal.delta_of-requires-clause-entries
delta_of-requires-clause-entries c =
    let s : Cluster = c.args.state.now in
    let aim : Aim = c.args.aim.now in
    subst (λ (es : List ℕ). All (λ e. e < 64 * words_among s.parts.ledgers aim.ledger) es)
    (sym c.requires.entries)
    (copied_within s aim.worker aim.ledger aim.fragment aim.index c.args.version c.assert_well_formed.ensures
    c.requires.accepted)

pub of-requires : goal.of-requires
of-requires c =
    let s : Cluster = c.args.state.now in
    let aim : Aim = c.args.aim.now in
    let turning : IsTurning (words_among s.parts.ledgers aim.ledger) aim.worker aim.ledger s.parts.held
    (union s.parts.held (copies_of aim.worker aim.ledger c.args.entries)) c.deref.result.now = rw
    c.deref.ensures.value c.in_ok-turns.ensures in
    (copy_listed s aim.worker aim.ledger aim.fragment aim.index c.args.version c.args.entries c.deref.result.now
    c.push_words.new.list.items c.assert_well_formed.ensures c.requires.accepted
    c.requires.entries turning
    (c.in_ok-push_words.ensures
    ∙ ap (λ (cs : List Change). cs ++ word_changes aim.worker aim.ledger c.deref.result.now)
    c.in_ok-list.ensures.items)).rising

pub returns : goal.returns
returns c =
    let s : Cluster = c.args.state.now in
    let aim : Aim = c.args.aim.now in
    let turning : IsTurning (words_among s.parts.ledgers aim.ledger) aim.worker aim.ledger s.parts.held
    (union s.parts.held (copies_of aim.worker aim.ledger c.args.entries)) c.deref.result.now = rw
    c.deref.ensures.value c.in_ok-turns.ensures in
    rw c.of.ensures
    (copy_listed s aim.worker aim.ledger aim.fragment aim.index c.args.version c.args.entries c.deref.result.now
    c.push_words.new.list.items c.assert_well_formed.ensures c.requires.accepted
    c.requires.entries turning
    (c.in_ok-push_words.ensures
    ∙ ap (λ (cs : List Change). cs ++ word_changes aim.worker aim.ledger c.deref.result.now)
    c.in_ok-list.ensures.items))
