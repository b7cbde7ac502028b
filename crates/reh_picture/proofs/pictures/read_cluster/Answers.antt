-- What a picture without a fault lists is a well-formed cluster.
use Rattle.std.proofs.Common.{ℕ, ◌≤◌, ◌*◌, ◌∙◌, List, map, length, sym, ap, subst, arith, nat_eq, rules}
use Rattle.std.specs.Prelude.{All}
use Rattle.std.specs.List.{IsDistinct}
use Rattle.std.proofs.lemmas.List.{length-map}
use Rattle.serde_json.specs.View.{view}
use Rattle.reh_types.specs.declared.limits.TheConstants.{ENTRIES_IN_WORD, ENTRY_END}
use Rattle.reh_model.specs.Cluster.{Cluster, Ledger}
use Rattle.reh_model.specs.WellFormed.{IsWellFormed}
use Rattle.reh_fields.specs.declared.fields.Field.TheVariants as field
use Rattle.reh_fields.specs.Members.{list_of}
use Rattle.reh_picture.specs.Ledgers.{ledger_in}
use Rattle.reh_picture.specs.Contents.{Holding, held_in}
use Rattle.reh_picture.specs.Pictures.{names_of, contents_of}
use Rattle.reh_picture.proofs.Sound.{ids_made, IsFaultless-none, IsWellFormed-pictured_cluster}
use Rattle.reh_picture.proofs.Sound.{pictured_words, pictured_ids, ends-shown, cluster_of-listed, parts_of-none, words_of-none}
use Rattle.reh_picture.proofs.pictures.read_cluster.Goals as goal

pub hold-requires-clause-few : goal.hold-requires-clause-few
hold-requires-clause-few c =
    let d = view c.args.picture.now in
    let read = c.in_ok-listing.ensures in
    omega (
      arith,
      ap (λ (ledgers : List Ledger). length ledgers) (c.deref.ensures.value ∙ read.listed.ledgers_are),
      length-map (list_of d field.Ledgers) (ledger_in (names_of d) (contents_of d)),
      (IsFaultless-none d (parts_of-none d read.fault)).ledgers,
    )

pub hold-requires-clause-different : goal.hold-requires-clause-different
hold-requires-clause-different c =
    let d = view c.args.picture.now in
    let read = c.in_ok-listing.ensures in
    subst (λ (ledgers : List Ledger). IsDistinct nat_eq (map (λ g. g.id) ledgers))
    (sym (c.deref.ensures.value ∙ read.listed.ledgers_are))
    (pictured_ids d (IsFaultless-none d (parts_of-none d read.fault)))

pub hold-requires-clause-words : goal.hold-requires-clause-words
hold-requires-clause-words c =
    let d = view c.args.picture.now in
    let read = c.in_ok-listing.ensures in
    subst (λ (ledgers : List Ledger). All (λ g. ENTRIES_IN_WORD * g.words ≤ ENTRY_END) ledgers)
    (sym (c.deref.ensures.value ∙ read.listed.ledgers_are))
    (pictured_words d (IsFaultless-none d (parts_of-none d read.fault)))

pub hold-requires-clause-ends : goal.hold-requires-clause-ends
hold-requires-clause-ends c =
    let d = view c.args.picture.now in
    let read = c.in_ok-listing.ensures in
    ends-shown d _ _ _ (IsFaultless-none d (parts_of-none d read.fault))
    (c.len.ensures.count ∙ ap (λ (names : List (List ℕ)). length names) read.listed.names_are)
    (c.deref.ensures.value ∙ read.listed.ledgers_are) (c.deref-2.ensures.value ∙ read.listed.holdings_are)

pub into_state-requires-clause-cluster : goal.into_state-requires-clause-cluster
into_state-requires-clause-cluster c =
    let d = view c.args.picture.now in
    let read = c.in_ok-listing.ensures in
    let whole =
    cluster_of-listed d _ _ _ _ _ _ _ read.listed
    (c.in-Ok.ensures.contents ∙ ap (λ (holdings : List Holding). held_in holdings) c.deref-2.ensures.value) in
    subst (λ (s : Cluster). IsWellFormed s) (sym whole)
    (IsWellFormed-pictured_cluster d (IsFaultless-none d (parts_of-none d read.fault)) (words_of-none d read.fault))

pub into_state-requires-clause-ids : goal.into_state-requires-clause-ids
into_state-requires-clause-ids c =
    let d = view c.args.picture.now in
    let read = c.in_ok-listing.ensures in
    read.ids
    ∙ sym (ap (λ (ledgers : List Ledger). map (λ g. g.id) ledgers) read.listed.ledgers_are
    ∙ ids_made (names_of d) (contents_of d) (list_of d field.Ledgers))

-- there is no memory for the rows
pub returns-in-Err-clause-fault : goal.returns-in-Err-clause-fault
returns-in-Err-clause-fault c = search (rules, c.from.ensures)

pub returns-in-Ok-clause-state : goal.returns-in-Ok-clause-state
returns-in-Ok-clause-state c =
    let d = view c.args.picture.now in
    let read = c.in_ok-listing.ensures in
    let whole =
    cluster_of-listed d _ _ _ _ _ _ _ read.listed
    (c.in-Ok.ensures.contents ∙ ap (λ (holdings : List Holding). held_in holdings) c.deref-2.ensures.value) in
    c.into_state.ensures ∙ whole
