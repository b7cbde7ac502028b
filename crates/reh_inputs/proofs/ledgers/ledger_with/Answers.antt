-- The ledger is made of what was found of each of its parts.
use Rattle.std.proofs.Common.{◌≡◌, ◌∙◌, ℕ, ◌==◌, List, ap, sym, subst, fold, map, length}
use Rattle.std.proofs.lemmas.List.Folds.{fold-map}
use Rattle.std.proofs.lemmas.Option.{IfSome_then}
use Rattle.std.specs.Borrow.{Bor}
use Rattle.std.specs.List.{filter}
use Rattle.reh_census.specs.Striping.{range}
use Rattle.reh_model.specs.Metadata.{Metadata}
use Rattle.reh_census.specs.Ledgers.{IsLedger, Ledger, ledger_by}
use Rattle.reh_picture.specs.Contents.{Holding}
use Rattle.reh_inputs.specs.Ledgers.{content_by, contents_of, end_after, end_told, fragment_of, ledger_of, reading_in, rest_of, state_of}
use Rattle.reh_inputs.proofs.ByLedgerLaws.{fold_filter, map_then}
use Rattle.reh_inputs.proofs.FaultLaws.{none_unless, not_some}
use Rattle.reh_inputs.proofs.ledgers.ledger_with.Goals as goal

-- the end of what a holding says, after those before it
abbrev end_of : ℕ → Holding → ℕ
end_of end h = fold end_after end h.ranges

pub returns : goal.returns
returns c =
    let listed = c.args.listed.now in
    let numbers = c.args.numbers.now in
    let held = c.args.held.now in
    let Own : List Holding → Type 0 = λ holdings.
    map (λ (h : Bor Holding). h.now) held ≡ filter (λ (h : Holding). h.ledger == listed.id) holdings in
    let state = c.state.ensures ∙ ap (λ (m : Metadata). m.state) c.metadata-metadata.ensures in
    let reading : c.reading_in-reading.result ≡ reading_in listed.metadata.state c.args.reading =
    c.reading_in-reading.ensures ∙ ap (λ state. reading_in state c.args.reading) state in
    let told : (holdings : List Holding) → Own holdings
    → c.end_told-end.result ≡ end_told listed.id holdings =
    λ holdings are.
    c.end_told-end.ensures ∙ sym (fold-map end_of (λ (h : Bor Holding). h.now) 0 held)
    ∙ ap (fold end_of 0) are
    ∙ sym (fold_filter (λ (h : Holding). h.ledger == listed.id) end_of 0 holdings) in
    let contents : (holdings : List Holding) → Own holdings
    → c.in_ok-contents.contents.items
    ≡ contents_of numbers (reading_in listed.metadata.state c.args.reading) listed.id holdings =
    λ holdings are.
    c.in_ok-contents.ensures
    ∙ sym (map_then (content_by numbers c.reading_in-reading.result) (λ (h : Bor Holding). h.now) held)
    ∙ (λ i. map (content_by numbers (reading i)) (are i)) in
    let same : (holdings : List Holding) → Own holdings
    → ledger_by c.state_of-state.result c.size-size.result c.write_quorum-write_quorum.result
    c.ack_quorum-ack_quorum.result c.in_ok-fragments.fragments.items c.in_ok-contents.contents.items
    c.rest_of-rest.result
    ≡ ledger_of numbers c.args.reading holdings listed.id listed.metadata =
    λ holdings are i.
    ledger_by
    ((c.state_of-state.ensures ∙ ap state_of (c.state-2.ensures ∙ ap (λ (m : Metadata). m.state) c.metadata-metadata.ensures)) i)
    ((c.size-size.ensures.size ∙ ap (λ (m : Metadata). m.size) c.metadata-metadata.ensures) i)
    ((c.write_quorum-write_quorum.ensures ∙ ap (λ (m : Metadata). m.write_quorum) c.metadata-metadata.ensures) i)
    ((c.ack_quorum-ack_quorum.ensures ∙ ap (λ (m : Metadata). m.ack_quorum) c.metadata-metadata.ensures) i)
    ((c.in_ok-fragments.ensures
    ∙ (λ j. map
    (fragment_of numbers (told holdings are j) (c.metadata-metadata.ensures j))
    (range 0 (length (c.metadata-metadata.ensures j).fragments)))) i)
    (contents holdings are i)
    ((c.rest_of-rest.ensures ∙ ap rest_of reading) i) in
    record {
      made = IfSome_then c.try_new.result c.try_new.ensures.made (λ ledger is holdings are. is ∙ same holdings are);
      unfit =
          none_unless c.try_new.result
          ((holdings : List Holding) → Own holdings
          → IsLedger (ledger_of numbers c.args.reading holdings listed.id listed.metadata) → ⊥)
          (λ none holdings are is.
          not_some c.try_new.result none
          (c.try_new.ensures.fits.1 (subst (λ (g : Ledger). IsLedger g) (sym (same holdings are)) is)));
    }
