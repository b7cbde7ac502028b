-- The bookie's row is written, or has no entry and was not told.
use Rattle.std.proofs.Common.{◌≡◌, ◌∙◌, ap, sym}
use Rattle.std.specs.Prelude.{false}
use Rattle.reh_picture_out.specs.Marks.{is_told, lacks_content}
use Rattle.reh_picture_out.specs.Ranges.{is_in}
use Rattle.reh_picture_out.specs.Written.{name_at, content_data}
use Rattle.reh_picture_out.proofs.HoldingLaws.{Adds-none, Adds-value, lacks-told}
use Rattle.reh_picture_out.proofs.RangeLaws.{none-in}
use Rattle.reh_picture_out.proofs.contents.push_content.Goals as goal

pub returns-then-lacks_content : goal.returns-then-lacks_content
returns-then-lacks_content c =
    let began = c.args.told.now in
    let bookie = c.args.bookie in
    let ranges = c.as_slice-ranges.result.now in
    let untold : is_told began bookie c.args.ledger.now.id ≡ false =
    sym (ap (is_told began bookie) c.id.ensures) ∙ lacks-told began bookie _ ranges c.if-lacks_content.ensures in
    Adds-none c.args.state.now.names c.args.state.now.parts.held began bookie c.args.ledger.now.id untold
    (λ e. none-in ranges _ c.if-lacks_content.ensures e ∙ ap (λ rs. is_in rs e) c.as_slice-ranges.ensures.value
    ∙ c.in_ok-held.ensures e) _

pub returns : goal.returns
returns c =
    let names = c.args.state.now.names in
    let bookie = c.args.bookie in
    let ranges = c.as_slice-ranges.result.now in
    rw c.in_ok-push.ensures.items
    (Adds-value names c.args.state.now.parts.held c.args.told.now c.args.assumed bookie c.args.ledger.now.id ranges
    c.names-names.ensures.well_formed.names.different c.requires.bookie c.requires.assumed
    (sym (ap (λ l. lacks_content c.args.told.now bookie l ranges) c.id.ensures) ∙ sym c.if-lacks_content.ensures)
    (λ e. ap (λ rs. is_in rs e) c.as_slice-ranges.ensures.value ∙ c.in_ok-held.ensures e)
    c.args.contents.now.items _
    (c.in_ok-content.ensures
    ∙ (λ i. content_data c.args.assumed
    ((c.name_of-name.ensures ∙ ap (λ ns. name_at ns bookie) c.names-names.ensures.names) i) (c.id-2.ensures i) ranges)))
