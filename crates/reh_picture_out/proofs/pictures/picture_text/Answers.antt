-- The text is read as the value, which shows what is kept.
use Rattle.std.proofs.Common.{◌≡◌, ◌∙◌, ap, sym, arith}
use Rattle.std.specs.Prelude.{None, string_bytes}
use Rattle.serde_json.specs.View.{view}
use Rattle.reh_picture.specs.Listings.{located_listing}
use Rattle.reh_picture_out.proofs.PictureLaws.{picture-depth, text-back, marks-kept}
use Rattle.reh_picture_out.proofs.pictures.picture_text.Goals as goal

pub returns : goal.returns
returns c =
    let state = c.args.state.now in
    let began = c.args.began.now in
    let marks = began.marks.items in
    let told = began.listing.holdings.items in
    let d = view c.in_ok-value.value in
    let text = string_bytes c.in_ok-text.text in
    let picture = c.in_ok-value.ensures in
    let deep = picture-depth state marks told d picture in
    let reads = c.in_ok-text.ensures.reads_back (omega (arith, deep)) in
    let none : located_listing text ≡ None = ap located_listing (sym c.as_bytes.ensures.value) ∙ c.in_ok-check_listed.ensures in
    record {
      state = text-back state marks told d text c.assert_well_formed.ensures picture reads none;
      marks = marks-kept state began d text picture reads none;
      listed = none;
    }
