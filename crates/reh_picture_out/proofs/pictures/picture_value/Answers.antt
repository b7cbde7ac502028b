-- The value of all parts.
use Rattle.std.proofs.Common.{◌∙◌, ap, map, subst}
use Rattle.serde_json.specs.View.{view}
use Rattle.reh_picture_out.specs.Written.{bookies_data, ledgers_data, written_data, AreContents}
use Rattle.reh_picture_out.proofs.pictures.picture_value.Goals as goal

pub returns : goal.returns
returns c =
    let contents = map view c.in_ok-contents.contents.items in record {
      contents = contents;
      data_is =
          c.in_ok-value.ensures
          ∙ (λ i. written_data (c.delay.ensures.delay i) (c.grace.ensures i) ((c.in_ok-bookies.ensures ∙ ap (bookies_data c.args.state.now) c.as_slice-marks.ensures.value) i)
          ((c.in_ok-ledgers.ensures
          ∙ (λ j. ledgers_data (c.names.ensures.names j) (c.ledgers.ensures.ledgers j))) i) contents);
      are_contents =
          subst (λ told. AreContents c.args.state.now told contents) c.as_slice-told.ensures.value c.in_ok-contents.ensures;
    }
