-- The text is a picture, and was compared with the lines.
use Rattle.std.proofs.lemmas.Result.{on_ok_weaker}
use Rattle.reh_cut.specs.Cuts.{IsCut, IsShown}
use Rattle.reh_cut.proofs.cuts.check_listed.Goals as goal

pub returns : goal.returns
returns c =
    let head = c.args.head.now in
    let lines = c.args.lines.now in
    let cut : IsShown head lines c.args.assume c.args.listed.now c.in_ok-state.state → IsCut head lines c.args.assume c.args.text.now =
    λ shown. record {
      listed = c.args.listed.now;
      cluster = c.in_ok-state.state;
      lists = c.requires.lists;
      is_picture = c.in_ok-state.ensures;
      shown = shown;
      empties = c.requires.empties;
    } in
    on_ok_weaker c.check_shown.result cut c.check_shown.ensures
