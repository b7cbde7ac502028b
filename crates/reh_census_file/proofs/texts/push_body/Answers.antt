use Rattle.std.proofs.lemmas.Result.{IfOk-equal}
use Rattle.reh_census_file.proofs.TextLaws.{body_is}
use Rattle.reh_census_file.proofs.texts.push_body.Goals as goal

pub returns : goal.returns
returns c =
    IfOk-equal c.push_ensembles.result _ _ _ c.push_ensembles.ensures
    (rw (
      c.in_ok-push_tails.ensures,
      c.in_ok-push_classes.ensures,
      c.in_ok-push_judged.ensures,
      c.in_ok-push_bookies.ensures,
      c.in_ok-push_head.ensures,
      c.ensembles.ensures.ensembles,
      c.tails.ensures.tails,
      c.entries.ensures.entries,
      c.judged.ensures,
      c.census-counted.ensures,
      c.names-names.ensures,
    ) (body_is _ c.args.census.now))
