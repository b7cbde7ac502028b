-- The names that the words give are those that are asked of.
use Rattle.std.proofs.Common.{◌∙◌, ap, sym, refl, subst, rules}
use Rattle.reh_stop.specs.Named.{AreClear, names_in, texts}
use Rattle.reh_stop.specs.declared.stops.Asked.{Asked}
use Rattle.reh_stop.specs.Stops.{IsByNames}
use Rattle.reh_stop.proofs.FaultLaws.{judged-by, refused-by}
use Rattle.reh_stop.proofs.stops.judge_stop.Goals as goal

pub returns-clause-fault : goal.returns-clause-fault
returns-clause-fault c =
    let g = c.args.gathered.now in
    let asked = c.args.asked.now in
    let named : Asked = record {
      bookies = c.deref.result;
      racks = asked.racks;
      question = asked.question;
      as_json = asked.as_json;
    } in
    let by : IsByNames g.cluster asked named = record {
      bookies = ap texts c.deref.ensures.value ∙ c.in_ok-bookies.ensures
          ∙ ap (λ names. names_in names asked.bookies.now) c.names-names.ensures;
      racks = refl;
      question = refl;
      as_json = refl;
    } in
    refused-by g asked named (sym c.if-not-has_words.ensures)
    (subst (λ names. AreClear names asked.bookies.now) c.names-names.ensures (c.in_ok-word.ensures.none (search rules))) by
    c.judge_named.result c.judge_named.ensures.fault

pub returns-clause-judged : goal.returns-clause-judged
returns-clause-judged c =
    let g = c.args.gathered.now in
    let asked = c.args.asked.now in
    let named : Asked = record {
      bookies = c.deref.result;
      racks = asked.racks;
      question = asked.question;
      as_json = asked.as_json;
    } in
    let by : IsByNames g.cluster asked named = record {
      bookies = ap texts c.deref.ensures.value ∙ c.in_ok-bookies.ensures
          ∙ ap (λ names. names_in names asked.bookies.now) c.names-names.ensures;
      racks = refl;
      question = refl;
      as_json = refl;
    } in
    judged-by g asked named (sym c.if-not-has_words.ensures)
    (subst (λ names. AreClear names asked.bookies.now) c.names-names.ensures (c.in_ok-word.ensures.none (search rules))) by
    c.judge_named.result c.judge_named.ensures.named c.judge_named.ensures.stopped c.judge_named.ensures.facts
    c.judge_named.ensures.ledgers
