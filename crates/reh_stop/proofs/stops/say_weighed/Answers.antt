-- The worst of those that were weighed speak against it.
use Rattle.std.proofs.Common.{ap, map, refl, string_bytes, subst, sym, List}
use Rattle.reh_answer.specs.declared.against.Against.{Against}
use Rattle.reh_against.specs.Worst.{SaysAgainst}
use Rattle.reh_census.specs.Bookies.{bookies_of, is_flagged}
use Rattle.reh_stop.proofs.VerdictLaws.{says-same}
use Rattle.reh_stop.proofs.stops.say_weighed.Goals as goal

pub returns : goal.returns
returns c = λ g ids ledgers judged about was.
    let asked = c.args.asked.now in
    let verdict = c.args.verdict.now in
    let stop = c.args.stop.now in
    c.in_ok-said.ensures g ids ledgers about.names judged
    (subst (λ (against : List Against).
    SaysAgainst g.cluster.names ids ledgers (bookies_of g.bookies) asked.question (is_flagged verdict.stopped)
    verdict.facts.answer against)
    (sym c.deref.ensures.value)
    (says-same (map string_bytes stop.names.now) g.cluster.names ids ids ledgers ledgers (bookies_of stop.bookies.now)
    (bookies_of g.bookies) stop.question.now asked.question stop.stopped.now verdict.stopped stop.answer.now
    verdict.facts.answer c.in_ok-against.against.items about.names refl refl (ap bookies_of about.bookies) about.question
    about.stopped about.answer (c.in_ok-against.ensures ids ledgers was)))
