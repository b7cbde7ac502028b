-- What is said by a verdict.
use Rattle.std.proofs.Common.{◌≡◌, ◌∙◌, ap, refl, sym, subst, ℕ, Bool, List, Option, string_bytes, if◌then◌else◌}
use Rattle.reh_census.specs.declared.answers.Answer.{Answer}
use Rattle.reh_census.specs.declared.questions.Question.{Question}
use Rattle.reh_census.specs.Bookies.{Bookies, bookies_of, is_flagged}
use Rattle.reh_census.specs.Ledgers.{Ledger}
use Rattle.reh_against.specs.Worst.{SaysAgainst}
use Rattle.reh_answer.specs.declared.against.Against.{Against}
use Rattle.reh_answer.specs.declared.facts.Facts.{Facts}
use Rattle.reh_answer.specs.Objects.{json_of}
use Rattle.reh_answer.specs.Texts.{status_number, text_of}
use Rattle.reh_inputs.specs.declared.together.Gathered.{Gathered}
use Rattle.reh_stop.specs.declared.stops.Asked.{Asked}
use Rattle.reh_stop.specs.declared.stops.Said.{Said}
use Rattle.reh_stop.specs.declared.verdicts.Verdict.{Verdict}
use Rattle.reh_stop.specs.Stops.{AreOfLedgers, IsAnsweredBy, IsJudged, facts_of, stopped_by, text_by}

-- the same is said of the same
pub says-same : (names names' : List (List ℕ)) (ids ids' : List ℕ) (ledgers ledgers' : List (List Ledger)) (bookies bookies' : Bookies)
    (question question' : Question) (stopped stopped' : List Bool) (answer answer' : Answer) (against : List Against)
    → names ≡ names' → ids ≡ ids' → ledgers ≡ ledgers' → bookies ≡ bookies' → question ≡ question' → stopped ≡ stopped'
    → answer ≡ answer'
    → SaysAgainst names ids ledgers bookies question (is_flagged stopped) answer against
    → SaysAgainst names' ids' ledgers' bookies' question' (is_flagged stopped') answer' against
says-same names names' ids ids' ledgers ledgers' bookies bookies' question question' stopped stopped' answer answer' against n i l b q s a says =
    subst (λ (x : List (List ℕ)). SaysAgainst x ids' ledgers' bookies' question' (is_flagged stopped') answer' against) n
    (subst (λ (x : List ℕ). SaysAgainst names x ledgers' bookies' question' (is_flagged stopped') answer' against) i
    (subst (λ (x : List (List Ledger)). SaysAgainst names ids x bookies' question' (is_flagged stopped') answer' against) l
    (subst (λ (x : Bookies). SaysAgainst names ids ledgers x question' (is_flagged stopped') answer' against) b
    (subst (λ (x : Question). SaysAgainst names ids ledgers bookies x (is_flagged stopped') answer' against) q
    (subst (λ (x : List Bool). SaysAgainst names ids ledgers bookies question (is_flagged x) answer' against) s
    (subst (λ (x : Answer). SaysAgainst names ids ledgers bookies question (is_flagged stopped) x against) a says))))))

-- a text by a verdict
pub said-by : (g : Gathered) (asked : Asked) (verdict : Verdict) (against : List Against) (taken : Option (List ℕ))
    (further : List (List ℕ)) (said : Said) (ids : List ℕ) (ledgers : List (List Ledger)) → IsJudged g asked verdict
    → SaysAgainst g.cluster.names ids ledgers (bookies_of g.bookies) asked.question (is_flagged verdict.stopped)
    verdict.facts.answer against
    → string_bytes said.text ≡ text_by asked verdict.facts g.cluster.names against taken further
    → said.status ≡ status_number verdict.facts.answer
    → IsAnsweredBy ids ledgers taken further g asked said
said-by g asked verdict against taken further said ids ledgers judged says text status =
    let named : Asked = judged.named in
    let flags : List Bool = stopped_by g.cluster named in
    let question : asked.question ≡ named.question = sym judged.by_names.question in
    let as_json : asked.as_json ≡ named.as_json = sym judged.by_names.as_json in
    let facts : verdict.facts ≡ facts_of g named flags = judged.facts ∙ ap (λ (set : List Bool). facts_of g named set) judged.stopped in
    record {
      some = judged.some;
      clear = judged.clear;
      named = named;
      by_names = judged.by_names;
      are_named = judged.are_named;
      says = record {
        against = against;
        says = says-same g.cluster.names g.cluster.names ids ids ledgers ledgers (bookies_of g.bookies) (bookies_of g.bookies)
            asked.question named.question verdict.stopped flags verdict.facts.answer (facts_of g named flags).answer against
            refl refl refl refl question judged.stopped (ap (λ (f : Facts). f.answer) facts) says;
        text = text
            ∙ (λ i.
            if as_json i then json_of (facts i) g.cluster.names against taken further
            else text_of (facts i) (question i) g.cluster.names against taken further);
        status = status ∙ ap (λ (f : Facts). status_number f.answer) facts;
      };
      ledgers = subst (λ (f : Facts). AreOfLedgers g named f) facts judged.ledgers;
    }
