-- The sources of a word's entries follow those of the words before it.
use Rattle.std.proofs.Common.{◌≡◌, ◌∙◌, ◌+◌, ◌≤◌, ap, sym, subst, List, ◌++◌, ℕ, Option, All, map}
use Rattle.std.proofs.Common.{append_assoc}
use Rattle.std.proofs.lemmas.List.{map-append}
use Rattle.reh_stripe.specs.declared.words.Word.{Word}
use Rattle.reh_stripe.specs.Words.{AreRising, entries_in, entries_of}
use Rattle.reh_scan.specs.declared.jobs.Reading.{Reading}
use Rattle.reh_scan.specs.Jobs.{source_in}
use Rattle.reh_scan.proofs.JobLaws.{All-first, All-second}
use Rattle.reh_scan.proofs.jobs.block_sources.Goals as goal

pub loop-word-init : goal.loop-word-init
loop-word-init c =
    let r : Reading = c.args.reading.now in
    let words : c.into_iter-word-iterator.result ≡ c.words-word-items.result =
    c.into_iter-word-iterator.ensures.into_iter_gives in
    let entries : entries_of c.into_iter-word-iterator.result ≡ c.args.entries =
    ap (λ (ws : List Word). entries_of ws) words ∙ c.words-word-items.ensures.entries in
    record {
      sources =
          ap (λ (sources : List (Option ℕ)). sources ++ map (source_in r) (entries_of c.into_iter-word-iterator.result))
          c.in_ok-sources.ensures.items
          ∙ ap (λ (es : List ℕ). map (source_in r) es) entries;
      from = subst (λ (es : List ℕ). All (λ e. r.first ≤ e) es) (sym entries) c.requires.from;
      rising = (0, subst (λ (ws : List Word). AreRising 0 ws) (sym words) c.words-word-items.ensures.rising);
    }

pub loop-word-preserved : goal.loop-word-preserved
loop-word-preserved c =
    let r : Reading = c.args.reading.now in
    let w : Word = c.in-Some.word in
    let rest : List Word = c.next.new.self in
    let before : List (Option ℕ) = c.loop-word.sources.items in
    let was = c.loop-word.invariant.rising in
    let rising = subst (λ (ws : List Word). AreRising was.0 ws) c.in-Some.ensures.steps was.1 in
    record {
      sources =
          ap (λ (sources : List (Option ℕ)). sources ++ map (source_in r) (entries_of rest))
          c.in_ok-push_sources.ensures
          ∙ append_assoc before (map (source_in r) (entries_in w)) (map (source_in r) (entries_of rest))
          ∙ ap (λ (sources : List (Option ℕ)). before ++ sources)
          (sym (map-append (source_in r) (entries_in w) (entries_of rest)))
          ∙ sym (ap (λ (ws : List Word). before ++ map (source_in r) (entries_of ws)) c.in-Some.ensures.steps)
          ∙ c.loop-word.invariant.sources;
      from =
          All-second (λ e. r.first ≤ e) (entries_in w) (entries_of rest)
          (subst (λ (ws : List Word). All (λ e. r.first ≤ e) (entries_of ws)) c.in-Some.ensures.steps
          c.loop-word.invariant.from);
      rising = (w.number + 1, rising.2);
    }

pub push_sources-requires-clause-from : goal.push_sources-requires-clause-from
push_sources-requires-clause-from c =
    let r : Reading = c.args.reading.now in
    All-first (λ e. r.first ≤ e) (entries_in c.in-Some.word) (entries_of c.next.new.self)
    (subst (λ (ws : List Word). All (λ e. r.first ≤ e) (entries_of ws)) c.in-Some.ensures.steps
    c.loop-word.invariant.from)
