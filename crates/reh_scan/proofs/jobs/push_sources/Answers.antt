-- An entry's source follows those of the entries before it.
use Rattle.std.proofs.Common.{◌≡◌, ◌∙◌, ◌+◌, ◌*◌, ◌/◌, ◌%◌, ◌<◌, ◌≤◌, ap, sym, subst, List, [], ◌∷◌, ◌++◌, ℕ, Option, All, map}
use Rattle.std.proofs.Common.{append_assoc, length, slice_index, arith}
use Rattle.std.specs.List.{find}
use Rattle.std.specs.Option.{option_map}
use Rattle.std.proofs.lemmas.List.Elements.{All-head, All-tail}
use Rattle.reh_model.specs.Striping.{write_set}
use Rattle.reh_model.proofs.WriteSetLaws.{write_set-below}
use Rattle.reh_stripe.specs.Words.{entries_in, has_bit}
use Rattle.reh_scan.specs.declared.jobs.Reading.{Reading}
use Rattle.reh_scan.specs.Jobs.{IsReading, source_in}
use Rattle.reh_scan.proofs.JobLaws.{entries_in-within, source_in-held}
use Rattle.reh_scan.proofs.jobs.push_sources.Goals as goal

pub loop-entry-init : goal.loop-entry-init
loop-entry-init c =
    let r : Reading = c.args.reading.now in
    let entries : c.into_iter-entry-iterator.result ≡ entries_in c.args.word =
    c.into_iter-entry-iterator.ensures.into_iter_gives ∙ c.new-entry-items.ensures in
    record {
      sources = ap (λ (es : List ℕ). c.args.sources.now.items ++ map (source_in r) es) entries;
      within =
          subst (λ (es : List ℕ). All (λ e. e / 64 ≡ c.args.word.number) es) (sym entries)
          (entries_in-within c.args.word);
      from = subst (λ (es : List ℕ). All (λ e. r.first ≤ e) es) (sym entries) c.requires.from;
    }

pub find_source-requires-clause-within : goal.find_source-requires-clause-within
find_source-requires-clause-within c =
    let r : Reading = c.args.reading.now in
    let is : IsReading r = c.requires.reading in
    let e : ℕ = c.in-Some.entry in
    let number : ℕ = c.args.word.number in
    let at : e / 64 ≡ number =
    All-head (λ e. e / 64 ≡ number) e c.next.new.self
    (subst (λ (es : List ℕ). All (λ e. e / 64 ≡ number) es) c.in-Some.ensures.steps c.loop-entry.invariant.within) in
    let whole : 64 * number + e % 64 ≡ e = omega (arith, at) in
    let indexes : c.write_set-indexes.result.now ≡ write_set e r.size r.write_quorum =
    c.write_set-indexes.ensures number (ap (λ n. (64 * number) % n) (sym c.requires.round))
    ∙ (λ j. write_set (whole j) (c.requires.round j) r.write_quorum) in
    let long : length c.as_slice.result.now ≡ r.size =
    ap (λ (members : List ℕ). length members) c.as_slice.ensures ∙ is.members in
    subst (λ (n : ℕ). All (λ i. i < n) c.write_set-indexes.result.now) (sym long)
    (subst (λ (is : List ℕ). All (λ i. i < r.size) is) (sym indexes)
    (write_set-below e r.size r.write_quorum (omega (arith, is.some, is.within))))

pub loop-entry-preserved : goal.loop-entry-preserved
loop-entry-preserved c =
    let r : Reading = c.args.reading.now in
    let e : ℕ = c.in-Some.entry in
    let number : ℕ = c.args.word.number in
    let before : List (Option ℕ) = c.loop-entry.sources.items in
    let rest : List (Option ℕ) = map (source_in r) c.next.new.self in
    let all_within =
    subst (λ (es : List ℕ). All (λ e. e / 64 ≡ number) es) c.in-Some.ensures.steps c.loop-entry.invariant.within in
    let all_from =
    subst (λ (es : List ℕ). All (λ e. r.first ≤ e) es) c.in-Some.ensures.steps c.loop-entry.invariant.from in
    let at : e / 64 ≡ number = All-head (λ e. e / 64 ≡ number) e c.next.new.self all_within in
    let whole : 64 * number + e % 64 ≡ e = omega (arith, at) in
    let indexes : c.write_set-indexes.result.now ≡ write_set e r.size r.write_quorum =
    c.write_set-indexes.ensures number (ap (λ n. (64 * number) % n) (sym c.requires.round))
    ∙ (λ j. write_set (whole j) (c.requires.round j) r.write_quorum) in
    let source : c.find_source.result ≡ source_in r e =
    c.find_source.ensures
    ∙ (λ j. option_map (λ i. slice_index (c.as_slice.ensures j) i)
    (find (λ i. has_bit (slice_index c.held_words-held.result i) (e % 64)) (indexes j)))
    ∙ source_in-held r c.held_words-held.result number e c.requires.reading c.held_words-held.ensures at
    (All-head (λ e. r.first ≤ e) e c.next.new.self all_from) in
    record {
      sources =
          ap (λ (sources : List (Option ℕ)). sources ++ rest) c.in_ok-push.ensures.items
          ∙ append_assoc before (c.find_source.result ∷ []) rest
          ∙ ap (λ source. before ++ source ∷ rest) source
          ∙ sym (ap (λ (es : List ℕ). before ++ map (source_in r) es) c.in-Some.ensures.steps)
          ∙ c.loop-entry.invariant.sources;
      within = All-tail (λ e. e / 64 ≡ number) e c.next.new.self all_within;
      from = All-tail (λ e. r.first ≤ e) e c.next.new.self all_from;
    }
