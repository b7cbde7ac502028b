-- The text of a canonical census is read as that census.
use Rattle.std.proofs.Common.{◌≡◌, ℕ, ◌+◌, ◌^◌, ◌<◌, ◌≤◌, Bool, true, false, not, List, [], ◌∷◌, ◌++◌, length, map, min, Option, Some, None, Result, Ok, refl, sym, ap, subst, ◌∙◌, arith, length-append}
use Rattle.std.specs.Prelude.{codes, ◌&&◌, ◌==◌, IfSome, is_some}
use Rattle.std.specs.Fmt.{decimal}
use Rattle.std.specs.List.{AllByRecursion, IsDistinct, sum_by, zip}
use Rattle.std.proofs.lemmas.List.Sums.{sum_by-cons}
use Rattle.std.specs.Str.{bytes_eq}
use Rattle.std.proofs.lemmas.Bool.Decides.{nat_tests}
use Rattle.std.proofs.lemmas.List.{append-nil, map-append}
use Rattle.std.proofs.lemmas.Slice.Zip.{firsts-zip, seconds-zip, length-zip}
use mathlib.Core.List.{append_assoc}
use Rattle.reh_census.specs.declared.bookies.Bookie.{Bookie}
use Rattle.reh_census_file.specs.declared.faults.CensusFault.{CensusFault}
use Rattle.reh_census_file.specs.declared.faults.Expected.{Expected}
use Rattle.reh_census_file.specs.declared.faults.Expected.TheVariants as expected
use Rattle.reh_census_file.specs.declared.faults.Keyword.TheVariants as word
use Rattle.reh_census_file.specs.Canonical.{IsCanonical, AreNumbered, is_name, is_time}
use Rattle.reh_census.specs.Order.{InOrder, names_cmp}
use Rattle.reh_census_file.specs.declared.lists.TheConstants.{MAX_NAMES}
use Rattle.reh_census_file.specs.Drafts.{Draft, no_lines}
use Rattle.reh_census_file.specs.Lines.{line_of}
use Rattle.reh_census_file.specs.Reading.{◌>>=◌, choice_at, time_at, no_more, version_at, lines_at}
use Rattle.reh_census_file.specs.Texts.{text_of, body_words, head_words, bookie_lines, end_words, judged_words, entries_words, tail_words, ensemble_words, strict_word, taken_word}
use Rattle.reh_census_file.specs.Values.{NamedCensus}
use Rattle.reh_census_file.specs.Whole.{GivesAll, parts_of, version_line, strict_line, taken_line, line_by, end_line, body_at, census_in, census_at, read}
use Rattle.reh_census_file.proofs.BodyLaws.{body_at-end}
use Rattle.reh_census_file.proofs.PlainLaws.{ArePlain, IsPlain, IsPlainLine, Line, decimal-plain_wide, name-plain, spaced, words_of-spaced, parts_of-line, parts_of-lines}
use Rattle.reh_census_file.proofs.StepAgain.{FitBookies, FitEntries, FitTails, FitEnsembles, bookies_group, bookies_plain, judged_line_again, judged_plain, entries_group, entries_plain, tails_group, tails_plain, ensembles_group, ensembles_plain, firsts, seconds}
use Rattle.reh_census_file.proofs.TextLaws.{body_len_is}
use Rattle.reh_census_file.proofs.TokenAgain.{same_word, word_again, choice_again}

-- The head

line_again : {A : Type 0} (read : Line → Result A Expected) (line : ℕ) (first : List ℕ) (words : Line) (x : A) (parts : Line) → ArePlain (first ∷ words) → read (first ∷ words) ≡ Ok x → 0 < length parts → line_by read line (spaced (first ∷ words) ∷ parts) ≡ Ok (x, parts)
unfolding line_by
line_again read line first words x parts plain is some =
    let behind : (length parts == 0) ≡ false = grind (arith, nat_tests) in
    rw (behind, words_of-spaced first words plain, is) refl

version_again : version_line (codes "census" ∷ codes "1" ∷ []) ≡ Ok tt
unfolding version_line version_at
version_again = ap (λ r. r >>= version_at) (word_again word.Census (codes "1" ∷ []))

strict_again : (is_strict : Bool) → strict_line (codes "strict" ∷ strict_word is_strict ∷ []) ≡ Ok is_strict
unfolding strict_line
strict_again is_strict =
    ap (λ r. r >>= λ behind. choice_at (codes "yes") (codes "no") expected.YesOrNo behind >>= λ strict. no_more strict.1 >>= λ done. Ok strict.0) (word_again word.Strict (strict_word is_strict ∷ []))
    ∙ ap (λ r. r >>= λ strict. no_more strict.1 >>= λ done. Ok strict.0) (choice_again (codes "yes") (codes "no") expected.YesOrNo is_strict [] refl)

and_true : (a b : Bool) → (a && b) ≡ true → (a ≡ true) × (b ≡ true)
and_true true true e = (refl, refl)
and_true true false e = absurd cc
and_true false b e = absurd cc

not_true : (b : Bool) → not b ≡ true → b ≡ false
not_true true e = absurd cc
not_true false e = refl

time_again : (taken : Option (List ℕ)) → IfSome taken (λ time. is_time time ≡ true) → time_at (taken_word taken ∷ []) ≡ Ok (taken, [])
unfolding time_at
time_again None fits = refl
time_again (Some time) fits =
    let h = and_true (is_name time) (not (bytes_eq time (codes "-"))) fits in
    rw (not_true (bytes_eq time (codes "-")) h.1, h.0) refl

taken_again : (taken : Option (List ℕ)) → IfSome taken (λ time. is_time time ≡ true) → taken_line (codes "taken" ∷ taken_word taken ∷ []) ≡ Ok taken
unfolding taken_line
taken_again taken fits =
    ap (λ r. r >>= λ behind. time_at behind >>= λ taken. no_more taken.1 >>= λ done. Ok taken.0) (word_again word.Taken (taken_word taken ∷ []))
    ∙ ap (λ r. r >>= λ taken. no_more taken.1 >>= λ done. Ok taken.0) (time_again taken fits)

strict_plain : (is_strict : Bool) → IsPlain (strict_word is_strict)
strict_plain true = refl
strict_plain false = refl

taken_plain : (taken : Option (List ℕ)) → IfSome taken (λ time. is_time time ≡ true) → IsPlain (taken_word taken)
taken_plain None fits = refl
taken_plain (Some time) fits = name-plain time (and_true (is_name time) (not (bytes_eq time (codes "-"))) fits).0

-- The end

end_again : (lines : ℕ) (d : Draft) → lines < 10 ^ 64 → is_some d.judged ≡ true → body_at lines d (spaced (end_words lines) ∷ [] ∷ []) ≡ Ok d
unfolding end_line lines_at
end_again lines d small judged =
    let plain : ArePlain (end_words lines) = (refl, (decimal-plain_wide lines small, tt)) in
    body_at-end lines d (spaced (end_words lines) ∷ [] ∷ []) ([] ∷ []) (spaced (end_words lines)) (codes "end") (decimal lines ∷ []) refl (omega arith) (words_of-spaced (codes "end") (decimal lines ∷ []) plain) refl
    ∙ rw (judged, same_word (decimal lines)) refl

-- The whole text

-- what has been read once the bookies are, and once the ledgers' line is
abbrev bookies_of : NamedCensus → Draft
bookies_of c = record no_lines { names = c.names; racks = c.racks; bookies = c.bookies }

abbrev judged_of : NamedCensus → Draft
judged_of c = record (bookies_of c) { judged = Some c.census.judged }

abbrev entries_of : NamedCensus → Draft
entries_of c = record (judged_of c) { entries = c.census.entries }

abbrev tails_of : NamedCensus → Draft
tails_of c = record (entries_of c) { tails = c.census.tails }

abbrev all_of : NamedCensus → Draft
all_of c = record (tails_of c) { ensembles = c.census.ensembles }

-- the parts of a text from each group on
abbrev last_part : NamedCensus → Line
last_part c = spaced (end_words (length (body_words c))) ∷ [] ∷ []

abbrev ensemble_parts : NamedCensus → Line
ensemble_parts c = map spaced (map (ensemble_words c.names) c.census.ensembles) ++ last_part c

abbrev tail_parts : NamedCensus → Line
tail_parts c = map spaced (map (tail_words c.names) c.census.tails) ++ ensemble_parts c

abbrev entry_parts : NamedCensus → Line
entry_parts c = map spaced (map (entries_words c.names) c.census.entries) ++ tail_parts c

abbrev bookie_parts : NamedCensus → Line
bookie_parts c = map spaced (bookie_lines c) ++ (spaced (judged_words c.census.judged) ∷ entry_parts c)

some_behind : (front parts : Line) → 0 < length parts → 0 < length (front ++ parts)
some_behind front parts some = omega (arith, length-append front parts)

module _ (c : NamedCensus) (fits : IsCanonical c) where
  names_are : firsts (zip c.names c.bookies) ≡ c.names
  names_are = firsts-zip c.names c.bookies fits.bookies.each

  bookies_are : seconds (zip c.names c.bookies) ≡ c.bookies
  bookies_are = seconds-zip c.names c.bookies fits.bookies.each

  fit_bookies : FitBookies c.racks no_lines (zip c.names c.bookies)
  fit_bookies = record {
    early = refl;
    few = subst (λ (names : Line). length names ≤ MAX_NAMES) (sym names_are) fits.bookies.few_names.few;
    apart = subst (λ (names : Line). IsDistinct bytes_eq names) (sym names_are) fits.bookies.few_names.different;
    named = subst (λ (names : Line). AllByRecursion (λ (name : List ℕ). is_name name ≡ true) names) (sym names_are) fits.bookies.named;
    order = subst (λ (names : Line). InOrder names_cmp names) (sym names_are) fits.bookies.order;
    racks_apart = fits.bookies.few_racks.different;
    racks_named = fits.bookies.racked;
    count = 0;
    so_far = refl;
    within = omega arith;
    numbered = subst (λ (bookies : List Bookie). AreNumbered 0 bookies (length c.racks)) (sym bookies_are) fits.bookies.numbered;
  }

  fit_entries : FitEntries (judged_of c) c.census.entries
  fit_entries = record {
    base = record { judged = refl; distinct = fits.bookies.few_names.different; named = fits.bookies.named; each = fits.bookies.each };
    no_tails = refl;
    no_ensembles = refl;
    entries = fits.entries;
  }

  fit_tails : FitTails (entries_of c) c.census.tails
  fit_tails = record {
    base = record { judged = refl; distinct = fits.bookies.few_names.different; named = fits.bookies.named; each = fits.bookies.each };
    no_ensembles = refl;
    tails = fits.tails;
  }

  fit_ensembles : FitEnsembles (tails_of c) c.census.ensembles
  fit_ensembles = record {
    base = record { judged = refl; distinct = fits.bookies.few_names.different; named = fits.bookies.named; each = fits.bookies.each };
    ensembles = fits.ensembles;
  }

  -- how many lines there are
  few_lines : length (body_words c) < 10 ^ 64
  few_lines =
      let named = min (length c.names) (length c.bookies) in
      omega (
        arith,
        body_len_is c named refl,
        fits.bookies.few_names.few,
        counts_many (λ x. x.count) c.census.entries fits.entries.some,
        fits.entries.within,
        counts_many (λ x. x.count) c.census.tails fits.tails.some,
        fits.tails.within,
        counts_many (λ x. x.count) c.census.ensembles fits.ensembles.some,
        fits.ensembles.within,
      )
    where
      counts_many : {X : Type 0} (count : X → ℕ) (xs : List X) → AllByRecursion (λ x. 1 ≤ count x) xs → length xs ≤ sum_by count xs
      counts_many count [] some = omega arith
      counts_many count (x ∷ xs) some = omega (arith, sum_by-cons count x xs, counts_many count xs some.1, some.0)

  body_plain : AllByRecursion IsPlainLine (body_words c)
  body_plain =
      plain_append (head_words c) _ ((refl, (refl, tt)), ((refl, (strict_plain c.is_strict, tt)), ((refl, (taken_plain c.taken fits.taken, tt)), tt)))
      (plain_append (bookie_lines c) _ (bookies_plain c.racks no_lines (zip c.names c.bookies) fit_bookies) (
        judged_plain c.census.judged fits.judged,
        plain_append (map (entries_words c.names) c.census.entries) _ (entries_plain (judged_of c) c.census.entries fit_entries)
            (plain_append (map (tail_words c.names) c.census.tails) _ (tails_plain (entries_of c) c.census.tails fit_tails)
            (ensembles_plain (tails_of c) c.census.ensembles fit_ensembles)),
      ))
    where
      plain_append : (xs ys : List Line) → AllByRecursion IsPlainLine xs → AllByRecursion IsPlainLine ys → AllByRecursion IsPlainLine (xs ++ ys)
      plain_append [] ys left right = right
      plain_append (x ∷ xs) ys left right = (left.0, plain_append xs ys left.1 right)

  text_parts : parts_of (text_of c) ≡ map spaced (body_words c) ++ last_part c
  text_parts =
      let end = end_words (length (body_words c)) in
      parts_of-lines (body_words c) (line_of end) body_plain
      ∙ ap (λ ps. map spaced (body_words c) ++ ps) (ap parts_of (sym (append-nil (line_of end))) ∙ parts_of-line end [] (refl, (decimal-plain_wide (length (body_words c)) few_lines, tt)))

  some_ensembles : 0 < length (ensemble_parts c)
  some_ensembles = some_behind (map spaced (map (ensemble_words c.names) c.census.ensembles)) (last_part c) (omega arith)

  some_tails : 0 < length (tail_parts c)
  some_tails = some_behind (map spaced (map (tail_words c.names) c.census.tails)) (ensemble_parts c) some_ensembles

  some_entries : 0 < length (entry_parts c)
  some_entries = some_behind (map spaced (map (entries_words c.names) c.census.entries)) (tail_parts c) some_tails

  -- the lines after the head
  body_again : body_at 3 no_lines (bookie_parts c) ≡ Ok (all_of c)
  body_again =
      let pairs = zip c.names c.bookies in
      let n1 = 3 + length pairs in
      let n2 = n1 + 1 in
      let n3 = n2 + length c.census.entries in
      let n4 = n3 + length c.census.tails in
      let n5 = n4 + length c.census.ensembles in
      let names = names_are in
      let bookies = bookies_are in
      let whole : n5 ≡ length (body_words c) = omega (arith, length-zip c.names c.bookies, body_len_is c (min (length c.names) (length c.bookies)) refl) in
      bookies_group c.racks 3 no_lines pairs (spaced (judged_words c.census.judged) ∷ entry_parts c) fit_bookies (omega arith)
      ∙ (λ i. body_at n1 (record no_lines { names = names i; racks = c.racks; bookies = bookies i }) (spaced (judged_words c.census.judged) ∷ entry_parts c))
      ∙ judged_line_again n1 (bookies_of c) c.census.judged (entry_parts c) refl fits.judged some_entries
      ∙ entries_group n2 (judged_of c) c.census.entries (tail_parts c) fit_entries some_tails
      ∙ tails_group n3 (entries_of c) c.census.tails (ensemble_parts c) fit_tails some_ensembles
      ∙ ensembles_group n4 (tails_of c) c.census.ensembles (last_part c) fit_ensembles (omega arith)
      ∙ ap (λ n. body_at n (all_of c) (last_part c)) whole
      ∙ end_again (length (body_words c)) (all_of c) few_lines refl

  -- the parts of the text, group by group
  parts_are : map spaced (body_words c) ++ last_part c ≡ spaced (codes "census" ∷ codes "1" ∷ []) ∷ spaced (codes "strict" ∷ strict_word c.is_strict ∷ []) ∷ spaced (codes "taken" ∷ taken_word c.taken ∷ []) ∷ bookie_parts c
  parts_are =
      let bookies = bookie_lines c in
      let judged = judged_words c.census.judged in
      let entries = map (entries_words c.names) c.census.entries in
      let tails = map (tail_words c.names) c.census.tails in
      let ensembles = map (ensemble_words c.names) c.census.ensembles in
      ap (λ ps. spaced (codes "census" ∷ codes "1" ∷ []) ∷ spaced (codes "strict" ∷ strict_word c.is_strict ∷ []) ∷ spaced (codes "taken" ∷ taken_word c.taken ∷ []) ∷ ps)
      (mapped bookies (judged ∷ (entries ++ (tails ++ ensembles))) (last_part c)
      ∙ ap (λ ps. map spaced bookies ++ (spaced judged ∷ ps)) (mapped entries (tails ++ ensembles) (last_part c) ∙ ap (λ ps. map spaced entries ++ ps) (mapped tails ensembles (last_part c))))
    where
      mapped : (xs ys : List Line) (parts : Line) → map spaced (xs ++ ys) ++ parts ≡ map spaced xs ++ (map spaced ys ++ parts)
      mapped xs ys parts = ap (λ ps. ps ++ parts) (map-append spaced xs ys) ∙ append_assoc (map spaced xs) (map spaced ys) parts

  pub read_again : read (text_of c) ≡ Ok c
  unfolding census_at
  read_again =
      let rest3 = bookie_parts c in
      let rest2 = spaced (codes "taken" ∷ taken_word c.taken ∷ []) ∷ rest3 in
      let rest1 = spaced (codes "strict" ∷ strict_word c.is_strict ∷ []) ∷ rest2 in
      let some3 : 0 < length rest3 = some_behind (map spaced (bookie_lines c)) (spaced (judged_words c.census.judged) ∷ entry_parts c) (omega arith) in
      ap census_at (text_parts ∙ parts_are)
      ∙ ap (λ r. r >>= λ version. line_by strict_line 2 version.1 >>= λ strict. line_by taken_line 3 strict.1 >>= λ taken. body_at 3 no_lines taken.1 >>= λ draft. Ok (census_in strict.0 taken.0 draft))
      (line_again version_line 1 (codes "census") (codes "1" ∷ []) tt rest1 (refl, (refl, tt)) version_again (omega arith))
      ∙ ap (λ r. r >>= λ strict. line_by taken_line 3 strict.1 >>= λ taken. body_at 3 no_lines taken.1 >>= λ draft. Ok (census_in strict.0 taken.0 draft))
      (line_again strict_line 2 (codes "strict") (strict_word c.is_strict ∷ []) c.is_strict rest2 (refl, (strict_plain c.is_strict, tt)) (strict_again c.is_strict) (omega arith))
      ∙ ap (λ r. r >>= λ taken. body_at 3 no_lines taken.1 >>= λ draft. Ok (census_in c.is_strict taken.0 draft))
      (line_again taken_line 3 (codes "taken") (taken_word c.taken ∷ []) c.taken rest3 (refl, (taken_plain c.taken fits.taken, tt)) (taken_again c.taken fits.taken) some3)
      ∙ ap (λ r. r >>= λ draft. Ok (census_in c.is_strict c.taken draft)) body_again

-- what has the text of a canonical census is read as that census, unless memory runs out
pub found_again : (bytes : List ℕ) (r : Result NamedCensus CensusFault) → GivesAll (λ (c : NamedCensus). c) r (read bytes) → (c : NamedCensus) → IsCanonical c → text_of c ≡ bytes → GivesAll (λ (c : NamedCensus). c) r (Ok c)
found_again bytes r gives c fits is = subst (λ (x : Result NamedCensus CensusFault). GivesAll (λ (c : NamedCensus). c) r x) (ap read (sym is) ∙ read_again c fits) gives

abbrev ok : NamedCensus → Result NamedCensus CensusFault
ok c = Ok c

-- each canonical census has a text of its own
pub texts_apart : (one other : NamedCensus) → IsCanonical one → IsCanonical other → text_of one ≡ text_of other → one ≡ other
texts_apart one other fits fit same = is (sym (read_again one fits) ∙ ap read same ∙ read_again other fit)
  where
    is : ok one ≡ ok other → one ≡ other
    is e = cc
