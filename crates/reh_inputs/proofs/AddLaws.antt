-- A census that adds up is the census of all the ledgers that were counted.
use Rattle.std.proofs.Common.{◌≡◌, ◌∙◌, ◌+◌, ℕ, List, [], ◌∷◌, ◌++◌, length, map, fold, refl, ap, sym, length-append}
use Rattle.std.specs.Prelude.{count_by}
use Rattle.std.specs.List.{flat_map}
use Rattle.std.proofs.lemmas.List.Sums.{sum_by-append}
use Rattle.reh_census.specs.declared.censuses.Judged.{Judged}
use Rattle.reh_census.specs.Copies.{in_order}
use Rattle.reh_census.specs.Counting.{Census as Counts, IsCensus, census_by, count_ensembles, count_entries, count_ledger, count_tails, judged_sum, tail_of}
use Rattle.reh_census.specs.Ledgers.{Ledger}
use Rattle.reh_census_file.specs.Values.{NamedCensus}
use Rattle.reh_picture.specs.declared.listings.Listed.{Listed}
use Rattle.reh_inputs.specs.declared.inputs.Input.{Input}
use Rattle.reh_inputs.specs.declared.inputs.Input.TheVariants.{Picture}
use Rattle.reh_inputs.specs.Gathered.{AddsUp}
use Rattle.reh_inputs.specs.Inputs.{of_census}
use Rattle.reh_inputs.specs.Renumbered.{ensembles_in, entries_in, files_of, judged_by, tails_in, with_judged}

pub IsCensus-adds : (census files : Counts) (holders : List ℕ) (ledgers others : List Ledger) (assumed : ℕ)
    → AddsUp census holders ledgers files → census.judged ≡ judged_sum (judged_by (length ledgers) assumed) files.judged
    → IsCensus files holders others → IsCensus census holders (ledgers ++ others)
IsCensus-adds census files holders ledgers others assumed adds judged counts = record {
  entries = λ test.
      adds.entries test
      ∙ ap (λ n. count_entries holders ledgers test + n) (counts.entries test)
      ∙ sym (sum_by-append (count_ledger holders test) ledgers others);
  tails = λ test.
      adds.tails test
      ∙ ap (λ n. count_tails ledgers test + n) (counts.tails test)
      ∙ sym (sum_by-append (λ g. count_by test (tail_of g)) ledgers others);
  ensembles = λ test.
      adds.ensembles test
      ∙ ap (λ n. count_ensembles ledgers test + n) (counts.ensembles test)
      ∙ sym (sum_by-append (λ g. count_by (λ f. test (in_order f.ensemble)) g.fragments) ledgers others);
  judged = ap (λ (j : Judged). j.ledgers) judged
      ∙ ap (λ n. length ledgers + n) counts.judged
      ∙ sym (length-append ledgers others);
}

-- pictures alone count nothing in files
abbrev pub pictures : List Listed → List Input
pictures ls = map (λ l. Picture l) ls

none_in : {A : Type 0} (make : NamedCensus → List A) (ls : List Listed) → flat_map (of_census make) (pictures ls) ≡ []
none_in make [] = refl
none_in make (l ∷ ls) = none_in make ls

none_judged : (judged : Judged) (ls : List Listed) → fold with_judged judged (pictures ls) ≡ judged
none_judged judged [] = refl
none_judged judged (l ∷ ls) = none_judged judged ls

pub no_files : (names : List (List ℕ)) (ls : List Listed) → files_of names (pictures ls) ≡ census_by [] [] [] (judged_by 0 0)
no_files names ls =
    λ i. census_by (none_in (entries_in names) ls i) (none_in (tails_in names) ls i) (none_in (ensembles_in names) ls i)
    (none_judged (judged_by 0 0) ls i)

pub IsCensus-none : (holders : List ℕ) → IsCensus (census_by [] [] [] (judged_by 0 0)) holders []
IsCensus-none holders = record { entries = λ test. refl; tails = λ test. refl; ensembles = λ test. refl; judged = refl }
