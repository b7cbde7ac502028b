-- The lines that a draft has told.
use Rattle.std.specs.Prelude.{◌≡◌, ℕ, List, [], ◌∷◌, ◌++◌, length, map, Option, None, Some, IfSome}
use Rattle.std.specs.List.{zip}
use Rattle.reh_census.specs.declared.censuses.Judged.{Judged}
use Rattle.reh_census_file.specs.Canonical.{AreBookies, AreEnsembles, AreEntries, AreTails, IsJudged}
use Rattle.reh_census_file.specs.Drafts.{Draft}
use Rattle.reh_census_file.specs.Texts.{bookie_words, judged_words, entries_words, tail_words, ensemble_words}

abbrev pub judged_lines : Option Judged → List (List (List ℕ))
judged_lines None = []
judged_lines (Some judged) = judged_words judged ∷ []

abbrev pub draft_words : Draft → List (List (List ℕ))
draft_words d =
    map (λ named. bookie_words d.racks named.0 named.1) (zip d.names d.bookies) ++ (judged_lines d.judged
    ++ (map (entries_words d.names) d.entries ++ (map (tail_words d.names) d.tails ++ map (ensemble_words d.names) d.ensembles)))

-- what comes after the line of ledgers
pub record AreEarly (d : Draft) : Type 0 where
  pub entries : d.entries ≡ []
  pub tails : d.tails ≡ []
  pub ensembles : d.ensembles ≡ []

-- it is canonical so far
pub record IsFine (d : Draft) : Type 0 where
  pub bookies : AreBookies d.names d.racks d.bookies
  pub judged : IfSome d.judged IsJudged
  pub entries : AreEntries d.bookies d.entries
  pub tails : AreTails (length d.names) d.tails
  pub ensembles : AreEnsembles (length d.names) d.ensembles
  pub early : d.judged ≡ None → AreEarly d
