-- What census files count, with the numbers that their bookies have in the cluster.
use Rattle.std.specs.Prelude.{ℕ, List, map, fold}
use Rattle.std.specs.List.{flat_map}
use Rattle.reh_census.specs.declared.censuses.CountedEnsemble.{CountedEnsemble}
use Rattle.reh_census.specs.declared.censuses.CountedTail.{CountedTail}
use Rattle.reh_census.specs.declared.censuses.Judged.{Judged}
use Rattle.reh_census.specs.declared.censuses.Tail.{Tail}
use Rattle.reh_census.specs.declared.classes.Class.{Class}
use Rattle.reh_census.specs.declared.classes.Counted.{Counted}
use Rattle.reh_census.specs.Counting.{Census as Counts, census_by, judged_sum}
use Rattle.reh_census_file.specs.Values.{NamedCensus}
use Rattle.reh_inputs.specs.declared.inputs.Input.{Input}
use Rattle.reh_inputs.specs.declared.inputs.Input.TheVariants.{Picture, Census}
use Rattle.reh_inputs.specs.Inputs.{of_census}
use Rattle.reh_inputs.specs.Ledgers.{number_in}
use Rattle.reh_inputs.specs.United.{number_of}

-- bookies, by these numbers
abbrev pub renumbered : List ℕ → List ℕ → List ℕ
renumbered numbers bookies = map (number_in numbers) bookies

abbrev pub class_by : List ℕ → Class → Class
class_by numbers class = record {
  known = renumbered numbers class.known;
  untold = renumbered numbers class.untold;
  ack_quorum = class.ack_quorum;
  write_quorum = class.write_quorum;
}

abbrev pub tail_by : List ℕ → Tail → Tail
tail_by numbers tail = record {
  size = tail.size;
  write_quorum = tail.write_quorum;
  ack_quorum = tail.ack_quorum;
  is_open = tail.is_open;
  ensemble = renumbered numbers tail.ensemble;
}

-- the same counts, by these numbers
abbrev pub counted_by : List ℕ → Counted → Counted
counted_by numbers c = record { class = class_by numbers c.class; count = c.count }

abbrev pub counted_tail_by : List ℕ → CountedTail → CountedTail
counted_tail_by numbers t = record { tail = tail_by numbers t.tail; count = t.count }

abbrev pub counted_ensemble_by : List ℕ → CountedEnsemble → CountedEnsemble
counted_ensemble_by numbers e = record { members = renumbered numbers e.members; count = e.count }

-- the numbers of a census's bookies in a cluster of these names
abbrev pub numbers_in : List (List ℕ) → NamedCensus → List ℕ
numbers_in names c = map (number_of names) c.names

-- what a census counts, by these numbers
abbrev pub entries_in : List (List ℕ) → NamedCensus → List Counted
entries_in names c = map (counted_by (numbers_in names c)) c.census.entries

abbrev pub tails_in : List (List ℕ) → NamedCensus → List CountedTail
tails_in names c = map (counted_tail_by (numbers_in names c)) c.census.tails

abbrev pub ensembles_in : List (List ℕ) → NamedCensus → List CountedEnsemble
ensembles_in names c = map (counted_ensemble_by (numbers_in names c)) c.census.ensembles

abbrev pub judged_by : ℕ → ℕ → Judged
judged_by ledgers assumed = record { ledgers = ledgers; assumed = assumed; unread = 0; missing = 0 }

-- with what a census file judged
abbrev pub with_judged : Judged → Input → Judged
with_judged judged (Picture l) = judged
with_judged judged (Census c) = judged_sum judged c.census.judged

-- what the census files among inputs count
abbrev pub files_of : List (List ℕ) → List Input → Counts
files_of names inputs =
    census_by (flat_map (of_census (entries_in names)) inputs) (flat_map (of_census (tails_in names)) inputs)
    (flat_map (of_census (ensembles_in names)) inputs) (fold with_judged (judged_by 0 0) inputs)
