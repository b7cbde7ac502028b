-- What there is to read for the lines of a survey.
use Rattle.std.specs.Prelude.{ℕ, ◌+◌, ◌-◌, ◌*◌, ◌/◌, nat_lt, if◌then◌else◌, List, map}
use Rattle.std.specs.List.{enumerate_from, flat_map}
use Rattle.std.specs.Option.{option_map_or}
use Rattle.reh_model.specs.Metadata.{Fragment, Metadata, stop_of}
use Rattle.reh_model.specs.Cluster.{Cluster}

-- how many words of 64 entries those from the first up to, not including, the stop lie in
abbrev pub words_between : ℕ → ℕ → ℕ
words_between first stop = if nat_lt first stop then ((stop - 1) / 64 + 1) - first / 64 else 0

-- for each member its words of the fragment of that number, and one more, for its row is looked up
abbrev pub cost_of : Metadata → ℕ → Fragment → ℕ
cost_of m f fragment = m.size * (option_map_or (words_between fragment.first) (stop_of m f) 0 + 1)

abbrev pub costs_of : Metadata → List ℕ
costs_of m = map (λ p. cost_of m p.0 p.1) (enumerate_from 0 m.fragments)

-- for all fragments, in picture order
abbrev pub survey_costs : Cluster → List ℕ
survey_costs s = flat_map (λ g. costs_of g.metadata) s.parts.ledgers
