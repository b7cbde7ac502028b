-- What can't be read any more: for each fragment, how many members are not registered, and how many entries nobody
-- registered holds.
use Rattle.std.specs.Prelude.{ℕ, not, List, map, Option, slice_get, count_by}
use Rattle.std.specs.List.{enumerate_from, flat_map}
use Rattle.std.specs.Option.{option_and_then, option_map}
use Rattle.reh_types.specs.declared.surveys.SurveyLine.{SurveyLine}
use Rattle.reh_model.specs.Striping.{range}
use Rattle.reh_model.specs.Metadata.{Fragment, stop_of}
use Rattle.reh_model.specs.Cluster.{Cluster, Ledger, is_up, is_readable, ledger_at}

-- how many members of the fragment are not registered
abbrev pub down_of : Cluster → Fragment → ℕ
down_of s fragment = count_by (λ b. not (is_up s b)) fragment.ensemble

-- how many entries of the ledger's fragment of that number can't be read, none where it has no stop
abbrev pub lost_of : Cluster → Ledger → ℕ → Fragment → Option ℕ
lost_of s g f fragment =
    option_map (λ stop. count_by (λ e. not (is_readable s g fragment e)) (range fragment.first stop))
    (stop_of g.metadata f)

abbrev pub line_of : Cluster → Ledger → ℕ → Fragment → SurveyLine
line_of s g f fragment =
    record { ledger = g.id; fragment = f; down = down_of s fragment; lost = lost_of s g f fragment }

-- the line of the fragment of that number, if the ledger of that id has one
abbrev pub line_at : Cluster → ℕ → ℕ → Option SurveyLine
line_at s l f = option_and_then (λ g. option_map (line_of s g f) (slice_get g.metadata.fragments f)) (ledger_at s l)

-- the lines of a ledger's fragments
abbrev pub lines_of : Cluster → Ledger → List SurveyLine
lines_of s g = map (λ p. line_of s g p.0 p.1) (enumerate_from 0 g.metadata.fragments)

-- the lines of all fragments, in picture order
abbrev pub survey : Cluster → List SurveyLine
survey s = flat_map (lines_of s) s.parts.ledgers
