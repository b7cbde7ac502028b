-- A line of a report.
use Rattle.std.specs.Prelude.{ℕ, List, [], ◌++◌, Option, None, Some, codes}
use Rattle.reh_model.specs.Cluster.{Cluster}
use Rattle.reh_commands.specs.Texts.{bookie_line}

-- the line of the b-th bookie, if there is one
abbrev pub line_at : Cluster → ℕ → Option (List ℕ) → List ℕ
line_at s b None = []
line_at s b (Some name) = bookie_line s b name ++ codes "\n"
