-- Tables of counts.
use Rattle.std.specs.Prelude.{ℕ, ◌==◌, ◌&&◌, ◌||◌, Bool, cond, List, sum_by}
use Rattle.reh_tally.specs.declared.lines.Line.{Line}

-- how many entries have masks that pass a test
abbrev pub count_lines : List Line → (ℕ → ℕ → Bool) → ℕ
count_lines lines test = sum_by (λ line. cond (test line.known line.untold) line.count 0) lines

-- whether entries with these masks may be counted in the line
abbrev pub is_for : Line → ℕ → ℕ → Bool
is_for line known untold = (line.count == 0) || ((line.known == known) && (line.untold == untold))
