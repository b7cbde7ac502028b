-- The words that are left out have none of the fragment's entries.
use Rattle.std.proofs.Common.{◌∙◌, ◌-◌, ◌*◌, ◌/◌, ap, ℕ, List, length, min}
use Rattle.reh_held.specs.Rows.{is_set}
use Rattle.reh_scan.proofs.JobLaws.{is_set-copied}
use Rattle.reh_scan.proofs.jobs.copy_words.Goals as goal

pub returns : goal.returns
returns c = λ entry from below.
    ap (λ (words : List ℕ). is_set words (entry - 64 * (c.args.first / 64))) c.in_ok-items.ensures.items
    ∙ is_set-copied c.args.row.now c.args.first c.args.stop c.min-begin.result c.min-end.result entry
    (c.min-end.ensures ∙ ap (λ n. min (length c.args.row.now) n) c.div_ceil.ensures) c.min-begin.ensures from below
