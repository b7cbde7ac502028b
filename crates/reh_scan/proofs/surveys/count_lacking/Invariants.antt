-- How many entries of the words that are passed no row has, and the index of rank 0 of the next word's first entry.
use Rattle.std.proofs.Common.{◌≡◌, ◌+◌, ◌*◌, ◌/◌, ◌%◌, not}
use Rattle.std.specs.List.{list_any}
use Rattle.reh_model.specs.Striping.{write_set}
use Rattle.reh_scan.specs.Sources.{is_set_at}
use Rattle.reh_scan.proofs.SurveyLaws.{counted_below}
use Rattle.reh_scan.proofs.surveys.count_lacking.Given as goal

abbrev pub invariant-loop-four : goal.invariant-loop-four
invariant-loop-four l = record {
  counted : l.count
      ≡ counted_below
      (λ e. not (list_any (is_set_at l.rows e) (write_set e l.metadata.size l.metadata.write_quorum))) l.first l.last
      (l.first / 64 + 4 * l.four);
  start : l.start ≡ (64 * (l.first / 64 + 4 * l.four)) % l.metadata.size;
}
