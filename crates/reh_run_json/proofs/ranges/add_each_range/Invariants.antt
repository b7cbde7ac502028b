-- The ranges that have ended so far are there, and the open one begins before the next entry.
use Rattle.std.proofs.Common.{◌+◌, ◌*◌, ◌-◌, ◌<◌}
use Rattle.std.specs.Prelude.{None}
use Rattle.std.specs.Option.{ForSome}
use Rattle.reh_model.specs.Contents.{is_in_word}
use Rattle.reh_run_json.proofs.TokenLaws.{Leaves}
use Rattle.reh_run_json.proofs.RangeLaws.{ranges_from}
use Rattle.reh_run_json.proofs.ranges.add_each_range.Given as goal

abbrev pub invariant-loop-i : goal.invariant-loop-i
invariant-loop-i l = record {
  begun : ForSome l.since (λ first. first < 64 * l.number + l.i);
  added :
      Leaves (ranges_from (is_in_word l.number l.bits) l.since (64 * l.number + l.i) (64 - l.i))
      (ranges_from (is_in_word l.number l.bits) None (64 * l.number) 64) l.fn.json l.json;
}
