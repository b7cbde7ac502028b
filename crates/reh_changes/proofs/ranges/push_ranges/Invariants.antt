-- The ranges that have ended so far are there, and the open one begins before the next entry.
use Rattle.std.proofs.Common.{◌≡◌, ◌+◌, ◌*◌, ◌-◌, ◌<◌, ◌++◌, string_bytes}
use Rattle.std.specs.Prelude.{None}
use Rattle.std.specs.Option.{ForSome}
use Rattle.reh_model.specs.Contents.{is_in_word}
use Rattle.reh_changes.proofs.RangeLaws.{words_on}
use Rattle.reh_changes.proofs.ranges.push_ranges.Given as goal

abbrev pub invariant-loop-i : goal.invariant-loop-i
invariant-loop-i l = record {
  begun : ForSome l.since (λ first. first < 64 * l.number + l.i);
  text :
      string_bytes l.text ++ words_on l.sign (is_in_word l.number l.bits) l.since (64 * l.number + l.i) (64 - l.i)
      ≡ string_bytes l.fn.text ++ words_on l.sign (is_in_word l.number l.bits) None (64 * l.number) 64;
}
