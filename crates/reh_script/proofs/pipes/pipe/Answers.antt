use Rattle.reh_script.proofs.Piped.{pipes_none, pipes_ended, pipes_alone, pipes_unread, alone_has_none}
use Rattle.std.proofs.Common.{◌≡◌, true}
use Rattle.reh_script.proofs.Piped.{alone_ended, alone_finished, out_of_head, out_ended}
use Rattle.reh_script.proofs.pipes.pipe.Goals as goal

pub returns-in_err-percent-clause-pipes : goal.returns-in_err-percent-clause-pipes
returns-in_err-percent-clause-pipes g c =
    pipes_none _ _ _ _ _ c.from_residual.ensures.1 c.in_err-percent.ensures.failed

pub returns-in_err-percent-clause-prompt : goal.returns-in_err-percent-clause-prompt
returns-in_err-percent-clause-prompt g c = out_of_head _ _ _ _ _ c.read_head.ensures.until

pub open_whole-requires : goal.open_whole-requires
open_whole-requires g c =
    rw c.deref.ensures.value
    (alone_has_none c.in_ok-percent.field-0 c.read_head.new.input.items _ _ _ c.in-Whole.is c.in_ok-percent.ensures.head)

pub returns-in-Ended-clause-pipes : goal.returns-in-Ended-clause-pipes
returns-in-Ended-clause-pipes g c =
    pipes_ended c.in_ok-percent.field-0 c.in-Ended.percent c.read_head.new.input.items _ _ _ _ _ _ _ _ c.in-Ended.is
    c.in_ok-percent.ensures.head c.play_behind.ensures.plays

pub returns-in-Ended-clause-prompt : goal.returns-in-Ended-clause-prompt
returns-in-Ended-clause-prompt g c =
    out_ended c.args.reader.now c.read_head.new.reader c.play_behind.new.reader g.R.TextIn.before
    c.in_ok-percent.field-0 c.in-Ended.percent c.read_head.new.input.items _ _ _ _ _ c.in-Ended.is
    c.in_ok-percent.ensures.head c.read_head.ensures.until c.play_behind.ensures.prompt

pub returns-in-Whole-clause-pipes : goal.returns-in-Whole-clause-pipes
returns-in-Whole-clause-pipes g c =
    pipes_alone c.in_ok-percent.field-0 c.read_head.new.input.items _ _ _ _ _ c.in-Whole.is
    c.in_ok-percent.ensures.head (rw c.deref.ensures.value at (c.open_whole.ensures.piped (g.W.TextOut.contents c.args.writer.now)))

pub returns-in-Whole-clause-prompt : goal.returns-in-Whole-clause-prompt
returns-in-Whole-clause-prompt g c = out_of_head _ _ _ _ _ c.read_head.ensures.until

pub returns-in-Whole-clause-ended : goal.returns-in-Whole-clause-ended
returns-in-Whole-clause-ended g c =
    alone_ended c.in_ok-percent.field-0 c.read_head.new.input.items (g.R.TextIn.remaining c.args.reader.now)
    (g.R.TextIn.remaining c.read_head.new.reader) (g.R.TextIn.has_failed c.read_head.new.reader) c.open_whole.result
    (g.W.TextOut.contents c.args.writer.now) c.in-Whole.is c.in_ok-percent.ensures.head
    (rw c.deref.ensures.value at (c.open_whole.ensures.piped (g.W.TextOut.contents c.args.writer.now)))

pub returns-in-Whole-clause-finished : goal.returns-in-Whole-clause-finished
returns-in-Whole-clause-finished g c =
    alone_finished c.in_ok-percent.field-0 c.read_head.new.input.items (g.R.TextIn.remaining c.args.reader.now)
    (g.R.TextIn.remaining c.read_head.new.reader) (g.R.TextIn.has_failed c.read_head.new.reader)
    (g.R.TextIn.at_end c.read_head.new.reader ≡ true) c.open_whole.result (g.W.TextOut.contents c.args.writer.now) c.in-Whole.is
    c.in_ok-percent.ensures.head c.in_ok-percent.ensures.end
    (rw c.deref.ensures.value at (c.open_whole.ensures.piped (g.W.TextOut.contents c.args.writer.now)))

pub returns-in-Failed-clause-pipes : goal.returns-in-Failed-clause-pipes
returns-in-Failed-clause-pipes g c =
    pipes_unread c.in_ok-percent.field-0 c.read_head.new.input.items _ _ _ _ c.in-Failed.is c.in_ok-percent.ensures.head

pub returns-in-Failed-clause-prompt : goal.returns-in-Failed-clause-prompt
returns-in-Failed-clause-prompt g c = out_of_head _ _ _ _ _ c.read_head.ensures.until
