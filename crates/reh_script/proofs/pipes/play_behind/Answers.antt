use Rattle.reh_script.proofs.Ends.{behind_unopened, behind_played, behind_out, front_of, piped_well}
use Rattle.reh_script.proofs.Transcripts.{plays_book}
use Rattle.reh_script.proofs.pipes.play_behind.Goals as goal

pub returns-in_err-rehearsal-clause-plays : goal.returns-in_err-rehearsal-clause-plays
returns-in_err-rehearsal-clause-plays g c =
    let same = front_of c.args.percent.picture c.args.percent.script c.args.input.items c.split_off.new.self.items
    c.requires.order c.requires.within c.in_ok-script.ensures.items in
    behind_unopened _ c.in_err-rehearsal.field-0.0 _ _ _ _ _
    (rw (c.deref.ensures.value, same) at c.in_err-rehearsal.ensures) c.from_residual-in_err-rehearsal.ensures.1
    c.requires.reads

pub returns-clause-plays : goal.returns-clause-plays
returns-clause-plays g c =
    let same = front_of c.args.percent.picture c.args.percent.script c.args.input.items c.split_off.new.self.items
    c.requires.order c.requires.within c.in_ok-script.ensures.items in
    behind_played _ c.in_ok-rehearsal.rehearsal c.play_on-end.result _ _ _ _ c.play_on-end.new.counter.book _ _
    (rw (c.deref.ensures.value, same) at c.in_ok-rehearsal.ensures) c.pipe_end.ensures.end
    (plays_book _ _ _ _ _ _ _ _ _ _ _ (rw c.in_ok-script.ensures.tail at c.play_on-end.ensures.plays))

pub returns-clause-prompt : goal.returns-clause-prompt
returns-clause-prompt g c =
    let same = front_of c.args.percent.picture c.args.percent.script c.args.input.items c.split_off.new.self.items
    c.requires.order c.requires.within c.in_ok-script.ensures.items in
    behind_out _ c.in_ok-rehearsal.rehearsal _ _ _ _ _ (rw (c.deref.ensures.value, same) at c.in_ok-rehearsal.ensures)
    (rw c.in_ok-script.ensures.tail at c.play_on-end.ensures.prompt)

pub returns-clause-ended : goal.returns-clause-ended
returns-clause-ended g c = piped_well _ c.play_on-end.result _ c.pipe_end.ensures.end c.play_on-end.ensures.ended

pub returns-clause-finished : goal.returns-clause-finished
returns-clause-finished g c = piped_well _ c.play_on-end.result _ c.pipe_end.ensures.end c.play_on-end.ensures.finished

pub returns-clause-seen : goal.returns-clause-seen
returns-clause-seen g c = piped_well _ c.play_on-end.result _ c.pipe_end.ensures.end c.play_on-end.ensures.seen
