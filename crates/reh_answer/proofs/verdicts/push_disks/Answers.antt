use Rattle.reh_answer.proofs.verdicts.push_disks.Goals as goal

pub returns : goal.returns
returns c = rw (← c.has-has.ensures) c.write.ensures.bytes
