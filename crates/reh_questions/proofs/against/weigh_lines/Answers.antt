-- One line more.
use Rattle.reh_questions.proofs.against.weigh_lines.Goals as goal

pub loop-number-preserved : goal.loop-number-preserved
loop-number-preserved c = λ names strict ids ledgers was.
    c.in_ok-weigh_line.ensures names strict ids ledgers (c.loop-number.invariant names strict ids ledgers was)
