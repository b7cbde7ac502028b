-- All lines were read once more.
use Rattle.std.proofs.Common.{[]}
use Rattle.reh_inventory_against.proofs.RereadLaws.{weighs-first}
use Rattle.reh_questions.proofs.against.weigh_reader.Goals as goal

pub returns-then-is_of : goal.returns-then-is_of
returns-then-is_of c = λ before ledgers was.
    let by = c.args.by.now in
    let all = c.in_ok-weigh_lines.ensures by.names.now by.is_strict before ledgers
    (record {
      first = c.in_ok-again.ensures.0;
      lines = [];
      weighing = weighs-first by.stop by.names.now by.is_strict before ledgers c.in_ok-again.ensures.0
          c.in_ok-again.again c.args.worst.now c.in_ok-again.ensures.1 was;
    }) in
    c.is_of.ensures c.if-is_of.true by.stop by.names.now by.is_strict before ledgers all.first all.lines _ all.weighing
