-- The line reads back.
use Rattle.std.proofs.Common.{◌∙◌, Result, Ok, Err, OnOk, string_bytes}
use Rattle.std.specs.declared.alloc.AllocError.{AllocError}
use Rattle.reh_answer.proofs.ObjectLaws.{reads}
use Rattle.reh_run_json.proofs.DepthLaws.{line-depth}
use Rattle.reh_run_json.proofs.LineLaws.{from-empty}
use Rattle.reh_run_json.proofs.lines.push_line.Goals as goal

-- what follows where there was memory
on-ok : {P Q : Type 0} (r : Result (Unit {0}) AllocError) → OnOk r P → (P → Q) → OnOk r Q
on-ok (Ok u) is follows = follows is
on-ok (Err e) is follows = tt

pub returns-clause-reads_back : goal.returns-clause-reads_back
returns-clause-reads_back c = on-ok c.write.result c.write.ensures.bytes λ ends.
    let line = string_bytes c.in_ok-object.object in
    record {
      line = line;
      ends = ends;
      reads =
          reads _ line (line-depth c.args.state.now c.args.number _ c.args.answer.now c.args.changes.now)
          (c.in_ok-object.ensures.reads_back ∙ from-empty _ _ _ c.new-json.ensures.tokens c.in_ok-add_line.ensures);
    }
