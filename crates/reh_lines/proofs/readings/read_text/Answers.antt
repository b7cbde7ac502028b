use Rattle.std.proofs.Common.{List, ℕ, subst, sym, rules, arith}
use Rattle.std.proofs.lemmas.Grind.{common_steps}
use Rattle.std.proofs.KnownBytes.{Consumes-trans}
use Rattle.std.specs.Io.KnownBytes.{Consumes}
use Rattle.reh_lines.proofs.ReadingOn.{given_front, read_enough}
use Rattle.reh_lines.proofs.readings.read_text.Goals as goal

pub loop-block-preserved : goal.loop-block-preserved
loop-block-preserved g c = record {
  given = subst (λ (bytes : List ℕ). Consumes (g.R.TextIn.remaining c.args.reader.now) (g.R.TextIn.remaining c.take.new.self) bytes)
      (sym c.in_ok-extend_from_slice.ensures.items)
      (Consumes-trans _ _ _ _ _ c.loop-block.invariant.given
      (given_front _ _ _ _ _ c.in-Ok.ensures.bound.0 c.in-Ok.ensures.bytes.0));
  fine = search rules;
  calls = grind (arith, common_steps);
  few = grind (arith, common_steps);
}

pub returns-clause-reads : goal.returns-clause-reads
returns-clause-reads g c = read_enough _ _ _ _ c.loop-block.invariant.given (omega arith)
