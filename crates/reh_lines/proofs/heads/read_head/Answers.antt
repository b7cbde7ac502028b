use Rattle.std.proofs.Common.{◌≡◌, inr, ℕ, ◌<◌, ◌≤◌, List, length, take, drop, Option, subst, sym, arith}
use Rattle.std.proofs.lemmas.Grind.{common_steps}
use Rattle.std.specs.Io.KnownBytes.{Consumes}
use Rattle.reh_lines.specs.Heads.{IsPicture, IsUntoldUntil}
use Rattle.reh_lines.specs.Readings.{IsQuiet}
use Rattle.reh_lines.specs.declared.heads.TheConstants.{MAX_HEAD}
use Rattle.reh_lines.proofs.heads.read_head.Goals as goal

-- what was read before this call told nothing
untold_until : (left_old left left_before : Option (List ℕ)) (input : List ℕ) (line : ℕ)
    → Consumes left_old left input → line ≤ length input → IsPicture (take line input) → IsQuiet (drop line input)
    → length input < MAX_HEAD → left_before ≡ left → IsUntoldUntil left_old left_before
untold_until left_old left left_before input line given within picture quiet few last =
    subst (IsUntoldUntil left_old) (sym last) (input, given, (line, within, picture, quiet), few)

pub returns-in_default-clause-until : goal.returns-in_default-clause-until
returns-in_default-clause-until g c =
    inr (untold_until _ _ _ c.loop-block.input.items c.loop-block.line c.loop-block.invariant.given
    c.loop-block.invariant.within c.loop-block.invariant.picture c.loop-block.invariant.quiet
    (omega (arith, c.loop-block-test.true)) c.take.ensures.last)

pub returns-then-count-eq0-clause-until : goal.returns-then-count-eq0-clause-until
returns-then-count-eq0-clause-until g c =
    inr (untold_until _ _ _ c.loop-block.input.items c.loop-block.line c.loop-block.invariant.given
    c.loop-block.invariant.within c.loop-block.invariant.picture c.loop-block.invariant.quiet
    (omega (arith, c.loop-block-test.true)) c.take.ensures.last)

pub loop-block-preserved : goal.loop-block-preserved
loop-block-preserved g c =
    record {
      given = grind (arith, common_steps);
      fine = grind (arith, common_steps);
      picture = grind (arith, common_steps);
      within = grind (arith, common_steps);
      quiet = grind (arith, common_steps);
      few = grind (arith, common_steps);
      until = inr (untold_until _ _ _ c.loop-block.input.items c.loop-block.line c.loop-block.invariant.given
          c.loop-block.invariant.within c.loop-block.invariant.picture c.loop-block.invariant.quiet
          (omega (arith, c.loop-block-test.true)) c.take.ensures.last);
      calls = grind (arith, common_steps);
    }
