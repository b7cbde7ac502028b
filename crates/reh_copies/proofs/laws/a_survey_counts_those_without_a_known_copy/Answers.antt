use Rattle.std.proofs.Common.{◌≡◌, ℕ, ◌+◌, sym, ◌∙◌, arith}
use Rattle.reh_inputs.specs.declared.ledgers.Reading.TheVariants as reading
use Rattle.reh_inputs.specs.Gathered.{reading_of}
use Rattle.reh_copies.specs.Alone.{has_no_copy}
use Rattle.reh_copies.proofs.LostLaws.{lost-closed, lost-picture, lost-stop}
use Rattle.reh_copies.proofs.ReadableLaws.{IsMetadata-among, IsTold-closed, IsTold-sure}
use Rattle.reh_copies.proofs.ShownLaws.{IsAlike-read}
use Rattle.reh_copies.proofs.laws.a_survey_counts_those_without_a_known_copy.Goals as goal

pub returns-clause-closed : goal.returns-clause-closed
returns-clause-closed c =
    λ bytes s l read none g f fragment among closed there.
    let alike = IsAlike-read bytes s l read in
    lost-closed s l alike none reading.All g (IsMetadata-among s l alike g among) (IsTold-closed l g closed) closed f
    fragment there

pub returns-clause-told : goal.returns-clause-told
returns-clause-told c =
    λ bytes s l read none strict g f fragment stop among sure there is.
    let alike = IsAlike-read bytes s l read in
    lost-stop s l alike none (reading_of strict) g (IsMetadata-among s l alike g among) (IsTold-sure strict l g sure) f
    fragment stop there is

more_none : (n : ℕ) → n + 0 ≡ n
more_none n = omega arith

-- no census file adds to the picture's own counts
pub returns-clause-picture : goal.returns-clause-picture
returns-clause-picture c =
    λ bytes s l read none closed gathered gathers.
    lost-picture s l (IsAlike-read bytes s l read) none closed
    ∙ sym (gathers.counts.entries has_no_copy ∙ more_none _)
