use Rattle.reh_inputs.specs.declared.ledgers.Reading.TheVariants as reading
use Rattle.reh_inputs.specs.Gathered.{reading_of}
use Rattle.reh_copies.proofs.ReadableLaws.{IsMetadata-among, IsTold-closed, IsTold-sure, held-known}
use Rattle.reh_copies.proofs.ShownLaws.{IsAlike-read}
use Rattle.reh_copies.proofs.laws.as_many_copies_are_known_as_members_hold_the_entry.Goals as goal

pub returns-clause-closed : goal.returns-clause-closed
returns-clause-closed c =
    λ bytes s l read none g f fragment entry among closed there.
    let alike = IsAlike-read bytes s l read in
    held-known s l alike none reading.All g (IsMetadata-among s l alike g among) (IsTold-closed l g closed) f fragment there
    entry

pub returns-clause-told : goal.returns-clause-told
returns-clause-told c =
    λ bytes s l read none strict g f fragment entry among sure there.
    let alike = IsAlike-read bytes s l read in
    held-known s l alike none (reading_of strict) g (IsMetadata-among s l alike g among) (IsTold-sure strict l g sure) f
    fragment there entry
