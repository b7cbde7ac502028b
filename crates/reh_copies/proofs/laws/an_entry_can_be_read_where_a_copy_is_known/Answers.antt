use Rattle.reh_inputs.specs.declared.ledgers.Reading.TheVariants as reading
use Rattle.reh_inputs.specs.Gathered.{reading_of}
use Rattle.reh_copies.proofs.ReadableLaws.{IsMetadata-among, IsTold-closed, IsTold-sure, readable-known}
use Rattle.reh_copies.proofs.ShownLaws.{IsAlike-read}
use Rattle.reh_copies.proofs.laws.an_entry_can_be_read_where_a_copy_is_known.Goals as goal

pub returns-clause-closed : goal.returns-clause-closed
returns-clause-closed c =
    λ bytes s l read none g f fragment entry among closed there.
    let alike = IsAlike-read bytes s l read in
    readable-known s l alike none reading.All g (IsMetadata-among s l alike g among) (IsTold-closed l g closed) f fragment
    there entry

pub returns-clause-told : goal.returns-clause-told
returns-clause-told c =
    λ bytes s l read none strict g f fragment entry among sure there.
    let alike = IsAlike-read bytes s l read in
    readable-known s l alike none (reading_of strict) g (IsMetadata-among s l alike g among) (IsTold-sure strict l g sure) f
    fragment there entry
