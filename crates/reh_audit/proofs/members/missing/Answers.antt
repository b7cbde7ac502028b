-- The ledger that was found in a well-formed state names only bookies that fit a set.
use Rattle.std.proofs.Common.{◌∙◌, ap, sym}
use Rattle.std.specs.Option.{option_copied}
use Rattle.reh_audit.proofs.MemberLaws.{HasBookies-found}
use Rattle.reh_audit.proofs.members.missing.Goals as goal

pub missing_of-requires : goal.missing_of-requires
missing_of-requires c = HasBookies-found c.args.state.now c.args.ledger c.unwrap-found.result.now c.assert_well_formed.ensures (sym c.ledger.ensures ∙ ap option_copied c.unwrap-found.ensures)
