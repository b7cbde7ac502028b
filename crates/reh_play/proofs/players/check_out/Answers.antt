use Rattle.std.proofs.Common.{arith, length, ◌<◌}
use Rattle.std.proofs.lemmas.Bool.Decides.{nat_tests}
use Rattle.reh_types.specs.declared.limits.TheConstants.{MAX_HAND}
use Rattle.reh_play.proofs.Turns.{begins_issued}
use Rattle.reh_play.proofs.players.check_out.Goals as goal

pub returns-in-Err-scan-clause-err : goal.returns-in-Err-scan-clause-err
returns-in-Err-scan-clause-err g c =
    let room : length c.args.hand.now < MAX_HAND =
    grind (arith, nat_tests, c.len.ensures, c.if-len-ge-MAX_HAND.false) in
    rw c.in-Err-scan.ensures.err
    (begins_issued _ _ _ _ _ _ _ c.args.aim c.in-Ok.ticket room c.in-Ok.ensures.goes c.in-Ok.ensures.seat
    c.in-Ok.ensures.aim c.in-Ok.ensures.ticket)
