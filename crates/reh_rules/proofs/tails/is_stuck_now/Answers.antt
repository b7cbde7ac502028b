use Rattle.std.proofs.Common.{◌∙◌, Bool, List, ap, sym}
use Rattle.reh_census.specs.Bookies.{bookies_of, is_flagged, writable}
use Rattle.reh_census.specs.Tails.{is_stuck}
use Rattle.reh_rules.proofs.tails.is_stuck_now.Goals as goal

pub is_stuck-requires-clause-writable : goal.is_stuck-requires-clause-writable
is_stuck-requires-clause-writable c =
    c.requires.writable
    ∙ ap (λ (flags : List Bool). writable (bookies_of c.args.bookies.now) (is_flagged flags)) (sym c.requires.none)

pub returns : goal.returns
returns c =
    c.is_stuck.ensures
    ∙ ap (λ (flags : List Bool). is_stuck (bookies_of c.args.bookies.now) (is_flagged flags) c.args.tail.now) c.requires.none
