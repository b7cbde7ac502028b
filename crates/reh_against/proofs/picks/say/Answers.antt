-- It is the ledger at its place.
use Rattle.std.proofs.Common.{◌∙◌, ap, sym, map, Some}
use Rattle.reh_against.specs.Worst.{alone}
use Rattle.reh_against.proofs.FoundLaws.{at-map}
use Rattle.reh_against.proofs.picks.say.Goals as goal

pub returns : goal.returns
returns c =
    c.in_ok-against.ensures (map alone c.args.ledgers.now)
    (at-map alone c.args.ledgers.now c.args.found.now.place c.index-ledgers-found.result c.requires
    c.index-ledgers-found.is
    ∙ ap Some (sym c.from_ref.ensures.value))
