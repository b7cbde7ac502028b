use Rattle.std.proofs.Common.{◌∙◌, Bool, List, ap}
use Rattle.reh_census.specs.Bookies.{bookies_of, is_flagged}
use Rattle.reh_census.specs.Tails.{unplaced}
use Rattle.reh_rules.proofs.places.unplaced_now.Goals as goal

pub returns : goal.returns
returns c =
    c.unplaced.ensures
    ∙ ap (λ (flags : List Bool). unplaced (bookies_of c.args.bookies.now) (is_flagged flags) c.args.members.now) c.requires
