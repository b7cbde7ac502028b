use Rattle.std.proofs.Common.{◌∙◌, Bool, List, ap}
use Rattle.reh_census.specs.Bookies.{bookies_of, is_flagged, writable}
use Rattle.reh_census.specs.Tails.{lacks_racks}
use Rattle.reh_rules.proofs.writers.room_of.Goals as goal

pub returns : goal.returns
returns c =
    λ i. record {
      writable_now =
          (c.count_writable.ensures
          ∙ ap (λ (flags : List Bool). writable (bookies_of c.args.bookies.now) (is_flagged flags)) c.requires)
          i;
      writable_then = c.count_writable-2.ensures i;
      lacks_racks_now =
          (c.lacks_racks.ensures
          ∙ ap (λ (flags : List Bool). lacks_racks (bookies_of c.args.bookies.now) c.args.question.now (is_flagged flags)) c.requires)
          i;
      lacks_racks_then = c.lacks_racks-2.ensures i;
    }
