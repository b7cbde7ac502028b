use Rattle.std.proofs.Common.{◌∙◌, ap, Bool, List}
use Rattle.reh_census.specs.Bookies.{bookies_of, is_flagged}
use Rattle.reh_census.specs.Tails.{lacks_racks}
use Rattle.reh_answer.proofs.unasked.unasked_of.Goals as goal

pub returns : goal.returns
returns c =
    λ i. record {
      racks = c.racks_unasked.ensures i;
      racks_now =
          (c.lacks_racks.ensures
          ∙ ap (λ (flags : List Bool). lacks_racks (bookies_of c.args.bookies.now) c.args.question.now (is_flagged flags)) c.requires) i;
      ensemble_now = c.lacks_ensemble_now.ensures i;
      writers = c.writers_unasked.ensures i;
    }
