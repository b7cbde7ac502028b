use Rattle.std.proofs.Common.{◌∙◌, ◌++◌, ◌∷◌, [], ℕ, List, ap, refl}
use Rattle.reh_waves.proofs.waves.begin.Goals as goal

pub returns : goal.returns
returns c = record {
  round = record { rack = c.args.rack; bookies = c.push.new.self };
  is = c.in_ok-push-2.ensures.items;
  rack_is = refl;
  bookies_are = c.in_ok-push.ensures.items ∙ ap (λ (xs : List ℕ). xs ++ c.args.bookie ∷ []) c.new-bookies.ensures.items;
}
