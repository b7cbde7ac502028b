use Rattle.std.proofs.Common.{◌≡◌, ◌∙◌, ◌++◌, ◌∷◌, [], ap, refl, get_or}
use Rattle.std.proofs.lemmas.List.{get_or_default}
use Rattle.reh_waves.specs.declared.waves.Round.{Round}
use Rattle.reh_waves.proofs.waves.join.Goals as goal

pub returns : goal.returns
returns c =
    let was : (d : Round) → c.index_mut.result.now ≡ get_or c.args.rounds.now.items c.args.number d =
    λ d. c.index_mut.ensures.value ∙ get_or_default c.args.rounds.now.items c.args.number c.index_mut.result.now d c.requires in
    record {
      round = record { rack = c.index_mut.result.now.rack; bookies = c.push.new.self };
      is = refl;
      rack_is = λ d. ap (λ (r : Round). r.rack) (was d);
      bookies_are = λ d.
          c.in_ok-push.ensures.items ∙ ap (λ (r : Round). r.bookies.items ++ c.args.bookie ∷ []) (was d);
    }
