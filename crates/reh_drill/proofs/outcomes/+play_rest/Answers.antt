use Rattle.std.proofs.Common.{map, Vec, Global, List, ℕ, ◌∷◌, []}
use Rattle.std.proofs.lemmas.List.{map-append}
use Rattle.reh_drill.proofs.Started.{one_played}
use Rattle.reh_drill.proofs.Drilled.{played_push}
use Rattle.reh_drill.proofs.outcomes.+play_rest.Goals as goal

pub returns-clause-played : goal.returns-clause-played
returns-clause-played g t c =
    let list : Vec ℕ Global → List ℕ = λ s. s.items in
    rw (
      c.push_reserved.ensures.items,
      c.in-Some.ensures.items,
      c.in-Some-pop.ensures.items,
      map-append list c.pop-2.new.self.items (c.in-Some-pop.script ∷ []),
    )
    (played_push c.args.names.now c.pop.new.self.items (map list c.pop-2.new.self.items) c.play_rest.new.outcomes.items
    c.in-Some.seat c.in-Some-pop.script.items c.finish.result c.play_rest.ensures.played
    (one_played c.args.names.now c.in-Some.seat c.in-Some-pop.script.items c.start-started.result c.finish.result
    c.start-started.ensures.ok c.start-started.ensures.err c.finish.ensures))
