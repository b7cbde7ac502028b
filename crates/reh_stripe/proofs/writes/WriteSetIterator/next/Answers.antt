-- Each call gives the index of the next rank, so that one index less is left.
use Rattle.std.proofs.Common.{◌≡◌, ◌+◌, List, ℕ, ◌∷◌, map, length, sym, ◌∙◌, ap, arith}
use Rattle.reh_model.specs.Striping.{index_at, range}
use Rattle.reh_model.proofs.StripingLaws.{map-index_at-step}
use Rattle.reh_stripe.proofs.writes.WriteSetIterator.next.Goals as goal

pub returns-clause-steps : goal.returns-clause-steps
returns-clause-steps c =
    let w = c.self.inside in
    sym c.self.view_is ∙ map-index_at-step w.start w.size w.rank w.quorum (omega arith)
    ∙ ap (λ (index : ℕ). index ∷ map (index_at w.start w.size) (range (w.rank + 1) w.quorum))
    (sym c.wrapped-index.ensures)

pub returns-clause-goes : goal.returns-clause-goes
returns-clause-goes c =
    let w = c.self.inside in
    let steps : c.args.self.now
    ≡ index_at w.start w.size w.rank ∷ map (index_at w.start w.size) (range (w.rank + 1) w.quorum) =
    sym c.self.view_is ∙ map-index_at-step w.start w.size w.rank w.quorum (omega arith) in
    let lengths = ap (λ (xs : List ℕ). length xs) steps in
    record { on = λ _. (tt, tt, omega (arith, lengths)); keeps = tt; rests = λ _. tt }
