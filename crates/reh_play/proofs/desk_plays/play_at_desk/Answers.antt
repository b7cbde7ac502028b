use Rattle.std.proofs.Common.{None, refl}
use Rattle.reh_play.specs.Players.{setting}
use Rattle.reh_play.proofs.Sitting.{sits_at_desk, sits_without}
use Rattle.reh_play.proofs.desk_plays.play_at_desk.Goals as goal

pub returns-in_err-hand-clause-played : goal.returns-in_err-hand-clause-played
returns-in_err-hand-clause-played g c = sits_without _ _ _ _ _ c.from_residual.ensures.1

pub returns-clause-played : goal.returns-clause-played
returns-clause-played g c =
    sits_at_desk (setting (λ _ _ _ _ _. Unit {0}) (λ _. None) c.args.names.now) (record { none = λ _. refl; alone = λ _ _ _ _ _ _ _ is. is }) _ _ _ _ _ _ _ _
    (rw c.in_ok-hand.ensures at c.answer_script.ensures.played)
