use Rattle.std.proofs.Common.{◌≡◌, ◌⊎◌, ℕ, List, Option, subst}
use Rattle.std.proofs.KnownBytes.{prepend_known-nil}
use Rattle.reh_play.specs.Players.{setting_by, seated}
use Rattle.reh_play.specs.Plays.{Plays, GoesOut}
use Rattle.reh_play.proofs.plays.play_by.Goals as goal

pub returns-clause-plays : goal.returns-clause-plays
returns-clause-plays g c =
    subst (λ (left : Option (List ℕ)). Plays (setting_by g.C.Counter.goes g.C.Counter.scene g.P.Printer.prints c.args.names.now)
    c.play_on_by.result (g.R.TextIn.has_failed c.play_on_by.new.reader) left (g.R.TextIn.remaining c.play_on_by.new.reader)
    (seated c.args.counter.now c.args.seat.now) (seated c.play_on_by.new.counter c.play_on_by.new.seat)
    (g.W.TextOut.contents c.args.writer.now) (g.W.TextOut.contents c.play_on_by.new.writer))
    (prepend_known-nil (g.R.TextIn.remaining c.args.reader.now))
    (rw c.new-script.ensures.items at c.play_on_by.ensures.plays)

pub returns-clause-prompt : goal.returns-clause-prompt
returns-clause-prompt g c =
    subst (λ (left : Option (List ℕ)). (c.play_on_by.new.reader ≡ c.args.reader.now)
    ⊎ GoesOut (setting_by g.C.Counter.goes g.C.Counter.scene g.P.Printer.prints c.args.names.now) left
    (g.R.TextIn.before c.play_on_by.new.reader) (seated c.args.counter.now c.args.seat.now)
    (g.W.TextOut.contents c.args.writer.now) (g.W.TextOut.seen c.play_on_by.new.writer))
    (prepend_known-nil (g.R.TextIn.remaining c.args.reader.now))
    (rw c.new-script.ensures.items at c.play_on_by.ensures.prompt)
