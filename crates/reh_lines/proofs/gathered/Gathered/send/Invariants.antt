use Rattle.std.proofs.Common.{◌≡◌, vec_len}
use Rattle.std.specs.Io.KnownBytes.{Keeps, append_known}
use Rattle.reh_lines.specs.Streams.{Grows}
use Rattle.reh_lines.proofs.gathered.Gathered.send.Given as goal

-- no byte was lost, and no call has failed
abbrev pub invariant-loop-self : goal.invariant-loop-self
invariant-loop-self g l = record {
  bytes : Keeps (append_known (g.W.TextOut.contents l.fn.self.inner) l.fn.self.kept.items)
      (append_known (g.W.TextOut.contents l.self.inner) l.self.kept.items);
  seen : Grows (g.W.TextOut.seen l.fn.self.inner) (g.W.TextOut.seen l.self.inner);
  fine : g.W.TextOut.has_failed l.self.inner ≡ g.W.TextOut.has_failed l.fn.self.inner;
}

abbrev pub decreases-loop-self : goal.decreases-loop-self
decreases-loop-self g l = vec_len l.self.kept
