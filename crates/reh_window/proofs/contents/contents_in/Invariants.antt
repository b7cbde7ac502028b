-- What the contents tell that are passed.
use Rattle.std.proofs.Common.{◌≡◌, map, take}
use Rattle.reh_window.specs.Windows.{content_in}
use Rattle.reh_window.proofs.contents.contents_in.Given as goal

abbrev pub invariant-loop-content : goal.invariant-loop-content
invariant-loop-content l = l.parts.items ≡ map (content_in l.span) (take l.content-index l.contents)
