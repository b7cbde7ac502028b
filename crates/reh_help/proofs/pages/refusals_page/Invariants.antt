-- The lines of the refusals so far.
use Rattle.std.proofs.Common.{◌≡◌, ◌++◌, ℕ, List, string_bytes, take}
use Rattle.reh_help.specs.Pages.{HasParts, IsRefusalLine}
use Rattle.reh_help.specs.declared.pages.TheConstants.{REFUSALS}
use Rattle.reh_help.proofs.pages.refusals_page.Given as goal

abbrev pub invariant-loop-topic : goal.invariant-loop-topic
invariant-loop-topic l =
    (lines : List ℕ) × (string_bytes l.text ≡ REFUSALS.now ++ lines)
    × HasParts IsRefusalLine (take l.topic-index l.topic-items) lines
