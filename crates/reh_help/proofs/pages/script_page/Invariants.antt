-- The pages of the commands so far.
use Rattle.std.proofs.Common.{◌≡◌, ◌++◌, ℕ, List, string_bytes, take}
use Rattle.reh_help.specs.Pages.{HasParts, IsCommandPart}
use Rattle.reh_help.specs.declared.pages.TheConstants.{SCRIPT}
use Rattle.reh_help.proofs.pages.script_page.Given as goal

abbrev pub invariant-loop-verb : goal.invariant-loop-verb
invariant-loop-verb l =
    (commands : List ℕ) × (string_bytes l.text ≡ SCRIPT.now ++ commands)
    × HasParts IsCommandPart (take l.verb-index l.verb-items) commands
