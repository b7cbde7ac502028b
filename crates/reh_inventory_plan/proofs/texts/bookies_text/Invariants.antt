-- The lines so far.
use Rattle.std.proofs.Common.{◌≡◌, take, string_bytes}
use Rattle.std.specs.List.{flat_map}
use Rattle.reh_inventory_plan.specs.Texts.{bookie_line}
use Rattle.reh_inventory_plan.proofs.texts.bookies_text.Given as goal

abbrev pub invariant-loop-bookie : goal.invariant-loop-bookie
invariant-loop-bookie l =
    string_bytes l.text ≡ flat_map (bookie_line l.outcomes) (take l.bookie-index l.bookies)
