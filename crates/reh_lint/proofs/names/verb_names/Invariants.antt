-- The names so far.
use Rattle.std.proofs.Common.{◌≡◌, map, take}
use Rattle.reh_commands.specs.Script.{form_of}
use Rattle.reh_lint.proofs.names.verb_names.Given as goal

abbrev pub invariant-loop-verb : goal.invariant-loop-verb
invariant-loop-verb l = map (λ name. name.now) l.list.items ≡ map (λ verb. (form_of verb).name) (take l.verb-index l.verb-items)
