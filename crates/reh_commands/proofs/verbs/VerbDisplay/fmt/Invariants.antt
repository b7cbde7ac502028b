-- The name and the roles so far are printed.
use Rattle.std.proofs.Common.{◌++◌, map, take}
use Rattle.std.specs.Fmt.{HasWritten, IsPlainFormatter}
use Rattle.reh_commands.specs.Script.{form_of}
use Rattle.reh_commands.specs.Texts.{behind_spaces}
use Rattle.reh_commands.specs.Usage.{role_text}
use Rattle.reh_commands.proofs.verbs.VerbDisplay.fmt.Given as goal

abbrev pub invariant-loop-role : goal.invariant-loop-role
invariant-loop-role g l =
    IsPlainFormatter l.fn.f
    → HasWritten g.W.Write.write_str_gives l.fn.f
    ((form_of l.self).name ++ behind_spaces (map role_text (take l.role-index l.role-items))) l.f
