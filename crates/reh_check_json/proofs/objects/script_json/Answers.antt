-- The state is the picture's.
use Rattle.std.proofs.Common.{◌≡◌, false, subst, string_bytes, IfOk}
use Rattle.reh_model.specs.Cluster.{Cluster}
use Rattle.reh_lines.specs.Lines.{answered_lines}
use Rattle.reh_check_json.specs.Objects.{checked_text}
use Rattle.reh_check_json.proofs.objects.script_json.Goals as goal

pub returns-in-Ok-clause-text : goal.returns-in-Ok-clause-text
returns-in-Ok-clause-text c =
    subst (λ (s : Cluster).
    IfOk c.known_json.result (λ checked. string_bytes checked.text
    ≡ checked_text c.args.counts.now s (answered_lines false c.args.script.now)))
    c.in-Ok.ensures c.known_json.ensures.text
