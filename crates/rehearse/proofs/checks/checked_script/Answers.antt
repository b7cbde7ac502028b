-- As JSON it is what the object says.
use Rattle.std.proofs.Common.{◌≡◌, ◌∙◌, ℕ, Bool, true, false, List, Result, Ok, Err, IfOk, ap, sym, length, string_bytes}
use Rattle.std.specs.declared.alloc.AllocError.{AllocError}
use Rattle.std.specs.List.{filter}
use Rattle.reh_model.specs.Cluster.{Cluster}
use Rattle.reh_lines.specs.Lines.{answered_lines}
use Rattle.reh_picture.specs.Counts.{counts_of}
use Rattle.reh_picture.specs.declared.counts.Counts.{Counts}
use Rattle.reh_lint.specs.Lints.{is_faulty}
use Rattle.reh_check_json.specs.Objects.{checked_text}
use Rattle.reh_check_json.specs.declared.objects.CheckedScript.{CheckedScript}
use Rattle.rehearse.specs.Checks.{SaysOfScript, script_text}
use Rattle.rehearse.proofs.checks.checked_script.Goals as goal

said : (as_json : Bool) (state : Cluster) (path script : List ℕ) (counts : Counts)
    (r : Result CheckedScript AllocError) → as_json ≡ true → counts ≡ counts_of state
    → IfOk r (λ checked. string_bytes checked.text ≡ checked_text counts state (answered_lines false script))
    → IfOk r (λ checked. checked.faulty ≡ length (filter (is_faulty state.names) (answered_lines false script)))
    → IfOk r (SaysOfScript as_json state path script)
said as_json state path script counts (Ok checked) asked counted text faulty = record {
  says =
      text
      ∙ (λ i. checked_text (counted i) state (answered_lines false script))
      ∙ ap (λ (b : Bool). script_text b state path (answered_lines false script)) (sym asked);
  counts = faulty;
}
said as_json state path script counts (Err want) asked counted text faulty = tt

pub returns-then-as_json : goal.returns-then-as_json
returns-then-as_json c =
    said c.args.as_json c.args.state.now c.args.path.now c.args.script.now c.of.result c.script_json.result
    c.if-as_json.true c.of.ensures c.script_json.ensures.text c.script_json.ensures.faulty
