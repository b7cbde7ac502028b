-- It is the object of the counts, or their text.
use Rattle.std.proofs.Common.{◌≡◌, ◌∙◌, ◌++◌, Bool, true, false, Result, Ok, Err, IfOk, ap, sym, string_bytes, String, Global}
use Rattle.std.specs.Prelude.{codes}
use Rattle.std.specs.declared.alloc.AllocError.{AllocError}
use Rattle.reh_model.specs.Cluster.{Cluster}
use Rattle.reh_picture.specs.Counts.{counts_of, counts_text}
use Rattle.reh_picture.specs.declared.counts.Counts.{Counts}
use Rattle.reh_check_json.specs.Objects as objects
use Rattle.rehearse.specs.Checks.{picture_text}
use Rattle.rehearse.proofs.checks.picture_said.Goals as goal

object-said : (as_json : Bool) (state : Cluster) (counts : Counts) (r : Result (String Global) AllocError)
    → as_json ≡ true → counts ≡ counts_of state → IfOk r (λ text. string_bytes text ≡ objects.picture_text counts)
    → IfOk r (λ text. string_bytes text ≡ picture_text as_json state)
object-said as_json state counts (Ok text) asked counted is =
    is ∙ ap objects.picture_text counted ∙ ap (λ (b : Bool). picture_text b state) (sym asked)
object-said as_json state counts (Err want) asked counted is = tt

text-said : (as_json : Bool) (state : Cluster) (counts : Counts) (r : Result (String Global) AllocError)
    → as_json ≡ false → counts ≡ counts_of state
    → IfOk r (λ text. string_bytes text ≡ codes "ok\n" ++ (counts_text counts ++ codes "\n"))
    → IfOk r (λ text. string_bytes text ≡ picture_text as_json state)
text-said as_json state counts (Ok text) asked counted is =
    is
    ∙ ap (λ (c : Counts). codes "ok\n" ++ (counts_text c ++ codes "\n")) counted
    ∙ ap (λ (b : Bool). picture_text b state) (sym asked)
text-said as_json state counts (Err want) asked counted is = tt

pub returns-then-as_json : goal.returns-then-as_json
returns-then-as_json c =
    object-said c.args.as_json c.args.state.now c.of-counts.result c.picture_json.result c.if-as_json.true c.of-counts.ensures
    c.picture_json.ensures.text

pub returns : goal.returns
returns c =
    text-said c.args.as_json c.args.state.now c.of-counts.result c.format.result c.if-as_json.false c.of-counts.ensures
    c.format.ensures.ok
