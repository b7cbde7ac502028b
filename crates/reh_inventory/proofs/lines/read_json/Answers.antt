-- Bytes that are read are JSON, and those that are refused, but for lack of memory, are none.
use Rattle.std.proofs.lemmas.Result.{err_from_is_err_and}
use Rattle.serde_json.specs.Errors.{IsMemory}
use Rattle.reh_inventory.proofs.LinesLemmas.{json_in-none, json_in-some}
use Rattle.reh_inventory.proofs.lines.read_json.Goals as goal

pub returns-in_err-from_slice-clause-err : goal.returns-in_err-from_slice-clause-err
returns-in_err-from_slice-clause-err c =
    let known = err_from_is_err_and c.from_residual.result c.from_residual.ensures.1 in
    rw known.1 (λ named.
    let other : ¬ IsMemory c.in_err-from_slice.field-0.0 = λ memory. named (known.2.0 memory) in
    json_in-none c.args.bytes.now _ _ (c.in_err-from_slice.ensures.err other) (known.2.1 other).0
    (known.2.1 other).1)

pub returns-clause-ok : goal.returns-clause-ok
returns-clause-ok c =
    json_in-some c.args.bytes.now _ c.in_ok-from_slice.ensures.ok.0 c.in_ok-from_slice.ensures.ok.1
