-- The tokens, one part after another.
use Rattle.std.proofs.Common.{◌∙◌, ℕ, List, Ok, ap, length}
use Rattle.std.specs.Prelude.{codes}
use Rattle.std.specs.List.{filter}
use Rattle.reh_lint.specs.Lints.{is_command, is_faulty}
use Rattle.reh_answer.specs.Objects.{member_tokens}
use Rattle.reh_answer.proofs.ObjectLaws.{in_place, one, then}
use Rattle.reh_check_json.specs.Scripts.{found, script_with}
use Rattle.reh_check_json.proofs.scripts.add_script.Goals as goal

pub returns-clause-adds : goal.returns-clause-adds
returns-clause-adds c =
    let names : List (List ℕ) = c.args.known.now.state.now.names in
    let lines = c.answered.ensures in
    in_place (Ok tt) c.args.json.now c.end_object.new.self _ _
    (λ i. member_tokens (codes "script") (script_with (found c.args.known.now.state.now 1 (lines i))
    ((c.in_ok-counts.ensures.commands ∙ ap (λ (ls : List (List ℕ)). length (filter (is_command names) ls)) lines) i)
    ((c.in_ok-counts.ensures.faulty ∙ ap (λ (ls : List (List ℕ)). length (filter (is_faulty names) ls)) lines) i)))
    (then (Ok tt) c.args.json.now c.key.new.self c.end_object.new.self _ _ (one c.args.json.now c.key.new.self _ c.in_ok-key.ensures.ok c.in_ok-key.ensures.room.0)
    (then (Ok tt) c.key.new.self c.begin_object.new.self c.end_object.new.self _ _ (one c.key.new.self c.begin_object.new.self _ c.in_ok-begin_object.ensures.ok c.in_ok-begin_object.ensures.room.0)
    (then (Ok tt) c.begin_object.new.self c.add_found.new.json c.end_object.new.self _ _ c.in_ok-counts.ensures.adds
    (then (Ok tt) c.add_found.new.json c.add_number.new.json c.end_object.new.self _ _ c.in_ok-add_number.ensures
    (then (Ok tt) c.add_number.new.json c.add_number-2.new.json c.end_object.new.self _ _ c.in_ok-add_number-2.ensures
    (one c.add_number-2.new.json c.end_object.new.self _ c.in_ok-end_object.ensures.ok c.in_ok-end_object.ensures.room.0))))))

pub returns-clause-faulty : goal.returns-clause-faulty
returns-clause-faulty c =
    c.in_ok-counts.ensures.faulty
    ∙ ap (λ (ls : List (List ℕ)). length (filter (is_faulty c.args.known.now.state.now.names) ls)) c.answered.ensures
