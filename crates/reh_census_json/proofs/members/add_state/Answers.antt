use Rattle.std.proofs.Common.{Bool, subst, sym}
use Rattle.std.specs.Prelude.{OnOk, codes}
use Rattle.json.specs.Json.{string}
use Rattle.reh_answer.specs.Objects.{Adds, member_tokens}
use Rattle.reh_census_json.specs.Objects.{state_word}
use Rattle.reh_census_json.proofs.members.add_state.Goals as goal

pub returns-else-is_open : goal.returns-else-is_open
returns-else-is_open c =
    subst (λ (is : Bool).
    OnOk c.add_text-else-is_open.result (Adds (member_tokens (codes "state") (string (state_word is))) c.args.json.now c.add_text-else-is_open.new.json))
    (sym c.if-is_open.false) c.add_text-else-is_open.ensures
