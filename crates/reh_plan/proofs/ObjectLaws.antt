-- How deep the object is, and what it has behind its bookies.
use Rattle.std.proofs.Common.{◌≤◌, ◌++◌, ◌∷◌, [], List, arith}
use Rattle.std.specs.Prelude.{codes}
use Rattle.json.specs.Json.{boolean}
use Rattle.json.specs.Token.{Token, end_object}
use Rattle.json.specs.Tree.{depth}
use Rattle.reh_answer.specs.Objects.{member_tokens, number_json}
use Rattle.reh_answer.proofs.ObjectLaws.{items-depth}
use Rattle.reh_plan.specs.Objects.{fewer_json, fragment_json, left_json, ledgers_json, plan_value, share_json}
use Rattle.reh_plan.specs.declared.fewer.FewerRacks.{FewerRacks}
use Rattle.reh_plan.specs.declared.planning.Planned.{Planned}
use Rattle.reh_plan.specs.declared.reasons.Left.{Left}
use Rattle.reh_plan.specs.declared.summaries.Summary.{Summary}

pub plan-depth : (p : Planned) → depth (plan_value p) ≤ 128
plan-depth p =
    omega (
      arith,
      items-depth (share_json p.plan.state.names) 1 (λ share. omega arith) p.summary.shares.items,
      items-depth left_json 1 (λ one. omega arith) p.left.items,
      items-depth fragment_json 1 (λ one. omega arith) p.fewer.items,
    )

-- what comes after the first member of the object
abbrev pub after_bookies : Summary → List Left → List FewerRacks → List Token
after_bookies summary left fewer =
    member_tokens (codes "left") (number_json summary.left)
    ++ (member_tokens (codes "ledgers") (ledgers_json left)
    ++ (member_tokens (codes "lost") (number_json summary.unreadable)
    ++ (member_tokens (codes "fewerRacks") (fewer_json fewer)
    ++ (member_tokens (codes "full") (boolean summary.is_full) ++ end_object ∷ []))))
