-- One ledger more, with which something is left, or nothing.
use Rattle.std.proofs.Common.{◌≡◌, ◌∙◌, ◌<◌, ◌∷◌, ◌++◌, [], ℕ, List, Vec, ap, get_or, length, map, refl, subst, sym, true, false}
use Rattle.std.specs.Prelude.{All}
use Rattle.std.specs.declared.alloc.Global.{Global}
use Rattle.std.proofs.lemmas.List.Elements.{All-push}
use Rattle.reh_model.specs.Cluster.{Cluster, Ledger}
use Rattle.reh_plan.specs.Plans.{IsLeftFor, is_left}
use Rattle.reh_plan.specs.declared.reasons.Left.{Left}
use Rattle.reh_plan.specs.declared.reasons.Reason.{Reason}
use Rattle.reh_plan.proofs.NamedLaws.{ids_left, ids_same}
use Rattle.reh_plan.proofs.reasons.left_in.Goals as goal
use Rattle.reh_plan.proofs.reasons.left_in.Goals.{then-is_left+in_ok-reason+in_ok-push_left, else-is_left}

pub loop-ledger-preserved : goal.loop-ledger-preserved
loop-ledger-preserved c =
    let s : Cluster = c.args.state.now in
    let g : Ledger = c.ledger-item.result in
    let ledgers : List Ledger = c.ledgers-ledger-items.result.now in
    let k : ℕ = c.loop-ledger.ledger-index in
    let left : List Left = c.loop-ledger.left.items in
    let within : k < length ledgers = c.loop-ledger-test.true in
    let is : g ≡ get_or ledgers k g = c.ledger-item.is in
    let P : Left → Type 0 = IsLeftFor c.args.workers.now.rules c.args.full s s.parts.ledgers in
    elim c.if-is_left.branch [
      | then-is_left+in_ok-reason+in_ok-push_left w ↦
          let reason : Reason = w.in_ok-reason.reason in
          let one : Left = record { ledger = g.id; reason = reason } in
          let more : is_left s g ≡ true = sym c.is_left.ensures ∙ w.if-is_left.true in
          let grown : c.if-is_left.left.items ≡ left ++ one ∷ [] =
          ap (λ (v : Vec Left Global). v.items) w.left-is ∙ w.in_ok-push_left.ensures
          ∙ ap (λ n. left ++ (record { ledger = n; reason = reason }) ∷ []) w.id.ensures in
          let here : P one =
          subst (λ (gs : List Ledger). IsLeftFor c.args.workers.now.rules c.args.full s gs one) c.ledgers-ledger-items.ensures.ledgers
          (k, g, within, sym is, (refl, more, w.in_ok-reason.ensures.reason)) in
          record {
            of =
                ap (map (λ l. l.ledger)) grown
                ∙ ids_left s ledgers k g left one within is more refl c.loop-ledger.invariant.of;
            why = subst (All P) (sym grown) (All-push P left one c.loop-ledger.invariant.why here);
          }
      | else-is_left w ↦
          let none : is_left s g ≡ false = sym c.is_left.ensures ∙ w.if-is_left.false in
          record {
            of =
                ap (λ (v : Vec Left Global). map (λ l. l.ledger) v.items) w.left-is
                ∙ c.loop-ledger.invariant.of ∙ ids_same s ledgers k g within is none;
            why = subst (λ (v : Vec Left Global). All P v.items) (sym w.left-is) c.loop-ledger.invariant.why;
          }
    ]
