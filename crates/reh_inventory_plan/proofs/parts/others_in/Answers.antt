-- One more, if there is one of that number.
use Rattle.std.proofs.Common.{◌∙◌, ap, subst, sym, List, Vec, Global}
use Rattle.std.specs.Prelude.{All, Contains, IfSome, Option}
use Rattle.std.proofs.lemmas.List.Elements.{All-push}
use Rattle.reh_inventory.specs.declared.heads.Bookie.{Bookie}
use Rattle.reh_inventory_plan.proofs.parts.others_in.Goals as goal
use Rattle.reh_inventory_plan.proofs.parts.others_in.Goals.{in-Some+in_ok-push, in_default}

pub loop-number-preserved : goal.loop-number-preserved
loop-number-preserved c =
    let all : List Bookie = c.args.all.now in
    let before : List Bookie = c.loop-number.others.items in
    let P : List Bookie → Type 0 = λ others. All (Contains all) others in
    elim c.match-branch-2.branch [
      | in-Some+in_ok-push w ↦
          let is : Contains all w.in-Some.bookie =
          subst (λ (o : Option Bookie). IfSome o (Contains all)) w.in-Some.is c.in_ok-bookie.ensures in
          subst P (sym (ap (λ (v : Vec Bookie Global). v.items) w.others-is ∙ w.in_ok-push.ensures.items))
          (All-push (Contains all) before w.in-Some.bookie c.loop-number.invariant is)
      | in_default w ↦
          subst P (sym (ap (λ (v : Vec Bookie Global). v.items) w.others-is)) c.loop-number.invariant
    ]
