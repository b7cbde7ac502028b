-- The ids of the input come after those before, or can't join them.
use Rattle.std.proofs.Common.{◌≡◌, ◌∙◌, ◌++◌, List, ℕ, subst}
use Rattle.std.specs.Prelude.{IfErr, OnOk}
use Rattle.reh_inputs.specs.Gathered.{ids_in}
use Rattle.reh_inputs.specs.Inputs.{of_picture}
use Rattle.reh_inputs.specs.Uncounted.{IsIdFault}
use Rattle.reh_inputs.proofs.gathered.add_ids_of.Goals as goal

pub returns-clause-added : goal.returns-clause-added
returns-clause-added c =
    let all : c.deref.result.now ≡ of_picture ids_in c.args.one.now = c.deref.ensures.value ∙ c.in_ok-more.ensures in
    subst (λ (ids : List ℕ). OnOk c.add_ids.result (c.add_ids.new.seen.keys ≡ c.args.ids.now.keys ++ ids)) all c.add_ids.ensures.added

pub returns-clause-fault : goal.returns-clause-fault
returns-clause-fault c =
    let all : c.deref.result.now ≡ of_picture ids_in c.args.one.now = c.deref.ensures.value ∙ c.in_ok-more.ensures in
    subst (λ (ids : List ℕ). IfErr c.add_ids.result (IsIdFault c.args.input c.args.ids.now.keys ids)) all c.add_ids.ensures.fault
