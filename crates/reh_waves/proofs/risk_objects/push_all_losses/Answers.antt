use Rattle.std.proofs.Common.{◌∙◌, ◌++◌, ap, List, ℕ, string_bytes}
use Rattle.std.specs.Prelude.{codes}
use Rattle.reh_waves.specs.Json.{losses_json}
use Rattle.reh_waves.specs.declared.losses.Loss.{Loss}
use Rattle.reh_waves.proofs.PushLaws.{before, instead}
use Rattle.reh_waves.proofs.risk_objects.push_all_losses.Goals as goal

pub returns : goal.returns
returns c =
    let f : List Loss → List ℕ = losses_json c.args.names.now c.args.racks.now in
    let end : List ℕ = string_bytes c.push_losses-3.new.text in
    before c.push_losses-3.result end (string_bytes c.args.text.now) (string_bytes c.push_losses.new.text) _ _
    (c.in_ok-push_losses.ensures
    ∙ ap (λ (xs : List Loss). string_bytes c.args.text.now ++ (codes ",\"bookies\":" ++ f xs)) c.deref.ensures.value)
    (before c.push_losses-3.result end (string_bytes c.push_losses.new.text) (string_bytes c.push_losses-2.new.text) _ _
    (c.in_ok-push_losses-2.ensures
    ∙ ap (λ (xs : List Loss). string_bytes c.push_losses.new.text ++ (codes ",\"racks\":" ++ f xs)) c.deref-2.ensures.value)
    (instead c.push_losses-3.result end (string_bytes c.push_losses-2.new.text) _ _
    (ap (λ (xs : List Loss). codes ",\"pairs\":" ++ f xs) c.deref-3.ensures.value) c.push_losses-3.ensures))

pub push_losses-requires-clause-names : goal.push_losses-requires-clause-names
push_losses-requires-clause-names c = c.requires.names

pub push_losses-requires-clause-racks : goal.push_losses-requires-clause-racks
push_losses-requires-clause-racks c = c.requires.racks

pub push_losses-requires-2-clause-names : goal.push_losses-requires-2-clause-names
push_losses-requires-2-clause-names c = c.requires.names

pub push_losses-requires-2-clause-racks : goal.push_losses-requires-2-clause-racks
push_losses-requires-2-clause-racks c = c.requires.racks

pub push_losses-requires-3-clause-names : goal.push_losses-requires-3-clause-names
push_losses-requires-3-clause-names c = c.requires.names

pub push_losses-requires-3-clause-racks : goal.push_losses-requires-3-clause-racks
push_losses-requires-3-clause-racks c = c.requires.racks
