-- What is found has the number, and each number of a refusal is found.
use Rattle.std.proofs.Common.{◌≡◌, ◌∙◌, ◌==◌, ℕ, List, [], ◌∷◌, Bool, true, false, cond, Option, Some, ap, arith, is_some, refl, rules, sym}
use Rattle.std.specs.Prelude.{IfSome}
use Rattle.std.specs.List.{find}
use Rattle.std.proofs.lemmas.Bool.Decides.{nat_tests}
use Rattle.reh_help.specs.declared.refusals.Topic.{Topic}
use Rattle.reh_help.specs.Pages.{topic_number}
use Rattle.reh_help.proofs.refusals.topic_of.Goals as goal

first_has : (n : ℕ) (b : Bool) (topic : Topic) (later : Option Topic) → b ≡ (topic_number topic == n)
    → IfSome later (λ topic. topic_number topic ≡ n) → IfSome (cond b (Some topic) later) (λ topic. topic_number topic ≡ n)
first_has n true topic later same has = grind (arith, nat_tests)
first_has n false topic later same has = has

has_number : (n : ℕ) (topics : List Topic) → IfSome (find (λ topic. topic_number topic == n) topics) (λ topic. topic_number topic ≡ n)
has_number n [] = search rules
has_number n (topic ∷ topics) =
    first_has n (topic_number topic == n) topic (find (λ topic. topic_number topic == n) topics) refl (has_number n topics)

pub returns-clause-numbered : goal.returns-clause-numbered
returns-clause-numbered c = rw c.first_numbered.ensures (has_number c.args.number _)

pub returns-clause-each : goal.returns-clause-each
returns-clause-each c = λ refusal is.
    ap is_some c.first_numbered.ensures
    ∙ ap (λ n. is_some (find (λ topic. topic_number topic == n) c.topics.result)) (sym is)
    ∙ c.topics.ensures.each refusal
