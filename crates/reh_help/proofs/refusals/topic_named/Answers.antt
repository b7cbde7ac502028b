-- A word that no topic has as its name is no refusal's.
use Rattle.std.proofs.Common.{◌≡◌, ◌∙◌, ℕ, List, Option, ap, find, is_some, sym, true}
use Rattle.std.proofs.lemmas.Bool.{true≢false}
use Rattle.std.specs.Str.{bytes_eq}
use Rattle.reh_help.specs.declared.refusals.Topic.{Topic}
use Rattle.reh_help.specs.Pages.{topic_name}
use Rattle.reh_help.proofs.refusals.topic_named.Goals as goal

found : (topics : List Topic) (name word : List ℕ) (first : Option Topic) → first ≡ find (λ topic. bytes_eq (topic_name topic) word) topics
    → is_some (find (λ topic. bytes_eq (topic_name topic) name) topics) ≡ true → name ≡ word → is_some first ≡ true
found topics name word first is has same =
    ap is_some is ∙ ap (λ w. is_some (find (λ topic. bytes_eq (topic_name topic) w) topics)) (sym same) ∙ has

pub returns-in-None-clause-each : goal.returns-in-None-clause-each
returns-in-None-clause-each c refusal same =
    absurd (true≢false (sym (found _ _ _ _ c.topic_by_name.ensures.first (c.topics.ensures.named refusal) same) ∙ ap is_some c.in-None.is))
