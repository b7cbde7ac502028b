-- The members of an answer's object, before the others.
use Rattle.std.proofs.Common.{◌≡◌, ◌∙◌, ℕ, List, [], ◌∷◌, ◌++◌, ap, refl, Option, Some}
use Rattle.std.specs.Prelude.{codes}
use Rattle.json.specs.Json.{Members, member, no_members, string}
use Rattle.json.specs.Token.{Token, begin_object, end_object}
use Rattle.json.specs.Tree.{json_tokens, members_tokens}
use Rattle.json.specs.Written.{Written}
use Rattle.reh_types.specs.declared.moves.Reply.{Reply}
use Rattle.reh_types.specs.declared.moves.Reply.TheVariants.{Done, Clock, Issued, Discarded, Refused}
use Rattle.reh_model.specs.Cluster.{Cluster}
use Rattle.reh_model.specs.Places.{Change}
use Rattle.reh_answer.specs.Objects.{Adds, member_tokens, number_json}
use Rattle.reh_play.specs.declared.answers.LineAnswer.{LineAnswer}
use Rattle.reh_play.specs.declared.answers.LineAnswer.TheVariants as answer
use Rattle.reh_run_json.specs.Changes.{changes_json}
use Rattle.reh_run_json.specs.Lines.{answer_members, answer_tokens, line_json, reply_members, reply_tokens}
use Rattle.reh_run_json.specs.Values.{or_null}

reply-first : (s : Cluster) (reply : Reply) (rest : Members)
    → reply_tokens s.names reply ++ members_tokens rest ≡ members_tokens (reply_members s.names reply rest)
reply-first s Done rest = refl
reply-first s (Clock clock) rest = refl
reply-first s (Issued number) rest = refl
reply-first s Discarded rest = refl
reply-first s (Refused refusal) rest = refl

pub answer-first : (s : Cluster) (a : LineAnswer) (rest : Members)
    → answer_tokens s a ++ members_tokens rest ≡ members_tokens (answer_members s.names (Some s) a rest)
answer-first s (answer.Said reply) rest = reply-first s reply rest
answer-first s (answer.Faulty fault) rest = refl
answer-first s answer.Report rest = refl
answer-first s (answer.Survey lines) rest = refl
answer-first s answer.Hidden rest = refl

-- the tokens of a line's object, one part after another
pub line-tokens : (s : Cluster) (n : ℕ) (command : Option (List ℕ)) (a : LineAnswer) (changes : List Change)
    → begin_object ∷ (member_tokens (codes "line") (number_json n)
    ++ (member_tokens (codes "command") (or_null string command)
    ++ (answer_tokens s a ++ (member_tokens (codes "changes") (changes_json s changes) ++ end_object ∷ []))))
    ≡ json_tokens (line_json s.names n command s a changes)
line-tokens s n command a changes =
    ap (λ ts. begin_object ∷ (member_tokens (codes "line") (number_json n) ++ (member_tokens (codes "command") (or_null string command) ++ ts)))
    (answer-first s a (member (codes "changes") (changes_json s changes) no_members))

-- what is added to a writer that has written nothing
pub from-empty : (first end : Written) (added : List Token) → first.tokens ≡ [] → Adds added first end → end.tokens ≡ added
from-empty first end added none adds = adds.tokens ∙ ap (λ ts. ts ++ added) none
