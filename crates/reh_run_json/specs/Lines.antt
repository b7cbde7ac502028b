-- What `run --json` prints of a line that is answered: one object, and an LF.
use Rattle.std.specs.Prelude.{◌≡◌, ℕ, List, ◌++◌, Option, Some, codes}
use Rattle.json.specs.Json.{Json, document, string, object, Members, no_members, member}
use Rattle.json.specs.Print.{print}
use Rattle.json.specs.Token.{Token}
use Rattle.json.specs.Tree.{json_tokens}
use Rattle.reh_types.specs.declared.moves.Reply.{Reply}
use Rattle.reh_types.specs.declared.moves.Reply.TheVariants.{Done, Clock, Issued, Discarded, Refused}
use Rattle.reh_types.specs.declared.refusals.Refusal.{Refusal}
use Rattle.reh_types.specs.declared.refusals.Refusal.TheVariants.{Locked}
use Rattle.reh_types.specs.Texts.{refusal_number, refusal_name, refusal_value}
use Rattle.reh_model.specs.Cluster.{Cluster}
use Rattle.reh_model.specs.Places.{Change}
use Rattle.reh_commands.specs.Texts.{line_fault_text}
use Rattle.reh_play.specs.declared.answers.LineAnswer.{LineAnswer}
use Rattle.reh_play.specs.declared.answers.LineAnswer.TheVariants as answer
use Rattle.reh_answer.specs.Objects.{member_tokens, number_json}
use Rattle.reh_run_json.specs.Values.{or_null, name_json}
use Rattle.reh_run_json.specs.Changes.{changes_json}
use Rattle.reh_run_json.specs.Reports.{report_json, survey_json}

-- a refusal's value: a lock's owner by name, other values as numbers
abbrev pub value_json : List (List ℕ) → Refusal → Json
value_json names (Locked owner) = name_json names owner
value_json names refusal = or_null number_json (refusal_value refusal)

abbrev pub refused_json : ℕ → List ℕ → Json → Json
refused_json number name value =
    object (
    member (codes "number") (number_json number)
    (member (codes "name") (string name) (member (codes "value") value no_members))
    )

abbrev pub refusal_json : List (List ℕ) → Refusal → Json
refusal_json names refusal = refused_json (refusal_number refusal) (refusal_name refusal) (value_json names refusal)

abbrev pub reply_members : List (List ℕ) → Reply → Members → Members
reply_members names Done rest = member (codes "reply") (string (codes "ok")) rest
reply_members names (Clock clock) rest =
    member (codes "reply") (string (codes "clock")) (member (codes "clock") (number_json clock) rest)
reply_members names (Issued number) rest =
    member (codes "reply") (string (codes "ticket")) (member (codes "ticket") (number_json number) rest)
reply_members names Discarded rest = member (codes "reply") (string (codes "discarded")) rest
reply_members names (Refused refusal) rest =
    member (codes "reply") (string (codes "refused")) (member (codes "refusal") (refusal_json names refusal) rest)

-- the answer, where this state is shown now, or none
abbrev pub answer_members : List (List ℕ) → Option Cluster → LineAnswer → Members → Members
answer_members names scene (answer.Said reply) rest = reply_members names reply rest
answer_members names scene (answer.Faulty fault) rest =
    member (codes "reply") (string (codes "fault")) (member (codes "fault") (string (line_fault_text fault)) rest)
answer_members names scene answer.Report rest =
    member (codes "reply") (string (codes "report")) (member (codes "report") (or_null report_json scene) rest)
answer_members names scene (answer.Survey lines) rest =
    member (codes "reply") (string (codes "survey")) (member (codes "survey") (survey_json lines.items) rest)
answer_members names scene answer.Hidden rest = member (codes "reply") (string (codes "not in a drill")) rest

-- the object of the n-th line: its command, where it asks for one, its answer, and what it changed, where the cluster is s
-- now
abbrev pub line_json : List (List ℕ) → ℕ → Option (List ℕ) → Cluster → LineAnswer → List Change → Json
line_json names n command s answer changes =
    object (
    member (codes "line") (number_json n)
    (member (codes "command") (or_null string command)
    (answer_members names (Some s) answer (member (codes "changes") (changes_json s changes) no_members)))
    )

abbrev pub line_text : List (List ℕ) → ℕ → Option (List ℕ) → Cluster → LineAnswer → List Change → List ℕ
line_text names n command s answer changes = print (json_tokens (line_json names n command s answer changes)) ++ codes "\n"

-- a line is added that a reader of JSON reads as this value
pub record IsLineAdded (value : Json) (old new : List ℕ) : Type 0 where
  pub line : List ℕ
  pub ends : new ≡ old ++ (line ++ codes "\n")
  pub reads : document line ≡ Some value

-- What calls add

-- the word of a reply, and its number under the same word
abbrev pub counted_tokens : List ℕ → ℕ → List Token
counted_tokens word number = member_tokens (codes "reply") (string word) ++ member_tokens word (number_json number)

-- the word of a reply, and what belongs to it under a name
abbrev pub worded_tokens : List ℕ → List ℕ → Json → List Token
worded_tokens word name value = member_tokens (codes "reply") (string word) ++ member_tokens name value

abbrev pub reply_tokens : List (List ℕ) → Reply → List Token
reply_tokens names Done = member_tokens (codes "reply") (string (codes "ok"))
reply_tokens names (Clock clock) = counted_tokens (codes "clock") clock
reply_tokens names (Issued number) = counted_tokens (codes "ticket") number
reply_tokens names Discarded = member_tokens (codes "reply") (string (codes "discarded"))
reply_tokens names (Refused refusal) = worded_tokens (codes "refused") (codes "refusal") (refusal_json names refusal)

abbrev pub answer_tokens : Cluster → LineAnswer → List Token
answer_tokens s (answer.Said reply) = reply_tokens s.names reply
answer_tokens s (answer.Faulty fault) = worded_tokens (codes "fault") (codes "fault") (string (line_fault_text fault))
answer_tokens s answer.Report = worded_tokens (codes "report") (codes "report") (report_json s)
answer_tokens s (answer.Survey lines) = worded_tokens (codes "survey") (codes "survey") (survey_json lines.items)
answer_tokens s answer.Hidden = member_tokens (codes "reply") (string (codes "not in a drill"))
