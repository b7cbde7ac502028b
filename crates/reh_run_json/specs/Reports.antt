-- A report and a survey as JSON.
use Rattle.std.specs.Prelude.{ℕ, List, [], ◌++◌, map, Bool, Option, None, Some, codes}
use Rattle.std.specs.List.{enumerate_from}
use Rattle.json.specs.Json.{Json, boolean, string, object, no_members, member}
use Rattle.json.specs.Token.{Token}
use Rattle.json.specs.Tree.{json_tokens}
use Rattle.reh_types.specs.declared.locks.Lock.{Lock}
use Rattle.reh_types.specs.declared.names.LedgerState.{LedgerState}
use Rattle.reh_types.specs.declared.surveys.SurveyLine.{SurveyLine}
use Rattle.reh_types.specs.Sets.{Set, numbers}
use Rattle.reh_model.specs.Contents.{count_held}
use Rattle.reh_model.specs.Metadata.{Metadata, Fragment, stop_of}
use Rattle.reh_model.specs.Cluster.{Cluster, Ledger, is_up, lost_tick}
use Rattle.reh_answer.specs.Objects.{list_json, member_tokens, number_json}
use Rattle.reh_run_json.specs.Values.{or_null, registration_members, state_json, last_json, ensemble_json, task_json, lock_json}

-- a bookie: its registration, and how many entries it holds
abbrev pub standing_json : List ℕ → Bool → Option ℕ → ℕ → Json
standing_json name up lost held =
    object (
    member (codes "name") (string name)
    (registration_members up lost (member (codes "held") (number_json held) no_members))
    )

abbrev pub bookie_json : Cluster → ℕ → List ℕ → Json
bookie_json s bookie name = standing_json name (is_up s bookie) (lost_tick s bookie) (count_held s.parts.held bookie)

-- a fragment's first entry, where it stops, if it does, and its ensemble
abbrev pub stopped_json : List (List ℕ) → ℕ → Option ℕ → List ℕ → Json
stopped_json names first stop ensemble =
    object (
    member (codes "firstEntry") (number_json first)
    (member (codes "stop") (or_null number_json stop) (member (codes "ensemble") (ensemble_json names ensemble) no_members))
    )

abbrev pub fragment_json : List (List ℕ) → Metadata → ℕ → Fragment → Json
fragment_json names m number fragment = stopped_json names fragment.first (stop_of m number) fragment.ensemble

abbrev pub fragments_json : List (List ℕ) → Metadata → Json
fragments_json names m =
    list_json (map (λ place. fragment_json names m place.0 place.1) (enumerate_from 0 m.fragments))

-- a ledger by its parts
abbrev pub parts_json : List (List ℕ) → ℕ → Metadata → Option (Set numbers) → Option Lock → Json
parts_json names id m task lock =
    object (
    member (codes "id") (number_json id)
    (member (codes "state") (state_json m.state)
    (member (codes "version") (number_json m.version)
    (member (codes "lastEntryId") (last_json m.state)
    (member (codes "ensembleSize") (number_json m.size)
    (member (codes "writeQuorumSize") (number_json m.write_quorum)
    (member (codes "ackQuorumSize") (number_json m.ack_quorum)
    (member (codes "fragments") (fragments_json names m)
    (member (codes "task") (or_null (task_json names) task)
    (member (codes "lock") (or_null (lock_json names) lock) no_members)))))))))
    )

abbrev pub ledger_json : List (List ℕ) → Ledger → Json
ledger_json names g = parts_json names g.id g.metadata g.task g.lock

abbrev pub bookies_json : Cluster → Json
bookies_json s = list_json (map (λ place. bookie_json s place.0 place.1) (enumerate_from 0 s.names))

abbrev pub ledgers_json : Cluster → Json
ledgers_json s = list_json (map (ledger_json s.names) s.parts.ledgers)

abbrev pub report_json : Cluster → Json
report_json s =
    object (
    member (codes "clock") (number_json s.parts.scalars.clock)
    (member (codes "grace") (number_json s.grace)
    (member (codes "delay") (number_json s.delay)
    (member (codes "autorecovery") (boolean s.parts.scalars.enabled)
    (member (codes "bookies") (bookies_json s) (member (codes "ledgers") (ledgers_json s) no_members)))))
    )

-- how many members of a fragment are not registered, and how many of its entries can't be read, if that is known
abbrev pub lost_json : ℕ → ℕ → ℕ → Option ℕ → Json
lost_json ledger fragment down lost =
    object (
    member (codes "ledger") (number_json ledger)
    (member (codes "fragment") (number_json fragment)
    (member (codes "down") (number_json down) (member (codes "lost") (or_null number_json lost) no_members)))
    )

abbrev pub survey_line_json : SurveyLine → Json
survey_line_json line = lost_json line.ledger line.fragment line.down line.lost

abbrev pub survey_json : List SurveyLine → Json
survey_json lines = list_json (map survey_line_json lines)

-- What calls add

-- the clock, the grace, the delay, and whether AutoRecovery is enabled
abbrev pub settings_tokens : ℕ → ℕ → ℕ → Bool → List Token
settings_tokens clock grace delay enabled =
    member_tokens (codes "clock") (number_json clock)
    ++ (member_tokens (codes "grace") (number_json grace)
    ++ (member_tokens (codes "delay") (number_json delay) ++ member_tokens (codes "autorecovery") (boolean enabled)))

abbrev pub settings_of : Cluster → List Token
settings_of s = settings_tokens s.parts.scalars.clock s.grace s.delay s.parts.scalars.enabled

-- the bookie of a number, if there is one
abbrev pub bookie_at : Cluster → ℕ → Option (List ℕ) → List Token
bookie_at s bookie None = []
bookie_at s bookie (Some name) = json_tokens (bookie_json s bookie name)

-- a ledger's id, its state, its version and its last entry id
abbrev pub state_tokens : ℕ → LedgerState → ℕ → List Token
state_tokens id state version =
    member_tokens (codes "id") (number_json id)
    ++ (member_tokens (codes "state") (state_json state)
    ++ (member_tokens (codes "version") (number_json version) ++ member_tokens (codes "lastEntryId") (last_json state)))

abbrev pub standing_of : ℕ → Metadata → List Token
standing_of id m = state_tokens id m.state m.version

-- its sizes
abbrev pub sizes_tokens : ℕ → ℕ → ℕ → List Token
sizes_tokens size write_quorum ack_quorum =
    member_tokens (codes "ensembleSize") (number_json size)
    ++ (member_tokens (codes "writeQuorumSize") (number_json write_quorum)
    ++ member_tokens (codes "ackQuorumSize") (number_json ack_quorum))

abbrev pub sizes_of : Metadata → List Token
sizes_of m = sizes_tokens m.size m.write_quorum m.ack_quorum

-- the fragment of a number, if there is one
abbrev pub fragment_at : List (List ℕ) → Metadata → ℕ → Option Fragment → List Token
fragment_at names m number None = []
fragment_at names m number (Some fragment) = json_tokens (fragment_json names m number fragment)
