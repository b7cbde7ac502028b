-- Values of a rehearsal as JSON.
use Rattle.std.specs.Prelude.{ℕ, ◌-◌, ◌==◌, Bool, true, false, if◌then◌else◌, List, [], ◌∷◌, ◌++◌, map, flat_map, Option, None, Some, codes}
use Rattle.json.specs.Token.{Token}
use Rattle.json.specs.Tree.{json_tokens}
use Rattle.json.specs.Json.{Json, null, boolean, number, string, object, Members, no_members, member}
use Rattle.reh_types.specs.declared.locks.Lock.{Lock}
use Rattle.reh_types.specs.declared.names.LedgerState.{LedgerState}
use Rattle.reh_types.specs.declared.names.LedgerState.TheVariants.{Open, InRecovery, Closed}
use Rattle.reh_types.specs.Sets.{Set, numbers}
use Rattle.reh_answer.specs.Objects.{list_json, member_tokens, number_json}
use Rattle.reh_commands.specs.Texts.{name_of, names_in, state_word}

abbrev pub or_null : {X : Type 0} → (X → Json) → Option X → Json
or_null json None = null
or_null json (Some x) = json x

-- a bookie's name
abbrev pub name_json : List (List ℕ) → ℕ → Json
name_json names bookie = string (name_of names bookie)

-- whether a bookie is registered, and the tick at which it was lost, which is null while it is registered
abbrev pub registration_members : Bool → Option ℕ → Members → Members
registration_members up lost rest =
    member (codes "up") (boolean up) (member (codes "lostAt") (or_null number_json lost) rest)

abbrev pub registration_json : Bool → Option ℕ → Json
registration_json up lost = object (registration_members up lost no_members)

abbrev pub state_json : LedgerState → Json
state_json state = string (state_word state)

abbrev pub is_closed : LedgerState → Bool
is_closed Open = false
is_closed InRecovery = false
is_closed (Closed end) = true

-- the last entry id of a closed ledger, which is -1 for one without an entry; null while it is open or in recovery
abbrev pub last_json : LedgerState → Json
last_json Open = null
last_json InRecovery = null
last_json (Closed end) = if end == 0 then number (codes "-1") else number_json (end - 1)

abbrev pub ensemble_json : List (List ℕ) → List ℕ → Json
ensemble_json names ensemble = list_json (map (name_json names) ensemble)

-- the bookies that a task is to replace, in picture order
abbrev pub task_json : List (List ℕ) → Set numbers → Json
task_json names bookies = list_json (map string (names_in names bookies))

abbrev pub lock_json : List (List ℕ) → Lock → Json
lock_json names lock =
    object (
    member (codes "owner") (name_json names lock.owner)
    (member (codes "due") (or_null number_json lock.due) no_members)
    )

-- the first and the last entry of a range
abbrev pub range_json : ℕ × ℕ → Json
range_json range = list_json (number_json range.0 ∷ number_json range.1 ∷ [])

-- What calls add

-- whether a bookie is registered, and the tick at which it was lost
abbrev pub registration_tokens : Bool → Option ℕ → List Token
registration_tokens up lost =
    member_tokens (codes "up") (boolean up) ++ member_tokens (codes "lostAt") (or_null number_json lost)

-- the tokens of values, one after the other
abbrev pub tokens_of : List Json → List Token
tokens_of values = flat_map json_tokens values
