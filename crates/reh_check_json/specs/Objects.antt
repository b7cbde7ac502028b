-- A picture that is checked, as a JSON value.
use Rattle.std.specs.Prelude.{ℕ, ◌^◌, ◌-◌, List, ◌++◌, codes, min}
use Rattle.json.specs.Json.{Json, null, object, string, no_members, member}
use Rattle.json.specs.Token.{Token}
use Rattle.reh_model.specs.Cluster.{Cluster}
use Rattle.reh_types.specs.declared.limits.TheConstants.{MAX_WORDS}
use Rattle.reh_picture.specs.declared.counts.Counts.{Counts}
use Rattle.reh_answer.specs.Objects.{line_of, member_tokens, number_json}
use Rattle.reh_check_json.specs.Scripts.{script_json}

-- How much a picture shows, and what is found in a script. There are never so many entries that `min` matters.
abbrev pub checked_with : Counts → Json → Json
checked_with c script =
    object (
    member (codes "input") (string (codes "picture"))
    (member (codes "bookies") (number_json c.bookies)
    (member (codes "up") (number_json c.up)
    (member (codes "ledgers") (number_json c.ledgers)
    (member (codes "open") (number_json c.open)
    (member (codes "inRecovery") (number_json c.in_recovery)
    (member (codes "closed") (number_json c.closed)
    (member (codes "fragments") (number_json c.fragments)
    (member (codes "entries") (number_json (min c.entries (2 ^ 64 - 1)))
    (member (codes "words") (number_json c.words)
    (member (codes "maxWords") (number_json MAX_WORDS) (member (codes "script") script no_members)))))))))))
    )

-- a picture alone
abbrev pub picture_value : Counts → Json
picture_value c = checked_with c null

-- a picture that shows this state, with the lines of a script
abbrev pub checked_value : Counts → Cluster → List (List ℕ) → Json
checked_value c s lines = checked_with c (script_json s lines)

-- one object on one line
abbrev pub picture_text : Counts → List ℕ
picture_text c = line_of (picture_value c)

abbrev pub checked_text : Counts → Cluster → List (List ℕ) → List ℕ
checked_text c s lines = line_of (checked_value c s lines)

-- What a call adds

abbrev pub parts_tokens : Counts → List Token
parts_tokens c =
    member_tokens (codes "input") (string (codes "picture"))
    ++ (member_tokens (codes "bookies") (number_json c.bookies)
    ++ (member_tokens (codes "up") (number_json c.up)
    ++ (member_tokens (codes "ledgers") (number_json c.ledgers)
    ++ (member_tokens (codes "open") (number_json c.open)
    ++ (member_tokens (codes "inRecovery") (number_json c.in_recovery)
    ++ member_tokens (codes "closed") (number_json c.closed))))))

abbrev pub sizes_tokens : Counts → List Token
sizes_tokens c =
    member_tokens (codes "fragments") (number_json c.fragments)
    ++ (member_tokens (codes "entries") (number_json (min c.entries (2 ^ 64 - 1)))
    ++ (member_tokens (codes "words") (number_json c.words) ++ member_tokens (codes "maxWords") (number_json MAX_WORDS)))

abbrev pub counts_tokens : Counts → List Token
counts_tokens c = parts_tokens c ++ sizes_tokens c
