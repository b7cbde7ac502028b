-- A census as a JSON value.
use Rattle.std.specs.Prelude.{ℕ, Bool, true, if◌then◌else◌, nat_lt, List, length, map, codes, Option, None, Some}
use Rattle.std.specs.List.{zip}
use Rattle.json.specs.Json.{Json, boolean, null, object, string, no_members, member}
use Rattle.reh_census.specs.declared.bookies.Bookie.{Bookie}
use Rattle.reh_census.specs.declared.censuses.CountedEnsemble.{CountedEnsemble}
use Rattle.reh_census.specs.declared.censuses.CountedTail.{CountedTail}
use Rattle.reh_census.specs.declared.censuses.Judged.{Judged}
use Rattle.reh_census.specs.declared.classes.Counted.{Counted}
use Rattle.reh_census.specs.Counting.{count_in}
use Rattle.reh_answer.specs.Objects.{line_of, list_json, number_json, text_or_null}
use Rattle.reh_census_file.specs.Texts.{name_of}
use Rattle.reh_census_file.specs.Values.{NamedCensus}

-- names of bookies, by number

abbrev pub name_json : List (List ℕ) → ℕ → Json
name_json names number = string (name_of names number)

abbrev pub names_json : List (List ℕ) → List ℕ → Json
names_json names numbers = list_json (map (name_json names) numbers)

-- A bookie, by the names of racks

abbrev pub rack_json : List (List ℕ) → Option ℕ → Json
rack_json racks None = null
rack_json racks (Some rack) = name_json racks rack

abbrev pub bookie_json : List (List ℕ) → List ℕ → Bookie → Json
bookie_json racks name b =
    object (
    member (codes "name") (string name)
    (member (codes "up") (boolean b.is_registered)
    (member (codes "readOnly") (boolean b.is_read_only)
    (member (codes "empty") (boolean b.is_empty) (member (codes "rack") (rack_json racks b.rack) no_members))))
    )

abbrev pub named_json : List (List ℕ) → List ℕ × Bookie → Json
named_json racks named = bookie_json racks named.0 named.1

abbrev pub bookies_json : NamedCensus → Json
bookies_json c = list_json (map (named_json c.racks) (zip c.names c.bookies))

-- What was counted

-- how many entries there are, and of how many of them some bookie is untold; how many ledgers were announced isn't known
abbrev pub judged_with : Judged → ℕ → ℕ → Option (List ℕ) → Json
judged_with judged entries unknown taken =
    object (
    member (codes "ledgers") (number_json judged.ledgers)
    (member (codes "entries") (number_json entries)
    (member (codes "assumed") (number_json judged.assumed)
    (member (codes "unknown") (number_json unknown)
    (member (codes "unread") (number_json judged.unread)
    (member (codes "missing") (number_json judged.missing)
    (member (codes "announced") null
    (member (codes "taken") (text_or_null taken) no_members)))))))
    )

abbrev pub judged_json : NamedCensus → Json
judged_json c =
    judged_with c.census.judged (count_in c.census.entries (λ class. true))
    (count_in c.census.entries (λ class. nat_lt 0 (length class.untold))) c.taken

abbrev pub class_json : List (List ℕ) → Counted → Json
class_json names c =
    object (
    member (codes "count") (number_json c.count)
    (member (codes "writeQuorumSize") (number_json c.class.write_quorum)
    (member (codes "ackQuorumSize") (number_json c.class.ack_quorum)
    (member (codes "known") (names_json names c.class.known)
    (member (codes "untold") (names_json names c.class.untold) no_members))))
    )

-- as a picture names it
abbrev pub state_word : Bool → List ℕ
state_word is_open = if is_open then codes "OPEN" else codes "IN_RECOVERY"

abbrev pub tail_json : List (List ℕ) → CountedTail → Json
tail_json names t =
    object (
    member (codes "count") (number_json t.count)
    (member (codes "state") (string (state_word t.tail.is_open))
    (member (codes "ensembleSize") (number_json t.tail.size)
    (member (codes "writeQuorumSize") (number_json t.tail.write_quorum)
    (member (codes "ackQuorumSize") (number_json t.tail.ack_quorum)
    (member (codes "ensemble") (names_json names t.tail.ensemble) no_members)))))
    )

abbrev pub ensemble_json : List (List ℕ) → CountedEnsemble → Json
ensemble_json names e =
    object (member (codes "count") (number_json e.count) (member (codes "bookies") (names_json names e.members) no_members))

-- All of it

abbrev pub entries_json : NamedCensus → Json
entries_json c = list_json (map (class_json c.names) c.census.entries)

abbrev pub tails_json : NamedCensus → Json
tails_json c = list_json (map (tail_json c.names) c.census.tails)

abbrev pub ensembles_json : NamedCensus → Json
ensembles_json c = list_json (map (ensemble_json c.names) c.census.ensembles)

abbrev pub census_value : NamedCensus → Json
census_value c =
    object (
    member (codes "strict") (boolean c.is_strict)
    (member (codes "judged") (judged_json c)
    (member (codes "bookies") (bookies_json c)
    (member (codes "entries") (entries_json c)
    (member (codes "tails") (tails_json c) (member (codes "ensembles") (ensembles_json c) no_members)))))
    )

-- one object on one line
abbrev pub json_of : NamedCensus → List ℕ
json_of c = line_of (census_value c)
