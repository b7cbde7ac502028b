-- The text of a census.
use Rattle.std.specs.Prelude.{ℕ, Bool, if◌then◌else◌, List, [], ◌∷◌, ◌++◌, length, map, codes, Option, None, Some}
use Rattle.std.specs.Prelude.{slice_get, unwrap_or}
use Rattle.std.specs.Fmt.{decimal}
use Rattle.std.specs.List.{zip}
use Rattle.reh_census.specs.declared.bookies.Bookie.{Bookie}
use Rattle.reh_census.specs.declared.censuses.CountedEnsemble.{CountedEnsemble}
use Rattle.reh_census.specs.declared.censuses.CountedTail.{CountedTail}
use Rattle.reh_census.specs.declared.censuses.Judged.{Judged}
use Rattle.reh_census.specs.declared.classes.Counted.{Counted}
use Rattle.reh_census_file.specs.Lines.{line_of, lines_of}
use Rattle.reh_census_file.specs.Values.{NamedCensus}

-- the name of this number; none is written where no name has it
abbrev pub name_of : List (List ℕ) → ℕ → List ℕ
name_of names number = unwrap_or (slice_get names number) []

abbrev pub names_of : List (List ℕ) → List ℕ → List (List ℕ)
names_of names numbers = map (name_of names) numbers

-- The lines at the head

abbrev pub strict_word : Bool → List ℕ
strict_word is_strict = if is_strict then codes "yes" else codes "no"

abbrev pub taken_word : Option (List ℕ) → List ℕ
taken_word None = codes "-"
taken_word (Some time) = time

abbrev pub head_words : NamedCensus → List (List (List ℕ))
head_words c =
    (codes "census" ∷ codes "1" ∷ []) ∷ (codes "strict" ∷ strict_word c.is_strict ∷ [])
    ∷ (codes "taken" ∷ taken_word c.taken ∷ []) ∷ []

-- The line of a bookie

abbrev pub up_word : Bool → List ℕ
up_word is_registered = if is_registered then codes "up" else codes "down"

-- the word, if it holds
abbrev pub word_if : Bool → List ℕ → List (List ℕ)
word_if holds word = if holds then word ∷ [] else []

abbrev pub rack_words : List (List ℕ) → Option ℕ → List (List ℕ)
rack_words racks None = []
rack_words racks (Some rack) = codes "rack" ∷ name_of racks rack ∷ []

abbrev pub bookie_words : List (List ℕ) → List ℕ → Bookie → List (List ℕ)
bookie_words racks name b =
    codes "bookie" ∷ name ∷ up_word b.is_registered ∷ (word_if b.is_read_only (codes "read-only")
    ++ (word_if b.is_empty (codes "empty") ++ rack_words racks b.rack))

abbrev pub bookie_lines : NamedCensus → List (List (List ℕ))
bookie_lines c = map (λ named. bookie_words c.racks named.0 named.1) (zip c.names c.bookies)

-- The lines of counts

abbrev pub judged_words : Judged → List (List ℕ)
judged_words j =
    codes "ledgers" ∷ decimal j.ledgers ∷ codes "assumed" ∷ decimal j.assumed ∷ codes "unread" ∷ decimal j.unread
    ∷ codes "missing" ∷ decimal j.missing ∷ []

abbrev pub entries_words : List (List ℕ) → Counted → List (List ℕ)
entries_words names c =
    codes "entries" ∷ decimal c.count ∷ codes "write" ∷ decimal c.class.write_quorum ∷ codes "ack"
    ∷ decimal c.class.ack_quorum ∷ codes "known" ∷ decimal (length c.class.known)
    ∷ (names_of names c.class.known ++ (codes "untold" ∷ decimal (length c.class.untold)
    ∷ names_of names c.class.untold))

abbrev pub state_word : Bool → List ℕ
state_word is_open = if is_open then codes "open" else codes "in-recovery"

abbrev pub tail_words : List (List ℕ) → CountedTail → List (List ℕ)
tail_words names t =
    codes "tail" ∷ decimal t.count ∷ state_word t.tail.is_open ∷ codes "size" ∷ decimal t.tail.size ∷ codes "write"
    ∷ decimal t.tail.write_quorum ∷ codes "ack" ∷ decimal t.tail.ack_quorum ∷ names_of names t.tail.ensemble

abbrev pub ensemble_words : List (List ℕ) → CountedEnsemble → List (List ℕ)
ensemble_words names e = codes "ensemble" ∷ decimal e.count ∷ names_of names e.members

-- The text

-- the lines that stand before the last one
abbrev pub body_words : NamedCensus → List (List (List ℕ))
body_words c =
    head_words c ++ (bookie_lines c ++ (judged_words c.census.judged ∷ (map (entries_words c.names) c.census.entries
    ++ (map (tail_words c.names) c.census.tails ++ map (ensemble_words c.names) c.census.ensembles))))

-- how many these are
abbrev pub end_words : ℕ → List (List ℕ)
end_words count = codes "end" ∷ decimal count ∷ []

-- the text of a census: its lines, and one that counts them
abbrev pub text_of : NamedCensus → List ℕ
text_of c = lines_of (body_words c) ++ line_of (end_words (length (body_words c)))
