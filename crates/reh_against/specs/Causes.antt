-- Why a ledger speaks against a stop, in words.
use Rattle.std.specs.Prelude.{◌≡◌, ℕ, Bool, false, not, ◌&&◌, nat_lt, if◌then◌else◌, List, [], ◌∷◌, ◌++◌}
use Rattle.std.specs.Prelude.{flat_map, codes, find}
use Rattle.std.specs.Fmt.{decimal}
use Rattle.std.specs.List.{filter, list_any}
use Rattle.std.specs.Option.{option_map_or}
use Rattle.reh_census.specs.declared.answers.Answer.{Answer}
use Rattle.reh_census.specs.declared.answers.Answer.TheVariants.{Yes, No, Unknown, UnknownDisks, NotJudged}
use Rattle.reh_census.specs.declared.answers.Rule.{Rule}
use Rattle.reh_census.specs.declared.answers.Rule.TheVariants.{Readable, Kept, Recoverable, Writable, Replaceable}
use Rattle.reh_census.specs.declared.classes.Class.{Class}
use Rattle.reh_census.specs.declared.classes.Counted.{Counted}
use Rattle.reh_census.specs.declared.questions.Keep.{Keep}
use Rattle.reh_census.specs.Bookies.{Bookies, holders}
use Rattle.reh_census.specs.Copies.{is_in}
use Rattle.reh_census.specs.Counting.{CountsEntries}
use Rattle.reh_census.specs.Ledgers.{Ledger}
use Rattle.reh_rules.specs.declared.entries.Breaks.{Breaks}
use Rattle.reh_rules.specs.Entries.{breaks_of}
use Rattle.reh_answer.specs.Texts.{name_of}

-- Where an entry is left

-- a name after a comma
abbrev pub next : List (List ℕ) → ℕ → List ℕ
next names b = codes ", " ++ name_of names b

-- the names of these, with commas between them
abbrev pub listed : List (List ℕ) → List ℕ → List ℕ
listed names [] = []
listed names (b ∷ bookies) = name_of names b ++ flat_map (next names) bookies

-- on which bookies, where all is told
abbrev pub sure_words : List (List ℕ) → List ℕ → List ℕ
sure_words names [] = codes "then nowhere"
sure_words names (b ∷ []) = codes "then on " ++ (name_of names b ++ codes " alone")
sure_words names (b ∷ other ∷ bookies) = codes "then on " ++ listed names (b ∷ other ∷ bookies)

-- where nobody told of others
abbrev pub untold_words : List (List ℕ) → List ℕ → List ℕ
untold_words names untold = codes "then maybe on " ++ listed names untold

abbrev pub both_words : List (List ℕ) → List ℕ → List ℕ → List ℕ
both_words names known untold =
    codes "then on " ++ (listed names known ++ (codes ", and maybe on " ++ listed names untold))

abbrev pub maybe_words : List (List ℕ) → List ℕ → List ℕ → List ℕ
maybe_words names [] untold = untold_words names untold
maybe_words names (b ∷ known) untold = both_words names (b ∷ known) untold

abbrev pub left_words : List (List ℕ) → List ℕ → List ℕ → List ℕ
left_words names known [] = sure_words names known
left_words names known (u ∷ untold) = maybe_words names known (u ∷ untold)

-- those of these bookies that aren't stopped
abbrev pub others : (ℕ → Bool) → List ℕ → List ℕ
others stopped bookies = filter (λ b. not (stopped b)) bookies

abbrev pub class_words : List (List ℕ) → (ℕ → Bool) → Class → List ℕ
class_words names stopped class = left_words names (others stopped class.known) (others stopped class.untold)

-- The entries that speak against the stop

-- whether an entry breaks the rule, or may break it
abbrev pub is_broken : Rule → Breaks → Bool
is_broken Readable breaks = breaks.lost
is_broken Kept breaks = breaks.fallen
is_broken Recoverable breaks = false
is_broken Writable breaks = false
is_broken Replaceable breaks = false

abbrev pub may_be_broken : Rule → Breaks → Bool
may_be_broken Readable breaks = breaks.may_be_lost
may_be_broken Kept breaks = breaks.may_be_fallen
may_be_broken Recoverable breaks = false
may_be_broken Writable breaks = false
may_be_broken Replaceable breaks = false

-- whether it speaks for the answer
abbrev pub speaks_by : Answer → Breaks → Bool
speaks_by Yes breaks = false
speaks_by (No rule count) breaks = is_broken rule breaks
speaks_by (Unknown rule count) breaks = may_be_broken rule breaks
speaks_by (UnknownDisks count) breaks = false
speaks_by (NotJudged count) breaks = false

-- whether there is an entry of this class, and it does
abbrev pub some_speaks : Answer → Keep → (ℕ → Bool) → Counted → Bool
some_speaks answer keep stopped counted =
    nat_lt 0 counted.count && speaks_by answer (breaks_of keep false stopped counted.class)

-- where the first of them is left
abbrev pub first_words : List (List ℕ) → Answer → Keep → (ℕ → Bool) → List Counted → List ℕ
first_words names answer keep stopped entries =
    option_map_or (λ counted. class_words names stopped counted.class) (find (some_speaks answer keep stopped) entries) []

-- which members of the ledger are down

abbrev pub is_member_of : ℕ → Ledger → Bool
is_member_of b g = list_any (λ fragment. is_in fragment.ensemble b) g.fragments

-- of one of its parts
abbrev pub is_member : List Ledger → ℕ → Bool
is_member parts b = list_any (is_member_of b) parts

abbrev pub is_down_member : Bookies → List Ledger → ℕ → Bool
is_down_member bookies parts b = not (bookies.is_registered b) && is_member parts b

-- that the bookie is down, if it is
abbrev pub down_if : List (List ℕ) → ℕ → Bool → List ℕ
down_if names b is_down = if is_down then codes "; " ++ (name_of names b ++ codes " is down") else []

abbrev pub down_words : List (List ℕ) → Bookies → List Ledger → List ℕ
down_words names bookies parts = flat_map (λ b. down_if names b (is_down_member bookies parts b)) bookies.names

-- The cause

-- what a rule says of a ledger that breaks it so often; where it is entries, they say it
abbrev pub rule_words : Rule → ℕ → List ℕ
rule_words Readable weight = []
rule_words Kept weight = []
rule_words Recoverable weight = codes "too few bookies are left to recover it"
rule_words Writable weight = codes "its writer finds no ensemble"
rule_words Replaceable weight = codes "no bookies for places of " ++ (decimal weight ++ codes " of its fragments")

abbrev pub answer_words : Answer → ℕ → List ℕ
answer_words Yes weight = []
answer_words (No rule count) weight = rule_words rule weight
answer_words (Unknown rule count) weight = []
answer_words (UnknownDisks count) weight = codes "fewer known copies than are to be kept, and a disk that goes for good may have more"
answer_words (NotJudged count) weight = []

-- by these entries of the ledger
abbrev pub cause_by : List (List ℕ) → Bookies → Keep → (ℕ → Bool) → Answer → ℕ → List Ledger → List Counted → List ℕ
cause_by names bookies keep stopped answer weight parts entries =
    answer_words answer weight ++ (first_words names answer keep stopped entries ++ down_words names bookies parts)

-- by some count of the entries of the ledger's parts
abbrev pub IsCause : List (List ℕ) → Bookies → Keep → (ℕ → Bool) → Answer → ℕ → List Ledger → List ℕ → Type 0
IsCause names bookies keep stopped answer weight parts cause =
    (entries : List Counted) × CountsEntries entries (holders bookies) parts
    × (cause ≡ cause_by names bookies keep stopped answer weight parts entries)
