-- What is said of words that misname bookies or racks.
use Rattle.std.specs.Prelude.{◌≡◌, ℕ, List, [], ◌∷◌, ◌++◌, Result, Ok, Err, String, codes, length, slice_get, string_bytes}
use Rattle.std.specs.Borrow.{Bor}
use Rattle.std.specs.Fmt.{decimal}
use Rattle.std.specs.Option.{option_map_or}
use Rattle.std.specs.declared.alloc.Global.{Global}
use Rattle.reh_near.specs.Near.{Told, told_nearest, near_to, near_text}
use Rattle.reh_stop.specs.declared.stops.StopFault.{StopFault}
use Rattle.reh_stop.specs.declared.stops.StopFault.TheVariants as stop
use Rattle.reh_files.specs.declared.faults.RunFault.{RunFault}
use Rattle.reh_files.specs.declared.faults.RunFault.TheVariants.{Misnamed, NoMemory}

-- the fault has this text, or there is no memory for it
abbrev pub IsMisnamed : List ℕ → RunFault → Type 0
IsMisnamed text (Misnamed reason) = string_bytes reason ≡ text
IsMisnamed text NoMemory = Unit {0}
IsMisnamed text other = ⊥

-- the same, whatever the text is
abbrev pub IsOfNames : RunFault → Type 0
IsOfNames (Misnamed reason) = Unit {0}
IsOfNames NoMemory = Unit {0}
IsOfNames other = ⊥

-- the fault has the text that could be made
abbrev pub TellsText : {E : Type 0} → Result (String Global) E → RunFault → Type 0
TellsText (Ok text) run = run ≡ Misnamed text
TellsText (Err want) run = run ≡ NoMemory

-- the word of this number
abbrev pub word_at : List (Bor (List ℕ)) → ℕ → List ℕ
word_at words number = option_map_or (λ word. word.now) (slice_get words number) []

-- how many names there are, and the first
abbrev pub count_text : List (List ℕ) → List ℕ
count_text [] = []
count_text (first ∷ more) =
    codes ": there are " ++ (decimal (length (first ∷ more)) ++ (codes ", such as '" ++ (first ++ codes "'")))

-- what is told of the names that there are: those that are near, or how many there are
abbrev pub told_text : List (List ℕ) → Told → List ℕ
told_text names (told_nearest []) = count_text names
told_text names told = near_text told

-- what stands after a name that is none of them
abbrev pub known_text : List (List ℕ) → List ℕ → List ℕ
known_text names name = told_text names (near_to names name)

abbrev pub unknown_text : List ℕ → List (List ℕ) → List ℕ → List ℕ
unknown_text path names name = path ++ (codes " has no bookie '" ++ (name ++ (codes "'" ++ known_text names name)))

abbrev pub unknown_to_all_text : List (List ℕ) → List ℕ → List ℕ
unknown_to_all_text names name = codes "no input has a bookie '" ++ (name ++ (codes "'" ++ known_text names name))

abbrev pub nobody_text : List ℕ
nobody_text = codes "no bookie is named: give --lose or --lose-rack"

abbrev pub again_text : List ℕ → List ℕ
again_text name = codes "bookie '" ++ (name ++ codes "' is named twice")

abbrev pub ambiguous_text : List ℕ → List ℕ
ambiguous_text word = codes "'" ++ (word ++ codes "' is one bookie, and a list of others")

-- which fault of a run tells of this one
abbrev pub TellsOf : StopFault → RunFault → Type 0
TellsOf stop.Nobody run = IsMisnamed nobody_text run
TellsOf (stop.Ambiguous word) run = IsMisnamed (ambiguous_text word.now) run
TellsOf (stop.UnknownBookie name) run = IsOfNames run
TellsOf (stop.Twice name) run = IsMisnamed (again_text name.now) run
TellsOf (stop.UnknownRack name) run = IsOfNames run
TellsOf stop.NoMemory run = run ≡ NoMemory
