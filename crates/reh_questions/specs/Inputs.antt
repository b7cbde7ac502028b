-- What is read of the files of a cluster, and what is said of it.
use Rattle.std.specs.Prelude.{◌≡◌, ◌⊎◌, ℕ, ◌%◌, Bool, true, false, if◌then◌else◌, List, [], ◌++◌, All, Option, Some, Result, Ok, Err, String, codes, length, map, nat_eq, slice_get, string_bytes, vec_len, IfOk, IfSome, IsSome}
use Rattle.std.specs.Borrow.{Bor}
use Rattle.std.specs.Fmt.{decimal}
use Rattle.std.specs.List.{flat_map, IsDistinct}
use Rattle.std.specs.Option.{IsSomeAnd, option_and_then, option_map, option_map_or}
use Rattle.std.specs.declared.alloc.Global.{Global}
use Rattle.reh_after.specs.After.{IsAfter}
use Rattle.reh_census_file.specs.Texts.{text_of}
use Rattle.reh_census_file.specs.Values.{NamedCensus}
use Rattle.reh_census_json.specs.Objects.{json_of}
use Rattle.reh_inputs.specs.Gathered.{Gathers, ids_in}
use Rattle.reh_inputs.specs.Inputs.{IsRead, of_picture}
use Rattle.reh_inputs.specs.Named.{named_of, taken_of}
use Rattle.reh_census_file.specs.Faults.{fault_text as census_fault_text}
use Rattle.reh_census_file.specs.declared.faults.CensusFault.{CensusFault}
use Rattle.reh_census_file.specs.declared.faults.CensusFault.TheVariants as census_fault
use Rattle.reh_inputs.specs.declared.inputs.InputFault.{InputFault}
use Rattle.reh_inputs.specs.declared.inputs.InputFault.TheVariants as input_fault
use Rattle.reh_inputs.specs.declared.inputs.Input.{Input}
use Rattle.reh_inputs.specs.declared.inputs.Input.TheVariants.{Picture, Census}
use Rattle.reh_inputs.specs.declared.gathered.GatherFault.{GatherFault}
use Rattle.reh_inputs.specs.declared.gathered.GatherFault.TheVariants as gather
use Rattle.reh_inputs.specs.declared.together.Gathered.{Gathered}
use Rattle.reh_inventory_read.specs.Counted.{IsOfLines}
use Rattle.reh_inventory_read.specs.Named.{IsOfNames}
use Rattle.reh_inventory_read.specs.declared.counting.CountedInventory.{CountedInventory}
use Rattle.reh_stop.specs.Rounds.{SaysCost, SaysRounds}
use Rattle.reh_stop.specs.declared.rounds.AskedRisk.{AskedRisk}
use Rattle.reh_stop.specs.declared.rounds.AskedWaves.{AskedWaves}
use Rattle.reh_stop.specs.declared.rounds.RoundFault.{RoundFault}
use Rattle.reh_stop.specs.declared.rounds.RoundFault.TheVariants as round_fault
use Rattle.reh_stop.specs.declared.stops.Asked.{Asked}
use Rattle.reh_stop.specs.declared.stops.Said.{Said}
use Rattle.reh_words.specs.declared.tasks.CensusWords.{CensusWords}
use Rattle.reh_words.specs.declared.tasks.Inputs.{Inputs}
use Rattle.reh_words.specs.declared.tasks.RiskWords.{RiskWords}
use Rattle.reh_words.specs.declared.tasks.StopWords.{StopWords}
use Rattle.reh_words.specs.declared.tasks.WaveWords.{WaveWords}
use Rattle.reh_questions.specs.Against.{SaysOf, cut_notes, is_cut, is_stream}
use Rattle.reh_files.specs.declared.faults.RunFault.{RunFault}
use Rattle.reh_questions.specs.declared.inputs.FileInput.{FileInput}
use Rattle.reh_questions.specs.declared.inputs.FileKind.{FileKind}
use Rattle.reh_questions.specs.declared.inputs.FileKind.TheVariants as kind
use Rattle.reh_questions.specs.declared.inputs.GatheredFiles.{GatheredFiles}
use Rattle.reh_questions.specs.declared.inputs.Parted.{Parted}
use Rattle.reh_questions.specs.declared.noted.Noted.{Noted}
use Rattle.reh_files.specs.declared.faults.RunFault.TheVariants.{NoMemory, Refused, Unfit}
use Rattle.reh_picture.specs.declared.places.LocatedFault.{LocatedFault}

-- whether a file is an inventory
abbrev pub is_inventory : FileKind → Bool
is_inventory kind.Other = false
is_inventory (kind.Inventory cut) = true
is_inventory (kind.Stream cut) = true

-- it is what some bytes show, with the ids of its ledgers
pub record IsOfBytes (file : FileInput) : Type 0 where
  pub bytes : List ℕ
  pub is_read : IsRead bytes file.input
  pub ids : file.ids.items ≡ of_picture ids_in file.input
  pub kind_is : is_inventory file.kind ≡ false

-- an inventory was counted, strict or not: its bookies have the names that its lines name, in their order
pub record IsCountedOf (strict : Bool) (left : Option (List ℕ)) (counted : CountedInventory) : Type 0 where
  pub names : List (List ℕ)
  pub are_names : IsOfNames left names
  pub of_lines : IsOfLines strict names left counted

-- It is the census of some lines of an inventory, with the ids of their ledgers, and whether the last line isn't there. Of one that
-- can be read only once they are all lines of the bytes that were read.
pub record IsOfInventory (file : FileInput) : Type 0 where
  pub counted : CountedInventory
  pub strict : Bool
  pub left : Option (List ℕ)
  pub of_lines : IsCountedOf strict left counted
  pub known : is_stream file.kind ≡ true → IsSome left
  pub input : file.input ≡ Census counted.census
  pub ids : file.ids ≡ counted.ids
  pub kind_is : is_inventory file.kind ≡ true
  pub cut : is_cut file.kind ≡ counted.is_cut

abbrev pub IsOfFile : FileInput → Type 0
IsOfFile file = IsOfBytes file ⊎ IsOfInventory file

-- from some picture some script leads to a state of which the text is the picture; and of each bookie it is known what it
-- holds there, if that has to be
pub record IsAfterSome (all_known : Bool) (text : List ℕ) : Type 0 where
  pub picture : List ℕ
  pub script : List ℕ
  pub is_after : IsAfter picture script all_known text

-- a file shows what the picture of such a state shows
pub record IsOfEnd (file : FileInput) : Type 0 where
  pub text : List ℕ
  pub is_after : IsAfterSome true text
  pub is_read : IsRead text file.input

-- after a script each of the files does
abbrev pub AreAfter : Inputs → List FileInput → Type 0
AreAfter words files = IfSome words.after (λ script. All IsOfEnd files)

-- what files show, the ids of each one's ledgers, and what each is
pub record IsParted (files : List FileInput) (parted : Parted) : Type 0 where
  pub inputs : parted.inputs.items ≡ map (λ file. file.input) files
  pub ids : parted.ids.items ≡ map (λ file. file.ids) files
  pub kinds : parted.kinds.items ≡ map (λ file. file.kind) files

-- no ledger stands twice in them: the ids of all their ledgers are each there once
abbrev pub AreApart : List FileInput → Type 0
AreApart files = IsDistinct nat_eq (flat_map (λ ids. ids.items) (map (λ file. file.ids) files))

-- a file was read: what it shows is there, or its fault
abbrev pub IsInSlot : Option (Result FileInput RunFault) → Type 0
IsInSlot slot = IsSomeAnd slot (λ read. IfOk read IsOfFile)

-- what all files show together, each an input, where no ledger stands in two of them
pub record IsOfFiles (words : Inputs) (gathered : Gathered) : Type 0 where
  pub files : List FileInput
  pub each_file : length files ≡ vec_len words.files
  pub are_read : All IsOfFile files
  pub after : AreAfter words files
  pub apart : AreApart files
  pub gathers : Gathers (map (λ file. file.input) files) words.strict gathered

-- what each of these files is, with the ids of its ledgers, and when the oldest was taken
pub record AreGathered (words : Inputs) (files : GatheredFiles) : Type 0 where
  pub of_files : IsOfFiles words files.gathered
  pub ids : files.ids.items ≡ map (λ file. file.ids) of_files.files
  pub kinds : files.kinds.items ≡ map (λ file. file.kind) of_files.files
  pub taken : option_map string_bytes files.taken ≡ taken_of (map (λ file. file.input) of_files.files)

-- what is said of a stop, by all files
pub record SaysStop (words : StopWords) (said : Said) : Type 0 where
  pub files : GatheredFiles
  pub are_gathered : AreGathered words.inputs files
  pub asked : Asked
  pub same_bookies : asked.bookies.now ≡ words.bookies.items
  pub same_racks : asked.racks.now ≡ words.racks.items
  pub same_question : asked.question ≡ words.question
  pub same_form : asked.as_json ≡ words.as_json
  pub says : SaysOf files words.inputs.files.items words.inputs.strict asked said

-- the notes of an answer name each of these files that is an inventory whose last line isn't there, and no other
abbrev pub AreNotes : Inputs → GatheredFiles → Noted → Type 0
AreNotes words files noted = map string_bytes noted.notes.items ≡ cut_notes words.files.items files.kinds.items

-- what is said of rounds
abbrev pub waves_asked : WaveWords → AskedWaves
waves_asked words = record { question = words.question; by_rack = words.by_rack; as_json = words.as_json }

pub record SaysWaves (words : WaveWords) (noted : Noted) : Type 0 where
  pub files : GatheredFiles
  pub are_gathered : AreGathered words.inputs files
  pub says : SaysRounds files.gathered (waves_asked words) noted.text
  pub notes : AreNotes words.inputs files noted

-- and of the next losses
abbrev pub risk_asked : RiskWords → AskedRisk
risk_asked words = record { question = words.question; with_pairs = words.with_pairs; as_json = words.as_json }

pub record SaysRisk (words : RiskWords) (noted : Noted) : Type 0 where
  pub files : GatheredFiles
  pub are_gathered : AreGathered words.inputs files
  pub says : SaysCost files.gathered (risk_asked words) noted.text
  pub notes : AreNotes words.inputs files noted

-- and of a census, as JSON or as text
abbrev pub census_by : Bool → NamedCensus → List ℕ
census_by as_json census = if as_json then json_of census else text_of census

pub record SaysCensus (words : CensusWords) (noted : Noted) : Type 0 where
  pub files : GatheredFiles
  pub are_gathered : AreGathered words.inputs files
  pub says : string_bytes noted.text
      ≡ census_by words.as_json (named_of files.gathered words.inputs.strict (option_map string_bytes files.taken))
  pub notes : AreNotes words.inputs files noted

-- Inputs that can't be judged together

-- the path of an input, and the name of a bookie of it
abbrev pub path_of : List (Bor (List ℕ)) → ℕ → List ℕ
path_of files input = option_map_or (λ path. path.now) (slice_get files input) []

abbrev pub name_in : Input → ℕ → Option (List ℕ)
name_in (Picture l) bookie = slice_get l.listing.names (bookie % 64)
name_in (Census c) bookie = slice_get c.names (bookie % 4096)

abbrev pub name_of : List Input → ℕ → ℕ → List ℕ
name_of read input bookie =
    option_map_or (λ name. name) (option_and_then (λ one. name_in one bookie) (slice_get read input)) []

-- the fault has this text, or there is no memory for it
abbrev pub IsUnfit : List ℕ → RunFault → Type 0
IsUnfit text (Unfit reason) = string_bytes reason ≡ text
IsUnfit text NoMemory = Unit {0}
IsUnfit text other = ⊥

-- the fault says of the file's picture why it is refused, or there is no memory
abbrev pub TellsRefused : List ℕ → LocatedFault → RunFault → Type 0
TellsRefused path located (Refused (Some told) other) = (string_bytes told ≡ path) × (other ≡ located)
TellsRefused path located NoMemory = Unit {0}
TellsRefused path located other = ⊥

-- which fault of a run tells why the file is no census
abbrev pub census_text : List ℕ → CensusFault → List ℕ
census_text path fault = codes "census " ++ (path ++ (codes ": " ++ census_fault_text fault))

abbrev pub TellsCensus : List ℕ → CensusFault → RunFault → Type 0
TellsCensus path census_fault.NoMemory run = run ≡ NoMemory
TellsCensus path fault run = IsUnfit (census_text path fault) run

-- and which tells why it is no input
abbrev pub TellsUnreadable : List ℕ → InputFault → RunFault → Type 0
TellsUnreadable path (input_fault.Picture located) run = TellsRefused path located run
TellsUnreadable path (input_fault.Census fault) run = TellsCensus path fault run

abbrev pub too_many_text : List ℕ
too_many_text = codes "there are more entries, ledgers or fragments than can be counted"

-- the fault has the text that could be made
abbrev pub TellsText : {E : Type 0} → Result (String Global) E → RunFault → Type 0
TellsText (Ok text) run = run ≡ Unfit text
TellsText (Err want) run = run ≡ NoMemory

abbrev pub differs_text : List ℕ → List ℕ → List ℕ
differs_text path name =
    path ++ (codes " shows bookie '" ++ (name ++ codes "' otherwise than a file before it"))

abbrev pub empty_text : List ℕ → List ℕ → ℕ → List ℕ
empty_text path name ledger =
    path
    ++ (codes " shows bookie '"
    ++ (name
    ++ (codes "' as empty, but says that it holds entries of ledger "
    ++ (decimal ledger ++ codes ": leave out one of the two"))))

abbrev pub strict_text : List ℕ → Bool → List ℕ
strict_text path true = path ++ codes " is a census without --strict, and --strict is given"
strict_text path false = path ++ codes " is a census with --strict, and --strict isn't given"

abbrev pub bookies_text : List ℕ → List ℕ
bookies_text path = codes "with " ++ (path ++ codes " there are more than 4096 bookies")

abbrev pub twice_text : List ℕ → ℕ → List ℕ
twice_text path ledger =
    codes "ledger " ++ (decimal ledger ++ (codes " of " ++ (path ++ codes " is in a file before it, too")))

abbrev pub uncounted_text : List ℕ → ℕ → List ℕ
uncounted_text path ledger =
    codes "ledger " ++ (decimal ledger ++ (codes " of " ++ (path ++ codes " can't be counted")))

-- which fault of a run tells of this one: it names the file
abbrev pub TellsOf : Inputs → List Input → GatherFault → RunFault → Type 0
TellsOf words read (gather.Differs input bookie) run =
    IsUnfit (differs_text (path_of words.files.items input) (name_of read input bookie)) run
TellsOf words read (gather.TooManyBookies input bookie) run = IsUnfit (bookies_text (path_of words.files.items input)) run
TellsOf words read (gather.HoldsThoughEmpty input held) run =
    IsUnfit (empty_text (path_of words.files.items input) (name_of read input held.bookie) held.ledger) run
TellsOf words read (gather.Twice input ledger) run = IsUnfit (twice_text (path_of words.files.items input) ledger) run
TellsOf words read (gather.Unfit input ledger) run = IsUnfit (uncounted_text (path_of words.files.items input) ledger) run
TellsOf words read (gather.OtherStrict input) run =
    IsUnfit (strict_text (path_of words.files.items input) words.strict) run
TellsOf words read gather.TooMany run = IsUnfit too_many_text run
TellsOf words read gather.NoMemory run = run ≡ NoMemory

-- which fault of a run tells why rounds or next losses aren't answered
abbrev pub TellsRounds : RoundFault → RunFault → Type 0
TellsRounds round_fault.Unprintable run = IsUnfit (codes "a name has a byte that can't be printed") run
TellsRounds round_fault.NoMemory run = run ≡ NoMemory
