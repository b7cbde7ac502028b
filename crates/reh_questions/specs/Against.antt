-- The ledgers that speak against a stop, of pictures and of inventories that are read once more.
use Rattle.std.specs.Prelude.{ℕ, Bool, true, false, not, ◌&&◌, ◌==◌, List, [], ◌∷◌, ◌++◌, codes, length, map, is_none, option_map, string_bytes, zip, if◌then◌else◌}
use Rattle.std.specs.Borrow.{Bor}
use Rattle.std.specs.List.{flat_map, list_any}
use Rattle.reh_against.specs.declared.stops.Stop.{Stop}
use Rattle.reh_against.specs.declared.worst.Worst.{Worst}
use Rattle.reh_against.specs.Worst.{alone}
use Rattle.reh_census.specs.declared.answers.Answer.{Answer}
use Rattle.reh_census.specs.declared.answers.Answer.TheVariants.{Yes, No, Unknown, UnknownDisks, NotJudged}
use Rattle.reh_census.specs.declared.bookies.Bookie.{Bookie}
use Rattle.reh_census.specs.Ledgers.{Ledger}
use Rattle.reh_census.specs.declared.censuses.Judged.{Judged}
use Rattle.reh_inventory_against.specs.declared.rereading.Rereading.{Rereading}
use Rattle.reh_inventory_against.specs.Files.{AreWeighed, Weighed, ids_in, ledgers_in}
use Rattle.reh_inventory_against.specs.Reread.{IsWeighing}
use Rattle.reh_stop.specs.Stops.{IsAnsweredBy, IsJudged}
use Rattle.reh_stop.specs.declared.stops.Asked.{Asked}
use Rattle.reh_stop.specs.declared.stops.Said.{Said}
use Rattle.reh_stop.specs.declared.verdicts.Verdict.{Verdict}
use Rattle.reh_questions.specs.declared.inputs.FileKind.{FileKind}
use Rattle.reh_questions.specs.declared.inputs.FileKind.TheVariants as kind
use Rattle.reh_questions.specs.declared.inputs.GatheredFiles.{GatheredFiles}

-- whether a ledger may speak against a stop with this answer
abbrev pub has_against : Answer → Bool
has_against Yes = false
has_against (No rule count) = true
has_against (Unknown rule count) = true
has_against (UnknownDisks count) = true
has_against (NotJudged count) = false

-- whether a file is read once more, if any is: an inventory, if it can be
abbrev pub is_read_again : Bool → FileKind → Bool
is_read_again is_any kind.Other = false
is_read_again is_any (kind.Inventory cut) = is_any
is_read_again is_any (kind.Stream cut) = false

abbrev pub is_stream : FileKind → Bool
is_stream kind.Other = false
is_stream (kind.Inventory cut) = false
is_stream (kind.Stream cut) = true

-- whether a file is an inventory whose last line isn't there
abbrev pub is_cut : FileKind → Bool
is_cut kind.Other = false
is_cut (kind.Inventory cut) = cut
is_cut (kind.Stream cut) = cut

-- a note on such a file
abbrev pub cut_text : List ℕ → List ℕ
cut_text path =
    codes "inventory " ++ (path ++ codes " has no last line: the file was cut, and ledgers may be missing")

abbrev pub cut_note : List ℕ → FileKind → List (List ℕ)
cut_note path kind = if is_cut kind then cut_text path ∷ [] else []

-- one on each of these files that is one
abbrev pub cut_notes : List (Bor (List ℕ)) → List FileKind → List (List ℕ)
cut_notes files kinds = flat_map (λ pair. cut_note pair.0.now pair.1) (zip files kinds)

-- a note where some inventory would be read once more, and can't
abbrev pub stream_text : List ℕ
stream_text = codes "no ledger is named of an inventory that can be read only once, as from a pipe"

-- whether files show no ledger, and none that could not be read or was announced alone
abbrev pub is_empty : Judged → Bool
is_empty judged = (judged.ledgers == 0) && ((judged.unread == 0) && (judged.missing == 0))

-- a note where they show none
abbrev pub empty_text : List ℕ
empty_text = codes "no ledger was judged: the answer is for a cluster without ledgers"

-- whether a registered bookie's rack isn't known
abbrev pub is_unracked : Bookie → Bool
is_unracked b = b.is_registered && is_none b.rack

-- whether racks are named, and that of some registered bookie isn't known
abbrev pub lacks_rack : List (Bor (List ℕ)) → List Bookie → Bool
lacks_rack racks bookies = not (length racks == 0) && list_any is_unracked bookies

-- a note where it is so
abbrev pub rack_text : List ℕ
rack_text = codes "some registered bookies have no known rack: they don't count as in a rack that is named"

abbrev pub notes_of : Judged → Bool → Bool → List (Bor (List ℕ)) → List FileKind → List (List ℕ)
notes_of judged lacks_rack is_any files kinds =
    ((cut_notes files kinds ++ (if is_empty judged then empty_text ∷ [] else []))
    ++ (if lacks_rack then rack_text ∷ [] else []))
    ++ (if is_any && list_any is_stream kinds then stream_text ∷ [] else [])

-- some lines of an inventory were read once more, and their ledgers weighed
pub record IsUnderWay (stop : Stop) (names : List (List ℕ)) (strict : Bool) (ids : List ℕ) (ledgers : List (List Ledger))
    (again : Rereading) (worst : Worst) : Type 0 where
  pub first : List ℕ
  pub lines : List (List ℕ)
  pub weighing : IsWeighing stop names strict ids ledgers first lines again worst

-- What is said of a stop by these files: where a ledger may speak against it, each inventory that can be was read once
-- more, and had the same ledgers. Of these and of those of pictures the worst are named. The time that is told is that of
-- the files. An inventory without its last line has a note, by its path.
pub record SaysOf (files : GatheredFiles) (paths : List (Bor (List ℕ))) (strict : Bool) (asked : Asked) (said : Said) : Type 0 where
  pub verdict : Verdict
  pub judged : IsJudged files.gathered asked verdict
  pub weighed : List Weighed
  pub are : AreWeighed files.gathered.cluster.names strict
      (map (is_read_again (has_against verdict.facts.answer)) files.kinds.items) files.ids.items weighed
  pub answered : IsAnsweredBy (files.gathered.ids.items ++ flat_map ids_in weighed)
      (map alone files.gathered.ledgers.items ++ flat_map ledgers_in weighed)
      (option_map string_bytes files.taken)
      (notes_of files.gathered.census.judged (lacks_rack asked.racks.now files.gathered.bookies)
      (has_against verdict.facts.answer) paths files.kinds.items) files.gathered asked said
