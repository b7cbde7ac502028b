-- The cluster that a picture shows, or the picture's first fault.
use Rattle.std.specs.Prelude.{ℕ, ◌*◌, Bool, ◌==◌, nat_lt, nat_le, List, [], ◌∷◌, map, length, sum_by, ◌≡◌, if◌then◌else◌, Option}
use Rattle.std.specs.Prelude.{true, None, Some, Result, Ok, Err}
use Rattle.std.specs.Option.{ok_or}
use Rattle.std.specs.Result.{result_map_both}
use Rattle.std.specs.Str.{is_utf8}
use Rattle.serde_json.specs.Data.{Data}
use Rattle.reh_types.specs.declared.limits.TheConstants.{MAX_DELAY, MAX_GRACE, MAX_PICTURE_BYTES, MAX_WORDS}
use Rattle.reh_picture.specs.declared.pictures.TheConstants.{DELAY_FORMAT, FIRST_FORMAT}
use Rattle.serde_json.specs.Read.{read}
use Rattle.reh_model.specs.Contents.{Contents}
use Rattle.reh_model.specs.Cluster.{Cluster, Ledger, cluster_of}
use Rattle.reh_fields.specs.declared.fields.Field.TheVariants as field
use Rattle.reh_fields.specs.declared.faults.PictureFault.{PictureFault}
use Rattle.reh_fields.specs.declared.faults.PictureFault.TheVariants.{TooLong, NotJson, WrongKind, Limit}
use Rattle.reh_model.specs.Checks.{first_reason, reason_unless}
use Rattle.reh_fields.specs.Members.{is_object, number_fault, number_of, list_of}
use Rattle.reh_picture.specs.declared.places.Place.{Place}
use Rattle.reh_picture.specs.declared.places.Place.TheVariants as place
use Rattle.reh_picture.specs.Places.{fault_at}
use Rattle.reh_picture.specs.Bookies.{bookies_fault, names_in, registrations_in}
use Rattle.reh_picture.specs.Ledgers.{ledgers_fault, ListedLedger, listed_in, ledger_in, ids_in}
use Rattle.reh_picture.specs.Contents.{Holding, contents_fault, holding_in, held_in}

-- the names of a picture's bookies, and the ids of its ledgers

abbrev pub names_of : Data → List (List ℕ)
names_of d = names_in (list_of d field.Bookies)

abbrev pub ids_of : Data → List ℕ
ids_of d = ids_in (list_of d field.Ledgers)

-- what its bookies hold
abbrev pub contents_of : Data → Contents
contents_of d = held_in (map (holding_in (names_of d)) (list_of d field.Contents))

-- whether the picture has a delay for lost bookies: that of format 2 has
abbrev pub has_delay : Data → Bool
has_delay d = number_of d field.Format == DELAY_FORMAT

-- the delay, none in a picture of format 1
abbrev pub delay_of : Data → ℕ
delay_of d = if has_delay d then number_of d field.LostDelayTicks else 0

-- the cluster that the fields name, with no task and no lock, at clock 0, with AutoRecovery enabled
abbrev pub pictured_cluster : Data → Cluster
pictured_cluster d =
    let ledgers = map (ledger_in (names_of d) (contents_of d)) (list_of d field.Ledgers) in
    cluster_of (names_of d) (registrations_in (list_of d field.Bookies)) (number_of d field.Grace) (delay_of d) true
    ledgers (contents_of d)

-- words of entries that all bookies together take, each as many for a ledger as it has
abbrev pub words_in_all : Cluster → ℕ
words_in_all s = length s.names * sum_by (λ g. g.words) s.parts.ledgers

-- what is wrong with the delay, where there is one
abbrev pub delay_fault : Data → Option PictureFault
delay_fault d = if has_delay d then number_fault d field.LostDelayTicks 0 MAX_DELAY else None

-- what is wrong before the lists
unfoldable pub head_fault : Data → Option PictureFault
head_fault d =
    first_reason (
    reason_unless (is_object d) (WrongKind field.Picture)
    ∷ number_fault d field.Format FIRST_FORMAT DELAY_FORMAT
    ∷ number_fault d field.Grace 0 MAX_GRACE
    ∷ delay_fault d
    ∷ [])

-- the first fault of a picture's fields, in their order
abbrev pub parts_fault : Data → Option (PictureFault × Place)
parts_fault d =
    first_reason (
    fault_at place.Picture (head_fault d)
    ∷ bookies_fault d
    ∷ ledgers_fault (names_of d) d
    ∷ contents_fault (names_of d) (ids_of d) d
    ∷ [])

-- the limit of words
abbrev pub words_fault : Data → Option PictureFault
words_fault d = reason_unless (nat_le (words_in_all (pictured_cluster d)) MAX_WORDS) (Limit field.Contents)

-- that is judged at the end of all
abbrev pub fields_fault : Data → Option (PictureFault × Place)
fields_fault d = first_reason (parts_fault d ∷ fault_at place.Picture (words_fault d) ∷ [])

-- the cluster, unless there is a fault
abbrev pub unless_fault : Option (PictureFault × Place) → Cluster → Result Cluster (PictureFault × Place)
unless_fault None s = Ok s
unless_fault (Some found) s = Err found

abbrev pub picture_in : Data → Result Cluster (PictureFault × Place)
picture_in d = unless_fault (fields_fault d) (pictured_cluster d)

-- what bytes are as JSON
abbrev pub json_of : List ℕ → Option Data
json_of bytes = if is_utf8 bytes then read bytes else None

-- the same of a picture's bytes, which must be JSON, and not too many
abbrev pub json_in : List ℕ → Result Data (PictureFault × Place)
json_in bytes =
    if nat_lt MAX_PICTURE_BYTES (length bytes) then Err (TooLong, place.Picture)
    else ok_or (json_of bytes) (NotJson, place.Picture)

-- what a JSON value shows, which there must be
abbrev pub shown_by : Result Data (PictureFault × Place) → Result Cluster (PictureFault × Place)
shown_by (Ok d) = picture_in d
shown_by (Err found) = Err found

-- what a picture shows, or its first fault and where that is
abbrev pub located_picture_of : List ℕ → Result Cluster (PictureFault × Place)
located_picture_of bytes = shown_by (json_in bytes)

-- the same without the place of the fault
abbrev pub picture_of : List ℕ → Result Cluster PictureFault
picture_of bytes = result_map_both (λ s. s) (λ found. found.0) (located_picture_of bytes)

-- What was read of a picture without a fault of its fields: the parts of the cluster that it shows.
pub record IsShown (d : Data) (names : List (List ℕ)) (lost_at : List (Option ℕ)) (grace delay : ℕ)
    (listed : List ListedLedger) (holdings : List Holding) : Type 0 where
  pub names_are : names ≡ names_of d
  pub lost_are : lost_at ≡ registrations_in (list_of d field.Bookies)
  pub grace_is : grace ≡ number_of d field.Grace
  pub delay_is : delay ≡ delay_of d
  pub listed_are : listed ≡ map (listed_in (names_of d)) (list_of d field.Ledgers)
  pub holdings_are : holdings ≡ map (holding_in (names_of d)) (list_of d field.Contents)

-- What it lists, with the words of its ledgers.
pub record IsListed (d : Data) (names : List (List ℕ)) (lost_at : List (Option ℕ)) (grace delay : ℕ)
    (ledgers : List Ledger) (holdings : List Holding) : Type 0 where
  pub names_are : names ≡ names_of d
  pub lost_are : lost_at ≡ registrations_in (list_of d field.Bookies)
  pub grace_is : grace ≡ number_of d field.Grace
  pub delay_is : delay ≡ delay_of d
  pub ledgers_are : ledgers ≡ (pictured_cluster d).parts.ledgers
  pub holdings_are : holdings ≡ map (holding_in (names_of d)) (list_of d field.Contents)
