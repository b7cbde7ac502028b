-- A picture's bytes, and the faults of its parts one after another.
use Rattle.std.proofs.Common.{◌≡◌, ◌≤◌, ◌<◌, ℕ, Bool, true, false, List, length, Option, None, Some, refl, sym, ap, ◌∙◌}
use Rattle.std.proofs.Common.{if◌then◌else◌, nat_lt, arith}
use Rattle.std.specs.Prelude.{Result, Ok, Err}
use Rattle.std.specs.Option.{ok_or, option_or}
use Rattle.std.specs.Result.{result_map_both}
use Rattle.std.specs.Str.{IsUtf8, is_utf8}
use Rattle.std.proofs.lemmas.Bool.Decides.{nat_tests}
use Rattle.std.proofs.lemmas.Str.{is_utf8-from_IsUtf8, IsUtf8-from_is_utf8}
use Rattle.serde_json.specs.Data.{Data}
use Rattle.serde_json.specs.Read.{read}
use Rattle.reh_types.specs.declared.limits.TheConstants.{MAX_PICTURE_BYTES}
use Rattle.reh_fields.specs.declared.faults.PictureFault.{PictureFault}
use Rattle.reh_fields.specs.declared.faults.PictureFault.TheVariants.{NotJson, TooLong}
use Rattle.reh_picture.specs.declared.places.Place.{Place}
use Rattle.reh_picture.specs.declared.places.Place.TheVariants as place
use Rattle.reh_picture.specs.Places.{fault_at}
use Rattle.reh_picture.specs.Bookies.{bookies_fault}
use Rattle.reh_picture.specs.Ledgers.{ledgers_fault}
use Rattle.reh_picture.specs.Contents.{contents_fault}
use Rattle.reh_picture.specs.Pictures.{head_fault, parts_fault, names_of, ids_of, json_of, json_in, shown_by, picture_of}

-- Bytes

-- which of two things bytes are that may be too many
abbrev in_bytes : Bool → Option Data → Result Data (PictureFault × Place)
in_bytes long json = if long then Err (TooLong, place.Picture) else ok_or json (NotJson, place.Picture)

long_is : (bytes : List ℕ) → MAX_PICTURE_BYTES < length bytes → nat_lt MAX_PICTURE_BYTES (length bytes) ≡ true
long_is bytes long = grind (arith, nat_tests)

short_is : (bytes : List ℕ) → length bytes ≤ MAX_PICTURE_BYTES → nat_lt MAX_PICTURE_BYTES (length bytes) ≡ false
short_is bytes short = grind (arith, nat_tests)

pub json_in-long : (bytes : List ℕ) → MAX_PICTURE_BYTES < length bytes → json_in bytes ≡ Err (TooLong, place.Picture)
json_in-long bytes long = ap (λ t. in_bytes t (json_of bytes)) (long_is bytes long)

pub json_in-some : (bytes : List ℕ) (d : Data) → length bytes ≤ MAX_PICTURE_BYTES → IsUtf8 bytes → read bytes ≡ Some d
    → json_in bytes ≡ Ok d
json_in-some bytes d short utf8 is =
    let json : json_of bytes ≡ Some d = ap (λ t. if t then read bytes else None) (is_utf8-from_IsUtf8 bytes utf8) ∙ is in
    ap (λ t. in_bytes t (json_of bytes)) (short_is bytes short) ∙ ap (in_bytes false) json

pub json_in-none : (bytes : List ℕ) (fault : PictureFault) (here : Place) → length bytes ≤ MAX_PICTURE_BYTES
    → (IsUtf8 bytes → read bytes ≡ None) → fault ≡ NotJson → here ≡ place.Picture → json_in bytes ≡ Err (fault, here)
json_in-none bytes fault here short none is at =
    ap (λ t. in_bytes t (json_of bytes)) (short_is bytes short)
    ∙ ap (in_bytes false) (on (is_utf8 bytes) (λ e. none (IsUtf8-from_is_utf8 bytes e)))
    ∙ sym (λ i. Err (is i, at i))
  where
    on : (t : Bool) → (t ≡ true → read bytes ≡ None) → (if t then read bytes else None) ≡ None
    on true k = k refl
    on false k = refl

-- a picture that is too long
pub picture_of-long : (bytes : List ℕ) → MAX_PICTURE_BYTES < length bytes → picture_of bytes ≡ Err TooLong
picture_of-long bytes long =
    ap (λ (json : Result Data (PictureFault × Place)). result_map_both (λ s. s) (λ found. found.0) (shown_by json))
    (json_in-long bytes long)

-- Parts

passed : {A : Type 0} (check rest : Option A) → check ≡ None → option_or check rest ≡ rest
passed check rest good = ap (λ c. option_or c rest) good

-- where nothing before the contents has a fault, theirs is the first
pub contents_fault_first : (d : Data) (names : List (List ℕ)) (ids : List ℕ)
    → fault_at place.Picture (head_fault d) ≡ None → bookies_fault d ≡ None → names ≡ names_of d
    → ledgers_fault names d ≡ None → ids ≡ ids_of d → (found : PictureFault × Place)
    → contents_fault names ids d ≡ Some found → parts_fault d ≡ Some found
contents_fault_first d names ids head bookies names_are ledgers ids_are found contents =
    passed _ _ head ∙ passed _ _ bookies ∙ passed _ _ (ap (λ ns. ledgers_fault ns d) (sym names_are) ∙ ledgers)
    ∙ ap (λ check. option_or check None)
    (ap (λ ns. contents_fault ns (ids_of d) d) (sym names_are) ∙ ap (λ is. contents_fault names is d) (sym ids_are)
    ∙ contents)
