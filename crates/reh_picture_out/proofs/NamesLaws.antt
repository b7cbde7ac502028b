-- Bookies that are written by their names are found again, and their registrations are the same.
use Rattle.std.proofs.Common.{◌≡◌, ℕ, suc, ◌<◌, Bool, true, false, List, [], ◌∷◌, map, length, get_or, refl, sym, ap, ◌∙◌, arith, lt-ltb, zero-add}
use Rattle.std.specs.Prelude.{◌&&◌, nat_eq, nat_lt, slice_get, unwrap_or, is_none, Option, Some, None, if◌then◌else◌}
use Rattle.std.specs.List.{IsDistinct, position_or_len, range_with_len}
use Rattle.std.specs.Option.{option_map_or}
use Rattle.std.specs.Str.{bytes_eq}
use Rattle.std.proofs.lemmas.Bool.{false≢true}
use Rattle.std.proofs.lemmas.List.{get_or-map}
use Rattle.std.proofs.lemmas.List.Sums.{position_or_len_is}
use Rattle.std.proofs.lemmas.Map.Keys.{apart_from_distinct}
use Rattle.std.proofs.lemmas.Option.{slice_get-get_or, unwrap_or-slice_get}
use Rattle.std.proofs.lemmas.Slice.Eq.{bytes_eq-Decides}
use Rattle.reh_model.specs.Cluster.{Cluster, bookie_named, is_up}
use Rattle.reh_fields.specs.declared.fields.Field.TheVariants as field
use Rattle.reh_fields.specs.Members.{text_of, flag_of}
use Rattle.reh_fields.specs.Names.{bookie_in}
use Rattle.reh_picture.specs.Bookies.{names_in, registration_in, registrations_in}
use Rattle.reh_picture_out.specs.Kept.{lost_at_start}
use Rattle.reh_picture.specs.Marks.{BookieMarks, bookie_marks}
use Rattle.reh_model.specs.Contents.{count_held}
use Rattle.reh_picture_out.specs.Marks.{no_marks, marks_at, kept_marks}
use Rattle.reh_picture_out.specs.Written.{name_at, bookie_data, bookie_data_at, bookies_data}
use Rattle.reh_picture_out.proofs.Lists.{read_all, map-map, map-same}

names_sym : (x y : List ℕ) → bytes_eq x y ≡ false → bytes_eq y x ≡ false
names_sym x y differ = go (bytes_eq y x) refl
  where
    go : (b : Bool) → bytes_eq y x ≡ b → bytes_eq y x ≡ false
    go false e = e
    go true e = absurd (false≢true (sym differ ∙ (bytes_eq-Decides x y).1 (sym ((bytes_eq-Decides y x).0 e))))

abbrev at_place : List (List ℕ) → ℕ → Bool → Option ℕ
at_place names place t = if t then Some place else None

-- the name at a place
pub name_at-there : (names : List (List ℕ)) (b : ℕ) → name_at names b ≡ get_or names b []
name_at-there names b = unwrap_or-slice_get names b []

-- a bookie is found by its name
named : (names : List (List ℕ)) (b : ℕ) → IsDistinct bytes_eq names → b < length names
    → bookie_named names (get_or names b []) ≡ Some b
named names b apart within =
    let name : List ℕ = get_or names b [] in
    let before : (k : ℕ) → k < b → bytes_eq name (get_or names k []) ≡ false =
    λ k below. names_sym (get_or names k []) name (apart_from_distinct bytes_eq names k b [] apart below within) in
    let first : position_or_len (bytes_eq name) names ≡ b =
    position_or_len_is (bytes_eq name) names b [] (omega arith) before
    (λ _. (bytes_eq-Decides name name).1 refl) in
    ap (λ n. at_place names n (nat_lt n (length names))) first
    ∙ ap (at_place names b) (lt-ltb b (length names) within)

pub bookie_in-name_at : (names : List (List ℕ)) (b : ℕ) → IsDistinct bytes_eq names → b < length names
    → bookie_in names (name_at names b) ≡ b
bookie_in-name_at names b apart within =
    ap (bookie_in names) (name_at-there names b) ∙ ap (λ o. unwrap_or o 0) (named names b apart within)

-- the names are the same
pub names-back : (s : Cluster) (marks : List BookieMarks) → names_in (bookies_data s marks) ≡ s.names
names-back s marks =
    map-map (λ d. text_of d field.Name) (bookie_data_at s marks) (range_with_len 0 (length s.names))
    ∙ read_all s.names 0 (name_at s.names) [] (λ i within. ap (name_at s.names) (zero-add i) ∙ name_at-there s.names i)

-- a bookie is read as it is written
up-back : (name : List ℕ) (up : Bool) (marks : BookieMarks) → flag_of (bookie_data name up marks) field.Up ≡ up
up-back name up marks = go marks.rack
  where
    go : (rack : Option (List ℕ)) → flag_of (bookie_data name up (record marks { rack = rack })) field.Up ≡ up
    go None = refl
    go (Some rack) = refl

marks-back : (name : List ℕ) (up : Bool) (marks : BookieMarks) → bookie_marks (bookie_data name up marks) ≡ marks
marks-back name up marks = go marks.rack
  where
    go : (rack : Option (List ℕ))
        → bookie_marks (bookie_data name up (record marks { rack = rack })) ≡ record marks { rack = rack }
    go None = refl
    go (Some rack) = refl

-- and so are all marks
pub all-marks-back : (s : Cluster) (marks : List BookieMarks)
    → map bookie_marks (bookies_data s marks) ≡ map (kept_marks s marks) (range_with_len 0 (length s.names))
all-marks-back s marks =
    map-map bookie_marks (bookie_data_at s marks) (range_with_len 0 (length s.names))
    ∙ map-same (λ b. bookie_marks (bookie_data_at s marks b)) (kept_marks s marks)
    (λ b. marks-back (name_at s.names b) (is_up s b) (kept_marks s marks b)) (range_with_len 0 (length s.names))

registered : (lost : Option ℕ) → (if is_none lost then None else Some 0) ≡ lost_at_start lost
registered None = refl
registered (Some tick) = refl

-- the registrations are the same
pub registrations-back : (s : Cluster) (marks : List BookieMarks) → length s.parts.lost_at ≡ length s.names
    → registrations_in (bookies_data s marks) ≡ map lost_at_start s.parts.lost_at
registrations-back s marks each =
    let starts : List (Option ℕ) = map lost_at_start s.parts.lost_at in
    map-map registration_in (bookie_data_at s marks) (range_with_len 0 (length s.names))
    ∙ ap (λ n. map (λ b. registration_in (bookie_data_at s marks b)) (range_with_len 0 n)) (sym each ∙ sym (length-starts s.parts.lost_at))
    ∙ read_all starts 0 (λ b. registration_in (bookie_data_at s marks b)) None (λ i within.
    let there : i < length s.parts.lost_at = omega (arith, within, length-starts s.parts.lost_at) in
    ap (λ b. registration_in (bookie_data_at s marks b)) (zero-add i)
    ∙ ap (λ (up : Bool). if◌then◌else◌ {A = Option ℕ} up None (Some 0)) (up-back (name_at s.names i) (is_up s i) (kept_marks s marks i))
    ∙ ap (λ (o : Option (Option ℕ)). if option_map_or is_none o false then None else Some 0)
    (slice_get-get_or s.parts.lost_at i None there)
    ∙ registered (get_or s.parts.lost_at i None) ∙ sym (get_or-map lost_at_start s.parts.lost_at i None None there))
  where
    length-starts : (lost : List (Option ℕ)) → length (map lost_at_start lost) ≡ length lost
    length-starts [] = refl
    length-starts (l ∷ lost) = ap suc (length-starts lost)

-- a bookie that is written with the parts that were read of it
pub bookie-at : (s : Cluster) (all : List BookieMarks) (b : ℕ) (marks : BookieMarks) (name : List ℕ) (up : Bool) (count : ℕ)
    (is_empty : Bool) → Some marks ≡ slice_get all b → name ≡ name_at s.names b → up ≡ is_up s b
    → count ≡ count_held s.parts.held b → is_empty ≡ (marks.is_empty && nat_eq count 0)
    → bookie_data name up (record marks { is_empty = is_empty }) ≡ bookie_data_at s all b
bookie-at s all b marks name up count is_empty marks_is name_is up_is count_is empty_is =
    let was : marks ≡ marks_at all b = ap (λ o. unwrap_or o no_marks) marks_is in
    let stays : is_empty ≡ (kept_marks s all b).is_empty =
    empty_is ∙ (λ i. (was i).is_empty && nat_eq (count_is i) 0) in
    λ i. bookie_data (name_is i) (up_is i) (record (was i) { is_empty = stays i })

pub plain-at : (s : Cluster) (all : List BookieMarks) (b : ℕ) (name : List ℕ) (up : Bool) → None ≡ slice_get all b
    → name ≡ name_at s.names b → up ≡ is_up s b → bookie_data name up no_marks ≡ bookie_data_at s all b
plain-at s all b name up none name_is up_is =
    let was : no_marks ≡ marks_at all b = ap (λ o. unwrap_or o no_marks) none in
    λ i. bookie_data (name_is i) (up_is i)
    (record (was i) { is_empty = (was i).is_empty && nat_eq (count_held s.parts.held b) 0 })
