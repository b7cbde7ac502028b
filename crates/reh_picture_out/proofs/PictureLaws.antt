-- What is written is read as what a picture keeps.
use Rattle.std.proofs.Common.{◌≡◌, ℕ, ◌≤◌, Bool, true, false, List, map, length, refl, sym, ap, subst, ◌∙◌, arith}
use Rattle.std.specs.Prelude.{◌==◌, All, Option, None, Some, Result, Ok, Err, if◌then◌else◌, nat_lt}
use Rattle.std.specs.Option.{ok_or, option_or}
use Rattle.std.proofs.lemmas.Bool.Decides.{nat_tests}
use Rattle.std.proofs.lemmas.List.Elements.{All-map, All-same}
use Rattle.std.specs.Result.{result_map_both}
use Rattle.std.specs.Str.{is_utf8}
use Rattle.serde_json.specs.Data.{Data, depth}
use Rattle.serde_json.specs.Read.{read}
use Rattle.reh_types.specs.declared.limits.TheConstants.{MAX_PICTURE_BYTES}
use Rattle.reh_model.specs.Cluster.{Cluster, cluster_of}
use Rattle.reh_model.specs.WellFormed.{IsWellFormed}
use Rattle.reh_fields.specs.declared.faults.PictureFault.{PictureFault}
use Rattle.reh_fields.specs.declared.faults.PictureFault.TheVariants.{TooLong, NotJson}
use Rattle.reh_fields.proofs.Elements.{elements-items_of}
use Rattle.reh_picture.specs.declared.places.Place.{Place}
use Rattle.reh_picture.specs.declared.places.Place.TheVariants as place
use Rattle.reh_picture.specs.Bookies.{names_in, registrations_in}
use Rattle.reh_picture.specs.Ledgers.{ledger_in}
use Rattle.reh_fields.specs.declared.fields.Field.TheVariants as field
use Rattle.reh_fields.specs.Members.{list_of}
use Rattle.reh_picture.specs.declared.listings.Listed.{Listed}
use Rattle.reh_picture.specs.Contents.{Holding, holding_in}
use Rattle.reh_picture.specs.Marks.{BookieMarks, bookie_marks}
use Rattle.reh_picture.specs.Listings.{ListsFields, ListsJson, listing_fault, located_json, located_listing}
use Rattle.reh_picture.specs.Pictures.{pictured_cluster, picture_of, json_in, names_of, fields_fault, unless_fault, shown_by}
use Rattle.reh_picture_out.specs.Marks.{is_told, lacks_content, has_assumed, KeepsMarksIn}
use Rattle.reh_picture_out.specs.Kept.{lost_at_start, kept_of}
use Rattle.reh_picture_out.specs.Holdings.{held_by}
use Rattle.reh_picture_out.specs.Written.{bookies_data, ledgers_data, first_data, delayed_data, written_data, picture_data, IsMarked, IsNeeded, IsPicture}
use Rattle.reh_picture_out.proofs.NamesLaws.{names-back, registrations-back, all-marks-back}
use Rattle.reh_picture_out.proofs.LedgerLaws.{ledgers-back}
use Rattle.reh_picture_out.proofs.Depths.{depth-bookies, depth-ledgers, depth-written}

abbrev shown : ℕ → ℕ → List Data → List Data → List Data → Cluster
shown delay grace bookies ledgers contents =
    let names = names_in bookies in
    cluster_of names (registrations_in bookies) grace delay true
    (map (ledger_in names (held_by names contents)) ledgers) (held_by names contents)

abbrev written_by : Bool → ℕ → ℕ → List Data → List Data → List Data → Data
written_by first delay grace bookies ledgers contents =
    if first then first_data grace bookies ledgers contents else delayed_data delay grace bookies ledgers contents

-- what the fields of the value name
shown-written : (delay grace : ℕ) (bookies ledgers contents : List Data)
    → pictured_cluster (written_data delay grace bookies ledgers contents) ≡ shown delay grace bookies ledgers contents
shown-written delay grace bookies ledgers contents = go (delay == 0) refl
  where
    go : (first : Bool) → (delay == 0) ≡ first
        → pictured_cluster (written_by first delay grace bookies ledgers contents) ≡ shown delay grace bookies ledgers contents
    go true is =
        let none : 0 ≡ delay = grind (arith, nat_tests, is) in
        λ i. shown (none i) grace (elements-items_of bookies i) (elements-items_of ledgers i) (elements-items_of contents i)
    go false is =
        λ i. shown delay grace (elements-items_of bookies i) (elements-items_of ledgers i) (elements-items_of contents i)

-- the lists of the value
listed-written : (delay grace : ℕ) (bookies ledgers contents : List Data)
    → (list_of (written_data delay grace bookies ledgers contents) field.Bookies ≡ bookies)
    × (list_of (written_data delay grace bookies ledgers contents) field.Contents ≡ contents)
listed-written delay grace bookies ledgers contents = go (delay == 0)
  where
    go : (first : Bool) → (list_of (written_by first delay grace bookies ledgers contents) field.Bookies ≡ bookies)
        × (list_of (written_by first delay grace bookies ledgers contents) field.Contents ≡ contents)
    go true = (elements-items_of bookies, elements-items_of contents)
    go false = (elements-items_of bookies, elements-items_of contents)

-- the value shows what is kept of the cluster
picture-back : (s : Cluster) (marks : List BookieMarks) (told : List Holding) (d : Data) → IsWellFormed s
    → IsPicture s marks told d → pictured_cluster d ≡ kept_of s
picture-back s marks told d good picture =
    let contents = picture.contents in
    let ledgers = ledgers_data s.names s.parts.ledgers in
    let starts = map lost_at_start s.parts.lost_at in
    let names = names-back s marks in
    let lost = registrations-back s marks good.registrations.each in
    let held = picture.are_contents.held_are in
    ap pictured_cluster picture.data_is
    ∙ shown-written s.delay s.grace (bookies_data s marks) ledgers contents
    ∙ (λ i. cluster_of (names i) (lost i) s.grace s.delay true
    (map (ledger_in (names i) (held_by (names i) contents)) ledgers) (held_by (names i) contents))
    ∙ (λ i. cluster_of s.names starts s.grace s.delay true (map (ledger_in s.names (held i)) ledgers) (held i))
    ∙ ap (λ gs. cluster_of s.names starts s.grace s.delay true gs s.parts.held)
    (ledgers-back s.names good.names.different s.parts.held _ s.parts.ledgers good.ledgers.each)

-- it nests no deeper than this
pub picture-depth : (s : Cluster) (marks : List BookieMarks) (told : List Holding) (d : Data) → IsPicture s marks told d
    → depth d ≤ 6
picture-depth s marks told d picture =
    let flat = depth-written s.delay s.grace (bookies_data s marks) (ledgers_data s.names s.parts.ledgers) picture.contents
    (depth-bookies s marks) (depth-ledgers s.names s.parts.ledgers) picture.are_contents.flat in
    let same : depth d ≡ depth (picture_data s marks picture.contents) = ap depth picture.data_is in
    omega (arith, flat, same)

-- Texts that are read as the value, and listed without a fault

abbrev json_as : Bool → Bool → Option Data → Result Data (PictureFault × Place)
json_as long text found =
    if long then Err (TooLong, place.Picture) else ok_or (if text then found else None) (NotJson, place.Picture)

json-there : (long text : Bool) (found : Option Data) (d : Data) → found ≡ Some d
    → located_json (json_as long text found) ≡ None → json_as long text found ≡ Ok d
json-there true text found d is none =
    let never : ◌≡◌ {A = Option (PictureFault × Place)} (Some (TooLong, place.Picture)) None = none in cc
json-there false false found d is none =
    let never : ◌≡◌ {A = Option (PictureFault × Place)} (Some (NotJson, place.Picture)) None = none in cc
json-there false true found d is none = ap (json_as false true) is

-- the value is what there is as JSON
json-is : (d : Data) (bytes : List ℕ) → read bytes ≡ Some d → located_listing bytes ≡ None → json_in bytes ≡ Ok d
json-is d bytes reads none =
    json-there (nat_lt MAX_PICTURE_BYTES (length bytes)) (is_utf8 bytes) (read bytes) d reads none

first-none : {R : Type 0} (first rest : Option R) → option_or first rest ≡ None → first ≡ None
first-none None rest none = refl
first-none {R} (Some reason) rest none =
    let never : ◌≡◌ {A = Option R} (Some reason) None = none in cc

abbrev without_place : Result Cluster (PictureFault × Place) → Result Cluster PictureFault
without_place found = result_map_both (λ s. s) (λ found. found.0) found

-- the text is read as what is kept
pub text-back : (s : Cluster) (marks : List BookieMarks) (told : List Holding) (d : Data) (bytes : List ℕ)
    → IsWellFormed s → IsPicture s marks told d → read bytes ≡ Some d → located_listing bytes ≡ None
    → picture_of bytes ≡ Ok (kept_of s)
text-back s marks told d bytes good picture reads none =
    let json = json-is d bytes reads none in
    let listed : listing_fault d ≡ None = sym (ap located_json json) ∙ none in
    let fields : fields_fault d ≡ None = first-none (fields_fault d) _ listed in
    ap (λ j. without_place (shown_by j)) json
    ∙ ap (λ fault. without_place (unless_fault fault (pictured_cluster d))) fields
    ∙ ap Ok (picture-back s marks told d good picture)

-- and lists the marks that stay
pub marks-kept : (s : Cluster) (began : Listed) (d : Data) (bytes : List ℕ)
    → IsPicture s began.marks.items began.listing.holdings.items d → read bytes ≡ Some d → located_listing bytes ≡ None
    → KeepsMarksIn s began bytes
marks-kept s began d bytes picture reads none = λ new lists.
    let marks = began.marks.items in
    let told = began.listing.holdings.items in
    let fields : ListsFields d new = subst (λ j. ListsJson j new) (json-is d bytes reads none) lists in
    let written = listed-written s.delay s.grace (bookies_data s marks) (ledgers_data s.names s.parts.ledgers)
    picture.contents in
    let contents : list_of d field.Contents ≡ picture.contents =
    ap (λ d. list_of d field.Contents) picture.data_is ∙ written.1 in
    let names : names_of d ≡ s.names = ap names_of picture.data_is ∙ ap names_in written.0 ∙ names-back s marks in
    record {
      bookies =
          fields.marks
          ∙ ap (map bookie_marks) (ap (λ d. list_of d field.Bookies) picture.data_is ∙ written.0)
          ∙ all-marks-back s marks;
      contents =
          let P = λ (h : Holding). h.is_assumed ≡ has_assumed told h.ledger in
          All-same P _ _ fields.listing.holdings_are
          (All-map P (holding_in (names_of d)) (list_of d field.Contents)
          (All-same (IsMarked told) _ _ contents picture.are_contents.marked));
      told = λ b l there was.
          ap (λ hs. is_told hs b l)
          (fields.listing.holdings_are ∙ (λ i. map (holding_in (names i)) (contents i)))
          ∙ picture.are_contents.again b l there was;
      needed =
          let P = λ (h : Holding). lacks_content told h.bookie h.ledger h.ranges ≡ false in
          All-same P _ _ fields.listing.holdings_are
          (All-map P (holding_in (names_of d)) (list_of d field.Contents)
          (All-same (IsNeeded (names_of d) told) _ _ contents
          (subst (λ ns. All (IsNeeded ns told) picture.contents) (sym names) picture.are_contents.needed)));
    }
