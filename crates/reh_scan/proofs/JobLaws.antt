-- What is read of a fragment, and what is found in it.
use Rattle.std.proofs.Common.{◌≡◌, ◌∙◌, ℕ, ◌+◌, ◌-◌, ◌*◌, ◌/◌, ◌%◌, ◌<◌, ◌≤◌, Bool, true, false, cond, List, [], ◌∷◌}
use Rattle.std.proofs.Common.{◌++◌, length, take, drop, map, min, get_or, slice_index, Option, Some, All, refl, ap, sym}
use Rattle.std.proofs.Common.{arith, inl, inr}
use Rattle.std.specs.Prelude.{◌==◌, slice_get}
use Rattle.std.specs.Int.{bit_at}
use Rattle.std.specs.List.{find}
use Rattle.std.specs.Option.{option_map, option_and_then}
use Rattle.std.proofs.lemmas.Bool.{cases_lt}
use Rattle.std.proofs.lemmas.List.{get_or-drop, get_or-take, get_or_past, get_or_append_left, length-take, length-drop}
use Rattle.std.proofs.lemmas.List.Elements.{All-filter, All-head, All-tail, All-nil, All-cons}
use Rattle.std.proofs.lemmas.List.FromFn.{length-range_with_len, get_or-range_with_len}
use Rattle.std.proofs.lemmas.Nat.Bits.{bit_at-zero}
use Rattle.std.proofs.Math.Seq.{get_or-append_seam}
use Rattle.reh_types.specs.declared.names.Aim.{Aim}
use Rattle.std.specs.List.{range_with_len}
use Rattle.reh_held.specs.Rows.{is_set}
use Rattle.reh_model.specs.Contents.{is_in_word}
use Rattle.reh_stripe.specs.declared.words.Word.{Word}
use Rattle.reh_stripe.specs.Words.{entries_in, has_bit}
use Rattle.reh_model.specs.Striping.{range, is_striped, striped_entries, write_set}
use Rattle.reh_model.specs.Metadata.{Fragment, stop_of, stripe_of}
use Rattle.reh_model.specs.Cluster.{Cluster, Ledger, is_source, ledger_at}
use Rattle.reh_model.specs.Scan.{content_of, ledger_scan, scan, source_of}
use Rattle.reh_model.proofs.StripedLaws.{stripe_of-found}
use Rattle.reh_model.proofs.WriteSetLaws.{write_set-below}
use Rattle.reh_scan.specs.declared.jobs.Reading.{Reading}
use Rattle.reh_scan.specs.Jobs.{IsReading, IsReadingOf, has_copy, source_in}

-- Words of rows

-- an entry is in a row if it is in the row without its first words and those from the end on, where it is an entry of
-- the words between
is_set-words : (row : List ℕ) (begin end e : ℕ) → begin ≤ e / 64 → e / 64 < end
    → is_set (take (end - begin) (drop begin row)) (e - 64 * begin) ≡ is_set row e
is_set-words row begin end e from below =
    let word : (e - 64 * begin) / 64 ≡ e / 64 - begin = omega arith in
    let bit : (e - 64 * begin) % 64 ≡ e % 64 = omega arith in
    let at : begin + (e / 64 - begin) ≡ e / 64 = omega arith in
    ap (λ k. bit_at (get_or (take (end - begin) (drop begin row)) k 0) ((e - 64 * begin) % 64) == 1) word
    ∙ ap (λ k. bit_at (get_or (take (end - begin) (drop begin row)) (e / 64 - begin) 0) k == 1) bit
    ∙ ap (λ (w : ℕ). bit_at w (e % 64) == 1)
    (get_or-take (end - begin) (drop begin row) (e / 64 - begin) 0 (omega arith)
    ∙ get_or-drop begin row (e / 64 - begin) 0 ∙ ap (λ k. get_or row k 0) at)

-- past a row's words no entry is in it
is_set-past : (row : List ℕ) (e : ℕ) → length row ≤ e / 64 → is_set row e ≡ false
is_set-past row e past =
    ap (λ (w : ℕ). bit_at w (e % 64) == 1) (get_or_past row (e / 64) 0 past)
    ∙ ap (λ (b : ℕ). b == 1) (bit_at-zero (e % 64))

-- the words from that of the first entry on, up to that of the last one before the stop, have the entries between that
-- the row has
pub is_set-copied : (row : List ℕ) (first stop begin end e : ℕ) → end ≡ min (length row) (stop / 64 + min 1 (stop % 64))
    → begin ≡ min end (first / 64) → first ≤ e → e < stop
    → is_set (take (end - begin) (drop begin row)) (e - 64 * (first / 64)) ≡ is_set row e
is_set-copied row first stop begin end e ends begins from below =
    elim (cases_lt (e / 64) (length row)) [
      | inl inside ↦
          let at : first / 64 ≡ begin = omega arith in
          ap (λ k. is_set (take (end - begin) (drop begin row)) (e - 64 * k)) at
          ∙ is_set-words row begin end e (omega arith) (omega arith)
      | inr past ↦
          let none : length (take (end - begin) (drop begin row)) ≤ (e - 64 * (first / 64)) / 64 =
          omega (arith, length-take (end - begin) (drop begin row), length-drop begin row) in
          is_set-past (take (end - begin) (drop begin row)) (e - 64 * (first / 64)) none ∙ sym (is_set-past row e past)
    ]

-- the words of one more member
pub has_copy-pushed : (s : Cluster) (ledger first stop : ℕ) (ensemble : List ℕ) (rows : List (List ℕ)) (words : List ℕ)
    (i : ℕ) → length rows ≡ i
    → ((index entry : ℕ) → index < i → first ≤ entry → entry < stop
    → has_copy first rows entry index ≡ is_source s ledger entry (slice_index ensemble index))
    → ((entry : ℕ) → first ≤ entry → entry < stop
    → is_set words (entry - 64 * (first / 64)) ≡ is_source s ledger entry (slice_index ensemble i))
    → (index entry : ℕ) → index < i + 1 → first ≤ entry → entry < stop
    → has_copy first (rows ++ words ∷ []) entry index ≡ is_source s ledger entry (slice_index ensemble index)
has_copy-pushed s ledger first stop ensemble rows words i long before here index entry inside from below =
    elim (cases_lt index i) [
      | inl earlier ↦
          ap (λ row. is_set row (entry - 64 * (first / 64)))
          (get_or_append_left rows (words ∷ []) [] index (omega arith))
          ∙ before index entry earlier from below
      | inr last ↦
          let at : index ≡ i = omega arith in
          let end : index ≡ length rows = omega arith in
          ap (λ k. is_set (get_or (rows ++ words ∷ []) k []) (entry - 64 * (first / 64))) end
          ∙ ap (λ row. is_set row (entry - 64 * (first / 64))) (get_or-append_seam rows words [] [])
          ∙ here entry from below ∙ ap (λ k. is_source s ledger entry (slice_index ensemble k)) (sym at)
    ]

-- Lists

-- what is found after a change is what is found by what becomes of it, changed
find-mapped : {X Y : Type 0} (p : Y → Bool) (f : X → Y) (xs : List X)
    → find p (map f xs) ≡ option_map f (find (λ x. p (f x)) xs)
find-mapped p f [] = refl
find-mapped p f (x ∷ xs) =
    elim (p (f x)) as (λ b. cond b (Some (f x)) (find p (map f xs))
    ≡ option_map f (cond b (Some x) (find (λ x. p (f x)) xs))) [
      | true ↦ refl
      | false ↦ find-mapped p f xs
    ]

-- tests that give the same answers below a size find the same
pub find-below : (p q : ℕ → Bool) (size : ℕ) → ((i : ℕ) → i < size → p i ≡ q i) → (is : List ℕ) → All (λ i. i < size) is
    → find p is ≡ find q is
find-below p q size same [] within = refl
find-below p q size same (i ∷ is) within =
    ap (λ b. cond b (Some i) (find p is)) (same i (All-head (λ j. j < size) i is within))
    ∙ ap (λ found. cond (q i) (Some i) found) (find-below p q size same is (All-tail (λ j. j < size) i is within))

-- changes that are the same where a condition holds
pub map-where : {X Y : Type 0} (P : X → Type 0) (f g : X → Y) → ((x : X) → P x → f x ≡ g x) → (xs : List X) → All P xs
    → map f xs ≡ map g xs
map-where P f g same [] each = refl
map-where P f g same (x ∷ xs) each =
    ap (λ y. y ∷ map f xs) (same x (All-head P x xs each))
    ∙ ap (λ ys. g x ∷ ys) (map-where P f g same xs (All-tail P x xs each))

-- the striped entries are in the range
pub striped_entries-within : (a b i n q : ℕ) → All (λ e. (a ≤ e) × (e < b)) (striped_entries a b i n q)
striped_entries-within a b i n q =
    All-filter (λ e. is_striped e i n q) (λ e. (a ≤ e) × (e < b)) (range a b) (λ k d inside.
    let below : k < b - a = omega (arith, length-range_with_len a (b - a)) in
    let at = get_or-range_with_len a (b - a) k d below in
    (omega (arith, at), omega (arith, at, below)))

-- Readings

-- the source of an entry of the fragment is found in what is read of it
source_in-read : (s : Cluster) (g : Ledger) (fragment : Fragment) (stop : ℕ) (r : Reading)
    → IsReadingOf s g fragment stop r → (entry : ℕ) → fragment.first ≤ entry → entry < stop
    → source_of s g fragment entry ≡ source_in r entry
source_in-read s g fragment stop r is entry from below =
    let indexes = write_set entry g.metadata.size g.metadata.write_quorum in
    let member : ℕ → ℕ = λ i. slice_index fragment.ensemble i in
    let size : length fragment.ensemble ≡ g.metadata.size =
    ap length (sym is.ensemble) ∙ is.reading.members ∙ is.size in
    let found : find (is_source s g.id entry) (map member indexes)
    ≡ option_map member (find (has_copy fragment.first r.rows.items entry) indexes) =
    find-mapped (is_source s g.id entry) member indexes
    ∙ ap (λ found. option_map member found)
    (sym
    (find-below (has_copy fragment.first r.rows.items entry) (λ i. is_source s g.id entry (member i)) g.metadata.size
    (λ i inside. is.copies.same i entry (omega arith) from below) indexes
    (write_set-below entry g.metadata.size g.metadata.write_quorum
    (omega (arith, is.reading.some, is.reading.within, is.size))))) in
    rw (is.first, is.ensemble, is.size, is.write_quorum) found

-- the sources of the striped entries are
sources_in-read : (s : Cluster) (g : Ledger) (aim : Aim) (fragment : Fragment) (stop : ℕ) (r : Reading)
    → IsReadingOf s g fragment stop r
    → slice_get g.metadata.fragments aim.fragment ≡ Some fragment → stop_of g.metadata aim.fragment ≡ Some stop
    → map (source_of s g fragment) (stripe_of g.metadata aim.fragment aim.index)
    ≡ map (source_in r) (striped_entries r.first r.stop aim.index r.size r.write_quorum)
sources_in-read s g aim fragment stop r is found ends =
    let entries : List ℕ = striped_entries fragment.first stop aim.index g.metadata.size g.metadata.write_quorum in
    let same : map (source_of s g fragment) (stripe_of g.metadata aim.fragment aim.index) ≡ map (source_in r) entries =
    ap (λ (es : List ℕ). map (source_of s g fragment) es)
    (stripe_of-found g.metadata aim.fragment aim.index stop fragment found ends)
    ∙ map-where (λ e. (fragment.first ≤ e) × (e < stop)) (source_of s g fragment) (source_in r)
    (λ e inside. source_in-read s g fragment stop r is e inside.0 inside.1) entries
    (striped_entries-within fragment.first stop aim.index g.metadata.size g.metadata.write_quorum) in
    let read : striped_entries r.first r.stop aim.index r.size r.write_quorum ≡ entries =
    rw (is.first, is.stop_is, is.size, is.write_quorum) refl in
    same ∙ ap (λ (es : List ℕ). map (source_in r) es) (sym read)

-- what a scan finds in a fragment that is there
pub scan-found : (s : Cluster) (aim : Aim) (g : Ledger) (fragment : Fragment) (stop : ℕ)
    → ledger_at s aim.ledger ≡ Some g
    → slice_get g.metadata.fragments aim.fragment ≡ Some fragment → stop_of g.metadata aim.fragment ≡ Some stop
    → scan s aim ≡ Some (content_of s aim g fragment stop)
scan-found s aim g fragment stop there found ends =
    ap (λ (o : Option Ledger). option_and_then (ledger_scan s aim) o) there
    ∙ ap (λ (o : Option Fragment).
    option_and_then (λ fragment. option_map (content_of s aim g fragment) (stop_of g.metadata aim.fragment)) o)
    found
    ∙ ap (λ o. option_map (content_of s aim g fragment) o) ends

-- and it is what is found in what is read
pub content_of-read : (s : Cluster) (g : Ledger) (aim : Aim) (fragment : Fragment) (stop version : ℕ) (r : Reading)
    → IsReadingOf s g fragment stop r → version ≡ g.metadata.version
    → slice_get g.metadata.fragments aim.fragment ≡ Some fragment → stop_of g.metadata aim.fragment ≡ Some stop
    → content_of s aim g fragment stop
    ≡ record {
      aim = aim;
      version = version;
      first = r.first;
      stop = r.stop;
      ensemble = r.ensemble;
      sources = map (source_in r) (striped_entries r.first r.stop aim.index r.size r.write_quorum);
    }
content_of-read s g aim fragment stop version r is same found ends = λ k. record {
  aim = aim;
  version = sym same k;
  first = sym is.first k;
  stop = sym is.stop_is k;
  ensemble = sym is.ensemble k;
  sources = sources_in-read s g aim fragment stop r is found ends k;
}

-- Words of entries

-- an entry of a word is in a member's words if its bit is set in the member's word of that number
pub has_copy-bit : (first : ℕ) (rows : List (List ℕ)) (number entry index : ℕ) → entry / 64 ≡ number → first ≤ entry
    → has_copy first rows entry index
    ≡ has_bit (slice_index (get_or rows index []) (number - first / 64)) (entry % 64)
has_copy-bit first rows number entry index is from =
    let place : (entry - 64 * (first / 64)) / 64 ≡ number - first / 64 = omega (arith, is, from) in
    let bit : (entry - 64 * (first / 64)) % 64 ≡ entry % 64 = omega (arith, from) in
    λ j. has_bit (slice_index (get_or rows index []) (place j)) (bit j)

-- the source of an entry is found in the words that the members hold
pub source_in-held : (r : Reading) (held : List ℕ) (number entry : ℕ) → IsReading r
    → ((index : ℕ) → index < r.size
    → slice_index held index ≡ slice_index (get_or r.rows.items index []) (number - r.first / 64))
    → entry / 64 ≡ number → r.first ≤ entry
    → option_map (λ i. slice_index r.ensemble i)
    (find (λ i. has_bit (slice_index held i) (entry % 64)) (write_set entry r.size r.write_quorum))
    ≡ source_in r entry
source_in-held r held number entry is are at from =
    ap (λ found. option_map (λ i. slice_index r.ensemble i) found)
    (find-below (λ i. has_bit (slice_index held i) (entry % 64)) (has_copy r.first r.rows.items entry) r.size
    (λ i inside. ap (λ w. has_bit w (entry % 64)) (are i inside)
    ∙ sym (has_copy-bit r.first r.rows.items number entry i at from))
    (write_set entry r.size r.write_quorum)
    (write_set-below entry r.size r.write_quorum (omega (arith, is.some, is.within))))

-- the entries of a word are in it
pub entries_in-within : (w : Word) → All (λ e. e / 64 ≡ w.number) (entries_in w)
unfolding entries_in
entries_in-within w =
    All-filter (is_in_word w.number w.bits) (λ e. e / 64 ≡ w.number) (range_with_len (64 * w.number) 64) (λ k d inside.
    let below : k < 64 = omega (arith, length-range_with_len (64 * w.number) 64) in
    let at = get_or-range_with_len (64 * w.number) 64 k d below in
    omega (arith, at, below))

-- what holds of each element of two lists, one after the other, holds of each of both
pub All-first : {X : Type 0} (P : X → Type 0) (xs ys : List X) → All P (xs ++ ys) → All P xs
All-first P [] ys all = All-nil P
All-first P (x ∷ xs) ys all =
    All-cons P x xs (All-head P x (xs ++ ys) all) (All-first P xs ys (All-tail P x (xs ++ ys) all))

pub All-second : {X : Type 0} (P : X → Type 0) (xs ys : List X) → All P (xs ++ ys) → All P ys
All-second P [] ys all = all
All-second P (x ∷ xs) ys all = All-second P xs ys (All-tail P x (xs ++ ys) all)
