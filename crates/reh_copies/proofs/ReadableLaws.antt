-- What can be read of a picture, and what is known of its copies.
use Rattle.std.proofs.Common.{◌≡◌, ℕ, ◌+◌, ◌<◌, ◌≤◌, Bool, true, false, ◌&&◌, List, [], ◌∷◌, map, length, Option, Some, is_none, refl, sym, ap, ◌∙◌, subst, arith, nat_lt, inl, inr}
use Rattle.std.specs.Prelude.{count_by, Contains, ◌==◌, All, slice_get, slice_index, if◌then◌else◌}
use Rattle.std.specs.List.{IsDistinct, filter, list_any, range_with_len}
use Rattle.std.specs.Option.{option_map_or}
use Rattle.std.specs.Str.{bytes_eq}
use Rattle.std.proofs.lemmas.Bool.{cases_lt}
use Rattle.std.proofs.lemmas.Bool.Decides.{nat_tests}
use Rattle.std.proofs.lemmas.List.Elements.{All-head, All-tail}
use Rattle.std.proofs.lemmas.List.Sums.{length-filter}
use Rattle.std.proofs.lemmas.Nat.{mod_below}
use Rattle.std.proofs.lemmas.Option.{get_or_from_slice_get, slice_get_past, slice_get_within}
use Rattle.reh_types.specs.declared.names.LedgerState.{LedgerState}
use Rattle.reh_types.specs.declared.names.LedgerState.TheVariants.{Open, InRecovery, Closed}
use Rattle.reh_model.specs.Contents.{Contents, has}
use Rattle.reh_model.specs.Metadata.{Fragment, IsEnsemble, IsMetadata, writes}
use Rattle.reh_model.specs.Cluster.{Cluster, Ledger, is_readable, is_source, is_up}
use Rattle.reh_census.specs.Bookies.{bookies_of as census_bookies, is_holder}
use Rattle.reh_census.specs.Ledgers as census
use Rattle.reh_census.specs.declared.ledgers.Told.TheVariants.{Holds, Untold}
use Rattle.reh_census.specs.Striping.{index_at, range, write_set}
use Rattle.reh_census.proofs.CountLaws.{count-filter}
use Rattle.reh_picture.specs.declared.listings.Listed.{Listed}
use Rattle.reh_picture.specs.Contents.{Holding, held_in, is_pair}
use Rattle.reh_picture.specs.Counts.{is_closed}
use Rattle.reh_inputs.specs.declared.inputs.Input.TheVariants.{Picture}
use Rattle.reh_inputs.specs.declared.ledgers.Reading.{Reading}
use Rattle.reh_inputs.specs.declared.ledgers.Reading.TheVariants as readings
use Rattle.reh_inputs.specs.Cluster.{bookies_of}
use Rattle.reh_inputs.specs.Gathered.{is_held, reading_of}
use Rattle.reh_inputs.specs.Ledgers.{number_in, range_of, reading_in, rest_of, told_as, told_by}
use Rattle.reh_inputs.specs.United.{united}
use Rattle.reh_copies.specs.Alone.{NoneAssumed, NoneEmpty, class_alone, fragment_alone, ledger_alone, numbers_alone}
use Rattle.reh_copies.proofs.CopyLaws.{AreTold, has-says, pair, some_member, told-says}
use Rattle.reh_copies.proofs.CountLaws.{EachOnce-writes, members_known}
use Rattle.reh_copies.proofs.UnitedLaws.{bookie_at, count-places, holders-alone, length-ordered, may_hold, numbered, numbered_members, ordered, ordered-counted, some_counted}

-- a state, and what is listed of the same picture
pub record IsAlike (s : Cluster) (l : Listed) : Type 0 where
  pub different : IsDistinct bytes_eq l.listing.names
  pub few : length l.listing.names ≤ 64
  pub lost_at : s.parts.lost_at ≡ l.listing.lost_at.items
  pub each : length s.parts.lost_at ≡ length l.listing.names
  pub ledgers : s.parts.ledgers ≡ l.listing.ledgers.items
  pub held : s.parts.held ≡ held_in l.listing.holdings.items
  pub once : IsDistinct is_pair (map pair l.listing.holdings.items)
  pub formed : All (λ g. IsMetadata g.metadata) s.parts.ledgers

-- How contents are taken

-- where the contents are told as they are listed, and of a bookie without one nothing is told
pub record IsTold (reading : Reading) (l : Listed) (g : Ledger) : Type 0 where
  pub contents : AreTold (reading_in g.metadata.state reading) g.id l.listing.holdings.items
  pub rest : (e : ℕ) → census.is_held e (rest_of (reading_in g.metadata.state reading)) ≡ false

rest_untold : (state : LedgerState) (strict : Bool) (e : ℕ)
    → census.is_held e (rest_of (reading_in state (reading_of strict))) ≡ false
rest_untold Open true e = refl
rest_untold Open false e = refl
rest_untold InRecovery true e = refl
rest_untold InRecovery false e = refl
rest_untold (Closed end) true e = refl
rest_untold (Closed end) false e = refl

-- all contents of a closed ledger
closed_reading : (state : LedgerState) → is_closed state ≡ true → reading_in state readings.All ≡ readings.All
closed_reading Open closed = cc
closed_reading InRecovery closed = cc
closed_reading (Closed end) closed = refl

-- what is assumed too, as an empty list holds nothing either way
told_all : (e : ℕ) (assumed : Bool) (ranges : List (ℕ × ℕ))
    → census.is_held e (told_as readings.All assumed ranges) ≡ census.is_held e (Holds (map range_of ranges))
told_all e true [] = refl
told_all e true (r ∷ rs) =
    let some : (length (r ∷ rs) == 0) ≡ false = grind (arith, nat_tests) in
    ap (λ (none : Bool). census.is_held e (if none then Untold else Holds (map range_of (r ∷ rs)))) some
told_all e false ranges = refl

all_told : (reading : Reading) → reading ≡ readings.All → (ledger : ℕ) (holdings : List Holding) → AreTold reading ledger holdings
all_told reading is ledger [] = tt
all_told reading is ledger (h ∷ hs) = (
  λ _ e. ap (λ r. census.is_held e (told_by r h)) is ∙ told_all e h.is_assumed h.ranges,
  all_told reading is ledger hs,
)

pub IsTold-closed : (l : Listed) (g : Ledger) → is_closed g.metadata.state ≡ true → IsTold readings.All l g
IsTold-closed l g closed = record {
  contents =
      all_told (reading_in g.metadata.state readings.All) (closed_reading g.metadata.state closed) g.id
      l.listing.holdings.items;
  rest = rest_untold g.metadata.state false;
}

-- those of a ledger of which nothing is assumed
told_sure : (state : LedgerState) (strict : Bool) (h : Holding) → h.is_assumed ≡ false
    → told_by (reading_in state (reading_of strict)) h ≡ Holds (map range_of h.ranges)
told_sure state strict h sure =
    ap (λ b. told_as (reading_in state (reading_of strict)) b h.ranges) sure ∙ by state strict where
      by : (state : LedgerState) (strict : Bool)
          → told_as (reading_in state (reading_of strict)) false h.ranges ≡ Holds (map range_of h.ranges)
      by Open true = refl
      by Open false = refl
      by InRecovery true = refl
      by InRecovery false = refl
      by (Closed end) true = refl
      by (Closed end) false = refl

sure_told : (state : LedgerState) (strict : Bool) (ledger : ℕ) (holdings : List Holding)
    → All (λ (h : Holding). h.ledger ≡ ledger → h.is_assumed ≡ false) holdings
    → AreTold (reading_in state (reading_of strict)) ledger holdings
sure_told state strict ledger [] sure = tt
sure_told state strict ledger (h ∷ hs) sure = (
  λ here e. let same : h.ledger ≡ ledger = grind (arith, nat_tests, here) in
      ap (census.is_held e)
      (told_sure state strict h (All-head (λ (h : Holding). h.ledger ≡ ledger → h.is_assumed ≡ false) h hs sure same)),
  sure_told state strict ledger hs (All-tail (λ (h : Holding). h.ledger ≡ ledger → h.is_assumed ≡ false) h hs sure),
)

pub IsTold-sure : (strict : Bool) (l : Listed) (g : Ledger) → NoneAssumed l g.id → IsTold (reading_of strict) l g
IsTold-sure strict l g sure = record {
  contents = sure_told g.metadata.state strict g.id l.listing.holdings.items sure;
  rest = rest_untold g.metadata.state strict;
}

-- What is known

up_low : (lost_at : List (Option ℕ)) (b : ℕ) → option_map_or is_none (slice_get lost_at b) false ≡ true → b < length lost_at
up_low lost_at b up = elim (cases_lt b (length lost_at)) [
  | inl within ↦ within
  | inr past ↦
      let none : option_map_or is_none (slice_get lost_at b) false ≡ false =
      ap (λ (o : Option (Option ℕ)). option_map_or is_none o false) (slice_get_past lost_at b past) in
      cc
]

-- each ledger of the state has well-formed metadata
pub IsMetadata-among : (s : Cluster) (l : Listed) → IsAlike s l → (g : Ledger) → Contains s.parts.ledgers g
    → IsMetadata g.metadata
IsMetadata-among s l alike g among =
    subst (λ (h : Ledger). IsMetadata h.metadata) among.2 (alike.formed among.0 g among.1)

module _ (s : Cluster) (l : Listed) (alike : IsAlike s l) (none_empty : NoneEmpty l) (reading : Reading) (g : Ledger)
    (formed : IsMetadata g.metadata) (told : IsTold reading l g) (f : ℕ) (fragment : Fragment)
    (there : slice_get g.metadata.fragments f ≡ Some fragment) (entry : ℕ) where
  ensemble : IsEnsemble g.metadata.size fragment.ensemble
  ensemble =
      subst (λ (h : Fragment). IsEnsemble g.metadata.size h.ensemble)
      (get_or_from_slice_get g.metadata.fragments f fragment fragment there)
      (formed.ensembles f fragment (slice_get_within g.metadata.fragments f fragment there))

  some : 1 ≤ g.metadata.size
  some = omega (arith, formed.some_acks, formed.acks_within, formed.writes_within)

  -- the bookie of the picture that has this number in the cluster
  abbrev at : ℕ → ℕ
  at c = bookie_at l alike.different c

  numbers_kept : (c : ℕ) → c < length l.listing.names → (m : ℕ) → (number_in (numbers_alone l) m == c) ≡ (m == at c)
  numbers_kept c below m = numbered l alike.different alike.few c below m

  carries_kept : (c : ℕ) → c < length l.listing.names
      → census.carries (ledger_alone reading l g) (fragment_alone l g f) entry c
      ≡ list_any (λ m. m == at c) (writes g.metadata fragment entry)
  carries_kept c below =
      (λ i. list_any (λ m. m == c)
      (map (λ k. slice_index (map (number_in (numbers_alone l)) (option_map_or (λ (fragment : Fragment). fragment.ensemble) (there i) [])) k)
      (write_set entry g.metadata.size g.metadata.write_quorum)))
      ∙ numbered_members (numbers_alone l) fragment.ensemble (index_at entry g.metadata.size)
      (λ j. let within : index_at entry g.metadata.size j < g.metadata.size = mod_below (entry + j) g.metadata.size some in
      omega (arith, within, ensemble.whole)) (range 0 g.metadata.write_quorum) c (at c) (numbers_kept c below)

  held_kept : (c : ℕ) → c < length l.listing.names
      → census.is_held entry (census.told_of (ledger_alone reading l g) c) ≡ has s.parts.held (at c) g.id entry
  held_kept c below =
      told-says (numbers_alone l) (reading_in g.metadata.state reading) g.id c (at c) entry (numbers_kept c below)
      (rest_of (reading_in g.metadata.state reading)) (told.rest entry) l.listing.holdings.items alike.once told.contents
      ∙ sym (has-says l.listing.holdings.items (at c) g.id entry)
      ∙ ap (λ (held : Contents). has held (at c) g.id entry) (sym alike.held)

  may_kept : (c : ℕ) → c < length l.listing.names
      → is_holder (census_bookies (bookies_of (united (Picture l ∷ [])))) c ≡ is_up s (at c)
  may_kept c below =
      may_hold l alike.different none_empty c below
      ∙ ap (λ (xs : List (Option ℕ)). option_map_or is_none (slice_get xs (at c)) false) (sym alike.lost_at)

  low : (b : ℕ) → is_up s b ≡ true → b < length l.listing.names
  low b up = omega (arith, up_low s.parts.lost_at b up, alike.each)

  -- whether the bookie of the picture is registered, a member of the write set, and holds the entry
  abbrev holds_copy : ℕ → Bool
  holds_copy b =
      is_up s b && (list_any (λ m. m == b) (writes g.metadata fragment entry) && has s.parts.held b g.id entry)

  -- of as many bookies a copy is known
  known-counted : length (class_alone reading l g f entry).known
      ≡ count_by holds_copy (range_with_len 0 (length l.listing.names))
  known-counted =
      let bookies = ordered l (length l.listing.names) in
      let may : ℕ → Bool = is_holder (census_bookies (bookies_of (united (Picture l ∷ [])))) in
      let carried : ℕ → Bool = census.carries (ledger_alone reading l g) (fragment_alone l g f) entry in
      let held : ℕ → Bool = λ b. census.is_held entry (census.told_of (ledger_alone reading l g) b) in
      ap (λ (bs : List ℕ). length (filter (λ b. carried b && held b) bs)) (holders-alone l alike.different)
      ∙ length-filter (λ b. carried b && held b) (filter may (range_with_len 0 (length bookies)))
      ∙ count-filter (λ b. carried b && held b) may (range_with_len 0 (length bookies))
      ∙ count-places (λ b. may b && (carried b && held b)) holds_copy 0 bookies (λ j inside.
      let below : j < length l.listing.names = omega (arith, inside, length-ordered l (length l.listing.names)) in
      let start : 0 + j ≡ j = omega arith in
      ap (λ b. may b && (carried b && held b)) start
      ∙ (λ i. may_kept j below i && (carries_kept j below i && held_kept j below i)))
      ∙ ordered-counted l holds_copy (length l.listing.names)

  -- an entry can be read where some copy of it is known
  pub readable-known : is_readable s g fragment entry ≡ is_held (class_alone reading l g f entry)
  readable-known =
      sym (ap (nat_lt 0) known-counted
      ∙ some_counted holds_copy (range_with_len 0 (length l.listing.names))
      ∙ some_member (length l.listing.names) (is_up s) (λ b. has s.parts.held b g.id entry)
      (writes g.metadata fragment entry) low)

  -- and as many copies of it are known as registered members hold it
  pub held-known : length (class_alone reading l g f entry).known
      ≡ count_by (is_source s g.id entry) (writes g.metadata fragment entry)
  held-known =
      known-counted
      ∙ members_known (length l.listing.names) (is_up s) (λ b. has s.parts.held b g.id entry)
      (writes g.metadata fragment entry)
      (EachOnce-writes g.metadata fragment entry ensemble some formed.writes_within) low
