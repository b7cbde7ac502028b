-- A seal's record: the ledger's metadata, and word by word what each bookie gets of the entries that the recovery
-- passes.
use Rattle.std.proofs.Common.{◌≡◌, ◌<◌, ◌≤◌, ◌+◌, ◌-◌, ◌*◌, ℕ, Bool, true, false, cond, ◌&&◌, ◌||◌, nat_eq, nat_lt}
use Rattle.std.proofs.Common.{List, [], ◌∷◌, ◌++◌, length, map, get_or, None, Some, Option, refl, sym, ap, subst, ◌∙◌}
use Rattle.std.proofs.Common.{arith, inl, inr}
use Rattle.std.specs.Prelude.{All, if◌then◌else◌, ◌==◌, position, slice_index}
use Rattle.std.specs.List.{filter, list_any, position_or_len}
use Rattle.std.proofs.Math.Bool.{and_comm, and-false, or-false}
use Rattle.std.proofs.lemmas.Bool.Decides.{nat_tests}
use Rattle.std.proofs.lemmas.List.{map-append}
use Rattle.std.proofs.lemmas.List.Elements.{All-nil, All-cons, All-append, All-filter, All-head, All-tail, All-map}
use Rattle.std.proofs.lemmas.List.Elements.{All-weaker}
use Rattle.std.proofs.lemmas.List.FromFn.{get_or-range_with_len, length-range_with_len}
use Rattle.std.proofs.lemmas.List.Quantifiers.{position-Some}
use Rattle.std.proofs.lemmas.List.Sums.{fails_before_first}
use Rattle.std.proofs.lemmas.Map.Views.{any-filter_same}
use Rattle.reh_types.specs.Sets as set
use Rattle.reh_types.specs.Sets.{contains-retain, contains-union, same_set}
use Rattle.reh_types.specs.declared.changes.Change.TheVariants.{Metadata}
use Rattle.reh_types.specs.declared.moves.Event.TheVariants.{Seal}
use Rattle.reh_held.specs.declared.turns.Turn.{Turn}
use Rattle.reh_held.specs.RowTurns.{is_turned}
use Rattle.reh_held.specs.Turns.{turned_all, IsTurning}
use Rattle.reh_held.proofs.TurnedLaws.{has-turned_all}
use Rattle.reh_model.specs.Contents.{Contents, has, one_of, copies_of}
use Rattle.std.specs.Option.{option_map_or}
use Rattle.reh_model.specs.Metadata as meta
use Rattle.reh_model.specs.Metadata.{Fragment, IsEnsemble, IsMetadata, last_fragment, writes}
use Rattle.reh_model.specs.Striping.{is_striped, striped_entries, write_set}
use Rattle.reh_model.specs.Cluster.{Parts, Cluster, Ledger, is_up, ledger_at, change_ledger, words_among, with_held}
use Rattle.reh_model.specs.Cluster.{with_ledgers}
use Rattle.reh_model.specs.Recovery.{up_writes, recovered_end, recovered_entries, recovered_copies, recovered_at}
use Rattle.reh_model.specs.WellFormed.{IsCopy, IsWellFormed}
use Rattle.reh_model.specs.Step.{refusal_of, after, sealed_ledger}
use Rattle.reh_model.specs.Places.{Change, Place, at_metadata, at_word, place_of, IsBefore, AreRising, put, put_all}
use Rattle.reh_model.specs.Places.{exchanged, IsThere, IsDelta}
use Rattle.reh_step.specs.Records.{word_change, word_changes, registered_index, recovered_by}
use Rattle.reh_model.proofs.ContentsLaws.{All-copy, has-copies_of}
use Rattle.reh_model.proofs.FragmentLaws.{IsEnsemble-last}
use Rattle.reh_model.proofs.Ranges.{list_any-same, same_answer}
use Rattle.reh_model.proofs.WriteSetLaws.{writes-member}
use Rattle.reh_model.proofs.LedgerLaws.{ledger_at-position}
use Rattle.reh_model.proofs.ListLaws.{change_at-here}
use Rattle.reh_model.proofs.RecoveryLaws.{IsHeld-readable, readable_before_end, has-recovered_copies, any-up_writes}
use Rattle.reh_model.proofs.RecoveryLaws.{IsRecovered-at}
use Rattle.reh_model.proofs.TurnedLaws.{one_of-false}
use Rattle.reh_model.proofs.WellFormedLaws.{up_named}
use Rattle.reh_model.proofs.EventLaws.{IsWellFormed-after}
use Rattle.reh_model.proofs.ExchangeLaws.{Differs, delta_of_changes}
use Rattle.reh_model.proofs.DeltaLaws.{Stands, stands, part_differs}
use Rattle.reh_scan.proofs.ReadingLaws.{write_set_within}
use Rattle.reh_step.proofs.CopyLaws.{words-rising, words-there, words-differ, exchanged-words}

-- What the bookies get

-- what the bookies below n get of a recovery
abbrev recovered_below : Cluster → Ledger → ℕ → Contents
recovered_below s g n = set.retain (recovered_copies s g) (λ t. nat_lt t.0 n)

has-below : (s : Cluster) (g : Ledger) (n b l e : ℕ)
    → has (recovered_below s g n) b l e ≡ (nat_lt b n && has (recovered_copies s g) b l e)
has-below s g n b l e = contains-retain (recovered_copies s g) (λ t. nat_lt t.0 n) (b, l, e)

-- what one bookie gets
has-recovered_by : (s : Cluster) (g : Ledger) (n b l e : ℕ)
    → has (copies_of n g.id (recovered_by s g n)) b l e ≡ (nat_eq b n && has (recovered_copies s g) b l e)
has-recovered_by s g n b l e =
    has-copies_of n g.id (recovered_by s g n) b l e
    ∙ ap (λ among. (nat_eq b n && nat_eq l g.id) && among)
    (any-filter_same (nat_eq e) (λ x. list_any (nat_eq n) (up_writes s g x)) (list_any (nat_eq n) (up_writes s g e))
    (λ x tied. let same : x ≡ e =
    grind (arith, nat_tests, tied) in ap (λ y. list_any (nat_eq n) (up_writes s g y)) same) (recovered_entries s g))
    ∙ elim (nat_eq b n) as
    (λ here. nat_eq b n ≡ here → ((here && nat_eq l g.id) && (list_any (nat_eq n) (up_writes s g e) && passed)) ≡ (here && has (recovered_copies s g) b l e)) [
      | true ↦ λ tied.
          let same : n ≡ b = grind (arith, nat_tests, tied) in
          ap (λ c. nat_eq l g.id && (list_any (nat_eq c) (up_writes s g e) && passed)) same
          ∙ ap (λ c. nat_eq l g.id && c) (and_comm (list_any (nat_eq b) (up_writes s g e)) passed)
          ∙ sym (has-recovered_copies s g b l e)
      | false ↦ λ _. refl
    ] refl
  where
    passed : Bool
    passed = list_any (nat_eq e) (recovered_entries s g)

-- one bookie more: its words turn to what it gets, whatever the bookies before it got
turned_next : (s : Cluster) (g : Ledger) (n : ℕ) (us : List Turn)
    → turned_all s.parts.held n g.id us ≡ set.union s.parts.held (copies_of n g.id (recovered_by s g n))
    → turned_all (set.union s.parts.held (recovered_below s g n)) n g.id us ≡ set.union s.parts.held (recovered_below s g (n + 1))
turned_next s g n us makes =
    same_set (turned_all (set.union s.parts.held (recovered_below s g n)) n g.id us)
    (set.union s.parts.held (recovered_below s g (n + 1))) (λ t.
    has-turned_all (set.union s.parts.held (recovered_below s g n)) n g.id us t.0 t.1 t.2
    ∙ ap (λ h. one_of h ((nat_eq t.0 n && nat_eq t.1 g.id) && is_turned us t.2))
    (contains-union s.parts.held (recovered_below s g n) t
    ∙ ap (λ h. set.contains s.parts.held t || h) (has-below s g n t.0 t.1 t.2))
    ∙ at_copy t.0 t.1 t.2
    ∙ sym
    (contains-union s.parts.held (recovered_below s g (n + 1)) t
    ∙ ap (λ h. set.contains s.parts.held t || h) (has-below s g (n + 1) t.0 t.1 t.2)))
  where
    here : (h x r : Bool) → one_of h x ≡ (h || (true && r)) → one_of (h || (false && r)) x ≡ (h || (true && r))
    here true x r is = is
    here false x r is = is

    -- what the turns make of what was held
    alone : (b l e : ℕ)
        → one_of (has s.parts.held b l e) ((nat_eq b n && nat_eq l g.id) && is_turned us e) ≡ (has s.parts.held b l e || (nat_eq b n && has (recovered_copies s g) b l e))
    alone b l e =
        sym (has-turned_all s.parts.held n g.id us b l e) ∙ ap (λ (h : Contents). has h b l e) makes
        ∙ contains-union s.parts.held (copies_of n g.id (recovered_by s g n)) (b, l, e)
        ∙ ap (λ h. has s.parts.held b l e || h) (has-recovered_by s g n b l e)

    at_copy : (b l e : ℕ)
        → one_of (has s.parts.held b l e || (nat_lt b n && has (recovered_copies s g) b l e)) ((nat_eq b n && nat_eq l g.id) && is_turned us e) ≡ (has s.parts.held b l e || (nat_lt b (n + 1) && has (recovered_copies s g) b l e))
    at_copy b l e =
        let h : Bool = has s.parts.held b l e in
        let r : Bool = has (recovered_copies s g) b l e in
        elim (nat_eq b n) as
        (λ tied. nat_eq b n ≡ tied → one_of h ((tied && nat_eq l g.id) && is_turned us e) ≡ (h || (tied && r)) → one_of (h || (nat_lt b n && r)) ((tied && nat_eq l g.id) && is_turned us e) ≡ (h || (nat_lt b (n + 1) && r))) [
          | true ↦ λ tied is.
              let not_yet : nat_lt b n ≡ false = grind (arith, nat_tests, tied) in
              let now : nat_lt b (n + 1) ≡ true = grind (arith, nat_tests, tied) in
              ap (λ below. one_of (h || (below && r)) (nat_eq l g.id && is_turned us e)) not_yet
              ∙ here h (nat_eq l g.id && is_turned us e) r is ∙ ap (λ below. h || (below && r)) (sym now)
          | false ↦ λ apart _.
              let same : nat_lt b n ≡ nat_lt b (n + 1) = grind (arith, nat_tests, apart) in
              one_of-false (h || (nat_lt b n && r)) ∙ ap (λ below. h || (below && r)) same
        ] refl (alone b l e)

-- before the first bookie
nothing_below : (s : Cluster) (g : Ledger) → set.union s.parts.held (recovered_below s g 0) ≡ s.parts.held
nothing_below s g = same_set (set.union s.parts.held (recovered_below s g 0)) s.parts.held (λ t.
    contains-union s.parts.held (recovered_below s g 0) t
    ∙ ap (λ h. set.contains s.parts.held t || h) (has-below s g 0 t.0 t.1 t.2)
    ∙ ap (λ below. set.contains s.parts.held t || (below && has (recovered_copies s g) t.0 t.1 t.2)) (none_below t.0)
    ∙ or-false (set.contains s.parts.held t))
  where
    none_below : (b : ℕ) → nat_lt b 0 ≡ false
    none_below b = grind (arith, nat_tests)

-- after the last bookie
all_below : (s : Cluster) (l : ℕ) (g : Ledger) (n : ℕ) → IsWellFormed s → ledger_at s l ≡ Some g → length s.names ≤ n
    → recovered_below s g n ≡ recovered_at s l
all_below s l g n was found past =
    same_set (recovered_below s g n) (recovered_copies s g)
    (λ t. has-below s g n t.0 t.1 t.2 ∙ all t.0 t.1 t.2 (has (recovered_copies s g) t.0 t.1 t.2) refl) ∙ sym copied where
      copied : recovered_at s l ≡ recovered_copies s g
      copied = ap (λ (o : Option Ledger). option_map_or (recovered_copies s) o set.empty) found

      all : (b k e : ℕ) (r : Bool) → has (recovered_copies s g) b k e ≡ r → (nat_lt b n && r) ≡ r
      all b k e true is =
          let named : b < length s.names =
          up_named s b was (IsRecovered-at s l b k e (ap (λ (c : Contents). has c b k e) copied ∙ is)).up in
          let below : nat_lt b n ≡ true = grind (arith, nat_tests, named, past) in
          ap (λ x. x && true) below
      all b k e false is = and-false (nat_lt b n)

-- The record

rising-append : (ps qs : List Place) → AreRising ps → AreRising qs → All (λ p. All (IsBefore p) qs) ps
    → AreRising (ps ++ qs)
rising-append [] qs first second before = second
rising-append (p ∷ ps) qs first second before = (
  All-append (IsBefore p) ps qs first.0 (All-head (λ p. All (IsBefore p) qs) p ps before),
  rising-append ps qs first.1 second (All-tail (λ p. All (IsBefore p) qs) p ps before),
)

put_all-append : (p : Parts) (cs ds : List Change) → put_all p (cs ++ ds) ≡ put_all (put_all p cs) ds
put_all-append p [] ds = refl
put_all-append p (c ∷ cs) ds = put_all-append (put p c) cs ds

-- the change is before all words of bookies from n on
abbrev IsBeforeWords : ℕ → Change → Type 0
IsBeforeWords n c = (b l i : ℕ) → n ≤ b → IsBefore (place_of c) (at_word b l i)

-- the change of the metadata
abbrev closing : Cluster → ℕ → Ledger → Change
closing s k g = Metadata k (sealed_ledger s g).metadata

-- the changes of the metadata and of the words of the bookies below n
pub record AreSealed (s : Cluster) (k : ℕ) (g : Ledger) (n : ℕ) (cs : List Change) : Type 0 where
  pub rising : AreRising (map place_of cs)
  before : All (IsBeforeWords n) cs
  there : All (IsThere s) cs
  differ : All (Differs s.parts) cs
  makes : exchanged s cs ≡ with_held (exchanged s (closing s k g ∷ [])) (set.union s.parts.held (recovered_below s g n))

pub sealed_start : (s : Cluster) (l k : ℕ) (g : Ledger) → IsWellFormed s
    → position (λ g. g.id == l) s.parts.ledgers ≡ Some k → g ≡ get_or s.parts.ledgers k g
    → AreSealed s k g 0 (closing s k g ∷ [])
sealed_start s l k g was is read =
    let place : Stands s l k g = stands s l k g was is (ledger_at-position s l k g was.ledgers.different is read) in
    let differs : Change → Type 0 = Differs s.parts in
    record {
      rising = (All-nil (IsBefore (at_metadata k)), tt);
      before =
          All-cons (IsBeforeWords 0) (closing s k g) [] (λ b l i from. inl (omega arith)) (All-nil (IsBeforeWords 0));
      there = All-cons (IsThere s) (closing s k g) [] place.there (All-nil (IsThere s));
      differ =
          All-cons differs (closing s k g) []
          (part_differs (λ g. g.metadata) (λ x. record x { metadata = (sealed_ledger s g).metadata }) s.parts.ledgers k
          g place.here (λ same. absurd (omega (arith, ap (λ (m : meta.Metadata). m.version) same)))) (All-nil differs);
      makes = ap (λ (h : Contents). with_held (exchanged s (closing s k g ∷ [])) h) (sym (nothing_below s g));
    }

-- one bookie more
more_sealed : (s : Cluster) (k : ℕ) (g : Ledger) (n : ℕ) (cs : List Change) (us : List Turn) → n < length s.names
    → IsTurning (words_among s.parts.ledgers g.id) n g.id s.parts.held (set.union s.parts.held (copies_of n g.id (recovered_by s g n))) us
    → AreSealed s k g n cs → AreSealed s k g (n + 1) (cs ++ word_changes n g.id us)
more_sealed s k g n cs us named turning are =
    let words : List Change = word_changes n g.id us in
    let differs : Change → Type 0 = Differs s.parts in
    record {
      rising =
          subst AreRising (sym (map-append place_of cs words))
          (rising-append (map place_of cs) (map place_of words) are.rising
          (words-rising n g.id 0 us turning.places.rising)
          (All-map (λ p. All (IsBefore p) (map place_of words)) place_of cs
          (All-weaker (IsBeforeWords n) (λ c. All (IsBefore (place_of c)) (map place_of words)) (λ c before.
          All-map (IsBefore (place_of c)) place_of words
          (All-map (λ d. IsBefore (place_of c) (place_of d)) (word_change n g.id) us
          (λ j d within. before n g.id (get_or us j d).number (omega arith)))) cs are.before)));
      before =
          All-append (IsBeforeWords (n + 1)) cs words
          (All-weaker (IsBeforeWords n) (IsBeforeWords (n + 1)) (λ c before b l i from. before b l i (omega arith)) cs
          are.before)
          (All-map (IsBeforeWords (n + 1)) (word_change n g.id) us
          (λ j d within b l i from. inr (refl, inl (omega arith))));
      there = All-append (IsThere s) cs words are.there (words-there s n g.id us named turning.places);
      differ = All-append differs cs words are.differ (words-differ s n g.id us turning.places);
      makes =
          ap (λ (p : Parts). record s { parts = p }) (put_all-append s.parts cs words)
          ∙ ap (λ (t : Cluster). exchanged t words) are.makes ∙ exchanged-words _ n g.id us
          ∙ ap (λ (h : Contents). with_held (exchanged s (closing s k g ∷ [])) h) (turned_next s g n us turning.makes);
    }

pub sealed_more : (s : Cluster) (l k : ℕ) (g : Ledger) (n : ℕ) (cs : List Change) (entries : List ℕ) (us : List Turn) (list : List Change) → g.id ≡ l → n < length s.names → entries ≡ recovered_by s g n
    → IsTurning (words_among s.parts.ledgers l) n l s.parts.held (set.union s.parts.held (copies_of n l entries)) us
    → AreSealed s k g n cs → list ≡ cs ++ word_changes n l us → AreSealed s k g (n + 1) list
sealed_more s l k g n cs entries us list id named listed turning are is =
    let turning_id : IsTurning (words_among s.parts.ledgers g.id) n g.id s.parts.held
    (set.union s.parts.held (copies_of n g.id (recovered_by s g n))) us =
    subst
    (λ (l : ℕ). IsTurning (words_among s.parts.ledgers l) n l s.parts.held (set.union s.parts.held (copies_of n l (recovered_by s g n))) us) (sym id) (subst (λ (es : List ℕ). IsTurning (words_among s.parts.ledgers l) n l s.parts.held (set.union s.parts.held (copies_of n l es)) us) listed turning) in
    subst (λ (ps : List Change). AreSealed s k g (n + 1) ps) (ap (λ l. cs ++ word_changes n l us) id ∙ sym is)
    (more_sealed s k g n cs us named turning_id are)

-- after the last bookie the record is the difference
pub seal_delta : (s : Cluster) (w l k : ℕ) (g : Ledger) (n : ℕ) (cs : List Change) → IsWellFormed s
    → position (λ g. g.id == l) s.parts.ledgers ≡ Some k → g ≡ get_or s.parts.ledgers k g
    → refusal_of s (Seal w l) ≡ None → length s.names ≤ n → AreSealed s k g n cs
    → IsDelta s (after s (Seal w l)) cs
seal_delta s w l k g n cs was is read none past are =
    let found : ledger_at s l ≡ Some g = ledger_at-position s l k g was.ledgers.different is read in
    let place : Stands s l k g = stands s l k g was is found in
    let closed : exchanged s (closing s k g ∷ []) ≡ change_ledger s l (sealed_ledger s) =
    ap (λ (gs : List Ledger). with_ledgers s gs)
    (change_at-here (λ x. record x { metadata = (sealed_ledger s g).metadata }) (sealed_ledger s) s.parts.ledgers k g
    read refl) ∙ place.changed (sealed_ledger s) in
    let copied : recovered_below s g n ≡ recovered_at s l = all_below s l g n was found past in
    delta_of_changes s (after s (Seal w l)) cs (IsWellFormed-after s (Seal w l) was none) are.rising are.there
    (are.makes ∙ (λ i. with_held (closed i) (set.union s.parts.held (copied i)))) are.differ

-- What one bookie gets

-- no more than lies within the ledger's words
pub recovered_within : (s : Cluster) (l : ℕ) (g : Ledger) (b : ℕ) (entries : List ℕ) → IsWellFormed s → g.id ≡ l
    → entries ≡ recovered_by s g b → All (λ e. e < 64 * words_among s.parts.ledgers l) entries
recovered_within s l g b entries was id listed =
    subst (λ (es : List ℕ). All (λ e. e < 64 * words_among s.parts.ledgers l) es) (sym listed)
    (All-filter (λ e. list_any (nat_eq b) (up_writes s g e)) (λ e. e < 64 * words_among s.parts.ledgers l)
    (recovered_entries s g) (λ k d inside.
    let first : ℕ = (last_fragment g.metadata).first in
    let few : k < recovered_end s g - first =
    omega (arith, inside, length-range_with_len first (recovered_end s g - first)) in
    let at : get_or (recovered_entries s g) k d ≡ first + k =
    get_or-range_with_len first (recovered_end s g - first) k d few in
    let held =
    IsHeld-readable s g (last_fragment g.metadata) (first + k)
    (readable_before_end s g (first + k) (omega arith) (omega (arith, few))) in
    let within : first + k < 64 * words_among s.parts.ledgers g.id =
    (All-copy (IsCopy (length s.names) s.parts.ledgers) s.parts.held was.contents.copies (held.0, g.id, first + k)
    held.1).2 in
    subst (λ e. e < 64 * words_among s.parts.ledgers l) (sym at)
    (subst (λ (l : ℕ). first + k < 64 * words_among s.parts.ledgers l) id within)))

nothing_kept : (p : ℕ → Bool) → ((e : ℕ) → p e ≡ false) → (es : List ℕ) → filter p es ≡ []
nothing_kept p none [] = refl
nothing_kept p none (e ∷ es) = ap (λ b. cond b (e ∷ filter p es) (filter p es)) (none e) ∙ nothing_kept p none es

-- none, while it is not registered,
recovered_down : (s : Cluster) (g : Ledger) (b : ℕ) → is_up s b ≡ false → recovered_by s g b ≡ []
recovered_down s g b down =
    nothing_kept (λ e. list_any (nat_eq b) (up_writes s g e))
    (λ e. any-up_writes s g e b ∙ ap (λ up. up && list_any (nat_eq b) (writes g.metadata (last_fragment g.metadata) e)) down) (recovered_entries s g)

-- or where it is no member
nowhere : (p : ℕ → Bool) (xs : List ℕ) → position p xs ≡ None → (k : ℕ) → k < length xs → p (slice_index xs k) ≡ false
nowhere p xs is k within =
    let first : ℕ = position_or_len p xs in
    elim (nat_lt first (length xs)) as
    (λ b. nat_lt first (length xs) ≡ b → cond b (Some first) None ≡ None → p (slice_index xs k) ≡ false) [
      | true ↦ λ _ some. cc
      | false ↦ λ past _. fails_before_first p xs k 0 (grind (arith, nat_tests, past, within))
    ] refl is

none_among : (b : ℕ) (members : List ℕ) → ((i : ℕ) → i < length members → nat_eq (slice_index members i) b ≡ false)
    → (is : List ℕ) → All (λ i. i < length members) is
    → list_any (nat_eq b) (map (λ i. slice_index members i) is) ≡ false
none_among b members none [] within = refl
none_among b members none (i ∷ is) within =
    let apart : nat_eq (slice_index members i) b ≡ false = none i (All-head (λ i. i < length members) i is within) in
    let here : nat_eq b (slice_index members i) ≡ false = grind (arith, nat_tests, apart) in
    ap (λ c. c || list_any (nat_eq b) (map (λ i. slice_index members i) is)) here
    ∙ none_among b members none is (All-tail (λ i. i < length members) i is within)

recovered_stranger : (s : Cluster) (g : Ledger) (b : ℕ) → IsMetadata g.metadata
    → position (λ member. member == b) (last_fragment g.metadata).ensemble ≡ None → recovered_by s g b ≡ []
recovered_stranger s g b was is =
    let last : Fragment = last_fragment g.metadata in
    let whole : length last.ensemble ≡ g.metadata.size = (IsEnsemble-last g.metadata was).whole in
    nothing_kept (λ e. list_any (nat_eq b) (up_writes s g e)) (λ e.
    any-up_writes s g e b
    ∙ ap (λ among. is_up s b && among)
    (none_among b last.ensemble (nowhere (λ member. member == b) last.ensemble is)
    (write_set e g.metadata.size g.metadata.write_quorum)
    (subst (λ n. All (λ i. i < n) (write_set e g.metadata.size g.metadata.write_quorum)) (sym whole)
    (write_set_within g.metadata e was)))
    ∙ and-false (is_up s b)) (recovered_entries s g)

pub recovered_none : (s : Cluster) (g : Ledger) (b : ℕ) → IsMetadata g.metadata
    → registered_index s (last_fragment g.metadata).ensemble b ≡ None → recovered_by s g b ≡ []
recovered_none s g b was is =
    elim (is_up s b) as (λ up. is_up s b ≡ up → (if up then position (λ member. member == b) (last_fragment g.metadata).ensemble else None) ≡ None → recovered_by s g b ≡ []) [
      | true ↦ λ _ is. recovered_stranger s g b was is
      | false ↦ λ down _. recovered_down s g b down
    ] refl is

-- a registered member
registered_at : (s : Cluster) (members : List ℕ) (b i : ℕ) → registered_index s members b ≡ Some i
    → (is_up s b ≡ true) × (i < length members) × (slice_index members i ≡ b)
registered_at s members b i is =
    elim (is_up s b) as (λ up. is_up s b ≡ up → (if up then position (λ member. member == b) members else None) ≡ Some i → (is_up s b ≡ true) × (i < length members) × (slice_index members i ≡ b)) [
      | true ↦ λ up is.
          let at = position-Some (λ member. member == b) members i 0 is in
          let tied : (slice_index members i == b) ≡ true = at.1 in
          (up, at.0, grind (arith, nat_tests, tied))
      | false ↦ λ _ is. cc
    ] refl is

pub registered_within : (s : Cluster) (members : List ℕ) (b i : ℕ) → registered_index s members b ≡ Some i
    → i < length members
registered_within s members b i is = (registered_at s members b i is).1

-- those that are striped onto its index, where it is one
pub recovered_member : (s : Cluster) (g : Ledger) (b i : ℕ) → IsMetadata g.metadata
    → registered_index s (last_fragment g.metadata).ensemble b ≡ Some i
    → recovered_by s g b ≡ striped_entries (last_fragment g.metadata).first (recovered_end s g) i g.metadata.size g.metadata.write_quorum
recovered_member s g b i was is =
    let m : meta.Metadata = g.metadata in
    let last : Fragment = last_fragment m in
    let ensemble : IsEnsemble m.size last.ensemble = IsEnsemble-last m was in
    let at = registered_at s last.ensemble b i is in
    let inside : i < m.size = omega (arith, at.1, ensemble.whole) in
    let same : (e : ℕ) → list_any (nat_eq b) (up_writes s g e) ≡ is_striped e i m.size m.write_quorum = λ e.
    any-up_writes s g e b ∙ ap (λ u. u && list_any (nat_eq b) (writes m last e)) at.0
    ∙ list_any-same (nat_eq b) (λ x. x == b) (λ x. flipped b x) (writes m last e)
    ∙ ap (λ c. list_any (λ x. x == c) (writes m last e)) (sym at.2) ∙ writes-member m last e i ensemble inside in
    ap (λ (p : ℕ → Bool). filter p (recovered_entries s g)) (λ j e. same e j)
  where
    flipped : (b x : ℕ) → nat_eq b x ≡ (x == b)
    flipped b x =
        same_answer (nat_eq b x) (x == b) (λ is. grind (arith, nat_tests, is)) (λ is. grind (arith, nat_tests, is))
