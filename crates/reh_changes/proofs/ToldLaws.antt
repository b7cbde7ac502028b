-- Metadata of which nothing is printed is the same, and each change of a record has a line.
use Rattle.std.proofs.Common.{◌≡◌, ◌≢◌, ℕ, zero, suc, ◌+◌, ◌<◌, Bool, true, false, cond, ◌&&◌, List, [], ◌∷◌, ◌++◌, length, map, refl, sym, ap, subst, ◌∙◌, arith}
use Rattle.std.specs.Prelude.{◌↔◌, ◌/◌, ◌==◌, not, All, Option, None, Some, slice_get, codes}
use Rattle.std.specs.Fmt.{decimal}
use Rattle.std.specs.Option.{option_map, option_map_or}
use Rattle.std.proofs.lemmas.Bool.Decides.{nat_tests}
use Rattle.std.proofs.lemmas.List.Elements.{All-nil, All-cons, All-head, All-tail, All-weaker}
use Rattle.reh_types.specs.declared.changes.Change.TheVariants as change
use Rattle.reh_types.specs.declared.names.LedgerState.{LedgerState}
use Rattle.reh_types.specs.declared.names.LedgerState.TheVariants.{Open, InRecovery, Closed}
use Rattle.reh_types.specs.declared.scalars.Scalar.TheVariants.{Clock, Enabled}
use Rattle.reh_model.specs.Metadata.{Metadata, Fragment}
use Rattle.reh_model.specs.Cluster.{Parts, Cluster, Ledger}
use Rattle.reh_model.specs.Places.{Change, Place, place_of, at_metadata, at_word, put, put_all, AreRising, IsThere, SameAt, IsDelta}
use Rattle.reh_model.specs.Contents.{has, is_in_word, one_of}
use Rattle.reh_model.proofs.ListLaws.{slice_get-here}
use Rattle.reh_model.proofs.PlaceLaws.{put-comm, SameAt-refl, SameAt-trans, SameAt-put}
use Rattle.reh_model.proofs.TurnedLaws.{has-turned}
use Rattle.reh_model.proofs.ExchangeLaws.{IsBeside, beside_rest, SameAt-put_all}
use Rattle.reh_commands.specs.Texts.{name_of}
use Rattle.reh_changes.specs.Changes.{change_line, fragment_name, is_same_state, version_line, state_line, state_words, member_lines, fragment_lines, metadata_lines, lines_of, all_lines, is_gained, is_gone}
use Rattle.reh_changes.specs.Told.{HaveOneFrame, AreOfOneLedger, HaveSameLedgers, TellsEntries}
use Rattle.reh_changes.proofs.EntryLaws.{ranges_in-entries}

-- Texts

pub left_empty : {X : Type 0} (xs ys : List X) → xs ++ ys ≡ [] → xs ≡ []
left_empty [] ys none = refl
left_empty (x ∷ xs) ys none = cc

pub right_empty : {X : Type 0} (xs ys : List X) → xs ++ ys ≡ [] → ys ≡ []
right_empty [] ys none = none
right_empty (x ∷ xs) ys none = cc

-- a line where two values are not equal
abbrev unless_same : Bool → List ℕ → List ℕ
unless_same same text = cond same [] text

same_or_told : (was now : ℕ) (what before after : List (List ℕ)) → unless_same (was == now) (change_line what before after) ≡ [] → was ≡ now
same_or_told was now what before after none =
    elim (was == now) as (λ b. (was == now) ≡ b → unless_same b (change_line what before after) ≡ [] → was ≡ now) [
      | true ↦ λ is _. grind (arith, nat_tests, is)
      | false ↦ λ _ none. cc
    ] refl none

-- Metadata

same_state : (was now : LedgerState) → is_same_state was now ≡ true → was ≡ now
same_state Open Open is = refl
same_state Open InRecovery is = cc
same_state Open (Closed n) is = cc
same_state InRecovery Open is = cc
same_state InRecovery InRecovery is = refl
same_state InRecovery (Closed n) is = cc
same_state (Closed m) Open is = cc
same_state (Closed m) InRecovery is = cc
same_state (Closed m) (Closed n) is = let same : m ≡ n = grind (arith, nat_tests, is) in ap Closed same

state_told : (id : ℕ) (was now : LedgerState) → state_line id was now ≡ [] → was ≡ now
state_told id was now none =
    elim (is_same_state was now) as (λ b. is_same_state was now ≡ b → unless_same b (change_line (codes "ledger" ∷ decimal id ∷ codes "state" ∷ []) (state_words was) (state_words now)) ≡ [] → was ≡ now) [
      | true ↦ λ is _. same_state was now is
      | false ↦ λ _ none. cc
    ] refl none

members_told : (names : List (List ℕ)) (id f i : ℕ) (was now : List ℕ) → length was ≡ length now → member_lines names id f i was now ≡ [] → was ≡ now
members_told names id f i [] [] many none = refl
members_told names id f i [] (now ∷ after) many none = absurd (omega (arith, many))
members_told names id f i (was ∷ before) [] many none = absurd (omega (arith, many))
members_told names id f i (was ∷ before) (now ∷ after) many none =
    let what = fragment_name id f ++ codes "index" ∷ decimal i ∷ [] in
    let first = unless_same (was == now) (change_line what (name_of names was ∷ []) (name_of names now ∷ [])) in
    let rest = member_lines names id f (i + 1) before after in
    let here = same_or_told was now what (name_of names was ∷ []) (name_of names now ∷ []) (left_empty first rest none) in
    let later = members_told names id f (i + 1) before after (omega (arith, many)) (right_empty first rest none) in
    λ j. here j ∷ later j

fragments_told : (names : List (List ℕ)) (id f : ℕ) (was now : List Fragment)
    → ((k : ℕ) (a b : Fragment) → slice_get was k ≡ Some a → slice_get now k ≡ Some b → HaveOneFrame a b)
    → fragment_lines names id f was now ≡ [] → was ≡ now
fragments_told names id f [] [] alike none = refl
fragments_told names id f [] (now ∷ after) alike none = cc
fragments_told names id f (was ∷ before) [] alike none = cc
fragments_told names id f (was ∷ before) (now ∷ after) alike none =
    let first = member_lines names id f 0 was.ensemble now.ensemble in
    let rest = fragment_lines names id (f + 1) before after in
    let frame = alike 0 was now refl refl in
    let members = members_told names id f 0 was.ensemble now.ensemble frame.1 (left_empty first rest none) in
    let later = fragments_told names id (f + 1) before after (λ k. alike (suc k)) (right_empty first rest none) in
    λ j. record { first = frame.0 j; ensemble = members j } ∷ later j

metadata_told : (names : List (List ℕ)) (id : ℕ) (was now : Metadata) → AreOfOneLedger was now → metadata_lines names id was now ≡ [] → was ≡ now
metadata_told names id was now alike none =
    let version = version_line id was.version now.version in
    let state = state_line id was.state now.state in
    let fragments = fragment_lines names id 0 was.fragments now.fragments in
    let rest = right_empty version (state ++ fragments) none in
    let same_version = same_or_told was.version now.version (codes "ledger" ∷ decimal id ∷ codes "version" ∷ []) (decimal was.version ∷ []) (decimal now.version ∷ []) (left_empty version (state ++ fragments) none) in
    let same_state = state_told id was.state now.state (left_empty state fragments rest) in
    let same_fragments = fragments_told names id 0 was.fragments now.fragments alike.fragments (right_empty state fragments rest) in
    λ j. record {
      size = alike.size j;
      write_quorum = alike.write_quorum j;
      ack_quorum = alike.ack_quorum j;
      state = same_state j;
      version = same_version j;
      fragments = same_fragments j;
    }

-- and of the same metadata nothing is printed
itself : (n : ℕ) → (n == n) ≡ true
itself n = grind (arith, nat_tests)

state_itself : (state : LedgerState) → is_same_state state state ≡ true
state_itself Open = refl
state_itself InRecovery = refl
state_itself (Closed n) = itself n

no_members : (names : List (List ℕ)) (id f i : ℕ) (bs : List ℕ) → member_lines names id f i bs bs ≡ []
no_members names id f i [] = refl
no_members names id f i (b ∷ bs) =
    (λ j. cond (itself b j) [] (change_line (fragment_name id f ++ codes "index" ∷ decimal i ∷ []) (name_of names b ∷ []) (name_of names b ∷ [])) ++ no_members names id f (i + 1) bs j)

no_fragments : (names : List (List ℕ)) (id f : ℕ) (fragments : List Fragment) → fragment_lines names id f fragments fragments ≡ []
no_fragments names id f [] = refl
no_fragments names id f (x ∷ xs) = (λ j. no_members names id f 0 x.ensemble j ++ no_fragments names id (f + 1) xs j)

no_metadata : (names : List (List ℕ)) (id : ℕ) (m : Metadata) → metadata_lines names id m m ≡ []
no_metadata names id m =
    (λ j. cond (itself m.version j) [] (change_line (codes "ledger" ∷ decimal id ∷ codes "version" ∷ []) (decimal m.version ∷ []) (decimal m.version ∷ []))
    ++ (cond (state_itself m.state j) [] (change_line (codes "ledger" ∷ decimal id ∷ codes "state" ∷ []) (state_words m.state) (state_words m.state))
    ++ no_fragments names id 0 m.fragments j))

pub metadata_lines-none : (names : List (List ℕ)) (id : ℕ) (was now : Metadata) → AreOfOneLedger was now → (metadata_lines names id was now ≡ [] ↔ was ≡ now)
metadata_lines-none names id was now alike =
    (metadata_told names id was now alike, λ same. ap (λ m. metadata_lines names id was m) (sym same) ∙ no_metadata names id was)

-- Records

AreOfOneLedger-back : (was now : Metadata) → AreOfOneLedger was now → AreOfOneLedger now was
AreOfOneLedger-back was now alike = record {
  size = sym alike.size;
  write_quorum = sym alike.write_quorum;
  ack_quorum = sym alike.ack_quorum;
  fragments = λ f a b here there. let frame = alike.fragments f b a there here in (sym frame.0, sym frame.1);
}

pub HaveSameLedgers-back : (s t : Cluster) → HaveSameLedgers s t → HaveSameLedgers t s
HaveSameLedgers-back s t alike i g h here there = AreOfOneLedger-back h.metadata g.metadata (alike i h g there here)

-- a change leaves its contents in its place, whatever is changed elsewhere
holds_after : (p q : Parts) (c : Change) (cs : List Change) → IsBeside (place_of c) cs
    → All (λ d. SameAt (put (put p c) d) q (place_of d)) cs → All (λ d. SameAt (put p d) q (place_of d)) cs
holds_after p q c [] beside all = All-nil (λ d. SameAt (put p d) q (place_of d))
holds_after p q c (d ∷ cs) beside all =
    let apart : place_of c ≢ place_of d = All-head (λ place. place_of c ≢ place) (place_of d) (map place_of cs) beside in
    let both : put (put p d) c ≡ put (put p c) d = sym (put-comm p c d apart) in
    let first : SameAt (put (put p c) d) q (place_of d) = All-head (λ d. SameAt (put (put p c) d) q (place_of d)) d cs all in
    let kept : SameAt (put p d) (put (put p c) d) (place_of d) =
    subst (λ (r : Parts). SameAt (put p d) r (place_of d)) both (SameAt-put (put p d) c (place_of d) apart) in
    All-cons (λ d. SameAt (put p d) q (place_of d)) d cs
    (SameAt-trans (put p d) (put (put p c) d) q (place_of d) kept first)
    (holds_after p q c cs (All-tail (λ place. place_of c ≢ place) (place_of d) (map place_of cs) beside)
    (All-tail (λ d. SameAt (put (put p c) d) q (place_of d)) d cs all))

holds : (p : Parts) (cs : List Change) → AreRising (map place_of cs) → All (λ c. SameAt (put p c) (put_all p cs) (place_of c)) cs
holds p [] rising = All-nil (λ c. SameAt (put p c) p (place_of c))
holds p (c ∷ cs) rising =
    let q = put_all (put p c) cs in
    let beside = beside_rest c cs rising in
    All-cons (λ d. SameAt (put p d) q (place_of d)) c cs (SameAt-put_all (put p c) cs (place_of c) beside)
    (holds_after p q c cs beside (holds (put p c) cs rising.1))

-- what stands at a place
there : {X : Type 0} (xs : List X) (i : ℕ) → i < length xs → (x : X) × (slice_get xs i ≡ Some x)
there [] i within = absurd (omega (arith, within))
there (x ∷ xs) zero within = (x, refl)
there (x ∷ xs) (suc i) within = there xs i (omega (arith, within))

-- what an optional value has been made of
of_some : {X Y : Type 0} (get : X → Y) (o : Option X) (y : Y) → option_map get o ≡ Some y → (x : X) × (o ≡ Some x) × (get x ≡ y)
of_some get None y is = cc
of_some get (Some x) y is = let same : get x ≡ y = cc in (x, refl, same)

-- metadata that differs
metadata_line : (s t : Cluster) (i : ℕ) (m : Metadata) → HaveSameLedgers s t → IsThere s (change.Metadata i m)
    → ¬ SameAt s.parts t.parts (at_metadata i) → SameAt (put s.parts (change.Metadata i m)) t.parts (at_metadata i)
    → lines_of s (change.Metadata i m) ≢ []
metadata_line s t i m alike within differs holds none =
    let (g, here) = there s.parts.ledgers i within in
    let left : option_map (λ (g : Ledger). g.metadata) (slice_get t.parts.ledgers i) ≡ Some m =
    sym holds
    ∙ ap (option_map (λ (g : Ledger). g.metadata)) (slice_get-here (λ (g : Ledger). record g { metadata = m }) s.parts.ledgers i)
    ∙ ap (λ (o : Option Ledger). option_map (λ (g : Ledger). g.metadata) (option_map (λ (g : Ledger). record g { metadata = m }) o)) here in
    let (h, found, is) = of_some (λ (g : Ledger). g.metadata) (slice_get t.parts.ledgers i) m left in
    let one : AreOfOneLedger m g.metadata =
    subst (λ (n : Metadata). AreOfOneLedger n g.metadata) is (AreOfOneLedger-back g.metadata h.metadata (alike i g h here found)) in
    let printed : metadata_lines s.names g.id m g.metadata ≡ [] =
    sym (ap (λ (o : Option Ledger). option_map_or (λ g. metadata_lines s.names g.id m g.metadata) o []) here) ∙ none in
    let same : m ≡ g.metadata = metadata_told s.names g.id m g.metadata one printed in
    differs (ap (option_map (λ (g : Ledger). g.metadata)) here ∙ ap (λ (n : Metadata). Some n) (sym same) ∙ sym left)

-- a ledger that stands there has a line
ledger_line : (s : Cluster) (i : ℕ) (text : Ledger → List ℕ) → i < length s.parts.ledgers → ((g : Ledger) → text g ≢ [])
    → option_map_or text (slice_get s.parts.ledgers i) [] ≢ []
ledger_line s i text within told none =
    let (g, here) = there s.parts.ledgers i within in
    told g (sym (ap (λ (o : Option Ledger). option_map_or text o []) here) ∙ none)

line_of : (s t : Cluster) (c : Change) → HaveSameLedgers s t → IsThere s c → ¬ SameAt s.parts t.parts (place_of c)
    → SameAt (put s.parts c) t.parts (place_of c) → lines_of s c ≢ []
line_of s t (change.Registration b lost) alike within differs holds none = cc
line_of s t (change.Metadata i m) alike within differs holds none = metadata_line s t i m alike within differs holds none
line_of s t (change.Task i task) alike within differs holds none = ledger_line s i _ within (λ g none. cc) none
line_of s t (change.Lock i lock) alike within differs holds none = ledger_line s i _ within (λ g none. cc) none
line_of s t (change.Word b l k bits) alike within differs holds none = cc
line_of s t (change.Scalar (Clock was)) alike within differs holds none = cc
line_of s t (change.Scalar (Enabled was)) alike within differs holds none = cc

each_line : (s t : Cluster) (cs : List Change) → HaveSameLedgers s t → All (IsThere s) cs
    → All (λ p. ¬ SameAt s.parts t.parts p) (map place_of cs) → All (λ c. SameAt (put s.parts c) t.parts (place_of c)) cs
    → All (λ c. lines_of s c ≢ []) cs
each_line s t [] alike within differ holds = All-nil (λ c. lines_of s c ≢ [])
each_line s t (c ∷ cs) alike within differ holds =
    let Differs : Place → Type 0 = λ p. ¬ SameAt s.parts t.parts p in
    let Holds : Change → Type 0 = λ c. SameAt (put s.parts c) t.parts (place_of c) in
    All-cons (λ c. lines_of s c ≢ []) c cs
    (line_of s t c alike (All-head (IsThere s) c cs within) (All-head Differs (place_of c) (map place_of cs) differ) (All-head Holds c cs holds))
    (each_line s t cs alike (All-tail (IsThere s) c cs within) (All-tail Differs (place_of c) (map place_of cs) differ) (All-tail Holds c cs holds))

left_there : (s t : Cluster) (cs : List Change) → IsDelta s t cs → All (λ c. SameAt (put s.parts c) t.parts (place_of c)) cs
left_there s t cs delta =
    subst (λ (u : Cluster). All (λ c. SameAt (put s.parts c) u.parts (place_of c)) cs) delta.makes (holds s.parts cs delta.rising)

pub lines_of-some : (s t : Cluster) (cs : List Change) → HaveSameLedgers s t → IsDelta s t cs → All (λ c. lines_of s c ≢ []) cs
lines_of-some s t cs alike delta =
    each_line s t cs alike delta.fits.there delta.differ (left_there s t cs delta)

nothing : (s t : Cluster) (cs : List Change) → HaveSameLedgers s t → IsDelta s t cs → all_lines s cs ≡ [] → s ≡ t
nothing s t [] alike delta none = delta.makes
nothing s t (c ∷ cs) alike delta none =
    absurd (All-head (λ c. lines_of s c ≢ []) c cs (lines_of-some s t (c ∷ cs) alike delta)
    (left_empty (lines_of s c) (all_lines s cs) none))

-- nothing is changed from a state to itself
pub no_changes : (s t : Cluster) (cs : List Change) → IsDelta s t cs → s ≡ t → cs ≡ []
no_changes s t [] delta same = refl
no_changes s t (c ∷ cs) delta same =
    absurd (All-head (λ p. ¬ SameAt s.parts t.parts p) (place_of c) (map place_of cs) delta.differ
    (subst (λ (u : Cluster). SameAt s.parts u.parts (place_of c)) same (SameAt-refl s.parts (place_of c))))

pub all_lines-none : (s t : Cluster) (cs : List Change) → HaveSameLedgers s t → IsDelta s t cs → (all_lines s cs ≡ [] ↔ s ≡ t)
all_lines-none s t cs alike delta = (nothing s t cs alike delta, λ same. ap (all_lines s) (no_changes s t cs delta same))

-- Entries

turned_gained : (held bit before : Bool) → before ≡ one_of held bit → (bit && held) ≡ (held && not before)
turned_gained true true before is = sym (ap not is)
turned_gained true false before is = sym (ap not is)
turned_gained false true before is = refl
turned_gained false false before is = refl

turned_gone : (held bit before : Bool) → before ≡ one_of held bit → (bit && not held) ≡ (before && not held)
turned_gone true true before is = sym (ap (λ b. b && false) is)
turned_gone true false before is = sym (ap (λ b. b && false) is)
turned_gone false true before is = sym (ap (λ b. b && true) is)
turned_gone false false before is = sym (ap (λ b. b && true) is)

-- what is said of a word's entries alone
in_word : (k e : ℕ) (a b : Bool) → (e / 64 ≡ k → a ≡ b) → ((e / 64 == k) && a) ≡ ((e / 64 == k) && b)
in_word k e a b same =
    elim (e / 64 == k) as (λ t. (e / 64 == k) ≡ t → (t && a) ≡ (t && b)) [
      | true ↦ λ is. same (grind (arith, nat_tests, is))
      | false ↦ λ _. refl
    ] refl

-- an entry of the word was held if it is held now and its bit is not set, or the other way
held_before : (s t : Cluster) (b l k bits : ℕ) → SameAt (put s.parts (change.Word b l k bits)) t.parts (at_word b l k) → (e : ℕ) → e / 64 ≡ k
    → has t.parts.held b l e ≡ one_of (has s.parts.held b l e) (is_in_word k bits e)
held_before s t b l k bits same e within =
    sym (same e within) ∙ has-turned s.parts.held b l k bits b l e
    ∙ (λ i. one_of (has s.parts.held b l e) ((itself b i && itself l i) && is_in_word k bits e))

word_told : (s t : Cluster) (b l k bits : ℕ) → SameAt (put s.parts (change.Word b l k bits)) t.parts (at_word b l k) → TellsEntries s t (change.Word b l k bits)
word_told s t b l k bits same e = (
  ranges_in-entries k (is_gained s b l k bits) e
      ∙ in_word k e (is_gained s b l k bits e) _ (λ within.
      turned_gained (has s.parts.held b l e) (is_in_word k bits e) (has t.parts.held b l e) (held_before s t b l k bits same e within)),
  ranges_in-entries k (is_gone s b l k bits) e
      ∙ in_word k e (is_gone s b l k bits e) _ (λ within.
      turned_gone (has s.parts.held b l e) (is_in_word k bits e) (has t.parts.held b l e) (held_before s t b l k bits same e within)),
)

told : (s t : Cluster) (c : Change) → SameAt (put s.parts c) t.parts (place_of c) → TellsEntries s t c
told s t (change.Word b l k bits) same = word_told s t b l k bits same
told s t other same = tt

pub entries_told : (s t : Cluster) (cs : List Change) → IsDelta s t cs → All (TellsEntries s t) cs
entries_told s t cs delta =
    All-weaker (λ c. SameAt (put s.parts c) t.parts (place_of c)) (TellsEntries s t) (told s t) cs (left_there s t cs delta)
