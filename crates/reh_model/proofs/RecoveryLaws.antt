-- The next entry of a ledger, where its recovery ends, at the least entry of the last fragment that can't be read, of all numbers, and the first entry on the way with too few members.
use Rattle.std.proofs.Common.{◌≡◌, ℕ, ◌+◌, ◌-◌, ◌<◌, ◌≤◌, Bool, true, false, not, ◌&&◌, ◌||◌, List, [], ◌∷◌, map, length, Option, None, Some, inl, inr, refl, sym, ap, ◌∙◌, subst, arith, nat_eq, nat_lt, true≢false}
use Rattle.std.specs.Prelude.{max}
use Rattle.std.specs.List.{list_any, flat_map}
use Rattle.std.specs.Option.{option_map, option_map_or}
use Rattle.std.proofs.lemmas.Bool.{cases_lt}
use Rattle.std.specs.Ordering.{eq_by_cmp}
use Rattle.std.proofs.lemmas.Bool.Decides.{nat_tests}
use Rattle.std.proofs.lemmas.List.Folds.{list_any-append}
use Rattle.std.proofs.lemmas.Map.Views.{any-filter_same}
use Rattle.reh_types.specs.declared.refusals.Refusal.TheVariants.{TooFew}
use Rattle.reh_types.specs.Sets as set
use Rattle.reh_types.specs.Sets.{triples, triple_cmp, contains-empty, contains-from_list}
use Rattle.reh_model.specs.Contents.{IsHeld, has, greatest_held}
use Rattle.reh_model.specs.Metadata.{Fragment, last_fragment, writes}
use Rattle.reh_model.specs.Cluster.{Cluster, Ledger, is_up, holds, is_readable, ledger_at}
use Rattle.reh_model.specs.Recovery.{next_entry, up_writes, recovered_end, recovered_entries, recovered_copies, recovered_at}
use Rattle.reh_model.specs.Refusals.{too_few}
use Rattle.reh_model.proofs.Ranges.{IsFirst, IsFirst-one, IsFirst-found, find_first, find_none, any_passes, list_any-map, list_any-same}
use Rattle.reh_model.proofs.ContentsLaws.{triples_tied, greatest_held-reached}

-- What is held

-- an entry that can be read is held
any_held : (s : Cluster) (l e : ℕ) (bs : List ℕ) → list_any (λ b. is_up s b && holds s b l e) bs ≡ true → IsHeld s.parts.held l e
any_held s l e [] any = cc
any_held s l e (b ∷ bs) any =
    elim (holds s b l e) as (λ h. holds s b l e ≡ h → ((is_up s b && h) || list_any (λ b. is_up s b && holds s b l e) bs) ≡ true → IsHeld s.parts.held l e) [
      | true ↦ λ is _. (b, is)
      | false ↦ λ _ later. any_held s l e bs (sym (ap (λ h. h || list_any (λ b. is_up s b && holds s b l e) bs) (and_false (is_up s b))) ∙ later)
    ] refl any
  where
    and_false : (a : Bool) → (a && false) ≡ false
    and_false true = refl
    and_false false = refl

pub IsHeld-readable : (s : Cluster) (g : Ledger) (fragment : Fragment) (e : ℕ) → is_readable s g fragment e ≡ true → IsHeld s.parts.held g.id e
IsHeld-readable s g fragment e is = any_held s g.id e (writes g.metadata fragment e) is

-- The next entry

-- it is no less than the last fragment's first,
pub first_before_next : (s : Cluster) (g : Ledger) → (last_fragment g.metadata).first ≤ next_entry s g
first_before_next s g = within (last_fragment g.metadata).first (greatest_held s.parts.held g.id) where
  within : (first : ℕ) (greatest : Option ℕ) → first ≤ option_map_or (λ greatest. max first (greatest + 1)) greatest first
  within first None = omega arith
  within first (Some greatest) = omega arith

-- and above every entry of the ledger that any bookie holds
pub held_before_next : (s : Cluster) (g : Ledger) (e : ℕ) → IsHeld s.parts.held g.id e → e < next_entry s g
held_before_next s g e held =
    let first : ℕ = (last_fragment g.metadata).first in
    let reached = greatest_held-reached s.parts.held g.id e held in
    let below : e < max first (reached.value + 1) = omega (arith, reached.reached) in
    subst (λ (greatest : Option ℕ). e < option_map_or (λ greatest. max first (greatest + 1)) greatest first) (sym reached.is) below

-- so it can't be read
pub next_entry-unreadable : (s : Cluster) (g : Ledger) (fragment : Fragment) → is_readable s g fragment (next_entry s g) ≡ false
next_entry-unreadable s g fragment = unread (is_readable s g fragment (next_entry s g)) refl where
  unread : (b : Bool) → is_readable s g fragment (next_entry s g) ≡ b → b ≡ false
  unread false is = refl
  unread true is = absurd (let above : next_entry s g < next_entry s g = held_before_next s g (next_entry s g) (IsHeld-readable s g fragment (next_entry s g) is) in omega (arith, above))

-- The end of a recovery

is_end : (s : Cluster) (g : Ledger) → IsFirst (λ e. not (is_readable s g (last_fragment g.metadata) e)) (last_fragment g.metadata).first (recovered_end s g)
is_end s g =
    let last : Fragment = last_fragment g.metadata in
    IsFirst-found (λ e. not (is_readable s g last e)) last.first (next_entry s g - last.first) (next_entry s g) (omega (arith, first_before_next s g)) (ap not (next_entry-unreadable s g last))

not_true : (b : Bool) → not b ≡ true → b ≡ false
not_true false is = refl
not_true true is = cc

not_false : (b : Bool) → not b ≡ false → b ≡ true
not_false true is = refl
not_false false is = cc

-- it is no entry before the last fragment's first,
pub first_before_end : (s : Cluster) (g : Ledger) → (last_fragment g.metadata).first ≤ recovered_end s g
first_before_end s g = (is_end s g).from

-- can't be read,
pub recovered_end-unreadable : (s : Cluster) (g : Ledger) → is_readable s g (last_fragment g.metadata) (recovered_end s g) ≡ false
recovered_end-unreadable s g = not_true (is_readable s g (last_fragment g.metadata) (recovered_end s g)) (is_end s g).passes

-- and each entry before it can,
pub readable_before_end : (s : Cluster) (g : Ledger) (e : ℕ) → (last_fragment g.metadata).first ≤ e → e < recovered_end s g → is_readable s g (last_fragment g.metadata) e ≡ true
readable_before_end s g e from before = not_false (is_readable s g (last_fragment g.metadata) e) ((is_end s g).before e from before)

-- so it is the least of all numbers that can't
pub recovered_end-least : (s : Cluster) (g : Ledger) (e : ℕ) → (last_fragment g.metadata).first ≤ e → is_readable s g (last_fragment g.metadata) e ≡ false → recovered_end s g ≤ e
recovered_end-least s g e from unread = elim (cases_lt e (recovered_end s g)) [
  | inl before ↦ absurd (true≢false (sym (readable_before_end s g e from before) ∙ unread))
  | inr past ↦ past
]

-- A walk that passes entries that can be read and stands at one that can't is at the end.
pub recovered_end-is : (s : Cluster) (g : Ledger) (end : ℕ) → (last_fragment g.metadata).first ≤ end → ((e : ℕ) → (last_fragment g.metadata).first ≤ e → e < end → is_readable s g (last_fragment g.metadata) e ≡ true)
    → is_readable s g (last_fragment g.metadata) end ≡ false → end ≡ recovered_end s g
recovered_end-is s g end from passed stands =
    IsFirst-one (λ e. not (is_readable s g (last_fragment g.metadata) e)) (last_fragment g.metadata).first end (recovered_end s g)
    (record { from = from; passes = ap not stands; before = λ e first before. ap not (passed e first before) }) (is_end s g)

-- Too few members

-- whether too few members of the entry's write set are registered
abbrev lacks_acks : Cluster → Ledger → ℕ → Bool
lacks_acks s g e = nat_lt (length (up_writes s g e)) g.metadata.ack_quorum

-- A recovery that passes entries, each with enough members, meets the first with too few, which can be read too: that one is the reason to refuse it;
pub too_few-first : (s : Cluster) (g : Ledger) (e : ℕ) → (last_fragment g.metadata).first ≤ e → ((k : ℕ) → (last_fragment g.metadata).first ≤ k → k < e → is_readable s g (last_fragment g.metadata) k ≡ true)
    → ((k : ℕ) → (last_fragment g.metadata).first ≤ k → k < e → nat_lt (length (up_writes s g k)) g.metadata.ack_quorum ≡ false)
    → is_readable s g (last_fragment g.metadata) e ≡ true → nat_lt (length (up_writes s g e)) g.metadata.ack_quorum ≡ true → too_few s g ≡ Some (TooFew e)
too_few-first s g e from passed enough readable lacks =
    let first : ℕ = (last_fragment g.metadata).first in
    let within : e < first + (recovered_end s g - first) = omega (arith, from, before_end) in
    ap (option_map (λ e. TooFew e)) (find_first (lacks_acks s g) first (recovered_end s g - first) e within (record { from = from; passes = lacks; before = enough }))
  where
    unread : (end : ℕ) → recovered_end s g ≡ end → end ≤ e → is_readable s g (last_fragment g.metadata) end ≡ true
    unread end is within = elim (cases_lt end e) [
      | inl before ↦ passed end (let from : (last_fragment g.metadata).first ≤ recovered_end s g = first_before_end s g in omega (arith, is, from)) before
      | inr here ↦ let same : e ≡ end = omega (arith, within, here) in subst (λ (k : ℕ). is_readable s g (last_fragment g.metadata) k ≡ true) same readable
    ]

    before_end : e < recovered_end s g
    before_end = elim (cases_lt e (recovered_end s g)) [
      | inl before ↦ before
      | inr past ↦ absurd (true≢false (sym (unread (recovered_end s g) refl past) ∙ recovered_end-unreadable s g))
    ]

-- and where each has enough, that is no reason
pub too_few-none : (s : Cluster) (g : Ledger) → ((k : ℕ) → (last_fragment g.metadata).first ≤ k → k < recovered_end s g → nat_lt (length (up_writes s g k)) g.metadata.ack_quorum ≡ false) → too_few s g ≡ None
too_few-none s g enough =
    let first : ℕ = (last_fragment g.metadata).first in
    ap (option_map (λ e. TooFew e)) (find_none (lacks_acks s g) first (recovered_end s g - first) (λ k from below. enough k from (omega (arith, from, below, first_before_end s g))))

-- The copies of a recovery

any_tied : (c d : Bool) (p : ℕ → Bool) (ws : List ℕ) → list_any (λ w. (p w && c) && d) ws ≡ (c && (d && list_any p ws))
any_tied c d p [] = none c d where
  none : (c d : Bool) → false ≡ (c && (d && false))
  none true true = refl
  none true false = refl
  none false d = refl
any_tied c d p (w ∷ ws) = ap (λ later. ((p w && c) && d) || later) (any_tied c d p ws) ∙ one_more (p w) c d (list_any p ws) where
  one_more : (here c d later : Bool) → (((here && c) && d) || (c && (d && later))) ≡ (c && (d && (here || later)))
  one_more true true true later = refl
  one_more true true false later = refl
  one_more true false d later = refl
  one_more false true true later = refl
  one_more false true false later = refl
  one_more false false d later = refl

-- copies of entries of ledger k, each for the bookies that are listed for it
any_copied : (k : ℕ) (bookies : ℕ → List ℕ) (es : List ℕ) (b l e : ℕ)
    → list_any (eq_by_cmp triple_cmp (b, l, e)) (flat_map (λ x. map (λ w. (w, k, x)) (bookies x)) es) ≡ (nat_eq l k && (list_any (nat_eq e) es && list_any (nat_eq b) (bookies e)))
any_copied k bookies [] b l e = none (nat_eq l k) where
  none : (c : Bool) → false ≡ (c && false)
  none true = refl
  none false = refl
any_copied k bookies (x ∷ es) b l e =
    let of_ledger : Bool = nat_eq l k in
    let member : Bool = list_any (nat_eq b) (bookies e) in
    let later : Bool = list_any (nat_eq e) es in
    let first : list_any (eq_by_cmp triple_cmp (b, l, e)) (map (λ w. (w, k, x)) (bookies x)) ≡ (of_ledger && (nat_eq e x && list_any (nat_eq b) (bookies x))) =
    list_any-map (eq_by_cmp triple_cmp (b, l, e)) (λ w. (w, k, x)) (bookies x)
    ∙ list_any-same (λ w. eq_by_cmp triple_cmp (b, l, e) (w, k, x)) (λ w. (nat_eq b w && of_ledger) && nat_eq e x) (λ w. triples_tied (b, l, e) (w, k, x)) (bookies x)
    ∙ any_tied of_ledger (nat_eq e x) (nat_eq b) (bookies x) in
    list_any-append (eq_by_cmp triple_cmp (b, l, e)) (map (λ w. (w, k, x)) (bookies x)) (flat_map (λ x. map (λ w. (w, k, x)) (bookies x)) es)
    ∙ (λ i. first i || any_copied k bookies es b l e i)
    ∙ elim (nat_eq e x) as (λ here. nat_eq e x ≡ here → ((of_ledger && (here && list_any (nat_eq b) (bookies x))) || (of_ledger && (later && member))) ≡ (of_ledger && ((here || later) && member))) [
      | true ↦ λ tied.
          let same : x ≡ e = grind (arith, nat_tests, tied) in
          ap (λ y. (of_ledger && list_any (nat_eq b) (bookies y)) || (of_ledger && (later && member))) same ∙ once of_ledger later member
      | false ↦ λ _. others of_ledger (of_ledger && (later && member))
    ] refl
  where
    once : (c later member : Bool) → ((c && member) || (c && (later && member))) ≡ (c && member)
    once true later true = refl
    once true true false = refl
    once true false false = refl
    once false later member = refl

    others : (c rest : Bool) → ((c && false) || rest) ≡ rest
    others true rest = refl
    others false rest = refl

-- they are of this ledger, of each entry that the recovery passes, and of each registered member of its write set, and no others
pub has-recovered_copies : (s : Cluster) (g : Ledger) (b l e : ℕ) → has (recovered_copies s g) b l e ≡ (nat_eq l g.id && (list_any (nat_eq e) (recovered_entries s g) && list_any (nat_eq b) (up_writes s g e)))
has-recovered_copies s g b l e =
    contains-from_list triples (flat_map (λ x. map (λ w. (w, g.id, x)) (up_writes s g x)) (recovered_entries s g)) (b, l, e)
    ∙ any_copied g.id (up_writes s g) (recovered_entries s g) b l e

-- the registered members of a write set
pub any-up_writes : (s : Cluster) (g : Ledger) (e b : ℕ) → list_any (nat_eq b) (up_writes s g e) ≡ (is_up s b && list_any (nat_eq b) (writes g.metadata (last_fragment g.metadata) e))
any-up_writes s g e b = any-filter_same (nat_eq b) (is_up s) (is_up s b) (λ k tied. let same : k ≡ b = grind (arith, nat_tests, tied) in ap (is_up s) same) (writes g.metadata (last_fragment g.metadata) e)

-- what a copy of a recovery shows: the bookie is registered, and some bookie holds the entry
pub record IsRecovered (s : Cluster) (b l e : ℕ) : Type 0 where
  pub up : is_up s b ≡ true
  pub held : IsHeld s.parts.held l e

both : (a b : Bool) → (a && b) ≡ true → (a ≡ true) × (b ≡ true)
both true b is = (refl, is)
both false b is = cc

IsRecovered-copy : (s : Cluster) (g : Ledger) (b l e : ℕ) → has (recovered_copies s g) b l e ≡ true → IsRecovered s b l e
IsRecovered-copy s g b l e is =
    let first : ℕ = (last_fragment g.metadata).first in
    let tests = both (nat_eq l g.id) (list_any (nat_eq e) (recovered_entries s g) && list_any (nat_eq b) (up_writes s g e)) (sym (has-recovered_copies s g b l e) ∙ is) in
    let parts = both (list_any (nat_eq e) (recovered_entries s g)) (list_any (nat_eq b) (up_writes s g e)) tests.1 in
    let ledger : g.id ≡ l = grind (arith, nat_tests, tests.0) in
    let passed = any_passes (nat_eq e) first (recovered_end s g - first) parts.0 in
    let entry : e ≡ passed.at = grind (arith, nat_tests, passed.passes) in
    let readable : is_readable s g (last_fragment g.metadata) e ≡ true = readable_before_end s g e (omega (arith, entry, passed.from)) (omega (arith, entry, passed.below)) in
    record {
      up = (both (is_up s b) _ (sym (any-up_writes s g e b) ∙ parts.1)).0;
      held = subst (λ (k : ℕ). IsHeld s.parts.held k e) ledger (IsHeld-readable s g (last_fragment g.metadata) e readable);
    }

pub IsRecovered-at : (s : Cluster) (l b k e : ℕ) → has (recovered_at s l) b k e ≡ true → IsRecovered s b k e
IsRecovered-at s l b k e = copied (ledger_at s l) where
  copied : (o : Option Ledger) → has (option_map_or (recovered_copies s) o set.empty) b k e ≡ true → IsRecovered s b k e
  copied None is = absurd (true≢false (sym is ∙ contains-empty triples (b, k, e)))
  copied (Some g) is = IsRecovered-copy s g b k e is
