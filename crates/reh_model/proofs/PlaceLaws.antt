-- What two changes of a cluster's parts make of each other.
use Rattle.std.proofs.Common.{◌≡◌, ◌≢◌, ◌<◌, ◌+◌, ◌*◌, ◌/◌, ◌%◌, ℕ, zero, suc, Bool, true, false, cond, ◌&&◌, List, [], ◌∷◌, length, Option, Some, refl, sym, ap, subst, ◌∙◌, arith, inl, inr, nat_eq}
use Rattle.std.specs.Prelude.{◌==◌, ◌^◌, slice_get, slice_index}
use Rattle.std.specs.Option.{option_map, option_map_or}
use Rattle.std.specs.Int.{bit_at}
use Rattle.std.proofs.lemmas.Bool.{and_parts}
use Rattle.std.proofs.lemmas.Bool.Decides.{nat_tests}
use Rattle.reh_types.specs.declared.locks.Lock as locks
use Rattle.reh_types.specs.declared.changes.Change.TheVariants.{Registration, Metadata, Task, Lock, Word, Scalar}
use Rattle.reh_types.specs.declared.scalars.Scalars.{Scalars}
use Rattle.reh_types.specs.Scalars.{number_of, scalar_at}
use Rattle.reh_types.proofs.ScalarLaws.{number_of-scalar_at, with_scalar-back, with_scalar-comm, scalar_at-here, scalar_at-apart}
use Rattle.reh_types.specs.Sets.{Set, numbers}
use Rattle.reh_model.specs.Metadata as meta
use Rattle.reh_model.specs.Contents.{Contents, has, is_in_word, one_of, turned}
use Rattle.reh_model.specs.Cluster.{Parts, Ledger, change_at, register, ledger_among, words_among}
use Rattle.reh_model.specs.Places.{Change, Place, at_registration, at_metadata, at_task, at_lock, at_word, at_scalar, place_of, order_of, IsLess, IsBefore, put, back, IsPlaced, SameAt}
use Rattle.reh_model.proofs.LedgerLaws.{KeepsId, KeepsWords}
use Rattle.reh_model.proofs.TurnedLaws.{one_of-false, has-turned, turned-twice, turned-comm, some_bit, same_turn}
use Rattle.reh_model.proofs.ListLaws.{change_at-length, change_at-comm, change_at-apart, read_at-apart, read_at-part, slice_get-apart, slice_get-part, change_at-read, change_at-twice, read_at-put, slice_get-put, slice_get-others}

-- no list of numbers is less than itself
not_less : (ms : List ℕ) → IsLess ms ms → ⊥
not_less [] h = h
not_less (m ∷ ms) h = elim h [ inl less ↦ absurd (omega (arith, less)) | inr later ↦ not_less ms later.1 ]

-- a place that is before another one is not the other one
pub IsBefore-different : (p q : Place) → IsBefore p q → p ≢ q
IsBefore-different p q before same = not_less (order_of p) (subst (λ r. IsLess (order_of p) (order_of r)) (sym same) before)

-- places in one order are one
pub order_of-same : (p q : Place) → order_of p ≡ order_of q → p ≡ q
order_of-same (at_registration b) (at_registration c) h = let same : b ≡ c = cc in ap at_registration same
order_of-same (at_metadata i) (at_metadata j) h = let same : i ≡ j = cc in ap at_metadata same
order_of-same (at_task i) (at_task j) h = let same : i ≡ j = cc in ap at_task same
order_of-same (at_lock i) (at_lock j) h = let same : i ≡ j = cc in ap at_lock same
order_of-same (at_word b l k) (at_word c m n) h =
    let first : b ≡ c = cc in
    let second : l ≡ m = cc in
    let third : k ≡ n = cc in
    λ i. at_word (first i) (second i) (third i)
order_of-same (at_scalar m) (at_scalar n) h = let same : m ≡ n = cc in ap at_scalar same
order_of-same p q h = absurd (omega (arith, ap (λ (ns : List ℕ). slice_index ns 0) h))

-- a change keeps as many registrations,
pub put-registrations : (s : Parts) (c : Change) → length (put s c).lost_at ≡ length s.lost_at
put-registrations s (Registration b lost) = change_at-length s.lost_at b _
put-registrations s c = refl

-- as many ledgers,
pub put-count : (s : Parts) (c : Change) → length (put s c).ledgers ≡ length s.ledgers
put-count s (Metadata i metadata) = change_at-length s.ledgers i _
put-count s (Task i task) = change_at-length s.ledgers i _
put-count s (Lock i lock) = change_at-length s.ledgers i _
put-count s c = refl

abbrev words_of : Option Ledger → ℕ
words_of g = option_map_or (λ g. g.words) g 0

words_among-change_at : (change : Ledger → Ledger) → KeepsId change → KeepsWords change → (gs : List Ledger) (i l : ℕ) → words_among (change_at gs i change) l ≡ words_among gs l
words_among-change_at change id words [] i l = refl
words_among-change_at change id words (g ∷ gs) zero l =
    ap (λ (k : ℕ). words_of (cond (k == l) (Some (change g)) (ledger_among gs l))) (id g)
    ∙ elim (g.id == l) as (λ b. words_of (cond b (Some (change g)) (ledger_among gs l)) ≡ words_of (cond b (Some g) (ledger_among gs l))) [ true ↦ words g | false ↦ refl ]
words_among-change_at change id words (g ∷ gs) (suc i) l =
    elim (g.id == l) as (λ b. words_of (cond b (Some g) (ledger_among (change_at gs i change) l)) ≡ words_of (cond b (Some g) (ledger_among gs l))) [
      | true ↦ refl
      | false ↦ words_among-change_at change id words gs i l
    ]

-- with as many words each,
pub words_among-put : (s : Parts) (c : Change) (l : ℕ) → words_among (put s c).ledgers l ≡ words_among s.ledgers l
words_among-put s (Metadata i metadata) l = words_among-change_at _ (λ g. refl) (λ g. refl) s.ledgers i l
words_among-put s (Task i task) l = words_among-change_at _ (λ g. refl) (λ g. refl) s.ledgers i l
words_among-put s (Lock i lock) l = words_among-change_at _ (λ g. refl) (λ g. refl) s.ledgers i l
words_among-put s c l = refl

-- so the places stay that there are
pub IsPlaced-put : (n : ℕ) (s : Parts) (c d : Change) → IsPlaced n s d → IsPlaced n (put s c) d
IsPlaced-put n s c (Registration b lost) h = subst (λ n. b < n) (sym (put-registrations s c)) h
IsPlaced-put n s c (Metadata i metadata) h = subst (λ n. i < n) (sym (put-count s c)) h
IsPlaced-put n s c (Task i task) h = subst (λ n. i < n) (sym (put-count s c)) h
IsPlaced-put n s c (Lock i lock) h = subst (λ n. i < n) (sym (put-count s c)) h
IsPlaced-put n s c (Word b l k bits) h = (h.0, subst (λ n. k < n) (sym (words_among-put s c l)) h.1, h.2)
IsPlaced-put n s c (Scalar scalar) h = h

-- whether a change's place is there is no matter of its contents
pub IsPlaced-back : (n : ℕ) (t s : Parts) (c : Change) → IsPlaced n t c → IsPlaced n t (back s c)
IsPlaced-back n t s (Registration b lost) h = h
IsPlaced-back n t s (Metadata i metadata) h = h
IsPlaced-back n t s (Task i task) h = h
IsPlaced-back n t s (Lock i lock) h = h
IsPlaced-back n t s (Word b l k bits) h = h
IsPlaced-back n t s (Scalar scalar) h = h

-- a change leaves its own place
pub place_of-back : (s : Parts) (c : Change) → place_of (back s c) ≡ place_of c
place_of-back s (Registration b lost) = refl
place_of-back s (Metadata i metadata) = refl
place_of-back s (Task i task) = refl
place_of-back s (Lock i lock) = refl
place_of-back s (Word b l k bits) = refl
place_of-back s (Scalar scalar) = ap at_scalar (number_of-scalar_at s.scalars scalar)

-- Two changes

-- what a change leaves takes it back
pub put-back : (s : Parts) (c : Change) → put (put s c) (back s c) ≡ s
put-back s (Registration b lost) =
    ap (λ (ls : List (Option ℕ)). record s { lost_at = ls })
    (change_at-twice (λ (l : Option ℕ). l) (λ (l _ : Option ℕ). l) (λ l o k. refl) _ lost s.lost_at b
    ∙ change_at-read (λ (l : Option ℕ). l) (λ (l _ : Option ℕ). l) (λ l. refl) s.lost_at b lost)
put-back s (Metadata i metadata) =
    ap (λ (gs : List Ledger). record s { ledgers = gs })
    (change_at-twice (λ (g : Ledger). g.metadata) (λ (m : meta.Metadata) (g : Ledger). record g { metadata = m }) (λ m n g. refl) _ metadata s.ledgers i
    ∙ change_at-read (λ (g : Ledger). g.metadata) (λ (m : meta.Metadata) (g : Ledger). record g { metadata = m }) (λ g. refl) s.ledgers i metadata)
put-back s (Task i task) =
    ap (λ (gs : List Ledger). record s { ledgers = gs })
    (change_at-twice (λ (g : Ledger). g.task) (λ (t : Option (Set numbers)) (g : Ledger). record g { task = t }) (λ t u g. refl) _ task s.ledgers i
    ∙ change_at-read (λ (g : Ledger). g.task) (λ (t : Option (Set numbers)) (g : Ledger). record g { task = t }) (λ g. refl) s.ledgers i task)
put-back s (Lock i lock) =
    ap (λ (gs : List Ledger). record s { ledgers = gs })
    (change_at-twice (λ (g : Ledger). g.lock) (λ (k : Option locks.Lock) (g : Ledger). record g { lock = k }) (λ k o g. refl) _ lock s.ledgers i
    ∙ change_at-read (λ (g : Ledger). g.lock) (λ (k : Option locks.Lock) (g : Ledger). record g { lock = k }) (λ g. refl) s.ledgers i lock)
put-back s (Word b l k bits) = ap (λ (held : Contents). record s { held = held }) (turned-twice s.held b l k bits)
put-back s (Scalar scalar) = ap (λ (v : Scalars). record s { scalars = v }) (with_scalar-back s.scalars scalar)

-- and then leaves the change again
pub back-back : (s : Parts) (c : Change) → back (put s c) (back s c) ≡ c
back-back s (Registration b lost) = ap (Registration b) (read_at-put (λ (l : Option ℕ). l) (λ (l _ : Option ℕ). l) (λ l k. refl) lost s.lost_at b)
back-back s (Metadata i metadata) =
    ap (Metadata i) (read_at-put (λ (g : Ledger). g.metadata) (λ (m : meta.Metadata) (g : Ledger). record g { metadata = m }) (λ m g. refl) metadata s.ledgers i)
back-back s (Task i task) = ap (Task i) (read_at-put (λ (g : Ledger). g.task) (λ (t : Option (Set numbers)) (g : Ledger). record g { task = t }) (λ t g. refl) task s.ledgers i)
back-back s (Lock i lock) = ap (Lock i) (read_at-put (λ (g : Ledger). g.lock) (λ (k : Option locks.Lock) (g : Ledger). record g { lock = k }) (λ k g. refl) lock s.ledgers i)
back-back s (Word b l k bits) = refl
back-back s (Scalar scalar) = ap Scalar (scalar_at-here s.scalars scalar (scalar_at s.scalars scalar) (sym (number_of-scalar_at s.scalars scalar)))

-- changes of different places commute
pub put-comm : (s : Parts) (c d : Change) → place_of c ≢ place_of d → put (put s c) d ≡ put (put s d) c
put-comm s (Registration b lost) (Registration d other) h = ap (λ (ls : List (Option ℕ)). record s { lost_at = ls }) (change_at-apart _ _ s.lost_at b d (λ e. h (ap at_registration e)))
put-comm s (Metadata i m) (Metadata j n) h = ap (λ (gs : List Ledger). record s { ledgers = gs }) (change_at-apart _ _ s.ledgers i j (λ e. h (ap at_metadata e)))
put-comm s (Metadata i m) (Task j t) h = ap (λ (gs : List Ledger). record s { ledgers = gs }) (change_at-comm _ _ (λ g. refl) s.ledgers i j)
put-comm s (Metadata i m) (Lock j k) h = ap (λ (gs : List Ledger). record s { ledgers = gs }) (change_at-comm _ _ (λ g. refl) s.ledgers i j)
put-comm s (Task i t) (Metadata j m) h = ap (λ (gs : List Ledger). record s { ledgers = gs }) (change_at-comm _ _ (λ g. refl) s.ledgers i j)
put-comm s (Task i t) (Task j u) h = ap (λ (gs : List Ledger). record s { ledgers = gs }) (change_at-apart _ _ s.ledgers i j (λ e. h (ap at_task e)))
put-comm s (Task i t) (Lock j k) h = ap (λ (gs : List Ledger). record s { ledgers = gs }) (change_at-comm _ _ (λ g. refl) s.ledgers i j)
put-comm s (Lock i k) (Metadata j m) h = ap (λ (gs : List Ledger). record s { ledgers = gs }) (change_at-comm _ _ (λ g. refl) s.ledgers i j)
put-comm s (Lock i k) (Task j t) h = ap (λ (gs : List Ledger). record s { ledgers = gs }) (change_at-comm _ _ (λ g. refl) s.ledgers i j)
put-comm s (Lock i k) (Lock j o) h = ap (λ (gs : List Ledger). record s { ledgers = gs }) (change_at-apart _ _ s.ledgers i j (λ e. h (ap at_lock e)))
put-comm s (Word b l k x) (Word c m n y) h = ap (λ (held : Contents). record s { held = held }) (turned-comm s.held b l k x c m n y)
put-comm s (Scalar x) (Scalar y) h = ap (λ (v : Scalars). record s { scalars = v }) (with_scalar-comm s.scalars x y (λ e. h (ap at_scalar e)))
put-comm s c d h = refl

-- a change leaves what another one leaves
pub back-put : (s : Parts) (c d : Change) → place_of c ≢ place_of d → back (put s c) d ≡ back s d
back-put s (Registration b lost) (Registration d other) h = ap (Registration d) (read_at-apart (λ (l : Option ℕ). l) _ s.lost_at b d other (λ e. h (ap at_registration e)))
back-put s (Metadata i m) (Metadata j n) h = ap (Metadata j) (read_at-apart (λ (g : Ledger). g.metadata) _ s.ledgers i j n (λ e. h (ap at_metadata e)))
back-put s (Task i t) (Task j u) h = ap (Task j) (read_at-apart (λ (g : Ledger). g.task) _ s.ledgers i j u (λ e. h (ap at_task e)))
back-put s (Lock i k) (Lock j o) h = ap (Lock j) (read_at-apart (λ (g : Ledger). g.lock) _ s.ledgers i j o (λ e. h (ap at_lock e)))
back-put s (Task i t) (Metadata j n) h = ap (Metadata j) (read_at-part (λ (g : Ledger). g.metadata) _ (λ g. refl) s.ledgers i j n)
back-put s (Lock i k) (Metadata j n) h = ap (Metadata j) (read_at-part (λ (g : Ledger). g.metadata) _ (λ g. refl) s.ledgers i j n)
back-put s (Metadata i m) (Task j u) h = ap (Task j) (read_at-part (λ (g : Ledger). g.task) _ (λ g. refl) s.ledgers i j u)
back-put s (Lock i k) (Task j u) h = ap (Task j) (read_at-part (λ (g : Ledger). g.task) _ (λ g. refl) s.ledgers i j u)
back-put s (Metadata i m) (Lock j o) h = ap (Lock j) (read_at-part (λ (g : Ledger). g.lock) _ (λ g. refl) s.ledgers i j o)
back-put s (Task i t) (Lock j o) h = ap (Lock j) (read_at-part (λ (g : Ledger). g.lock) _ (λ g. refl) s.ledgers i j o)
back-put s (Scalar x) (Scalar y) h = ap Scalar (scalar_at-apart s.scalars x y (λ e. h (ap at_scalar e)))
back-put s c d h = refl

-- Differences

pub SameAt-refl : (s : Parts) (p : Place) → SameAt s s p
SameAt-refl s (at_registration b) = refl
SameAt-refl s (at_metadata i) = refl
SameAt-refl s (at_task i) = refl
SameAt-refl s (at_lock i) = refl
SameAt-refl s (at_word b l k) = λ e within. refl
SameAt-refl s (at_scalar n) = λ scalar is. refl

pub SameAt-sym : (s t : Parts) (p : Place) → SameAt s t p → SameAt t s p
SameAt-sym s t (at_registration b) h = sym h
SameAt-sym s t (at_metadata i) h = sym h
SameAt-sym s t (at_task i) h = sym h
SameAt-sym s t (at_lock i) h = sym h
SameAt-sym s t (at_word b l k) h = λ e within. sym (h e within)
SameAt-sym s t (at_scalar n) h = λ scalar is. sym (h scalar is)

pub SameAt-trans : (s t u : Parts) (p : Place) → SameAt s t p → SameAt t u p → SameAt s u p
SameAt-trans s t u (at_registration b) h k = h ∙ k
SameAt-trans s t u (at_metadata i) h k = h ∙ k
SameAt-trans s t u (at_task i) h k = h ∙ k
SameAt-trans s t u (at_lock i) h k = h ∙ k
SameAt-trans s t u (at_word b l n) h k = λ e within. h e within ∙ k e within
SameAt-trans s t u (at_scalar n) h k = λ scalar is. h scalar is ∙ k scalar is

-- a word that turns turns no entry of another one
turned-apart : (s : Contents) (b l k bits c m n e : ℕ) → at_word b l k ≢ at_word c m n → e / 64 ≡ n → has s c m e ≡ has (turned s b l k bits) c m e
turned-apart s b l k bits c m n e apart within =
    let turns : Bool = (nat_eq c b && nat_eq m l) && is_in_word k bits e in
    sym (one_of-false (has s c m e))
    ∙ elim turns as (λ t. turns ≡ t → one_of (has s c m e) false ≡ one_of (has s c m e) t) [
      | true ↦ λ is.
          let outer = and_parts (nat_eq c b && nat_eq m l) (is_in_word k bits e) is in
          let pair = and_parts (nat_eq c b) (nat_eq m l) outer.0 in
          let word = and_parts (e / 64 == k) _ outer.1 in
          let first : b ≡ c = grind (arith, nat_tests, pair.0) in
          let second : l ≡ m = grind (arith, nat_tests, pair.1) in
          let third : k ≡ n = grind (arith, nat_tests, word.0, within) in
          absurd (apart (λ i. at_word (first i) (second i) (third i)))
      | false ↦ λ _. refl
    ] refl
    ∙ sym (has-turned s b l k bits c m e)

-- a change leaves what stands at other places
pub SameAt-put : (s : Parts) (c : Change) (p : Place) → place_of c ≢ p → SameAt s (put s c) p
SameAt-put s (Registration b lost) (at_registration d) h = sym (slice_get-others _ s.lost_at b d (λ e. h (ap at_registration e)))
SameAt-put s (Metadata i m) (at_metadata j) h = sym (slice_get-apart (λ (g : Ledger). g.metadata) _ s.ledgers i j (λ e. h (ap at_metadata e)))
SameAt-put s (Task i t) (at_task j) h = sym (slice_get-apart (λ (g : Ledger). g.task) _ s.ledgers i j (λ e. h (ap at_task e)))
SameAt-put s (Lock i k) (at_lock j) h = sym (slice_get-apart (λ (g : Ledger). g.lock) _ s.ledgers i j (λ e. h (ap at_lock e)))
SameAt-put s (Task i t) (at_metadata j) h = sym (slice_get-part (λ (g : Ledger). g.metadata) _ (λ g. refl) s.ledgers i j)
SameAt-put s (Lock i k) (at_metadata j) h = sym (slice_get-part (λ (g : Ledger). g.metadata) _ (λ g. refl) s.ledgers i j)
SameAt-put s (Metadata i m) (at_task j) h = sym (slice_get-part (λ (g : Ledger). g.task) _ (λ g. refl) s.ledgers i j)
SameAt-put s (Lock i k) (at_task j) h = sym (slice_get-part (λ (g : Ledger). g.task) _ (λ g. refl) s.ledgers i j)
SameAt-put s (Metadata i m) (at_lock j) h = sym (slice_get-part (λ (g : Ledger). g.lock) _ (λ g. refl) s.ledgers i j)
SameAt-put s (Task i t) (at_lock j) h = sym (slice_get-part (λ (g : Ledger). g.lock) _ (λ g. refl) s.ledgers i j)
SameAt-put s (Word b l k bits) (at_word c m n) h = λ e within. turned-apart s.held b l k bits c m n e h within
SameAt-put s (Scalar x) (at_scalar n) h = λ y is. sym (scalar_at-apart s.scalars x y (λ e. h (ap at_scalar (e ∙ is))))
SameAt-put s c p h = SameAt-refl s p

not_itself : (b : Bool) → b ≢ one_of b true
not_itself true e = cc
not_itself false e = cc

-- where some bits of a word turn, the word differs
pub word_differs : (s : Parts) (b l k bits : ℕ) → bits ≢ 0 → bits < 2 ^ 64 → ¬ SameAt s (put s (Word b l k bits)) (at_word b l k)
word_differs s b l k bits some below same =
    let bit = some_bit bits 64 some below in
    let e : ℕ = 64 * k + bit.at in
    let word : e / 64 ≡ k = omega (arith, bit.below) in
    let place : e % 64 ≡ bit.at = omega (arith, bit.below) in
    let turns : bit_at bits (e % 64) ≡ 1 = ap (bit_at bits) place ∙ bit.is in
    let first : nat_eq b b ≡ true = grind (arith, nat_tests) in
    let second : nat_eq l l ≡ true = grind (arith, nat_tests) in
    let third : (e / 64 == k) ≡ true = grind (arith, nat_tests, word) in
    let fourth : (bit_at bits (e % 64) == 1) ≡ true = ap (λ n. n == 1) turns in
    not_itself (has s.held b l e) (same e word ∙ has-turned s.held b l k bits b l e ∙ (λ i. one_of (has s.held b l e) ((first i && second i) && (third i && fourth i))))

-- Changes of one place

-- a part of a ledger that stands there
same_part : {C : Type 0} (part : Ledger → C) (with_part : C → Ledger → Ledger)
    → ((c : C) (g : Ledger) → part (with_part c g) ≡ c) → (gs : List Ledger) (i : ℕ) (c d : C) → i < length gs
    → option_map part (slice_get (change_at gs i (with_part c)) i) ≡ option_map part
    (slice_get (change_at gs i (with_part d)) i) → c ≡ d
same_part part with_part reads [] i c d within same = absurd (omega (arith, within))
same_part {C = C} part with_part reads (g ∷ gs) zero c d within same =
    let parts : ◌≡◌ {A = Option C} (Some (part (with_part c g))) (Some (part (with_part d g))) = same in
    let told : part (with_part c g) ≡ part (with_part d g) = cc in
    sym (reads c g) ∙ told ∙ reads d g
same_part part with_part reads (g ∷ gs) (suc i) c d within same =
    same_part part with_part reads gs i c d (omega (arith, within)) same

-- two changes of one place after which the place is the same are the same change
pub same_change : (n : ℕ) (p : Parts) (c d : Change) → place_of c ≡ place_of d → IsPlaced n p c → IsPlaced n p d
    → SameAt (put p c) (put p d) (place_of c) → c ≡ d
same_change n p (Registration b x) (Registration d y) at here there same =
    let bookie : b ≡ d = cc in
    let parts : ◌≡◌ {A = Option (Option ℕ)} (Some x) (Some y) =
    sym (slice_get-put x p.lost_at b here) ∙ same ∙ ap (λ k. slice_get (register p.lost_at d y) k) bookie
    ∙ slice_get-put y p.lost_at d there in
    let told : x ≡ y = cc in
    λ i. Registration (bookie i) (told i)
same_change n p (Metadata i x) (Metadata j y) at here there same =
    let place : i ≡ j = cc in
    let told : x ≡ y = same_part (λ g. g.metadata) (λ m g. record g { metadata = m }) (λ m g. refl) p.ledgers i x y here
    (same ∙ ap
    (λ k. option_map (λ (g : Ledger). g.metadata)
    (slice_get (change_at p.ledgers k (λ g. record g { metadata = y })) i)) (sym place)) in
    λ k. Metadata (place k) (told k)
same_change n p (Task i x) (Task j y) at here there same =
    let place : i ≡ j = cc in
    let told : x ≡ y = same_part (λ g. g.task) (λ t g. record g { task = t }) (λ t g. refl) p.ledgers i x y here
    (same ∙ ap
    (λ k. option_map (λ (g : Ledger). g.task) (slice_get (change_at p.ledgers k (λ g. record g { task = y })) i))
    (sym place)) in
    λ k. Task (place k) (told k)
same_change n p (Lock i x) (Lock j y) at here there same =
    let place : i ≡ j = cc in
    let told : x ≡ y = same_part (λ g. g.lock) (λ o g. record g { lock = o }) (λ o g. refl) p.ledgers i x y here
    (same ∙ ap
    (λ k. option_map (λ (g : Ledger). g.lock) (slice_get (change_at p.ledgers k (λ g. record g { lock = y })) i))
    (sym place)) in
    λ k. Lock (place k) (told k)
same_change n p (Word b l k x) (Word c m o y) at here there same =
    let first : b ≡ c = cc in
    let second : l ≡ m = cc in
    let third : k ≡ o = cc in
    let told : x ≡ y = same_turn p.held b l k x y here.2 there.2 (λ e within.
    same e within ∙ (λ i. has (turned p.held (sym first i) (sym second i) (sym third i) y) b l e)) in
    λ i. Word (first i) (second i) (third i) (told i)
same_change n p (Scalar x) (Scalar y) at here there same =
    let number : number_of x ≡ number_of y = cc in
    let told : x ≡ y =
    sym (scalar_at-here p.scalars x x refl) ∙ same x refl ∙ scalar_at-here p.scalars y x (sym number) in
    ap Scalar told
same_change n p c d at here there same =
    absurd (omega (arith, ap (λ (place : Place). slice_index (order_of place) 0) at))
