-- The turns of a bookie's words that an accepted copy makes are the difference of the cluster before and after it.
use Rattle.std.proofs.Common.{◌≡◌, ◌≢◌, ◌<◌, ◌+◌, ◌*◌, ℕ, List, [], ◌∷◌, length, map, None, refl, sym, ap, subst, ◌∙◌}
use Rattle.std.proofs.Common.{arith, inl, inr}
use Rattle.std.specs.Prelude.{All, ◌^◌}
use Rattle.std.proofs.lemmas.List.Elements.{All-nil, All-cons, All-map, All-weaker}
use Rattle.reh_types.specs.Sets as set
use Rattle.reh_types.specs.declared.moves.Event.TheVariants.{Copy}
use Rattle.reh_held.specs.declared.turns.Turn.{Turn}
use Rattle.reh_held.specs.RowTurns as turns
use Rattle.reh_held.specs.Turns.{turned_all, IsTurning}
use Rattle.reh_model.specs.Contents.{Contents, IsHeld, copies_of}
use Rattle.reh_model.specs.Cluster.{Parts, Cluster, words_among, stripe_at, with_held}
use Rattle.reh_model.specs.WellFormed.{IsCopy, IsWellFormed}
use Rattle.reh_model.specs.Step.{refusal_of, after}
use Rattle.reh_model.specs.Places.{Change, at_word, place_of, IsBefore, AreRising, put, put_all, exchanged, IsThere}
use Rattle.reh_model.specs.Places.{IsDelta}
use Rattle.reh_step.specs.Records.{word_change, word_changes}
use Rattle.reh_model.proofs.ContentsLaws.{All-copy}
use Rattle.reh_model.proofs.AcceptedLaws.{accepted_copy}
use Rattle.reh_model.proofs.EventLaws.{IsWellFormed-after}
use Rattle.reh_model.proofs.PlaceLaws.{word_differs}
use Rattle.reh_model.proofs.ExchangeLaws.{Differs, delta_of_changes}

-- a place after which all places of later words are
words-after : (b l n k : ℕ) (us : List Turn) → n < k → turns.AreRising k us
    → All (λ c. IsBefore (at_word b l n) (place_of c)) (word_changes b l us)
words-after b l n k [] less rising = All-nil (λ c. IsBefore (at_word b l n) (place_of c))
words-after b l n k (u ∷ us) less rising =
    All-cons (λ c. IsBefore (at_word b l n) (place_of c)) (word_change b l u) (word_changes b l us)
    (inr (refl, inr (refl, inr (refl, inl (omega (arith, rising.0))))))
    (words-after b l n (u.number + 1) us (omega (arith, rising.0)) rising.1)

-- words of one bookie and ledger rise with their numbers
pub words-rising : (b l k : ℕ) (us : List Turn) → turns.AreRising k us → AreRising (map place_of (word_changes b l us))
words-rising b l k [] rising = tt
words-rising b l k (u ∷ us) rising = (
  All-map (IsBefore (at_word b l u.number)) place_of (word_changes b l us)
      (words-after b l u.number (u.number + 1) us (omega arith) rising.1),
  words-rising b l (u.number + 1) us rising.1,
)

-- all turns, one by one
put_all-words : (p : Parts) (b l : ℕ) (us : List Turn)
    → put_all p (word_changes b l us) ≡ record p { held = turned_all p.held b l us }
put_all-words p b l [] = refl
put_all-words p b l (u ∷ us) = put_all-words (put p (word_change b l u)) b l us

pub exchanged-words : (s : Cluster) (b l : ℕ) (us : List Turn)
    → exchanged s (word_changes b l us) ≡ with_held s (turned_all s.parts.held b l us)
exchanged-words s b l us = ap (λ (p : Parts). record s { parts = p }) (put_all-words s.parts b l us)

-- the words are there,
pub words-there : (s : Cluster) (b l : ℕ) (us : List Turn) → b < length s.names
    → turns.ArePlaces (words_among s.parts.ledgers l) us → All (IsThere s) (word_changes b l us)
words-there s b l us named places =
    All-map (IsThere s) (word_change b l) us
    (λ j d within. (named, places.there j d within, (places.some j d within).1))

-- and in each something turns
pub words-differ : (s : Cluster) (b l : ℕ) (us : List Turn) → turns.ArePlaces (words_among s.parts.ledgers l) us
    → All (Differs s.parts) (word_changes b l us)
words-differ s b l us places =
    let differs : Change → Type 0 = Differs s.parts in
    All-map differs (word_change b l) us
    (All-weaker (λ (u : Turn). (u.bits ≢ 0) × (u.bits < 2 ^ 64)) (λ u. differs (word_change b l u))
    (λ u is. word_differs s.parts b l u.number u.bits is.0 is.1) us places.some)

-- what turns of the ledger's words make of what is held is a delta
words_delta : (s : Cluster) (b l : ℕ) (held : Contents) (us : List Turn) → b < length s.names
    → IsTurning (words_among s.parts.ledgers l) b l s.parts.held held us → IsWellFormed (with_held s held)
    → IsDelta s (with_held s held) (word_changes b l us)
words_delta s b l held us named turning well =
    delta_of_changes s (with_held s held) (word_changes b l us) well (words-rising b l 0 us turning.places.rising)
    (words-there s b l us named turning.places)
    (exchanged-words s b l us ∙ ap (λ (h : Contents). with_held s h) turning.makes)
    (words-differ s b l us turning.places)

-- the entries that an accepted copy takes lie within the ledger's words
pub copied_within : (s : Cluster) (w l f i v : ℕ) → IsWellFormed s → refusal_of s (Copy w l f i v) ≡ None
    → All (λ e. e < 64 * words_among s.parts.ledgers l) (stripe_at s l f i)
copied_within s w l f i v was none =
    All-weaker (λ e. IsHeld s.parts.held l e) (λ e. e < 64 * words_among s.parts.ledgers l)
    (λ e held. (All-copy (IsCopy (length s.names) s.parts.ledgers) s.parts.held was.contents.copies (held.0, l, e) held.1).2)
    (stripe_at s l f i) (accepted_copy s w l f i v none).held

-- a copy's record
pub copy_delta : (s : Cluster) (w l f i v : ℕ) (us : List Turn) → IsWellFormed s → refusal_of s (Copy w l f i v) ≡ None
    → IsTurning (words_among s.parts.ledgers l) w l s.parts.held (set.union s.parts.held (copies_of w l (stripe_at s l f i))) us
    → IsDelta s (after s (Copy w l f i v)) (word_changes w l us)
copy_delta s w l f i v us was none turning =
    words_delta s w l (set.union s.parts.held (copies_of w l (stripe_at s l f i))) us
    (accepted_copy s w l f i v none).named turning (IsWellFormed-after s (Copy w l f i v) was none)

-- listed, the words that change are the difference
pub copy_listed : (s : Cluster) (w l f i v : ℕ) (entries : List ℕ) (us : List Turn) (list : List Change)
    → IsWellFormed s → refusal_of s (Copy w l f i v) ≡ None → entries ≡ stripe_at s l f i
    → IsTurning (words_among s.parts.ledgers l) w l s.parts.held (set.union s.parts.held (copies_of w l entries)) us
    → list ≡ word_changes w l us → IsDelta s (after s (Copy w l f i v)) list
copy_listed s w l f i v entries us list was none same turning is =
    subst (λ (cs : List Change). IsDelta s (after s (Copy w l f i v)) cs) (sym is)
    (copy_delta s w l f i v us was none
    (subst
    (λ (es : List ℕ). IsTurning (words_among s.parts.ledgers l) w l s.parts.held (set.union s.parts.held (copies_of w l es)) us) same turning))
