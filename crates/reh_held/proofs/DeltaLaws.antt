-- The turns after which a row has some entries too, word by word.
use Rattle.std.proofs.Common.{◌≡◌, ◌≢◌, ◌∙◌, ◌+◌, ◌*◌, ◌/◌, ◌%◌, ◌^◌, ◌<◌, ◌≤◌, ◌&&◌, ◌||◌, not, Bool, true, false}
use Rattle.std.proofs.Common.{List, [], ◌∷◌, ◌++◌, ℕ, refl, ap, sym, subst, arith, nat_eq, length, slice_index, Some}
use Rattle.std.specs.Prelude.{◌==◌, bit_and, slice_get, All}
use Rattle.std.specs.Int.{bit_not, w64, trailing_zeros}
use Rattle.std.specs.List.{list_any}
use Rattle.std.proofs.lemmas.Bool.Decides.{nat_tests}
use Rattle.std.proofs.lemmas.Nat.{and_le_l}
use Rattle.std.proofs.lemmas.List.Elements.{All-nil, All-cons, All-head, All-tail, All-push}
use Rattle.std.proofs.lemmas.List.Folds.{list_any-append}
use Rattle.reh_model.specs.Contents.{is_in_word, one_of}
use Rattle.reh_stripe.specs.declared.words.Word.{Word}
use Rattle.reh_stripe.specs.Words as words
use Rattle.reh_stripe.specs.Words.{has_bit, entries_in, entries_of}
use Rattle.reh_stripe.proofs.WordLaws.{has_bit-and, has_bit-not, has_bit-none, least-bit, least-some, any-in_word}
use Rattle.reh_held.specs.declared.turns.Turn.{Turn}
use Rattle.reh_held.specs.Rows.{is_set}
use Rattle.reh_held.specs.RowTurns.{is_turned, AreRising, ArePlaces, IsRowTurning}
use Rattle.reh_held.proofs.RowLaws.{one_of-false, one_of-group}

-- the turns, and the words that are left, give the row the entries that it lacks
pub record IsTurningOn (row entries : List ℕ) (turns : List Turn) (rest : List Word) : Type 0 where
  pub places : ArePlaces (length row) turns
  -- the words that are left come after the turns
  pub behind : (k : ℕ) × All (λ u. u.number < k) turns × words.AreRising k rest
  pub within : All (λ e. e < 64 * length row) (entries_of rest)
  pub turned : (e : ℕ)
      → (is_turned turns e || (list_any (nat_eq e) (entries_of rest) && not (is_set row e)))
      ≡ (list_any (nat_eq e) entries && not (is_set row e))

pub turning-none : (row entries : List ℕ) (rest : List Word) → entries_of rest ≡ entries → words.AreRising 0 rest
    → All (λ e. e < 64 * length row) entries → IsTurningOn row entries [] rest
turning-none row entries rest are rising within = record {
  places = record {
    there = All-nil (λ u. u.number < length row);
    rising = tt;
    some = All-nil (λ u. (u.bits ≢ 0) × (u.bits < 2 ^ 64));
  };
  behind = (0, All-nil (λ u. u.number < 0), rising);
  within = subst (λ (es : List ℕ). All (λ e. e < 64 * length row) es) (sym are) within;
  turned = λ e. ap (λ (es : List ℕ). list_any (nat_eq e) es && not (is_set row e)) are;
}

-- Turns

turned-more : (turns : List Turn) (u : Turn) (e : ℕ)
    → is_turned (turns ++ u ∷ []) e ≡ one_of (is_turned turns e) (is_in_word u.number u.bits e)
turned-more [] u e = one_of-false (is_in_word u.number u.bits e)
turned-more (v ∷ turns) u e =
    ap (one_of (is_in_word v.number v.bits e)) (turned-more turns u e)
    ∙ one_of-group (is_in_word v.number v.bits e) (is_turned turns e) (is_in_word u.number u.bits e)

-- no entry of a later word turns
turned-later : (turns : List Turn) (k e : ℕ) → All (λ u. u.number < k) turns → k ≤ e / 64 → is_turned turns e ≡ false
turned-later [] k e before later = refl
turned-later (u ∷ turns) k e before later =
    let below : u.number < k = All-head (λ u. u.number < k) u turns before in
    let apart : (e / 64 == u.number) ≡ false = grind (arith, nat_tests, below, later) in
    (λ i. one_of (apart i && has_bit u.bits (e % 64)) (turned-later turns k e (All-tail (λ u. u.number < k) u turns before) later i))

rising-more : (j k : ℕ) (turns : List Turn) (u : Turn) → AreRising j turns → All (λ v. v.number < k) turns
    → j ≤ u.number → k ≤ u.number → AreRising j (turns ++ u ∷ [])
rising-more j k [] u rising before from past = (from, tt)
rising-more j k (v ∷ turns) u rising before from past =
    let below : v.number < k = All-head (λ v. v.number < k) v turns before in (
      rising.0,
      rising-more (v.number + 1) k turns u rising.1 (All-tail (λ v. v.number < k) v turns before) (omega (arith, below, past)) past,
    )

-- A word

-- the bits of a word's entries that the row lacks
lacking : (row : List ℕ) (w : Word) (held : ℕ) → held ≡ slice_index row w.number → held < 2 ^ 64 → (e : ℕ)
    → is_in_word w.number (bit_and w.bits (bit_not w64 held)) e ≡ (is_in_word w.number w.bits e && not (is_set row e))
lacking row w held read small e =
    elim (e / 64 == w.number) as (λ b. (e / 64 == w.number) ≡ b
    → (b && has_bit (bit_and w.bits (bit_not w64 held)) (e % 64)) ≡ ((b && has_bit w.bits (e % 64)) && not (is_set row e))) [
      | true ↦ λ is.
          let number : w.number ≡ e / 64 = grind (arith, nat_tests, is) in
          let there : has_bit held (e % 64) ≡ is_set row e =
          ap (λ n. has_bit n (e % 64)) (read ∙ ap (λ n. slice_index row n) number) in
          has_bit-and w.bits (bit_not w64 held) (e % 64)
          ∙ ap (λ b. has_bit w.bits (e % 64) && b) (has_bit-not held (e % 64) small (omega arith) ∙ ap not there)
      | false ↦ λ _. refl
    ] refl

any-more : (w : Word) (rest : List Word) (e : ℕ)
    → list_any (nat_eq e) (entries_of (w ∷ rest)) ≡ (is_in_word w.number w.bits e || list_any (nat_eq e) (entries_of rest))
any-more w rest e =
    list_any-append (nat_eq e) (entries_in w) (entries_of rest)
    ∙ ap (λ b. b || list_any (nat_eq e) (entries_of rest)) (any-in_word w e)

-- a word with a bit is one of the row's
number-within : (row : List ℕ) (w : Word) (rest : List Word) → w.bits ≢ 0 → w.bits < 2 ^ 64
    → All (λ e. e < 64 * length row) (entries_of (w ∷ rest)) → w.number < length row
number-within row w rest some small within =
    let least = least-bit w.bits some small in
    let e : ℕ = 64 * w.number + trailing_zeros w64 w.bits in
    let first = least-some w.number w.bits (trailing_zeros w64 w.bits) least in
    let below : e < 64 * length row = head-of (entries_in w) (entries_of rest) e first within in
    omega (arith, below) where
      head-of : (es rest : List ℕ) (e : ℕ) → slice_get es 0 ≡ Some e → All (λ e. e < 64 * length row) (es ++ rest)
          → e < 64 * length row
      head-of [] rest e is within = cc
      head-of (x ∷ es) rest e is within =
          let same : x ≡ e = cc in
          subst (λ n. n < 64 * length row) same (All-head (λ e. e < 64 * length row) x (es ++ rest) within)

rest-within : (row : List ℕ) (es rest : List ℕ) → All (λ e. e < 64 * length row) (es ++ rest)
    → All (λ e. e < 64 * length row) rest
rest-within row [] rest within = within
rest-within row (e ∷ es) rest within =
    rest-within row es rest (All-tail (λ e. e < 64 * length row) e (es ++ rest) within)

-- a word of which the row lacks nothing
pub turning-same : (row entries : List ℕ) (turns : List Turn) (w : Word) (rest : List Word) (held : ℕ)
    → held ≡ slice_index row w.number → held < 2 ^ 64 → bit_and w.bits (bit_not w64 held) ≡ 0
    → IsTurningOn row entries turns (w ∷ rest) → IsTurningOn row entries turns rest
turning-same row entries turns w rest held read small none was = record {
  places = was.places;
  behind = (
    w.number + 1,
    later turns (was.behind.0) (omega (arith, was.behind.2.0)) was.behind.1,
    was.behind.2.2,
  );
  within = rest-within row (entries_in w) (entries_of rest) was.within;
  turned = λ e.
      let nothing : (is_in_word w.number w.bits e && not (is_set row e)) ≡ false =
      sym (lacking row w held read small e) ∙ ap (λ n. is_in_word w.number n e) none
      ∙ no_bits (e / 64 == w.number) _ (has_bit-none (e % 64)) in
      sym (left_out (is_turned turns e) (is_in_word w.number w.bits e) (list_any (nat_eq e) (entries_of rest)) (not (is_set row e)) nothing)
      ∙ ap (λ b. is_turned turns e || (b && not (is_set row e))) (sym (any-more w rest e))
      ∙ was.turned e;
} where
  later : (turns : List Turn) (k : ℕ) → k ≤ w.number → All (λ u. u.number < k) turns → All (λ u. u.number < w.number + 1) turns
  later [] k from before = All-nil (λ u. u.number < w.number + 1)
  later (u ∷ turns) k from before =
      let below : u.number < k = All-head (λ u. u.number < k) u turns before in
      All-cons (λ u. u.number < w.number + 1) u turns (omega (arith, below, from)) (later turns k from (All-tail (λ u. u.number < k) u turns before))

  no_bits : (a b : Bool) → b ≡ false → (a && b) ≡ false
  no_bits true b none = none
  no_bits false b none = refl

  left_out : (t w r n : Bool) → (w && n) ≡ false → (t || ((w || r) && n)) ≡ (t || (r && n))
  left_out t true r true none = cc
  left_out t true true false none = refl
  left_out t true false false none = refl
  left_out t false r n none = refl

-- a word of which it lacks something
pub turning-more : (row entries : List ℕ) (turns : List Turn) (w : Word) (rest : List Word) (held : ℕ)
    → w.bits < 2 ^ 64 → held ≡ slice_index row w.number → held < 2 ^ 64 → bit_and w.bits (bit_not w64 held) ≢ 0
    → IsTurningOn row entries turns (w ∷ rest)
    → IsTurningOn row entries (turns ++ record { number = w.number; bits = bit_and w.bits (bit_not w64 held) } ∷ []) rest
turning-more row entries turns w rest held fits read small some was =
    let bits : ℕ = bit_and w.bits (bit_not w64 held) in
    let u : Turn = record { number = w.number; bits = bits } in
    let few : bits ≤ w.bits = and_le_l w.bits (bit_not w64 held) in
    let not_none : w.bits ≢ 0 = λ none. some (omega (arith, few, none)) in
    let k : ℕ = was.behind.0 in
    let from : k ≤ w.number = was.behind.2.0 in
    record {
      places = record {
        there = All-push (λ u. u.number < length row) turns u was.places.there (number-within row w rest not_none fits was.within);
        rising = rising-more 0 k turns u was.places.rising was.behind.1 (omega arith) from;
        some = All-push (λ u. (u.bits ≢ 0) × (u.bits < 2 ^ 64)) turns u was.places.some (some, omega (arith, few, fits));
      };
      behind = (
        w.number + 1,
        All-push (λ u. u.number < w.number + 1) turns u (later turns k from was.behind.1) (omega arith),
        was.behind.2.2,
      );
      within = rest-within row (entries_in w) (entries_of rest) was.within;
      turned = λ e.
          let t : Bool = is_turned turns e in
          let here : Bool = is_in_word w.number w.bits e in
          ap (λ b. b || (list_any (nat_eq e) (entries_of rest) && not (is_set row e)))
          (turned-more turns u e ∙ ap (one_of t) (lacking row w held read small e))
          ∙ joined t here (list_any (nat_eq e) (entries_of rest)) (not (is_set row e)) (apart e from)
          ∙ ap (λ b. t || (b && not (is_set row e))) (sym (any-more w rest e))
          ∙ was.turned e;
    } where
      later : (turns : List Turn) (k : ℕ) → k ≤ w.number → All (λ u. u.number < k) turns → All (λ u. u.number < w.number + 1) turns
      later [] k from before = All-nil (λ u. u.number < w.number + 1)
      later (u ∷ turns) k from before =
          let below : u.number < k = All-head (λ u. u.number < k) u turns before in
          All-cons (λ u. u.number < w.number + 1) u turns (omega (arith, below, from)) (later turns k from (All-tail (λ u. u.number < k) u turns before))

      never : (a : Bool) → (a && false) ≡ false
      never true = refl
      never false = refl

      apart : (e : ℕ) → was.behind.0 ≤ w.number → (is_turned turns e && is_in_word w.number w.bits e) ≡ false
      apart e from =
          elim (e / 64 == w.number) as (λ b. (e / 64 == w.number) ≡ b → (is_turned turns e && (b && has_bit w.bits (e % 64))) ≡ false) [
            | true ↦ λ is.
                let number : w.number ≡ e / 64 = grind (arith, nat_tests, is) in
                ap (λ t. t && has_bit w.bits (e % 64)) (turned-later turns was.behind.0 e was.behind.1 (omega (arith, from, number)))
            | false ↦ λ _. never (is_turned turns e)
          ] refl

      joined : (t w r n : Bool) → (t && w) ≡ false → (one_of t (w && n) || (r && n)) ≡ (t || ((w || r) && n))
      joined true true r n none = cc
      joined true false r n none = refl
      joined false true true true none = refl
      joined false true false true none = refl
      joined false true true false none = refl
      joined false true false false none = refl
      joined false false r n none = refl

-- no word is left
pub turning-all : (row entries : List ℕ) (turns : List Turn) (rest : List Word) → rest ≡ [] → IsTurningOn row entries turns rest
    → IsRowTurning row (λ e. is_set row e || list_any (nat_eq e) entries) turns
turning-all row entries turns rest ended was = record {
  places = was.places;
  makes = λ e.
      let none : list_any (nat_eq e) (entries_of rest) ≡ false = ap (λ (ws : List Word). list_any (nat_eq e) (entries_of ws)) ended in
      both (is_set row e) (is_turned turns e) (list_any (nat_eq e) (entries_of rest)) (list_any (nat_eq e) entries) none (was.turned e);
} where
  both : (s t r a : Bool) → r ≡ false → (t || (r && not s)) ≡ (a && not s) → one_of s t ≡ (s || a)
  both s t true a none is = cc
  both true true false true none is = cc
  both true true false false none is = cc
  both true false false a none is = refl
  both false true false true none is = refl
  both false true false false none is = cc
  both false false false true none is = cc
  both false false false false none is = refl
