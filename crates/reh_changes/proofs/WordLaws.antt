-- What a bookie holds of a word's entries.
use Rattle.std.proofs.Common.{◌≡◌, ℕ, ◌+◌, ◌*◌, ◌-◌, ◌<◌, ◌≤◌, Bool, true, false, ◌&&◌, List, ◌++◌, refl, sym, ap, ◌∙◌, subst, append_assoc, arith, min}
use Rattle.std.specs.Prelude.{◌/◌, ◌%◌, ◌^◌, ◌==◌, not, Option, None, Some, slice_index, bit_and, codes}
use Rattle.std.specs.Int.{bit_at, bit_not, w64}
use Rattle.std.specs.Option.{option_map_or}
use Rattle.std.proofs.lemmas.Bool.Decides.{nat_tests}
use Rattle.std.proofs.lemmas.Grind.{flat_map-append}
use Rattle.std.proofs.lemmas.Nat.Bits.{bit_at_and, bit_at_not, bit_at-lt}
use Rattle.reh_types.specs.declared.limits.TheConstants.{ENTRY_END}
use Rattle.reh_model.specs.Contents.{is_in_word}
use Rattle.reh_model.specs.Cluster.{Cluster, Ledger, ledger_at, words_among, holds}
use Rattle.reh_model.specs.WellFormed.{IsWellFormed}
use Rattle.reh_model.proofs.WellFormedLaws.{IsLedger-found}
use Rattle.reh_commands.specs.Texts.{behind_spaces}
use Rattle.reh_changes.specs.Ranges.{range_words, ranges_in}
use Rattle.reh_changes.specs.Changes.{is_gained, is_gone, turned_words}

-- a word of a ledger ends where entries end at the latest
pub word-within : (s : Cluster) (l number : ℕ) → IsWellFormed s → number < words_among s.parts.ledgers l → 64 * number + 64 ≤ ENTRY_END
word-within s l number was within = of (ledger_at s l) refl within where
  of : (o : Option Ledger) → ledger_at s l ≡ o → number < option_map_or (λ g. g.words) o 0 → 64 * number + 64 ≤ ENTRY_END
  of None found within = absurd (omega arith)
  of (Some g) found within = let few = (IsLedger-found s l g was found).words in omega (arith, few, within)

-- both bits are set
both_set : (a b : ℕ) → a < 2 → b < 2 → (min a b == 1) ≡ ((a == 1) && (b == 1))
both_set a b a_in b_in = grind (arith, nat_tests)

-- the first is set, and the second is not
one_set : (a b : ℕ) → a < 2 → b < 2 → (min a (1 - b) == 1) ≡ ((a == 1) && not (b == 1))
one_set a b a_in b_in = grind (arith, nat_tests)

-- a test of an entry matters only where the entry lies in the word
in_word : (number e : ℕ) (a b c : Bool) → (e / 64 ≡ number → a ≡ (b && c)) → ((e / 64 == number) && a) ≡ (((e / 64 == number) && b) && c)
in_word number e a b c same =
    elim (e / 64 == number) as (λ t. (e / 64 == number) ≡ t → (t && a) ≡ ((t && b) && c)) [
      | true ↦ λ is. same (grind (arith, nat_tests))
      | false ↦ λ is. refl
    ] refl

-- the entries that the bookie holds
pub gained : (s : Cluster) (b l number bits : ℕ) (row : List ℕ) → ((e : ℕ) → (bit_at (slice_index row (e / 64)) (e % 64) == 1) ≡ holds s b l e)
    → is_in_word number (bit_and bits (slice_index row number)) ≡ is_gained s b l number bits
gained s b l number bits row held = λ k e. at e k where
  at : (e : ℕ) → is_in_word number (bit_and bits (slice_index row number)) e ≡ is_gained s b l number bits e
  at e =
      let place = e % 64 in
      in_word number e (bit_at (bit_and bits (slice_index row number)) place == 1) (bit_at bits place == 1) (holds s b l e) (λ is.
      ap (λ (x : ℕ). x == 1) (bit_at_and bits (slice_index row number) place)
      ∙ both_set (bit_at bits place) (bit_at (slice_index row number) place) (bit_at-lt bits place) (bit_at-lt (slice_index row number) place)
      ∙ ap (λ (x : ℕ). (bit_at bits place == 1) && (bit_at (slice_index row x) place == 1)) (sym is)
      ∙ ap (λ t. (bit_at bits place == 1) && t) (held e))

-- and those that it doesn't hold
pub gone : (s : Cluster) (b l number bits : ℕ) (row : List ℕ) → slice_index row number < 2 ^ 64
    → ((e : ℕ) → (bit_at (slice_index row (e / 64)) (e % 64) == 1) ≡ holds s b l e)
    → is_in_word number (bit_and bits (bit_not w64 (slice_index row number))) ≡ is_gone s b l number bits
gone s b l number bits row small held = λ k e. at e k where
  at : (e : ℕ) → is_in_word number (bit_and bits (bit_not w64 (slice_index row number))) e ≡ is_gone s b l number bits e
  at e =
      let place = e % 64 in
      in_word number e (bit_at (bit_and bits (bit_not w64 (slice_index row number))) place == 1) (bit_at bits place == 1) (not (holds s b l e)) (λ is.
      ap (λ (x : ℕ). x == 1) (bit_at_and bits (bit_not w64 (slice_index row number)) place ∙ ap (min (bit_at bits place)) (bit_at_not w64 (slice_index row number) place small (omega arith)))
      ∙ one_set (bit_at bits place) (bit_at (slice_index row number) place) (bit_at-lt bits place) (bit_at-lt (slice_index row number) place)
      ∙ ap (λ (x : ℕ). (bit_at bits place == 1) && not (bit_at (slice_index row x) place == 1)) (sym is)
      ∙ ap (λ t. (bit_at bits place == 1) && not t) (held e))

-- both are printed
pub turned_more : (before between after : List ℕ) (s : Cluster) (b l number bits held : ℕ) (row : List ℕ) → held ≡ slice_index row number → held < 2 ^ 64
    → ((e : ℕ) → (bit_at (slice_index row (e / 64)) (e % 64) == 1) ≡ holds s b l e)
    → between ≡ before ++ behind_spaces (range_words (codes "+") (ranges_in number (is_in_word number (bit_and bits held))))
    → after ≡ between ++ behind_spaces (range_words (codes "-") (ranges_in number (is_in_word number (bit_and bits (bit_not w64 held)))))
    → after ≡ before ++ behind_spaces (turned_words s b l number bits)
turned_more before between after s b l number bits held row is small held_is first second =
    let came = range_words (codes "+") (ranges_in number (is_gained s b l number bits)) in
    let went = range_words (codes "-") (ranges_in number (is_gone s b l number bits)) in
    let gains : is_in_word number (bit_and bits held) ≡ is_gained s b l number bits =
    ap (λ (word : ℕ). is_in_word number (bit_and bits word)) is ∙ gained s b l number bits row held_is in
    let goes : is_in_word number (bit_and bits (bit_not w64 held)) ≡ is_gone s b l number bits =
    ap (λ (word : ℕ). is_in_word number (bit_and bits (bit_not w64 word))) is ∙ gone s b l number bits row (subst (λ (word : ℕ). word < 2 ^ 64) is small) held_is in
    second
    ∙ (λ k. (first k) ++ behind_spaces (range_words (codes "-") (ranges_in number (goes k))))
    ∙ ap (λ (test : ℕ → Bool). (before ++ behind_spaces (range_words (codes "+") (ranges_in number test))) ++ behind_spaces went) gains
    ∙ append_assoc before (behind_spaces came) (behind_spaces went)
    ∙ ap (λ t. before ++ t) (sym (flat_map-append (λ (word : List ℕ). codes " " ++ word) came went))
