-- Contents with all turns of a bookie's row.
use Rattle.std.proofs.Common.{◌≡◌, ◌≢◌, ℕ, ◌*◌, ◌^◌, ◌<◌, Bool, true, false, ◌&&◌, ◌||◌, List, [], ◌∷◌, refl, sym, ap}
use Rattle.std.proofs.Common.{◌∙◌, arith, nat_eq}
use Rattle.std.specs.Prelude.{All}
use Rattle.std.proofs.lemmas.List.Elements.{All-nil, All-head}
use Rattle.std.specs.List.{list_any}
use Rattle.std.proofs.lemmas.Bool.Decides.{nat_tests}
use Rattle.reh_types.specs.Sets as set
use Rattle.reh_types.specs.Sets.{same_set}
use Rattle.reh_model.specs.Contents.{Contents, has, copies_of, is_in_word, turned, one_of}
use Rattle.reh_model.proofs.ContentsLaws.{has-union-copies_of, union-copies_of-none}
use Rattle.reh_model.proofs.TurnedLaws.{has-turned}
use Rattle.reh_held.specs.declared.turns.Turn.{Turn}
use Rattle.reh_held.specs.Rows.{is_set}
use Rattle.reh_held.specs.RowTurns.{is_turned, ArePlaces}
use Rattle.reh_held.specs.Turns.{turned_all, IsTurning}

one_of-more : (held place first others : Bool)
    → one_of (one_of held (place && first)) (place && others) ≡ one_of held (place && one_of first others)
one_of-more true true true true = refl
one_of-more true true true false = refl
one_of-more true true false others = refl
one_of-more true false first others = refl
one_of-more false true true true = refl
one_of-more false true true false = refl
one_of-more false true false others = refl
one_of-more false false first others = refl

one_of-none : (held place : Bool) → held ≡ one_of held (place && false)
one_of-none true true = refl
one_of-none true false = refl
one_of-none false true = refl
one_of-none false false = refl

pub has-turned_all : (s : Contents) (bookie ledger : ℕ) (turns : List Turn) (b l e : ℕ)
    → has (turned_all s bookie ledger turns) b l e
    ≡ one_of (has s b l e) ((nat_eq b bookie && nat_eq l ledger) && is_turned turns e)
has-turned_all s bookie ledger [] b l e = one_of-none (has s b l e) (nat_eq b bookie && nat_eq l ledger)
has-turned_all s bookie ledger (u ∷ us) b l e =
    let place : Bool = nat_eq b bookie && nat_eq l ledger in
    has-turned_all (turned s bookie ledger u.number u.bits) bookie ledger us b l e
    ∙ ap (λ h. one_of h (place && is_turned us e)) (has-turned s bookie ledger u.number u.bits b l e)
    ∙ one_of-more (has s b l e) place (is_in_word u.number u.bits e) (is_turned us e)

both_true : (a b : Bool) → (a && b) ≡ true → (a ≡ true) × (b ≡ true)
both_true true b is = (refl, is)
both_true false b is = cc

-- the turns of a row are those of its bookie's contents
pub turning-from_row : (s : Contents) (words bookie ledger : ℕ) (row : List ℕ) (entries : List ℕ) (turns : List Turn)
    → ((e : ℕ) → has s bookie ledger e ≡ is_set row e) → ArePlaces words turns
    → ((e : ℕ) → one_of (is_set row e) (is_turned turns e) ≡ (is_set row e || list_any (nat_eq e) entries))
    → IsTurning words bookie ledger s (set.union s (copies_of bookie ledger entries)) turns
turning-from_row s words bookie ledger row entries turns is places makes = record {
  places = places;
  makes = same_set (turned_all s bookie ledger turns) (set.union s (copies_of bookie ledger entries)) (λ t.
      let place : Bool = nat_eq t.0 bookie && nat_eq t.1 ledger in
      let held : Bool = has s t.0 t.1 t.2 in
      has-turned_all s bookie ledger turns t.0 t.1 t.2
      ∙ elim place as (λ b. place ≡ b
      → one_of held (b && is_turned turns t.2) ≡ (held || (b && list_any (nat_eq t.2) entries))) [
        | true ↦ λ here.
            let same = both_true (nat_eq t.0 bookie) (nat_eq t.1 ledger) here in
            let first : t.0 ≡ bookie = grind (arith, nat_tests, same.0) in
            let second : t.1 ≡ ledger = grind (arith, nat_tests, same.1) in
            let row_has : held ≡ is_set row t.2 = (λ i. has s (first i) (second i) t.2) ∙ is t.2 in
            ap (λ h. one_of h (is_turned turns t.2)) row_has ∙ makes t.2
            ∙ ap (λ h. h || list_any (nat_eq t.2) entries) (sym row_has)
        | false ↦ λ differ. sym (one_of-none held false) ∙ (λ i. either held i)
      ] refl
      ∙ sym (has-union-copies_of s bookie ledger entries t.0 t.1 t.2));
} where
  either : (held : Bool) → held ≡ (held || false)
  either true = refl
  either false = refl

-- no entries turn nothing
pub turning-none : (s : Contents) (words bookie ledger : ℕ) (entries : List ℕ) → words ≡ 0
    → All (λ e. e < 64 * words) entries
    → IsTurning words bookie ledger s (set.union s (copies_of bookie ledger entries)) []
turning-none s words bookie ledger [] none within = record {
  places =
      record {
        there = All-nil (λ u. u.number < words);
        rising = tt;
        some = All-nil (λ u. (u.bits ≢ 0) × (u.bits < 2 ^ 64));
      };
  makes = sym (union-copies_of-none s bookie ledger);
}
turning-none s words bookie ledger (e ∷ entries) none within =
    absurd (omega (arith, none, All-head (λ e. e < 64 * words) e entries within))
