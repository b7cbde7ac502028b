-- The greatest entry that is held, told by what is held.
use Rattle.std.proofs.Common.{◌≡◌, ℕ, ◌≤◌, Bool, true, false, ◌||◌, List, [], ◌∷◌, zero, suc, get_or, refl, sym, ap}
use Rattle.std.proofs.Common.{◌∙◌, arith}
use Rattle.std.specs.List.{list_any}
use Rattle.std.specs.declared.option.Option.{Option}
use Rattle.std.specs.declared.option.Option.TheVariants.{None, Some}
use Rattle.reh_model.specs.Contents.{Contents, has, IsHeld, greatest_held}
use Rattle.reh_model.proofs.ContentsLaws.{greatest_held-reached, greatest_held-held}
use Rattle.reh_held.specs.Rows.{is_set, IsGreatest}
use Rattle.reh_held.proofs.HeldLaws.{no_entry}

or_true : (a b : Bool) → b ≡ true → (a || b) ≡ true
or_true true b is = refl
or_true false b is = is

-- what is the greatest entry that passes a test is the greatest that is held, where the test passes the entries that
-- are held
pub greatest_held-is : (s : Contents) (l : ℕ) (p : ℕ → Bool) (greatest : Option ℕ) → IsGreatest p greatest
    → ((b e : ℕ) → has s b l e ≡ true → p e ≡ true) → ((e : ℕ) → p e ≡ true → IsHeld s l e)
    → greatest ≡ greatest_held s l
greatest_held-is s l p None is held_passes passes_held =
    elim (greatest_held s l) as (λ g. greatest_held s l ≡ g → ◌≡◌ {A = Option ℕ} None g) [
      | None ↦ λ _. refl
      | Some v ↦ λ some. let w = greatest_held-held s l v some in
          let passes : p v ≡ true = held_passes w.0 v w.1 in let not : p v ≡ false = is v in cc
    ] refl
greatest_held-is s l p (Some m) is held_passes passes_held =
    let own = greatest_held-reached s l m (passes_held m is.0) in
    let w = greatest_held-held s l own.value own.is in
    let within : own.value ≤ m = is.1 own.value (held_passes w.0 own.value w.1) in
    let same : m ≡ own.value = omega (arith, own.reached) in
    ap Some same ∙ sym own.is

-- Rows

pub any_at : (rows : List (List ℕ)) (b e : ℕ) → is_set (get_or rows b []) e ≡ true
    → list_any (λ row. is_set row e) rows ≡ true
any_at [] b e is = let none : is_set [] e ≡ false = no_entry e in cc
any_at (row ∷ rows) zero e is = ap (λ b. b || list_any (λ row. is_set row e) rows) is
any_at (row ∷ rows) (suc b) e is = or_true (is_set row e) (list_any (λ row. is_set row e) rows) (any_at rows b e is)

pub record IsInRow (rows : List (List ℕ)) (e : ℕ) : Type 0 where
  pub bookie : ℕ
  pub held : is_set (get_or rows bookie []) e ≡ true

pub in_some_row : (rows : List (List ℕ)) (e : ℕ) → list_any (λ row. is_set row e) rows ≡ true → IsInRow rows e
in_some_row [] e is = cc
in_some_row (row ∷ rows) e is =
    elim (is_set row e) as (λ b. is_set row e ≡ b → (b || list_any (λ row. is_set row e) rows) ≡ true
    → IsInRow (row ∷ rows) e) [
      | true ↦ λ here _. record { bookie = 0; held = here }
      | false ↦ λ _ later. let w = in_some_row rows e later in record { bookie = suc w.bookie; held = w.held }
    ] refl is
