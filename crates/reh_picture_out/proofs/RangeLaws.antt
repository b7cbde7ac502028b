-- The entries of ranges.
use Rattle.std.proofs.Common.{◌≡◌, zero, suc, inl, inr, nat_le, nat_lt, nat_eq, ◌-◌, ℕ, ◌+◌, ◌<◌, ◌≤◌, Bool, true, false}
use Rattle.std.proofs.Common.{◌&&◌, ◌||◌, List, [], ◌∷◌, ◌++◌, refl, sym, ap, ◌∙◌, arith}
use Rattle.std.specs.Prelude.{◌⊎◌, ◌/◌, ◌%◌, ◌==◌, None, Some, length, EachIndex, slice_index}
use Rattle.std.specs.Int.{bit_at}
use Rattle.std.proofs.lemmas.List.{get_or_past}
use Rattle.std.proofs.lemmas.Nat.Bits.{bit_at-zero}
use Rattle.std.specs.List.{list_any, range_with_len}
use Rattle.std.specs.Ordering.{nat_cmp, eq_by_cmp}
use Rattle.std.specs.Cmp.{unsigned_tied}
use Rattle.std.proofs.lemmas.Bool.{cases_lt, cases_order, false≢true}
use Rattle.std.proofs.lemmas.Bool.Decides.{nat_tests}
use Rattle.std.proofs.lemmas.List.Folds.{list_any-append}
use Rattle.reh_types.proofs.BitLaws.{in_range}
use Rattle.reh_model.proofs.Ranges.{list_any-same}
use Rattle.reh_held.specs.Rows.{is_set}
use Rattle.reh_picture_out.specs.Ranges.{is_within, is_in, is_passed}

-- the numbers of a range
pub any-range : (first last e : ℕ) → list_any (nat_eq e) (range_with_len first (last + 1 - first)) ≡ is_within e (first, last)
any-range first last e =
    list_any-same (nat_eq e) (eq_by_cmp nat_cmp e) (λ x. sym (unsigned_tied e x))
    (range_with_len first (last + 1 - first))
    ∙ elim (cases_lt e first) [
      | inl before ↦
          let no : nat_le first e ≡ false = grind (arith, nat_tests) in
          outside e first (last + 1 - first) (inl before) ∙ sym (ap (λ b. b && nat_le e last) no)
      | inr from ↦
          let yes : nat_le first e ≡ true = grind (arith, nat_tests) in
          elim (cases_lt last e) [
            | inl past ↦
                let no : nat_le e last ≡ false = grind (arith, nat_tests) in
                outside e first (last + 1 - first) (inr (omega arith)) ∙ sym (λ i. yes i && no i)
            | inr within ↦
                let reached : nat_le e last ≡ true = grind (arith, nat_tests) in
                in_range e first (last + 1 - first) from (omega arith) ∙ sym (λ i. yes i && reached i)
          ]
    ] where
      outside : (e a n : ℕ) → (e < a) ⊎ (a + n ≤ e) → list_any (eq_by_cmp nat_cmp e) (range_with_len a n) ≡ false
      outside e a zero h = refl
      outside e a (suc n) h =
          let off : eq_by_cmp nat_cmp e a ≡ false = elim h [
            | inl before ↦ grind (arith, nat_tests, unsigned_tied e a)
            | inr past ↦ grind (arith, nat_tests, unsigned_tied e a)
          ] in
          let rest : (e < a + 1) ⊎ ((a + 1) + n ≤ e) = elim h [
            | inl before ↦ inl (omega arith)
            | inr past ↦ inr (omega arith)
          ] in
          ap (λ b. b || list_any (eq_by_cmp nat_cmp e) (range_with_len (a + 1) n)) off ∙ outside e (a + 1) n rest

-- One entry is passed

or_nothing : (a b : Bool) → (a || b) ≡ ((a || b) || false)
or_nothing true b = refl
or_nothing false true = refl
or_nothing false false = refl

first_or : (a : Bool) → a ≡ (a || false)
first_or true = refl
first_or false = refl

-- the range that is open goes on
goes_on : (first entry e : ℕ) → first < entry
    → (nat_le first e && nat_lt e (entry + 1)) ≡ ((nat_le first e && nat_lt e entry) || nat_eq e entry)
goes_on first entry e below = elim (cases_order e entry) [
  | inl is ↦
      let from : nat_le first e ≡ true = grind (arith, nat_tests) in
      let next : nat_lt e (entry + 1) ≡ true = grind (arith, nat_tests) in
      let here : nat_eq e entry ≡ true = grind (arith, nat_tests) in
      let past : nat_lt e entry ≡ false = grind (arith, nat_tests) in
      (λ i. from i && next i) ∙ sym (λ i. (from i && past i) || here i)
  | inr apart ↦ elim apart [
    | inl lt ↦
        let next : nat_lt e (entry + 1) ≡ true = grind (arith, nat_tests) in
        let other : nat_eq e entry ≡ false = grind (arith, nat_tests) in
        let before : nat_lt e entry ≡ true = grind (arith, nat_tests) in
        ap (λ b. nat_le first e && b) (next ∙ sym before) ∙ first_or _
        ∙ sym (ap (λ b. (nat_le first e && nat_lt e entry) || b) other)
    | inr gt ↦
        let next : nat_lt e (entry + 1) ≡ false = grind (arith, nat_tests) in
        let other : nat_eq e entry ≡ false = grind (arith, nat_tests) in
        let past : nat_lt e entry ≡ false = grind (arith, nat_tests) in
        ap (λ b. nat_le first e && b) (next ∙ sym past) ∙ first_or _
        ∙ sym (ap (λ b. (nat_le first e && nat_lt e entry) || b) other)
  ]
]

or_moved : (a b c : Bool) → (a || (b || c)) ≡ ((a || b) || c)
or_moved true b c = refl
or_moved false b c = refl

pub passed-on : (ranges : List (ℕ × ℕ)) (first entry : ℕ) → first < entry → (e : ℕ)
    → is_passed ranges (Some first) (entry + 1) e ≡ (is_passed ranges (Some first) entry e || (true && nat_eq e entry))
passed-on ranges first entry below e =
    ap (λ b. is_in ranges e || b) (goes_on first entry e below)
    ∙ or_moved (is_in ranges e) (nat_le first e && nat_lt e entry) (nat_eq e entry)

-- it ends before the entry
pub in-ended : (ranges : List (ℕ × ℕ)) (first entry : ℕ) → first < entry → (e : ℕ)
    → is_in (ranges ++ (first, entry - 1) ∷ []) e ≡ is_passed ranges (Some first) entry e
in-ended ranges first entry below e =
    let last : nat_le e (entry - 1) ≡ nat_lt e entry = elim (cases_lt e entry) [
      | inl lt ↦
          let one : nat_le e (entry - 1) ≡ true = grind (arith, nat_tests) in
          let other : nat_lt e entry ≡ true = grind (arith, nat_tests) in
          one ∙ sym other
      | inr ge ↦
          let one : nat_le e (entry - 1) ≡ false = grind (arith, nat_tests) in
          let other : nat_lt e entry ≡ false = grind (arith, nat_tests) in
          one ∙ sym other
    ] in
    list_any-append (is_within e) ranges ((first, entry - 1) ∷ [])
    ∙ ap (λ b. is_in ranges e || b) (sym (first_or (nat_le first e && nat_le e (entry - 1))) ∙ ap (λ b. nat_le first e && b) last)

pub passed-ended : (ranges : List (ℕ × ℕ)) (first entry : ℕ) → first < entry → (e : ℕ)
    → is_passed (ranges ++ (first, entry - 1) ∷ []) None (entry + 1) e
    ≡ (is_passed ranges (Some first) entry e || (false && nat_eq e entry))
passed-ended ranges first entry below e =
    sym (first_or (is_in (ranges ++ (first, entry - 1) ∷ []) e)) ∙ in-ended ranges first entry below e ∙ first_or _

-- one begins at the entry
pub passed-begun : (ranges : List (ℕ × ℕ)) (entry e : ℕ)
    → is_passed ranges (Some entry) (entry + 1) e ≡ (is_passed ranges None entry e || (true && nat_eq e entry))
passed-begun ranges entry e =
    let begun : (nat_le entry e && nat_lt e (entry + 1)) ≡ nat_eq e entry = elim (cases_order e entry) [
      | inl is ↦
          let from : nat_le entry e ≡ true = grind (arith, nat_tests) in
          let next : nat_lt e (entry + 1) ≡ true = grind (arith, nat_tests) in
          let here : nat_eq e entry ≡ true = grind (arith, nat_tests) in
          (λ i. from i && next i) ∙ sym here
      | inr apart ↦ elim apart [
        | inl lt ↦
            let from : nat_le entry e ≡ false = grind (arith, nat_tests) in
            let other : nat_eq e entry ≡ false = grind (arith, nat_tests) in
            ap (λ b. b && nat_lt e (entry + 1)) from ∙ sym other
        | inr gt ↦
            let from : nat_le entry e ≡ true = grind (arith, nat_tests) in
            let next : nat_lt e (entry + 1) ≡ false = grind (arith, nat_tests) in
            let other : nat_eq e entry ≡ false = grind (arith, nat_tests) in
            (λ i. from i && next i) ∙ sym other
      ]
    ] in
    ap (λ b. is_in ranges e || b) begun
    ∙ ap (λ b. b || nat_eq e entry) (first_or (is_in ranges e))

-- none is open, and none begins
pub passed-none : (ranges : List (ℕ × ℕ)) (entry e : ℕ)
    → is_passed ranges None (entry + 1) e ≡ (is_passed ranges None entry e || (false && nat_eq e entry))
passed-none ranges entry e = first_or (is_in ranges e || false)

pub in-none : (ranges : List (ℕ × ℕ)) (entry e : ℕ) → is_in ranges e ≡ is_passed ranges None entry e
in-none ranges entry e = first_or (is_in ranges e)

-- the entries below the next one that pass a test
pub below-more : (p : ℕ → Bool) (entry e : ℕ)
    → ((nat_lt e entry && p e) || (p entry && nat_eq e entry)) ≡ (nat_lt e (entry + 1) && p e)
below-more p entry e = elim (cases_order e entry) [
  | inl is ↦
      let past : nat_lt e entry ≡ false = grind (arith, nat_tests) in
      let here : nat_eq e entry ≡ true = grind (arith, nat_tests) in
      let next : nat_lt e (entry + 1) ≡ true = grind (arith, nat_tests) in
      (λ i. (past i && p e) || (p entry && here i)) ∙ and_true (p entry) ∙ ap p (sym is) ∙ sym (ap (λ b. b && p e) next)
  | inr apart ↦ elim apart [
    | inl lt ↦
        let before : nat_lt e entry ≡ true = grind (arith, nat_tests) in
        let other : nat_eq e entry ≡ false = grind (arith, nat_tests) in
        let next : nat_lt e (entry + 1) ≡ true = grind (arith, nat_tests) in
        (λ i. (before i && p e) || (p entry && other i)) ∙ or_never (p e) (p entry) ∙ sym (ap (λ b. b && p e) next)
    | inr gt ↦
        let past : nat_lt e entry ≡ false = grind (arith, nat_tests) in
        let other : nat_eq e entry ≡ false = grind (arith, nat_tests) in
        let next : nat_lt e (entry + 1) ≡ false = grind (arith, nat_tests) in
        (λ i. (past i && p e) || (p entry && other i)) ∙ never (p entry) ∙ sym (ap (λ b. b && p e) next)
  ]
] where
  and_true : (a : Bool) → (a && true) ≡ a
  and_true true = refl
  and_true false = refl

  never : (a : Bool) → (a && false) ≡ false
  never true = refl
  never false = refl

  or_never : (a b : Bool) → (a || (b && false)) ≡ a
  or_never true b = refl
  or_never false true = refl
  or_never false false = refl

-- no entry is in a row whose words are all 0
pub clear-row : (words : List ℕ) (end : ℕ) → EachIndex words (λ k. slice_index words k ≡ 0) → (e : ℕ)
    → false ≡ (nat_lt e end && is_set words e)
clear-row words end clear e =
    let word : slice_index words (e / 64) ≡ 0 = elim (cases_lt (e / 64) (length words)) [
      | inl within ↦ clear (e / 64) within
      | inr past ↦ get_or_past words (e / 64) 0 past
    ] in
    let none : is_set words e ≡ false =
    ap (λ w. bit_at w (e % 64) == 1) word ∙ ap (λ b. b == 1) (bit_at-zero (e % 64)) in
    sym (ap (λ b. nat_lt e end && b) none ∙ never (nat_lt e end)) where
      never : (a : Bool) → (a && false) ≡ false
      never true = refl
      never false = refl

-- no entry is in no ranges
pub none-in : (ranges : List (ℕ × ℕ)) (t : Bool) → true ≡ (nat_eq (length ranges) 0 && t) → (e : ℕ) → false ≡ is_in ranges e
none-in [] t is e = refl
none-in (r ∷ ranges) t is e =
    let some : nat_eq (suc (length ranges)) 0 ≡ false = grind (arith, nat_tests) in
    absurd (false≢true (sym (is ∙ ap (λ b. b && t) some)))
