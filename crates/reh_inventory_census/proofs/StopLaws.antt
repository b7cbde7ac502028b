-- Which fragments of a line stop, and where the entries that are counted end.
use Rattle.std.proofs.Common.{◌≡◌, ◌<◌, ◌≤◌, ◌+◌, ◌-◌, ℕ, zero, suc, max, Bool, true, false, ◌&&◌, nat_lt, List, [], length, map}
use Rattle.std.proofs.Common.{Option, None, Some, unwrap_or, get_or, refl, sym, ap, ◌∙◌, subst, arith, true≢false}
use Rattle.std.specs.Option.{is_some, is_none, option_map_or}
use Rattle.std.specs.Prelude.{All, slice_get}
use Rattle.std.proofs.lemmas.Bool.Decides.{nat_tests}
use Rattle.std.proofs.lemmas.List.FromFn.{get_or-map-range_with_len, length-map-range_with_len}
use Rattle.std.proofs.lemmas.Option.{slice_get-get_or, slice_get_past, slice_get_within}
use Rattle.reh_census.specs.declared.ledgers.Fragment.{Fragment as CountedFragment}
use Rattle.reh_census.specs.Ledgers.{IsFragment}
use Rattle.reh_census.specs.Striping.{range}
use Rattle.reh_inventory.specs.declared.ledgers.Fragment.{Fragment}
use Rattle.reh_inventory.specs.declared.ledgers.LedgerLine.{LedgerLine}
use Rattle.reh_inventory_census.specs.Counted.{end_of, first_of, fragment_of, last_first, open_end}

abbrev pub first_in : Option Fragment → ℕ
first_in o = option_map_or (λ fragment. fragment.first) o 0

-- one past the last entry of a fragment, by what follows it and by where the ledger ends
abbrev pub stop_in : ℕ → ℕ → Option Fragment → Option ℕ → ℕ
stop_in first end next last = unwrap_or (option_map_or (λ fragment. Some fragment.first) next last) (max first end)

abbrev pub is_stopped : Option Fragment → Option ℕ → Bool
is_stopped next last = is_some (option_map_or (λ fragment. Some fragment.first) next last)

abbrev pub is_loose : LedgerLine → Option ℕ → Bool
is_loose line last = is_none last && nat_lt (last_first line) (open_end line)

some-none : {A : Type 0} (o : Option A) (x : A) → o ≡ Some x → o ≡ None → ⊥
some-none o x some none = true≢false (ap is_some (sym some ∙ none))

module _ (line : LedgerLine) where
  abbrev pub count : ℕ
  count = length line.fragments

  -- a fragment with none after it is the last one
  is_last : (f : ℕ) → f < count → slice_get line.fragments (f + 1) ≡ None → f + 1 ≡ count
  is_last f within none = on (nat_lt (f + 1) count) refl
    where
      fallback : Fragment
      fallback = record { first = 0; ensemble = [] }

      on : (t : Bool) → nat_lt (f + 1) count ≡ t → f + 1 ≡ count
      on true e =
          let more : f + 1 < count = grind (arith, nat_tests) in
          absurd (some-none _ _ (slice_get-get_or line.fragments (f + 1) (get_or line.fragments f fallback) more) none)
      on false e = let long : count ≤ f + 1 = grind (arith, nat_tests) in omega arith

  first-last : (f : ℕ) → f + 1 ≡ count → first_of line f ≡ last_first line
  first-last f long =
      let same : f ≡ count - 1 = omega arith in ap (λ k. first_in (slice_get line.fragments k)) same

  -- a fragment with one after it isn't the only one
  not_alone : (f : ℕ) (next : Fragment) → slice_get line.fragments (f + 1) ≡ Some next → nat_lt 1 count ≡ true
  not_alone f next e =
      let more : f + 1 < count = slice_get_within line.fragments (f + 1) next e in
      grind (arith, nat_tests)

  module _ (f entry : ℕ) (within : f < count) where
    -- by what follows the fragment, and by where the ledger ends
    pub closed-inner : (next : Option Fragment) (last : Option ℕ) → slice_get line.fragments (f + 1) ≡ next
        → first_of line f ≤ entry
        → entry < stop_in (first_of line f) (unwrap_or last (open_end line)) next last
        → is_loose line last ≡ false → is_stopped next last ≡ true
    closed-inner (Some next) last e from to tight = refl
    closed-inner None (Some end) e from to tight = refl
    closed-inner None None e from to tight =
        let same : first_of line f ≡ last_first line = first-last f (is_last f within e) in
        let none : open_end line ≤ last_first line = grind (arith, nat_tests) in
        absurd (omega arith)

    pub loose-inner : (next : Option Fragment) (last : Option ℕ) → slice_get line.fragments (f + 1) ≡ next
        → is_loose line last ≡ true → (is_loose line last && nat_lt 1 count) ≡ false → is_stopped next last ≡ false
    loose-inner (Some next) last e held_on both =
        absurd (true≢false (sym (ap (λ b. b && nat_lt 1 count) held_on ∙ not_alone f next e) ∙ both))
    loose-inner None (Some end) e held_on both = absurd (true≢false (sym held_on))
    loose-inner None None e held_on both = refl

  abbrev pub end : ℕ
  end = unwrap_or (end_of line.state) (open_end line)

  abbrev pub stop_at : ℕ → ℕ
  stop_at k = stop_in (first_of line k) end (slice_get line.fragments (k + 1)) (end_of line.state)

  last-inner : (k : ℕ) (last : Option ℕ) → k + 1 ≡ count
      → first_of line k ≤ unwrap_or last (max (first_of line k) (unwrap_or last (open_end line)))
      → first_of line k ≤ unwrap_or last (open_end line)
  last-inner k (Some e) long order = order
  last-inner k None long order =
      let same : first_of line k ≡ last_first line = first-last k long in omega arith

  past : (k : ℕ) → k + 1 ≡ count → slice_get line.fragments (k + 1) ≡ None
  past k long = slice_get_past line.fragments (k + 1) (omega arith)

  module _ (names : List (List ℕ)) (size : ℕ)
      (fragments : All (IsFragment size) (map (fragment_of names end line) (range 0 count))) where
    order : (k : ℕ) → k < count → first_of line k ≤ stop_at k
    order k within =
        let make = fragment_of names end line in
        let long : length (map make (range 0 count)) ≡ count - 0 = length-map-range_with_len make 0 (count - 0) in
        let few : k < length (map make (range 0 count)) = omega arith in
        let here : get_or (map make (range 0 count)) k (make k) ≡ make k =
        get_or-map-range_with_len make 0 (count - 0) k k (make k) (omega arith) (omega arith) in
        let P : CountedFragment → Type 0 = λ fragment. IsFragment size fragment in
        (subst P here (fragments k (make k) few)).order

    rises : (k : ℕ) → k + 1 < count → first_of line k ≤ first_of line (k + 1)
    rises k within = on (slice_get line.fragments (k + 1)) refl
      where
        on : (o : Option Fragment) → slice_get line.fragments (k + 1) ≡ o → first_of line k ≤ first_of line (k + 1)
        on (Some next) e =
            let P : Option Fragment → Type 0 = λ o. first_of line k ≤ stop_in (first_of line k) end o (end_of line.state) in
            let Q : Option Fragment → Type 0 = λ o. first_of line k ≤ first_in o in
            let low : first_of line k ≤ next.first = subst P e (order k (omega arith)) in
            subst Q (sym e) low
        on None e = let long : k + 1 ≡ count = is_last k (omega arith) e in absurd (omega arith)

    climbs : (j k m : ℕ) → m ≡ k + j → m < count → first_of line k ≤ first_of line m
    climbs zero k m is within = let same : m ≡ k = omega arith in omega (arith, ap (first_of line) same)
    climbs (suc j) k m is within =
        let before : first_of line k ≤ first_of line (k + j) = climbs j k (k + j) refl (omega arith) in
        let step : first_of line (k + j) ≤ first_of line (k + j + 1) = rises (k + j) (omega arith) in
        let same : m ≡ k + j + 1 = omega arith in
        omega (arith, before, step, ap (first_of line) same)

    last_end : (k : ℕ) → k + 1 ≡ count → first_of line k ≤ end
    last_end k long =
        let P : Option Fragment → Type 0 = λ o. first_of line k ≤ stop_in (first_of line k) end o (end_of line.state) in
        last-inner k (end_of line.state) long (subst P (past k long) (order k (omega arith)))

    below-inner : (f entry : ℕ) (next : Option Fragment) (last : Option ℕ) → slice_get line.fragments (f + 1) ≡ next
        → f < count → first_of line f ≤ end → first_in next ≤ end → end ≡ unwrap_or last (open_end line)
        → entry < stop_in (first_of line f) end next last → entry < end
    below-inner f entry (Some next) last e within first rest is to = omega arith
    below-inner f entry None (Some last) e within first rest is to = omega arith
    below-inner f entry None None e within first rest is to = omega arith

    -- each entry that is counted is before the end
    pub entry_below : (f entry : ℕ) → f < count → entry < stop_at f → entry < end
    entry_below f entry within to =
        below-inner f entry (slice_get line.fragments (f + 1)) (end_of line.state) refl within (reach f within)
        (next_reach (slice_get line.fragments (f + 1)) refl) refl to
      where
        reach : (k : ℕ) → k < count → first_of line k ≤ end
        reach k few =
            let top : first_of line k ≤ first_of line (count - 1) = climbs (count - 1 - k) k (count - 1) (omega arith) (omega arith) in
            let ends : first_of line (count - 1) ≤ end = last_end (count - 1) (omega arith) in
            omega (arith, top, ends)

        next_reach : (o : Option Fragment) → slice_get line.fragments (f + 1) ≡ o → first_in (slice_get line.fragments (f + 1)) ≤ end
        next_reach (Some next) e = reach (f + 1) (slice_get_within line.fragments (f + 1) next e)
        next_reach None e = rw e (omega arith)
