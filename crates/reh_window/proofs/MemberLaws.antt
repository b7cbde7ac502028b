-- The members of the fragment of an entry, in a window.
use Rattle.std.proofs.Common.{◌≡◌, ℕ, ◌-◌, ◌<◌, ◌≤◌, Bool, true, false, ◌&&◌, nat_lt, List, [], ◌∷◌}
use Rattle.std.proofs.Common.{if◌then◌else◌, refl, sym, ap, ◌∙◌, arith, inl, inr, true≢false}
use Rattle.std.proofs.lemmas.Bool.{cases_lt}
use Rattle.std.proofs.lemmas.Bool.Decides.{nat_tests}
use Rattle.reh_inventory.specs.declared.ledgers.Fragment.{Fragment}
use Rattle.reh_window.specs.declared.spans.Span.{Span}
use Rattle.reh_window.specs.Members.{are_rising, begin_after, ensemble_at}
use Rattle.reh_window.specs.Windows.{fragment_in, fragments_in}

and_second : (a b : Bool) → (a && b) ≡ true → b ≡ true
and_second true b e = e
and_second false b e = absurd (true≢false (sym e))

and_first : (a b : Bool) → (a && b) ≡ true → a ≡ true
and_first true b e = refl
and_first false b e = absurd (true≢false (sym e))

and_false : (a : Bool) → (a && false) ≡ false
and_false true = refl
and_false false = refl

is_below : (a b : ℕ) → a < b → nat_lt a b ≡ true
is_below a b h = grind (arith, nat_tests)

is_not_below : (a b : ℕ) → b ≤ a → nat_lt a b ≡ false
is_not_below a b h = grind (arith, nat_tests)

below_is : (a b : ℕ) → nat_lt a b ≡ true → a < b
below_is a b h = grind (arith, nat_tests)

not_below_is : (a b : ℕ) → nat_lt a b ≡ false → b ≤ a
not_below_is a b h = grind (arith, nat_tests)

-- Which fragments are kept

-- what begins after one of rising fragments
rises : (entry : ℕ) (fragment : Fragment) (rest : List Fragment) → are_rising (fragment ∷ rest) ≡ true
    → entry ≤ fragment.first → begin_after entry rest ≡ true
rises entry fragment [] rising from = refl
rises entry fragment (next ∷ rest) rising from =
    let later : fragment.first < next.first = below_is _ _ (and_first _ _ rising) in
    is_below entry next.first (omega arith)

-- a fragment that begins before the stop is kept, where the next one begins after the start
kept-first : (span : Span) (fragment : Fragment) (rest : List Fragment) → fragment.first < span.stop
    → begin_after span.start rest ≡ true
    → fragments_in span (fragment ∷ rest) ≡ fragment_in span fragment ∷ fragments_in span rest
kept-first span fragment [] below after =
    ap (λ b. if b && true then fragment_in span fragment ∷ [] else []) (is_below fragment.first span.stop below)
kept-first span fragment (next ∷ rest) below after =
    let begins = is_below fragment.first span.stop below in
    λ i. if begins i && after i then fragment_in span fragment ∷ fragments_in span (next ∷ rest)
    else fragments_in span (next ∷ rest)

-- it is left out, where the next one begins at the start or before
left-first : (span : Span) (fragment next : Fragment) (rest : List Fragment) → next.first ≤ span.start
    → fragments_in span (fragment ∷ next ∷ rest) ≡ fragments_in span (next ∷ rest)
left-first span fragment next rest before =
    let no : (nat_lt fragment.first span.stop && nat_lt span.start next.first) ≡ false =
    ap (λ b. nat_lt fragment.first span.stop && b) (is_not_below span.start next.first before) ∙ and_false _ in
    ap (λ b. if b then fragment_in span fragment ∷ fragments_in span (next ∷ rest) else fragments_in span (next ∷ rest)) no

-- none is kept from one on that begins at the stop or after it
none-past : (span : Span) (fragment : Fragment) (rest : List Fragment) → span.stop ≤ fragment.first
    → are_rising (fragment ∷ rest) ≡ true → fragments_in span (fragment ∷ rest) ≡ []
none-past span fragment [] past rising =
    ap (λ b. if b && true then fragment_in span fragment ∷ [] else []) (is_not_below fragment.first span.stop past)
none-past span fragment (next ∷ rest) past rising =
    let later : fragment.first < next.first = below_is _ _ (and_first _ _ rising) in
    ap (λ b. if b && nat_lt span.start next.first then fragment_in span fragment ∷ fragments_in span (next ∷ rest)
    else fragments_in span (next ∷ rest)) (is_not_below fragment.first span.stop past)
    ∙ none-past span next rest (omega arith) (and_second _ _ rising)

-- The fragment of an entry

-- those that are kept of fragments that begin after the entry begin after it, too
begins-later : (span : Span) (entry : ℕ) (next : Fragment) (rest : List Fragment) → are_rising (next ∷ rest) ≡ true
    → span.start ≤ entry → entry < next.first → begin_after (entry - span.start) (fragments_in span (next ∷ rest)) ≡ true
begins-later span entry next rest rising from later =
    elim (cases_lt next.first span.stop) [
      | inl below ↦
          ap (begin_after (entry - span.start))
          (kept-first span next rest below (rises span.start next rest rising (omega arith)))
          ∙ is_below (entry - span.start) (next.first - span.start) (omega arith)
      | inr past ↦ ap (begin_after (entry - span.start)) (none-past span next rest past rising)
    ]

-- and those of fragments that begin at the entry or before begin so
begins-earlier : (span : Span) (entry : ℕ) (next : Fragment) (rest : List Fragment) → are_rising (next ∷ rest) ≡ true
    → span.start < next.first → next.first ≤ entry → entry < span.stop
    → begin_after (entry - span.start) (fragments_in span (next ∷ rest)) ≡ false
begins-earlier span entry next rest rising after by below =
    ap (begin_after (entry - span.start))
    (kept-first span next rest (omega arith) (rises span.start next rest rising (omega arith)))
    ∙ is_not_below (entry - span.start) (next.first - span.start) (omega arith)

-- the fragment of the entry is the first of these or a later one
same-from : (span : Span) (fragment : Fragment) (rest : List Fragment) (entry : ℕ) → are_rising (fragment ∷ rest) ≡ true
    → fragment.first ≤ entry → span.start ≤ entry → entry < span.stop
    → ensemble_at (entry - span.start) (fragments_in span (fragment ∷ rest)) ≡ ensemble_at entry (fragment ∷ rest)
same-from span fragment [] entry rising by from below =
    ap (ensemble_at (entry - span.start)) (kept-first span fragment [] (omega arith) refl)
same-from span fragment (next ∷ rest) entry rising by from below =
    let at = entry - span.start in
    let inner : are_rising (next ∷ rest) ≡ true = and_second _ _ rising in
    let kept = fragments_in span (next ∷ rest) in
    elim (cases_lt span.start next.first) [
      | inl after ↦
          let first = ap (ensemble_at at)
          (kept-first span fragment (next ∷ rest) (omega arith) (is_below span.start next.first after)) in
          elim (cases_lt entry next.first) [
            | inl later ↦
                first
                ∙ ap (λ b. if b then fragment.ensemble else ensemble_at at kept)
                (begins-later span entry next rest inner from later)
                ∙ sym (ap (λ b. if b then fragment.ensemble else ensemble_at entry (next ∷ rest))
                (is_below entry next.first later))
            | inr earlier ↦
                first
                ∙ ap (λ b. if b then fragment.ensemble else ensemble_at at kept)
                (begins-earlier span entry next rest inner after earlier below)
                ∙ same-from span next rest entry inner earlier from below
                ∙ sym (ap (λ b. if b then fragment.ensemble else ensemble_at entry (next ∷ rest))
                (is_not_below entry next.first earlier))
          ]
      | inr before ↦
          ap (ensemble_at at) (left-first span fragment next rest before)
          ∙ same-from span next rest entry inner (omega arith) from below
          ∙ sym (ap (λ b. if b then fragment.ensemble else ensemble_at entry (next ∷ rest))
          (is_not_below entry next.first (omega arith)))
    ]

pub same-ensemble : (span : Span) (fragments : List Fragment) (entry : ℕ) → are_rising fragments ≡ true
    → begin_after entry fragments ≡ false → span.start ≤ entry → entry < span.stop
    → ensemble_at (entry - span.start) (fragments_in span fragments) ≡ ensemble_at entry fragments
same-ensemble span [] entry rising begins from below = absurd (true≢false begins)
same-ensemble span (fragment ∷ rest) entry rising begins from below =
    same-from span fragment rest entry rising (not_below_is entry fragment.first begins) from below
