-- Cursors, and the contents that they tell of.
use Rattle.std.proofs.Common.{◌≡◌, ◌∙◌, ◌+◌, ◌<◌, ◌≤◌, cond, ℕ, zero, suc, Bool, true, false, List, [], ◌∷◌, ◌++◌, length, get_or, set, drop, map, refl, ap, sym, subst, below_more, arith, inl, inr, true≢false, ◌⊎◌, All}
use Rattle.std.specs.Prelude.{◌==◌, slice_get, Option, Any, min}
use Rattle.std.specs.Option.{option_map_or}
use Rattle.std.proofs.lemmas.Bool.{cases_lt}
use Rattle.std.proofs.lemmas.Bool.Decides.{nat_tests}
use Rattle.std.proofs.lemmas.List.{at_drop_all, at_drop_more, get_or_append_left, get_or_at, get_or_default, get_or_past, length-append, drop_more}
use Rattle.std.proofs.lemmas.List.Elements.{All-cons, All-weaker}
use Rattle.std.proofs.lemmas.Option.{slice_get_past}
use Rattle.reh_census.specs.declared.ledgers.Content.{Content}
use Rattle.reh_census.specs.declared.ledgers.Told.{Told}
use Rattle.reh_census.specs.declared.ledgers.Told.TheVariants.{Untold}
use Rattle.reh_census.specs.Ledgers.{told_in, Ledger}
use Rattle.reh_tally.specs.declared.cursors.Cursor.{Cursor}
use Rattle.reh_tally.specs.Cursors.{ranges_of, EndsAt, IsFar}
use Rattle.reh_tally.specs.Stretches.{AreRising}

abbrev told_there : List Content → Told → ℕ → Told
told_there contents rest k = option_map_or (λ found. found.told) (slice_get contents k) rest

there : (contents : List Content) (rest : Told) (k : ℕ) (d : Content) → k < length contents → told_there contents rest k ≡ (get_or contents k d).told
there [] rest k d within = absurd (omega (arith, within))
there (content ∷ contents) rest zero d within = refl
there (content ∷ contents) rest (suc k) d within = there contents rest k d (omega (arith, within))

past : (contents : List Content) (rest : Told) (k : ℕ) → length contents ≤ k → told_there contents rest k ≡ rest
past contents rest k behind = ap (λ (o : Option Content). option_map_or (λ found. found.told) o rest) (slice_get_past contents k behind)

same : (x b : ℕ) → x ≡ b → (x == b) ≡ true
same x b is = grind (arith, nat_tests)

-- the first content of a bookie is what is told of it
pub found : (contents : List Content) (rest told : Told) (b i : ℕ) (x : Content) → i < length contents → (get_or contents i x).bookie ≡ b
    → told_in (drop i contents) rest b ≡ told → told_there contents rest i ≡ told
found contents rest told b i x within hit was =
    there contents rest i x within
    ∙ sym (at_drop_more (λ (items : List Content). told_in items rest b) contents i x within
    ∙ ap (λ flag. cond flag (get_or contents i x).told (told_in (drop (i + 1) contents) rest b)) (same (get_or contents i x).bookie b hit))
    ∙ was

pub not_found : (contents : List Content) (rest told : Told) (b i : ℕ) → length contents ≤ i → told_in (drop i contents) rest b ≡ told
    → told_there contents rest (length contents) ≡ told
not_found contents rest told b i behind was =
    past contents rest (length contents) (omega arith)
    ∙ sym (at_drop_all (λ (items : List Content). told_in items rest b) contents i behind)
    ∙ was

-- one flag more
pub flags-more : (contents : List Content) (flags : List Bool) (flag : Bool) (i : ℕ) (x : Content) → i < length contents → length flags ≡ i
    → ((k : ℕ) (d : Content) (e : Bool) → k < i → get_or flags k e ≡ true → AreRising (ranges_of (get_or contents k d).told))
    → x ≡ get_or contents i x → (flag ≡ true → AreRising (ranges_of x.told))
    → (k : ℕ) (d : Content) (e : Bool) → k < i + 1 → get_or (flags ++ flag ∷ []) k e ≡ true → AreRising (ranges_of (get_or contents k d).told)
flags-more contents flags flag i x within long below is here k d e under set =
    below_more (λ k. (d : Content) (e : Bool) → get_or (flags ++ flag ∷ []) k e ≡ true → AreRising (ranges_of (get_or contents k d).told)) i
    (λ k before d e set. below k d e before (sym (get_or_append_left flags (flag ∷ []) e k (omega (arith, before, long))) ∙ set))
    (λ d e set. subst (λ (y : Content). AreRising (ranges_of y.told)) (is ∙ get_or_default contents i x d within) (here (sym (get_or_at flags flag [] e i long) ∙ set)))
    k under d e set

no_content : Content
no_content = record { bookie = 0; told = Untold }

-- with a flag for the rest these are all
pub flags-made : (contents : List Content) (rest : Told) (flags : List Bool) (flag : Bool) (content : ℕ) → length flags ≡ length contents
    → ((k : ℕ) (d : Content) (e : Bool) → k < length contents → get_or flags k e ≡ true → AreRising (ranges_of (get_or contents k d).told))
    → (flag ≡ true → AreRising (ranges_of rest))
    → get_or (flags ++ flag ∷ []) content false ≡ true → AreRising (ranges_of (told_there contents rest content))
flags-made contents rest flags flag content long each last set =
    elim (cases_lt content (length contents)) [
      | inl below ↦
          subst (λ (told : Told). AreRising (ranges_of told)) (sym (there contents rest content no_content below))
          (each content no_content false below (sym (get_or_append_left flags (flag ∷ []) false content (omega (arith, below, long))) ∙ set))
      | inr above ↦
          subst (λ (told : Told). AreRising (ranges_of told)) (sym (past contents rest content above))
          (elim (cases_lt content (length flags + 1)) [
            | inl here ↦
                let at : length flags ≡ content = omega (arith, here, above, long) in
                last (sym (get_or_at flags flag [] false content at) ∙ set)
            | inr behind ↦
                let out : length (flags ++ flag ∷ []) ≤ content = omega (arith, behind, length-append flags (flag ∷ [])) in
                absurd (true≢false (sym set ∙ get_or_past (flags ++ flag ∷ []) content false out))
          ])
    ]

-- a cursor in another's place that tells of the same bookie
pub members-kept : (cursors : List Cursor) (i : ℕ) (y d : Cursor) → i < length cursors → y.bookie ≡ (get_or cursors i d).bookie
    → map (λ (c : Cursor). c.bookie) (set cursors i y) ≡ map (λ (c : Cursor). c.bookie) cursors
members-kept [] i y d within is = absurd (omega (arith, within))
members-kept (c ∷ cursors) zero y d within is = ap (λ b. b ∷ map (λ (c : Cursor). c.bookie) cursors) is
members-kept (c ∷ cursors) (suc i) y d within is = ap (λ bs. c.bookie ∷ bs) (members-kept cursors i y d (omega (arith, within)) is)

-- the cursors from one on, of which the later ones stayed
from_one : (old new : List Cursor) (i : ℕ) (x : Cursor) → i < length new → drop (i + 1) new ≡ drop (i + 1) old → x ≡ get_or new i x
    → drop i new ≡ x ∷ drop (i + 1) old
from_one old new i x within rest is = drop_more new i x within ∙ (λ j. sym is j ∷ rest j)

-- none of them ends before the next end
pub before-more : (old new : List Cursor) (i next result : ℕ) (x : Cursor) → i < length new → drop (i + 1) new ≡ drop (i + 1) old
    → x ≡ get_or new i x → result ≡ min next x.stretch.end → All (λ (c : Cursor). next ≤ c.stretch.end) (drop (i + 1) old)
    → All (λ (c : Cursor). result ≤ c.stretch.end) (drop i new)
before-more old new i next result x within rest is least before =
    subst (λ (items : List Cursor). All (λ (c : Cursor). result ≤ c.stretch.end) items) (sym (from_one old new i x within rest is))
    (All-cons (λ (c : Cursor). result ≤ c.stretch.end) x (drop (i + 1) old) (omega (arith, least))
    (All-weaker (λ (c : Cursor). next ≤ c.stretch.end) (λ (c : Cursor). result ≤ c.stretch.end) (λ c enough. omega (arith, least, enough)) (drop (i + 1) old) before))

later_one : {X : Type 0} (P : X → Type 0) (x : X) (xs : List X) → Any P xs → Any P (x ∷ xs)
later_one P x xs any = (suc any.0, any.1, omega (arith, any.2), any.3, any.4)

-- the next end is one of theirs, or the stop
pub end-more : (g : Ledger) (old new : List Cursor) (i at stop next result : ℕ) (x : Cursor) → i < length new
    → drop (i + 1) new ≡ drop (i + 1) old → x ≡ get_or new i x → result ≡ min next x.stretch.end → at < x.stretch.end → IsFar g at stop x
    → (next ≡ stop) ⊎ Any (EndsAt g stop next) (drop (i + 1) old)
    → (result ≡ stop) ⊎ Any (EndsAt g stop result) (drop i new)
end-more g old new i at stop next result x within rest is least later far was =
    subst (λ (items : List Cursor). (result ≡ stop) ⊎ Any (EndsAt g stop result) items) (sym (from_one old new i x within rest is))
    (elim (cases_lt x.stretch.end next) [
      | inl sooner ↦ own x (drop (i + 1) old) result later (omega (arith, least, sooner)) far
      | inr not_sooner ↦ others x (drop (i + 1) old) next result (omega (arith, least, not_sooner)) was
    ]) where
      own : (x : Cursor) (more : List Cursor) (result : ℕ) → at < x.stretch.end → result ≡ x.stretch.end → IsFar g at stop x
          → (result ≡ stop) ⊎ Any (EndsAt g stop result) (x ∷ more)
      own x more result later its (inl none) = absurd (omega (arith, later, none))
      own x more result later its (inr end) = inr (0, x, omega arith, refl, subst (λ n. EndsAt g stop n x) (sym its) end)

      others : (x : Cursor) (more : List Cursor) (next result : ℕ) → result ≡ next → (next ≡ stop) ⊎ Any (EndsAt g stop next) more
          → (result ≡ stop) ⊎ Any (EndsAt g stop result) (x ∷ more)
      others x more next result same (inl stop_is) = inl (same ∙ stop_is)
      others x more next result same (inr any) =
          inr (later_one (EndsAt g stop result) x more (subst (λ n. Any (EndsAt g stop n) more) (sym same) any))
