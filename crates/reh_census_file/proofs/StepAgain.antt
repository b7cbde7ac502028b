-- Lines that are written one after another are read again.
use Rattle.std.proofs.Common.{◌≡◌, ℕ, ◌+◌, ◌^◌, ◌<◌, ◌≤◌, Bool, true, false, not, List, [], ◌∷◌, ◌++◌, length, map, take, Option, Some, None, Ok, refl, sym, ap, subst, ◌∙◌, arith, length-append, inl, inr}
use Rattle.std.specs.Prelude.{codes, ◌&&◌, ◌==◌, nat_le, nat_lt, IfSome, is_some}
use Rattle.std.specs.List.{AllByRecursion, IsDistinct, list_all, list_any, sum_by}
use Rattle.std.specs.Option.{option_map, option_map_or}
use Rattle.std.specs.Ordering.{on}
use Rattle.std.specs.Str.{bytes_eq}
use Rattle.std.proofs.Math.Seq.{take-length}
use Rattle.std.proofs.lemmas.Bool.{false≢true}
use Rattle.std.proofs.lemmas.Bool.Decides.{nat_tests}
use Rattle.std.proofs.lemmas.List.{append-nil}
use Rattle.std.proofs.lemmas.List.Sums.{sum_by-append, sum_by-cons}
use Rattle.std.proofs.lemmas.Option.{slice_get_cases, unwrap_or-slice_get}
use mathlib.Core.List.{append_assoc}
use Rattle.reh_census.specs.declared.bookies.Bookie.{Bookie}
use Rattle.reh_census.specs.declared.censuses.CountedEnsemble.{CountedEnsemble}
use Rattle.reh_census.specs.declared.censuses.CountedTail.{CountedTail}
use Rattle.reh_census.specs.declared.censuses.Judged.{Judged}
use Rattle.reh_census.specs.declared.censuses.Tail.{Tail}
use Rattle.reh_census.specs.declared.classes.Class.{Class}
use Rattle.reh_census.specs.declared.classes.Counted.{Counted}
use Rattle.reh_census.specs.Bookies.{bookies_of, is_holder}
use Rattle.reh_census.specs.Copies.{is_in}
use Rattle.reh_census.specs.Counting.{ensembles_in, entries_in, not_judged, tails_in}
use Rattle.reh_census.specs.Order.{InOrder, class_cmp, names_cmp, tail_cmp}
use Rattle.reh_census_file.specs.declared.lists.TheConstants.{MAX_NAMES}
use Rattle.reh_census_file.specs.Canonical.{AreEnsembles, AreEntries, AreNumbered, AreTails, IsJudged, is_name, are_rising, are_quorums, are_copies, are_sizes, are_members, next_rack}
use Rattle.reh_census_file.specs.Drafts.{Draft, add_bookie, add_judged, add_entries, add_tail, add_ensemble, bookie_step, judged_step, entries_step, tail_step, ensemble_step, step, rack_number, racks_with, with_bookie}
use Rattle.reh_census_file.specs.LineReading.{BookieLine}
use Rattle.std.specs.Fmt.{decimal}
use Rattle.reh_census_file.specs.Reading.{◌>>=◌, words_of}
use Rattle.reh_census_file.specs.Texts.{names_of, bookie_words, judged_words, entries_words, tail_words, ensemble_words, word_if, up_word, rack_words, state_word}
use Rattle.reh_census_file.specs.Whole.{body_at, placed}
use Rattle.reh_census_file.proofs.BodyLaws.{body_at-more}
use Rattle.reh_census_file.proofs.LineAgain.{AreSmall, IsSmallTail, behind_bookie, behind_ledgers, behind_entries, behind_tail, behind_ensemble, bookie_line_again, judged_again, entries_again, tail_again, ensemble_again}
use Rattle.reh_census_file.proofs.LineTakes.{racked}
use Rattle.reh_census_file.proofs.OrderLaws.{All-at, is_later-before, new-before}
use Rattle.reh_census_file.proofs.PlainLaws.{ArePlain, ArePlain-append, IsPlain, IsPlainLine, Line, decimal-plain, name-plain, names-plain, spaced, words_of-spaced}
use Rattle.reh_census_file.proofs.RackAgain.{rack_again, rack_told}
use Rattle.reh_census_file.proofs.RackLaws.{numbered-up}
use Rattle.reh_census_file.proofs.TokenAgain.{all_get}

-- One line, and lines of one kind

-- a line of such words goes on so
pub record IsStep (d : Draft) (line : Line) (more : Draft) : Type 0 where
  pub first : List ℕ
  pub words : Line
  pub is : line ≡ first ∷ words
  pub plain : IsPlainLine line
  pub other : bytes_eq first (codes "end") ≡ false
  pub stepped : step d first words ≡ Ok more

pub line_again : (lines : ℕ) (d more : Draft) (line : Line) (parts : Line) → IsStep d line more → 0 < length parts → body_at lines d (spaced line ∷ parts) ≡ body_at (lines + 1) more parts
line_again lines d more line parts s some =
    let first = s.first in
    let words = s.words in
    let plain : ArePlain (first ∷ words) = subst IsPlainLine s.is s.plain in
    body_at-more lines d (spaced line ∷ parts) parts (spaced line) first words refl some (ap words_of_spaced s.is ∙ words_of-spaced first words plain) s.other
    ∙ ap (λ r. placed (lines + 1) r >>= λ next. body_at (lines + 1) next parts) s.stepped
  where
    words_of_spaced : Line → Line
    words_of_spaced l = words_of (spaced l)

-- the draft with all of these
abbrev pub added : {X : Type 0} → (Draft → X → Draft) → Draft → List X → Draft
added add d [] = d
added add d (x ∷ xs) = added add (add d x) xs

module _ {X : Type 0} (words : X → Line) (add : Draft → X → Draft) (Fits : Draft → List X → Type 0) where
  pub record IsNext (d : Draft) (x : X) (xs : List X) : Type 0 where
    pub step : IsStep d (words x) (add d x)
    pub fits : Fits (add d x) xs

  pub group_again : ((d : Draft) (x : X) (xs : List X) → Fits d (x ∷ xs) → IsNext d x xs) → (lines : ℕ) (d : Draft) (xs : List X) (parts : Line) → Fits d xs → 0 < length parts
      → body_at lines d (map spaced (map words xs) ++ parts) ≡ body_at (lines + length xs) (added add d xs) parts
  group_again next lines d [] parts fits some = ap (λ n. body_at n d parts) (omega arith)
  group_again next lines d (x ∷ xs) parts fits some =
      let n = next d x xs fits in
      line_again lines d (add d x) (words x) (map spaced (map words xs) ++ parts) n.step (omega (arith, length-append (map spaced (map words xs)) parts))
      ∙ group_again next (lines + 1) (add d x) xs parts n.fits some ∙ ap (λ k. body_at k (added add (add d x) xs) parts) (omega arith)

  -- and its lines are such
  pub group_plain : ((d : Draft) (x : X) (xs : List X) → Fits d (x ∷ xs) → IsNext d x xs) → (d : Draft) (xs : List X) → Fits d xs → AllByRecursion IsPlainLine (map words xs)
  group_plain next d [] fits = tt
  group_plain next d (x ∷ xs) fits = let n = next d x xs fits in (n.step.plain, group_plain next (add d x) xs n.fits)

-- Tests

pub and_true : (a b : Bool) → (a && b) ≡ true → (a ≡ true) × (b ≡ true)
and_true true true e = (refl, refl)
and_true true false e = absurd cc
and_true false b e = absurd cc

not_above : (n : ℕ) → n ≤ 2 ^ 63 → nat_lt (2 ^ 63) n ≡ false
not_above n small = grind (arith, nat_tests)

sum_at : {X : Type 0} (count : X → ℕ) (xs : List X) (x : X) (ys : List X) → sum_by count (xs ++ x ∷ ys) ≤ 2 ^ 63 → sum_by count xs + count x ≤ 2 ^ 63
sum_at count xs x ys within =
    let one : sum_by count (x ∷ ys) ≡ count x + sum_by count ys = sum_by-cons count x ys in omega (arith, sum_by-append count xs (x ∷ ys), one)

-- Entries

pub holder_within : (bookies : List Bookie) (b : ℕ) → is_holder (bookies_of bookies) b ≡ true → b < length bookies
holder_within bookies b holds =
    elim ((slice_get_cases bookies b).1) [
      | inl some ↦ some.1
      | inr none ↦ absurd (false≢true (sym (ap (λ o. option_map_or (λ found. found.is_registered) o false) none.1) ∙ (and_true _ _ holds).0))
    ]

pub holders_within : (bookies : List Bookie) (n : ℕ) (numbers : List ℕ) → length bookies ≡ n → list_all (is_holder (bookies_of bookies)) numbers ≡ true → AllByRecursion (λ b. b < n) numbers
holders_within bookies n [] each holds = tt
holders_within bookies n (b ∷ bs) each holds =
    let h = and_true (is_holder (bookies_of bookies) b) (list_all (is_holder (bookies_of bookies)) bs) holds in
    (omega (arith, holder_within bookies b h.0, each), holders_within bookies n bs each h.1)

pub record IsSmallClass (class : Class) : Type 0 where
  pub ack : class.ack_quorum ≤ 64
  pub write : class.write_quorum ≤ 64

pub quorums_small : (class : Class) → are_quorums class ≡ true → IsSmallClass class
quorums_small class quorums =
    let h = and_true (nat_le 1 class.ack_quorum) (nat_le class.ack_quorum class.write_quorum && nat_le class.write_quorum 64) quorums in
    let k = and_true (nat_le class.ack_quorum class.write_quorum) (nat_le class.write_quorum 64) h.1 in
    let write : class.write_quorum ≤ 64 = grind (arith, nat_tests, k.1) in
    let ack : class.ack_quorum ≤ class.write_quorum = grind (arith, nat_tests, k.0) in
    record { ack = omega arith; write = write }

-- what the copies of a class are
pub record AreCopies (bookies : List Bookie) (class : Class) : Type 0 where
  pub few : length class.known + length class.untold ≤ class.write_quorum
  pub known : list_all (is_holder (bookies_of bookies)) class.known ≡ true
  pub untold : list_all (is_holder (bookies_of bookies)) class.untold ≡ true

pub copies_are : (bookies : List Bookie) (class : Class) → are_copies bookies class ≡ true → AreCopies bookies class
copies_are bookies class copies =
    let holders = is_holder (bookies_of bookies) in
    let a = and_true (nat_le (length class.known + length class.untold) class.write_quorum) ((are_rising class.known && are_rising class.untold) && ((list_all holders class.known && list_all holders class.untold) && not (list_any (is_in class.known) class.untold))) copies in
    let b = and_true (are_rising class.known && are_rising class.untold) ((list_all holders class.known && list_all holders class.untold) && not (list_any (is_in class.known) class.untold)) a.1 in
    let c = and_true (list_all holders class.known && list_all holders class.untold) (not (list_any (is_in class.known) class.untold)) b.1 in
    let f = and_true (list_all holders class.known) (list_all holders class.untold) c.0 in
    record { few = grind (arith, nat_tests, a.0); known = f.0; untold = f.1 }

-- what the other lines rest on
pub record IsBase (d : Draft) : Type 0 where
  pub judged : is_some d.judged ≡ true
  pub distinct : IsDistinct bytes_eq d.names
  pub named : AllByRecursion (λ (name : List ℕ). is_name name ≡ true) d.names
  pub each : length d.bookies ≡ length d.names

pub record FitEntries (d : Draft) (todo : List Counted) : Type 0 where
  pub base : IsBase d
  pub no_tails : d.tails ≡ []
  pub no_ensembles : d.ensembles ≡ []
  pub entries : AreEntries d.bookies (d.entries ++ todo)

abbrev pub put_entries : Draft → Counted → Draft
put_entries d c = record d { entries = d.entries ++ c ∷ [] }

entries_next : (names : Line) (d : Draft) (c : Counted) (todo : List Counted) → FitEntries d (c ∷ todo) × (d.names ≡ names) → IsNext (entries_words names) put_entries (λ d todo. FitEntries d todo × (d.names ≡ names)) d c todo
unfolding step entries_step add_entries
entries_next names d c todo fits =
    let f = fits.0 in
    let e = f.entries in
    let quorums : are_quorums c.class ≡ true = All-at (λ (x : Counted). are_quorums x.class ≡ true) d.entries c todo e.quorums in
    let copies : are_copies d.bookies c.class ≡ true = All-at (λ (x : Counted). are_copies d.bookies x.class ≡ true) d.entries c todo e.copies in
    let some : 1 ≤ c.count = All-at (λ (x : Counted). 1 ≤ x.count) d.entries c todo e.some in
    let later = is_later-before (on (λ c. c.class) class_cmp) d.entries c todo e.order in
    let sum : entries_in d.entries + c.count ≤ 2 ^ 63 = sum_at (λ (x : Counted). x.count) d.entries c todo e.within in
    let small = quorums_small c.class quorums in
    let are = copies_are d.bookies c.class copies in
    let known = holders_within d.bookies (length d.names) c.class.known f.base.each are.known in
    let untold = holders_within d.bookies (length d.names) c.class.untold f.base.each are.untold in
    let count : c.count ≤ 2 ^ 63 = omega (arith, sum) in
    let fit : AreSmall c = record { some = some; count = count; write = omega (arith, small.write); ack = omega (arith, small.ack); known = omega (arith, are.few, small.write); untold = omega (arith, are.few, small.write) } in
    let read = entries_again d.names c f.base.distinct fit known untold in
    let guard : (is_some d.judged && ((length d.tails == 0) && (length d.ensembles == 0))) ≡ true =
    ap (λ t. t && ((length d.tails == 0) && (length d.ensembles == 0))) f.base.judged ∙ ap (λ ts. (length ts == 0) && (length d.ensembles == 0)) f.no_tails ∙ ap (λ es. length es == 0) f.no_ensembles in
    let lines : entries_words names c ≡ entries_words d.names c = ap (λ ns. entries_words ns c) (sym fits.1) in
    record {
      step = record {
        first = codes "entries";
        words = behind_entries d.names c;
        is = lines;
        plain = subst IsPlainLine (sym lines) (
          refl,
          (
            decimal-plain c.count count,
            (
              refl,
              (
                decimal-plain c.class.write_quorum (omega (arith, small.write)),
                (
                  refl,
                  (
                    decimal-plain c.class.ack_quorum (omega (arith, small.ack)),
                    (
                      refl,
                      (
                        decimal-plain (length c.class.known) (omega (arith, are.few, small.write)),
                        ArePlain-append (names_of d.names c.class.known) (codes "untold" ∷ decimal (length c.class.untold) ∷ names_of d.names c.class.untold) (names-plain d.names c.class.known f.base.named known)
                            (refl, (decimal-plain (length c.class.untold) (omega (arith, are.few, small.write)), names-plain d.names c.class.untold f.base.named untold)),
                      ),
                    ),
                  ),
                ),
              ),
            ),
          ),
        );
        other = refl;
        stepped = rw (guard, read, quorums, copies, later, not_above (entries_in d.entries + c.count) sum) refl;
      };
      fits = (
        record {
          base = record { judged = f.base.judged; distinct = f.base.distinct; named = f.base.named; each = f.base.each };
          no_tails = f.no_tails;
          no_ensembles = f.no_ensembles;
          entries = subst (λ (es : List Counted). AreEntries d.bookies es) (sym (append_assoc d.entries (c ∷ []) todo)) e;
        },
        fits.1,
      );
    }

-- Tails

pub record FitTails (d : Draft) (todo : List CountedTail) : Type 0 where
  pub base : IsBase d
  pub no_ensembles : d.ensembles ≡ []
  pub tails : AreTails (length d.names) (d.tails ++ todo)

abbrev pub put_tail : Draft → CountedTail → Draft
put_tail d t = record d { tails = d.tails ++ t ∷ [] }

pub record AreSizes (tail : Tail) : Type 0 where
  pub size : tail.size ≤ 64
  pub write : tail.write_quorum ≤ 64
  pub ack : tail.ack_quorum ≤ 64

sizes_are : (tail : Tail) → are_sizes tail ≡ true → AreSizes tail
sizes_are tail sizes =
    let a = and_true (nat_le 1 tail.ack_quorum) (nat_le tail.ack_quorum tail.write_quorum && (nat_le tail.write_quorum tail.size && nat_le tail.size 64)) sizes in
    let b = and_true (nat_le tail.ack_quorum tail.write_quorum) (nat_le tail.write_quorum tail.size && nat_le tail.size 64) a.1 in
    let c = and_true (nat_le tail.write_quorum tail.size) (nat_le tail.size 64) b.1 in
    let ack : tail.ack_quorum ≤ tail.write_quorum = grind (arith, nat_tests, b.0) in
    let write : tail.write_quorum ≤ tail.size = grind (arith, nat_tests, c.0) in
    let size : tail.size ≤ 64 = grind (arith, nat_tests, c.1) in
    record { size = size; write = omega arith; ack = omega arith }

state_plain : (is_open : Bool) → IsPlain (state_word is_open)
state_plain true = refl
state_plain false = refl

tail_next : (names : Line) (d : Draft) (t : CountedTail) (todo : List CountedTail) → FitTails d (t ∷ todo) × (d.names ≡ names) → IsNext (tail_words names) put_tail (λ d todo. FitTails d todo × (d.names ≡ names)) d t todo
unfolding step tail_step add_tail
tail_next names d t todo fits =
    let f = fits.0 in
    let e = f.tails in
    let sizes : are_sizes t.tail ≡ true = All-at (λ (x : CountedTail). are_sizes x.tail ≡ true) d.tails t todo e.sizes in
    let some : 1 ≤ t.count = All-at (λ (x : CountedTail). 1 ≤ x.count) d.tails t todo e.some in
    let whole : length t.tail.ensemble ≡ t.tail.size = All-at (λ (x : CountedTail). length x.tail.ensemble ≡ x.tail.size) d.tails t todo e.whole in
    let within = All-at (λ (x : CountedTail). AllByRecursion (λ (b : ℕ). b < length d.names) x.tail.ensemble) d.tails t todo e.named in
    let later = is_later-before (on (λ t. t.tail) tail_cmp) d.tails t todo e.order in
    let sum : tails_in d.tails + t.count ≤ 2 ^ 63 = sum_at (λ (x : CountedTail). x.count) d.tails t todo e.within in
    let small = sizes_are t.tail sizes in
    let count : t.count ≤ 2 ^ 63 = omega (arith, sum) in
    let fit : IsSmallTail t = record { some = some; count = count; size = omega (arith, small.size); write = omega (arith, small.write); ack = omega (arith, small.ack); whole = whole } in
    let read = tail_again d.names t f.base.distinct fit within in
    let guard : (is_some d.judged && (length d.ensembles == 0)) ≡ true = ap (λ t. t && (length d.ensembles == 0)) f.base.judged ∙ ap (λ es. length es == 0) f.no_ensembles in
    let lines : tail_words names t ≡ tail_words d.names t = ap (λ ns. tail_words ns t) (sym fits.1) in
    record {
      step = record {
        first = codes "tail";
        words = behind_tail d.names t;
        is = lines;
        plain = subst IsPlainLine (sym lines) (
          refl,
          (
            decimal-plain t.count count,
            (
              state_plain t.tail.is_open,
              (
                refl,
                (
                  decimal-plain t.tail.size (omega (arith, small.size)),
                  (
                    refl,
                    (
                      decimal-plain t.tail.write_quorum (omega (arith, small.write)),
                      (
                        refl,
                        (
                          decimal-plain t.tail.ack_quorum (omega (arith, small.ack)),
                          names-plain d.names t.tail.ensemble f.base.named within,
                        ),
                      ),
                    ),
                  ),
                ),
              ),
            ),
          ),
        );
        other = refl;
        stepped = rw (guard, read, sizes, later, not_above (tails_in d.tails + t.count) sum) refl;
      };
      fits = (
        record {
          base = record { judged = f.base.judged; distinct = f.base.distinct; named = f.base.named; each = f.base.each };
          no_ensembles = f.no_ensembles;
          tails = subst (λ (ts : List CountedTail). AreTails (length d.names) ts) (sym (append_assoc d.tails (t ∷ []) todo)) e;
        },
        fits.1,
      );
    }

-- Ensembles

pub record FitEnsembles (d : Draft) (todo : List CountedEnsemble) : Type 0 where
  pub base : IsBase d
  pub ensembles : AreEnsembles (length d.names) (d.ensembles ++ todo)

abbrev pub put_ensemble : Draft → CountedEnsemble → Draft
put_ensemble d e = record d { ensembles = d.ensembles ++ e ∷ [] }

ensemble_next : (names : Line) (d : Draft) (c : CountedEnsemble) (todo : List CountedEnsemble) → FitEnsembles d (c ∷ todo) × (d.names ≡ names) → IsNext (ensemble_words names) put_ensemble (λ d todo. FitEnsembles d todo × (d.names ≡ names)) d c todo
unfolding step ensemble_step add_ensemble
ensemble_next names d c todo fits =
    let f = fits.0 in
    let e = f.ensembles in
    let members : are_members c.members ≡ true = All-at (λ (x : CountedEnsemble). are_members x.members ≡ true) d.ensembles c todo e.members in
    let some : 1 ≤ c.count = All-at (λ (x : CountedEnsemble). 1 ≤ x.count) d.ensembles c todo e.some in
    let within = All-at (λ (x : CountedEnsemble). AllByRecursion (λ (b : ℕ). b < length d.names) x.members) d.ensembles c todo e.named in
    let later = is_later-before (on (λ e. e.members) names_cmp) d.ensembles c todo e.order in
    let sum : ensembles_in d.ensembles + c.count ≤ 2 ^ 63 = sum_at (λ (x : CountedEnsemble). x.count) d.ensembles c todo e.within in
    let count : c.count ≤ 2 ^ 63 = omega (arith, sum) in
    let read = ensemble_again d.names c f.base.distinct some count within in
    let lines : ensemble_words names c ≡ ensemble_words d.names c = ap (λ ns. ensemble_words ns c) (sym fits.1) in
    record {
      step = record {
        first = codes "ensemble";
        words = behind_ensemble d.names c;
        is = lines;
        plain = subst IsPlainLine (sym lines) (refl, (decimal-plain c.count count, names-plain d.names c.members f.base.named within));
        other = refl;
        stepped = rw (f.base.judged, read, members, later, not_above (ensembles_in d.ensembles + c.count) sum) refl;
      };
      fits = (
        record {
          base = record { judged = f.base.judged; distinct = f.base.distinct; named = f.base.named; each = f.base.each };
          ensembles = subst (λ (es : List CountedEnsemble). AreEnsembles (length d.names) es) (sym (append_assoc d.ensembles (c ∷ []) todo)) e;
        },
        fits.1,
      );
    }

-- The drafts with these

put_all_entries : (d : Draft) (todo : List Counted) → added put_entries d todo ≡ record d { entries = d.entries ++ todo }
put_all_entries d [] = ap (λ es. record d { entries = es }) (sym (append-nil d.entries))
put_all_entries d (c ∷ todo) = put_all_entries (put_entries d c) todo ∙ ap (λ es. record d { entries = es }) (append_assoc d.entries (c ∷ []) todo)

put_all_tails : (d : Draft) (todo : List CountedTail) → added put_tail d todo ≡ record d { tails = d.tails ++ todo }
put_all_tails d [] = ap (λ ts. record d { tails = ts }) (sym (append-nil d.tails))
put_all_tails d (t ∷ todo) = put_all_tails (put_tail d t) todo ∙ ap (λ ts. record d { tails = ts }) (append_assoc d.tails (t ∷ []) todo)

put_all_ensembles : (d : Draft) (todo : List CountedEnsemble) → added put_ensemble d todo ≡ record d { ensembles = d.ensembles ++ todo }
put_all_ensembles d [] = ap (λ es. record d { ensembles = es }) (sym (append-nil d.ensembles))
put_all_ensembles d (e ∷ todo) = put_all_ensembles (put_ensemble d e) todo ∙ ap (λ es. record d { ensembles = es }) (append_assoc d.ensembles (e ∷ []) todo)

-- The groups

pub entries_group : (lines : ℕ) (d : Draft) (todo : List Counted) (parts : Line) → FitEntries d todo → 0 < length parts
    → body_at lines d (map spaced (map (entries_words d.names) todo) ++ parts) ≡ body_at (lines + length todo) (record d { entries = d.entries ++ todo }) parts
entries_group lines d todo parts fits some =
    group_again (entries_words d.names) put_entries (λ (x : Draft) (todo : List Counted). FitEntries x todo × (x.names ≡ d.names)) (entries_next d.names) lines d todo parts (fits, refl) some
    ∙ ap (λ x. body_at (lines + length todo) x parts) (put_all_entries d todo)

pub entries_plain : (d : Draft) (todo : List Counted) → FitEntries d todo → AllByRecursion IsPlainLine (map (entries_words d.names) todo)
entries_plain d todo fits = group_plain (entries_words d.names) put_entries (λ (x : Draft) (todo : List Counted). FitEntries x todo × (x.names ≡ d.names)) (entries_next d.names) d todo (fits, refl)

pub tails_group : (lines : ℕ) (d : Draft) (todo : List CountedTail) (parts : Line) → FitTails d todo → 0 < length parts
    → body_at lines d (map spaced (map (tail_words d.names) todo) ++ parts) ≡ body_at (lines + length todo) (record d { tails = d.tails ++ todo }) parts
tails_group lines d todo parts fits some =
    group_again (tail_words d.names) put_tail (λ (x : Draft) (todo : List CountedTail). FitTails x todo × (x.names ≡ d.names)) (tail_next d.names) lines d todo parts (fits, refl) some
    ∙ ap (λ x. body_at (lines + length todo) x parts) (put_all_tails d todo)

pub tails_plain : (d : Draft) (todo : List CountedTail) → FitTails d todo → AllByRecursion IsPlainLine (map (tail_words d.names) todo)
tails_plain d todo fits = group_plain (tail_words d.names) put_tail (λ (x : Draft) (todo : List CountedTail). FitTails x todo × (x.names ≡ d.names)) (tail_next d.names) d todo (fits, refl)

pub ensembles_group : (lines : ℕ) (d : Draft) (todo : List CountedEnsemble) (parts : Line) → FitEnsembles d todo → 0 < length parts
    → body_at lines d (map spaced (map (ensemble_words d.names) todo) ++ parts) ≡ body_at (lines + length todo) (record d { ensembles = d.ensembles ++ todo }) parts
ensembles_group lines d todo parts fits some =
    group_again (ensemble_words d.names) put_ensemble (λ (x : Draft) (todo : List CountedEnsemble). FitEnsembles x todo × (x.names ≡ d.names)) (ensemble_next d.names) lines d todo parts (fits, refl) some
    ∙ ap (λ x. body_at (lines + length todo) x parts) (put_all_ensembles d todo)

pub ensembles_plain : (d : Draft) (todo : List CountedEnsemble) → FitEnsembles d todo → AllByRecursion IsPlainLine (map (ensemble_words d.names) todo)
ensembles_plain d todo fits = group_plain (ensemble_words d.names) put_ensemble (λ (x : Draft) (todo : List CountedEnsemble). FitEnsembles x todo × (x.names ≡ d.names)) (ensemble_next d.names) d todo (fits, refl)

-- Bookies

-- a bookie's line, where racks go by these names
abbrev pub told : Line → List ℕ × Bookie → BookieLine
told racks p = record { name = p.0; is_registered = p.1.is_registered; is_read_only = p.1.is_read_only; is_empty = p.1.is_empty; rack = rack_told racks p.1.rack }

abbrev pub put_bookie : Line → Draft → List ℕ × Bookie → Draft
put_bookie racks d p = with_bookie d (told racks p)

abbrev pub firsts : List (List ℕ × Bookie) → Line
firsts ps = map (λ p. p.0) ps

abbrev pub seconds : List (List ℕ × Bookie) → List Bookie
seconds ps = map (λ p. p.1) ps

pub record FitBookies (racks : Line) (d : Draft) (todo : List (List ℕ × Bookie)) : Type 0 where
  pub early : d.judged ≡ None
  pub few : length (d.names ++ firsts todo) ≤ MAX_NAMES
  pub apart : IsDistinct bytes_eq (d.names ++ firsts todo)
  pub named : AllByRecursion (λ (name : List ℕ). is_name name ≡ true) (firsts todo)
  pub order : InOrder names_cmp (d.names ++ firsts todo)
  pub racks_apart : IsDistinct bytes_eq racks
  pub racks_named : AllByRecursion (λ (name : List ℕ). is_name name ≡ true) racks
  pub count : ℕ
  pub so_far : d.racks ≡ take count racks
  pub within : count ≤ length racks
  pub numbered : AreNumbered count (seconds todo) (length racks)

rack_words_told : (racks : Line) (rack : Option ℕ) → rack_words racks rack ≡ racked (rack_told racks rack)
rack_words_told racks None = refl
rack_words_told racks (Some r) = refl

rack_named : (racks : Line) (rack : Option ℕ) → AllByRecursion (λ (name : List ℕ). is_name name ≡ true) racks → IfSome rack (λ r. r < length racks) → IfSome (rack_told racks rack) (λ name. is_name name ≡ true)
rack_named racks None named within = tt
rack_named racks (Some r) named within = subst (λ (name : List ℕ). is_name name ≡ true) (sym (unwrap_or-slice_get racks r [])) (all_get (λ name. is_name name ≡ true) racks r named within)

rack_within : (rack : Option ℕ) (n m : ℕ) → next_rack n rack ≤ m → IfSome rack (λ r. r < m)
rack_within None n m up = tt
rack_within (Some r) n m up = omega arith

up_plain : (up : Bool) → IsPlain (up_word up)
up_plain true = refl
up_plain false = refl

flag_plain : (flag : Bool) (word : List ℕ) → IsPlain word → ArePlain (word_if flag word)
flag_plain true word plain = (plain, tt)
flag_plain false word plain = tt

racked_plain : (rack : Option (List ℕ)) → IfSome rack (λ name. is_name name ≡ true) → ArePlain (racked rack)
racked_plain None named = tt
racked_plain (Some name) named = (refl, (name-plain name named, tt))

bookie_next : (racks : Line) (d : Draft) (p : List ℕ × Bookie) (todo : List (List ℕ × Bookie)) → FitBookies racks d (p ∷ todo)
    → IsNext (λ (p : List ℕ × Bookie). bookie_words racks p.0 p.1) (put_bookie racks) (FitBookies racks) d p todo
unfolding step bookie_step add_bookie
bookie_next racks d p todo fits =
    let name = p.0 in
    let b = p.1 in
    let up = numbered-up (next_rack fits.count b.rack) (seconds todo) (length racks) fits.numbered.1 in
    let again = rack_again racks fits.count b.rack fits.racks_apart fits.numbered.0 up.0 fits.within in
    let line = told racks p in
    let named : is_name name ≡ true = fits.named.0 in
    let rack_fits = rack_named racks b.rack fits.racks_named (rack_within b.rack fits.count (length racks) up.0) in
    let read = bookie_line_again line named rack_fits in
    let room : nat_le MAX_NAMES (length d.names) ≡ false = grind (arith, nat_tests, fits.few, length-append d.names (name ∷ firsts todo)) in
    let later = is_later-before names_cmp d.names name (firsts todo) fits.order in
    let new : list_any (bytes_eq name) d.names ≡ false = new-before d.names name (firsts todo) fits.apart in
    let grouped = append_assoc d.names (name ∷ []) (firsts todo) in
    let words : bookie_words racks name b ≡ codes "bookie" ∷ behind_bookie line =
    ap (λ ws. codes "bookie" ∷ name ∷ up_word b.is_registered ∷ (word_if b.is_read_only (codes "read-only") ++ (word_if b.is_empty (codes "empty") ++ ws))) (rack_words_told racks b.rack) in
    record {
      step = record {
        first = codes "bookie";
        words = behind_bookie line;
        is = words;
        plain = subst IsPlainLine (sym words) (
          refl,
          (
            name-plain name named,
            (
              up_plain b.is_registered,
              ArePlain-append (word_if b.is_read_only (codes "read-only")) (word_if b.is_empty (codes "empty") ++ racked line.rack) (flag_plain b.is_read_only (codes "read-only") refl)
                  (ArePlain-append (word_if b.is_empty (codes "empty")) (racked line.rack) (flag_plain b.is_empty (codes "empty") refl) (racked_plain line.rack rack_fits)),
            ),
          ),
        );
        other = refl;
        stepped = rw (ap is_some fits.early, read, room, later, new) refl;
      };
      fits = record {
        early = fits.early;
        few = subst (λ (names : Line). length names ≤ MAX_NAMES) (sym grouped) fits.few;
        apart = subst (λ (names : Line). IsDistinct bytes_eq names) (sym grouped) fits.apart;
        named = fits.named.1;
        order = subst (λ (names : Line). InOrder names_cmp names) (sym grouped) fits.order;
        racks_apart = fits.racks_apart;
        racks_named = fits.racks_named;
        count = next_rack fits.count b.rack;
        so_far = ap (λ rs. racks_with rs line.rack) fits.so_far ∙ again.with;
        within = up.0;
        numbered = fits.numbered.1;
      };
    }

-- all of them
put_all_bookies : (racks : Line) (d : Draft) (todo : List (List ℕ × Bookie)) → FitBookies racks d todo → added (put_bookie racks) d todo ≡ record d { names = d.names ++ firsts todo; racks = racks; bookies = d.bookies ++ seconds todo }
put_all_bookies racks d [] fits =
    let all : d.racks ≡ racks = fits.so_far ∙ ap (λ n. take n racks) fits.numbered ∙ take-length racks in
    let names : d.names ≡ d.names ++ [] = sym (append-nil d.names) in
    let bookies : d.bookies ≡ d.bookies ++ [] = sym (append-nil d.bookies) in
    λ i. record d { names = names i; racks = all i; bookies = bookies i }
put_all_bookies racks d (p ∷ todo) fits =
    let up = numbered-up (next_rack fits.count p.1.rack) (seconds todo) (length racks) fits.numbered.1 in
    let again = rack_again racks fits.count p.1.rack fits.racks_apart fits.numbered.0 up.0 fits.within in
    let number : option_map (rack_number d.racks) (rack_told racks p.1.rack) ≡ p.1.rack = ap (λ rs. option_map (rack_number rs) (rack_told racks p.1.rack)) fits.so_far ∙ again.number in
    let made : Bookie = record { is_registered = p.1.is_registered; is_read_only = p.1.is_read_only; is_empty = p.1.is_empty; rack = option_map (rack_number d.racks) (rack_told racks p.1.rack) } in
    let names : (d.names ++ p.0 ∷ []) ++ firsts todo ≡ d.names ++ p.0 ∷ firsts todo = append_assoc d.names (p.0 ∷ []) (firsts todo) in
    let bookies : (d.bookies ++ made ∷ []) ++ seconds todo ≡ d.bookies ++ p.1 ∷ seconds todo =
    append_assoc d.bookies (made ∷ []) (seconds todo) ∙ ap (λ r. d.bookies ++ (record { is_registered = p.1.is_registered; is_read_only = p.1.is_read_only; is_empty = p.1.is_empty; rack = r }) ∷ seconds todo) number in
    put_all_bookies racks (put_bookie racks d p) todo (bookie_next racks d p todo fits).fits ∙ (λ i. record d { names = names i; racks = racks; bookies = bookies i })

pub bookies_group : (racks : Line) (lines : ℕ) (d : Draft) (todo : List (List ℕ × Bookie)) (parts : Line) → FitBookies racks d todo → 0 < length parts
    → body_at lines d (map spaced (map (λ (p : List ℕ × Bookie). bookie_words racks p.0 p.1) todo) ++ parts) ≡ body_at (lines + length todo) (record d { names = d.names ++ firsts todo; racks = racks; bookies = d.bookies ++ seconds todo }) parts
bookies_group racks lines d todo parts fits some =
    group_again (λ (p : List ℕ × Bookie). bookie_words racks p.0 p.1) (put_bookie racks) (FitBookies racks) (bookie_next racks) lines d todo parts fits some
    ∙ ap (λ x. body_at (lines + length todo) x parts) (put_all_bookies racks d todo fits)

pub bookies_plain : (racks : Line) (d : Draft) (todo : List (List ℕ × Bookie)) → FitBookies racks d todo → AllByRecursion IsPlainLine (map (λ (p : List ℕ × Bookie). bookie_words racks p.0 p.1) todo)
bookies_plain racks d todo fits = group_plain (λ (p : List ℕ × Bookie). bookie_words racks p.0 p.1) (put_bookie racks) (FitBookies racks) (bookie_next racks) d todo fits

-- Ledgers

pub judged_plain : (j : Judged) → IsJudged j → IsPlainLine (judged_words j)
judged_plain j fits =
    (refl, (decimal-plain j.ledgers fits.ledgers, (refl, (decimal-plain j.assumed fits.assumed, (refl, (decimal-plain j.unread (omega (arith, fits.not_judged)), (refl, (decimal-plain j.missing (omega (arith, fits.not_judged)), tt))))))))

pub judged_line_again : (lines : ℕ) (d : Draft) (j : Judged) (parts : Line) → d.judged ≡ None → IsJudged j → 0 < length parts → body_at lines d (spaced (judged_words j) ∷ parts) ≡ body_at (lines + 1) (record d { judged = Some j }) parts
unfolding step judged_step add_judged
judged_line_again lines d j parts early fits some =
    let unread : j.unread ≤ 2 ^ 63 = omega (arith, fits.not_judged) in
    let missing : j.missing ≤ 2 ^ 63 = omega (arith, fits.not_judged) in
    let read = judged_again j fits.ledgers fits.assumed unread missing in
    let few : nat_le (not_judged j) (2 ^ 63) ≡ true = grind (arith, nat_tests, fits.not_judged) in
    line_again lines d (record d { judged = Some j }) (judged_words j) parts (record {
      first = codes "ledgers";
      words = behind_ledgers j;
      is = refl;
      plain = judged_plain j fits;
      other = refl;
      stepped = rw (ap is_some early, read, few) refl;
    }) some
