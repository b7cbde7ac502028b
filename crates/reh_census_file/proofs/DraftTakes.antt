-- What a line adds is what it says, and keeps a draft canonical.
use Rattle.std.proofs.Common.{◌≡◌, ℕ, ◌+◌, ◌^◌, ◌<◌, ◌≤◌, Bool, true, false, cond, not, List, [], ◌∷◌, ◌++◌, length, map, Option, Some, None, Result, Ok, Err, refl, sym, ap, subst, ◌∙◌, arith, length-append}
use Rattle.std.specs.Prelude.{codes, IfSome, is_some, nat_le, nat_lt, ◌&&◌, ◌==◌}
use Rattle.std.specs.List.{AllByRecursion, list_any, sum_by}
use Rattle.std.specs.Option.{option_map}
use Rattle.std.specs.Ordering.{on}
use Rattle.std.specs.Str.{bytes_eq}
use Rattle.std.proofs.lemmas.Bool.{false≢true}
use Rattle.std.proofs.lemmas.Bool.Decides.{nat_tests}
use Rattle.std.proofs.lemmas.List.{append-nil, nil_from_length}
use Rattle.std.proofs.lemmas.List.Sums.{sum_by-append}
use Rattle.std.proofs.lemmas.Slice.Eq.{bytes_eq-Decides}
use mathlib.Core.List.{append_assoc}
use Rattle.reh_census.specs.declared.bookies.Bookie.{Bookie}
use Rattle.reh_census.specs.declared.censuses.CountedEnsemble.{CountedEnsemble}
use Rattle.reh_census.specs.declared.censuses.CountedTail.{CountedTail}
use Rattle.reh_census.specs.declared.censuses.Judged.{Judged}
use Rattle.reh_census.specs.declared.classes.Counted.{Counted}
use Rattle.reh_census.specs.Counting.{ensembles_in, entries_in, not_judged, tails_in}
use Rattle.reh_census.specs.Order.{class_cmp, names_cmp, tail_cmp}
use Rattle.reh_census_file.specs.declared.faults.Expected.{Expected}
use Rattle.reh_census_file.specs.declared.faults.Expected.TheVariants as expected
use Rattle.reh_census_file.specs.declared.lists.TheConstants.{MAX_NAMES}
use Rattle.reh_census_file.specs.Canonical.{AreEnsembles, AreEntries, AreTails, AreNumbered, is_name, are_quorums, are_copies, are_sizes, are_members}
use Rattle.reh_census_file.specs.Drafts.{Draft, part_of, other_line, is_later, rack_number, racks_with, with_bookie, add_bookie, add_judged, add_entries, add_tail, add_ensemble, bookie_step, judged_step, entries_step, tail_step, ensemble_step, step}
use Rattle.reh_census_file.specs.LineReading.{BookieLine, bookie_line_at, judged_at, entries_at, tail_at, ensemble_at}
use Rattle.reh_census_file.specs.Names.{IsNameList}
use Rattle.reh_census_file.specs.Reading.{◌>>=◌}
use Rattle.reh_census_file.specs.Texts.{bookie_words, judged_words, entries_words, tail_words, ensemble_words, up_word, word_if}
use Rattle.reh_census_file.proofs.LineTakes.{IsBookieLine, IsJudgedLine, IsEntriesLine, IsTailLine, IsEnsembleLine, bookie_line_takes, judged_takes, entries_take, tail_takes, ensemble_takes}
use Rattle.reh_census_file.proofs.OrderLaws.{InOrder-push, All-push, IsDistinct-push}
use Rattle.reh_census_file.proofs.RackLaws.{is_racked, lines_by, lines_by-more, lines_by-push, numbered-up, numbered-push}
use Rattle.reh_census_file.proofs.Steps.{draft_words, judged_lines, AreEarly, IsFine}
use Rattle.reh_census_file.proofs.TokenLaws.{bind_ok, passed, ok_is}

abbrev pub Line : Type 0
Line = List (List ℕ)

-- what a line does
pub record Tells (d : Draft) (line : Line) (more : Draft) : Type 0 where
  pub fine : IsFine more
  pub words : draft_words more ≡ draft_words d ++ line ∷ []

-- a test that passed where it should not have failed
stayed : {A : Type 0} (b : Bool) (what : Expected) (x : Result A Expected) (y : A) → cond b (Err what) x ≡ Ok y → (b ≡ false) × (x ≡ Ok y)
stayed true what x y e = absurd cc
stayed false what x y e = (refl, e)

not_false : (b : Bool) → not b ≡ false → b ≡ true
not_false true e = refl
not_false false e = absurd cc

-- one more at the end of a group
pushed : {X : Type 0} (words : X → Line) (xs : List X) (x : X) → map words (xs ++ x ∷ []) ≡ map words xs ++ words x ∷ []
pushed words [] x = refl
pushed words (y ∷ xs) x = ap (λ ls. words y ∷ ls) (pushed words xs x)

-- lines group by group
regroup_entries : (a b c l : List Line) → a ++ (b ++ (c ++ l)) ≡ (a ++ (b ++ c)) ++ l
regroup_entries a b c l = simp append_assoc

regroup_tails : (a b c t l : List Line) → a ++ (b ++ (c ++ (t ++ l))) ≡ (a ++ (b ++ (c ++ t))) ++ l
regroup_tails a b c t l = simp append_assoc

regroup_ensembles : (a b c t x l : List Line) → a ++ (b ++ (c ++ (t ++ (x ++ l)))) ≡ (a ++ (b ++ (c ++ (t ++ x)))) ++ l
regroup_ensembles a b c t x l = simp append_assoc

-- Bookies

early_words : (d : Draft) → d.judged ≡ None → AreEarly d → draft_words d ≡ lines_by d.racks d.names d.bookies
early_words d none early =
    let lines = lines_by d.racks d.names d.bookies in
    ap (λ j. lines ++ (judged_lines j ++ (map (entries_words d.names) d.entries ++ (map (tail_words d.names) d.tails ++ map (ensemble_words d.names) d.ensembles)))) none
    ∙ ap (λ es. lines ++ (map (entries_words d.names) es ++ (map (tail_words d.names) d.tails ++ map (ensemble_words d.names) d.ensembles))) early.entries
    ∙ ap (λ ts. lines ++ (map (tail_words d.names) ts ++ map (ensemble_words d.names) d.ensembles)) early.tails
    ∙ ap (λ es. lines ++ map (ensemble_words d.names) es) early.ensembles
    ∙ append-nil lines

some_is : {A : Type 0} (o : Option A) → is_some o ≡ false → o ≡ None
some_is None e = refl
some_is (Some x) e = absurd cc

-- what is to be, of no entries
no_entries : (bookies : List Bookie) (entries : List Counted) → entries ≡ [] → AreEntries bookies entries
no_entries bookies entries none = subst (λ (es : List Counted). AreEntries bookies es) (sym none) (record { some = tt; quorums = tt; copies = tt; order = λ k d within. absurd (omega arith); within = omega arith })

no_tails : (n : ℕ) (tails : List CountedTail) → tails ≡ [] → AreTails n tails
no_tails n tails none = subst (λ (ts : List CountedTail). AreTails n ts) (sym none) (record { some = tt; sizes = tt; whole = tt; named = tt; order = λ k d within. absurd (omega arith); within = omega arith })

no_ensembles : (n : ℕ) (ensembles : List CountedEnsemble) → ensembles ≡ [] → AreEnsembles n ensembles
no_ensembles n ensembles none = subst (λ (es : List CountedEnsemble). AreEnsembles n es) (sym none) (record { some = tt; members = tt; named = tt; order = λ k d within. absurd (omega arith); within = omega arith })

abbrev bookie_of : Draft → BookieLine → Bookie
bookie_of d line = record { is_registered = line.is_registered; is_read_only = line.is_read_only; is_empty = line.is_empty; rack = option_map (rack_number d.racks) line.rack }

-- the names of racks with a bookie's
racks_fine : (racks : List (List ℕ)) (rack : Option (List ℕ)) → IsNameList racks → AllByRecursion (λ (name : List ℕ). is_name name ≡ true) racks → IfSome rack (λ name. is_name name ≡ true) → length (racks_with racks rack) ≤ MAX_NAMES
    → IsNameList (racks_with racks rack) × AllByRecursion (λ (name : List ℕ). is_name name ≡ true) (racks_with racks rack)
racks_fine racks None list named one few = (list, named)
racks_fine racks (Some name) list named one few =
    elim (list_any (bytes_eq name) racks) as (λ t. list_any (bytes_eq name) racks ≡ t → length (cond t racks (racks ++ name ∷ [])) ≤ MAX_NAMES → IsNameList (cond t racks (racks ++ name ∷ [])) × AllByRecursion (λ (name : List ℕ). is_name name ≡ true) (cond t racks (racks ++ name ∷ []))) [
      | true ↦ λ e few. (list, named)
      | false ↦ λ e few. (record { few = few; different = IsDistinct-push racks name list.different e }, All-push (λ (name : List ℕ). is_name name ≡ true) racks name named one)
    ] refl few

add_bookie_tells : (d : Draft) (line : BookieLine) (words : Line) (more : Draft) → IsFine d → d.judged ≡ None → IsBookieLine line words → add_bookie d line ≡ Ok more → Tells d (codes "bookie" ∷ words) more
unfolding add_bookie
add_bookie_tells d line words more fine none said e =
    let a = stayed (nat_le MAX_NAMES (length d.names)) expected.FewBookies (cond (not (is_later names_cmp d.names line.name)) (Err expected.LaterBookie) (cond (list_any (bytes_eq line.name) d.names) (Err expected.LaterBookie) (Ok (with_bookie d line)))) more e in
    let b = stayed (not (is_later names_cmp d.names line.name)) expected.LaterBookie (cond (list_any (bytes_eq line.name) d.names) (Err expected.LaterBookie) (Ok (with_bookie d line))) more a.1 in
    let c = stayed (list_any (bytes_eq line.name) d.names) expected.LaterBookie (Ok (with_bookie d line)) more b.1 in
    let early = fine.early none in
    let r = is_racked d.racks line.rack in
    let made = bookie_of d line in
    let names = d.names ++ line.name ∷ [] in
    let bookies = d.bookies ++ made ∷ [] in
    let racks = racks_with d.racks line.rack in
    let old = fine.bookies in
    let room : length d.names < MAX_NAMES = grind (arith, nat_tests, a.0) in
    let each : length bookies ≡ length names = omega (arith, length-append d.bookies (made ∷ []), length-append d.names (line.name ∷ []), old.each) in
    let numbered : AreNumbered 0 bookies (length racks) = subst (λ (n : ℕ). AreNumbered 0 bookies n) r.count (numbered-push 0 d.bookies (length d.racks) made old.numbered r.fits) in
    let few : length racks ≤ MAX_NAMES = omega (arith, (numbered-up 0 bookies (length racks) numbered).1, each, length-append d.names (line.name ∷ []), room) in
    let rf = racks_fine d.racks line.rack old.few_racks old.racked said.racked few in
    let told : with_bookie d line ≡ more = ok_is (with_bookie d line) more c.1 in
    let lines : draft_words (with_bookie d line) ≡ draft_words d ++ (codes "bookie" ∷ words) ∷ [] =
    early_words (with_bookie d line) none (record { entries = early.entries; tails = early.tails; ensembles = early.ensembles })
    ∙ lines_by-push racks d.names d.bookies line.name made old.each
    ∙ ap (λ ls. ls ++ bookie_words racks line.name made ∷ []) (ap (λ rs. lines_by rs d.names d.bookies) r.goes_on ∙ lines_by-more d.racks r.more d.names d.bookies 0 (length d.racks) old.numbered (omega arith))
    ∙ ap (λ w. lines_by d.racks d.names d.bookies ++ w ∷ []) (ap (λ ws. codes "bookie" ∷ line.name ∷ up_word line.is_registered ∷ (word_if line.is_read_only (codes "read-only") ++ (word_if line.is_empty (codes "empty") ++ ws))) r.words ∙ sym said.parts)
    ∙ ap (λ ls. ls ++ (codes "bookie" ∷ words) ∷ []) (sym (early_words d none early)) in
    subst (λ (m : Draft). Tells d (codes "bookie" ∷ words) m) told (record {
      fine = record {
        bookies = record {
          few_names = record { few = omega (arith, length-append d.names (line.name ∷ []), room); different = IsDistinct-push d.names line.name old.few_names.different c.0 };
          named = All-push (λ (name : List ℕ). is_name name ≡ true) d.names line.name old.named said.named;
          order = InOrder-push names_cmp d.names line.name old.order (not_false _ b.0);
          each = each;
          few_racks = rf.0;
          racked = rf.1;
          numbered = numbered;
        };
        judged = fine.judged;
        entries = no_entries bookies d.entries early.entries;
        tails = no_tails (length names) d.tails early.tails;
        ensembles = no_ensembles (length names) d.ensembles early.ensembles;
        early = λ none. record { entries = early.entries; tails = early.tails; ensembles = early.ensembles };
      };
      words = lines;
    })

bookie_tells : (d : Draft) (words : Line) (more : Draft) → IsFine d → bookie_step d words ≡ Ok more → Tells d (codes "bookie" ∷ words) more
unfolding bookie_step
bookie_tells d words more fine e =
    let a = stayed (is_some d.judged) (expected.Line (part_of d)) (bookie_line_at words >>= λ line. add_bookie d line) more e in
    let b = bind_ok (bookie_line_at words) (λ line. add_bookie d line) more a.1 in
    add_bookie_tells d b.0 words more fine (some_is d.judged a.0) (bookie_line_takes words b.0 b.1) b.2

-- Ledgers

judged_tells : (d : Draft) (words : Line) (more : Draft) → IsFine d → judged_step d words ≡ Ok more → Tells d (codes "ledgers" ∷ words) more
unfolding judged_step add_judged
judged_tells d words more fine e =
    let a = stayed (is_some d.judged) (expected.Line (part_of d)) (judged_at words >>= λ judged. add_judged d judged) more e in
    let b = bind_ok (judged_at words) (λ judged. add_judged d judged) more a.1 in
    add b.0 (some_is d.judged a.0) (judged_takes words b.0 b.1) b.2
  where
    add : (judged : Judged) → d.judged ≡ None → IsJudgedLine judged words → add_judged d judged ≡ Ok more → Tells d (codes "ledgers" ∷ words) more
    add judged none said e =
        let a = passed (nat_le (not_judged judged) (2 ^ 63)) expected.FewNotJudged (Ok (record d { judged = Some judged })) more e in
        let early = fine.early none in
        let lines = lines_by d.racks d.names d.bookies in
        let made : Draft = record d { judged = Some judged } in
        subst (λ (m : Draft). Tells d (codes "ledgers" ∷ words) m) (ok_is made more a.1) (record {
          fine = record {
            bookies = fine.bookies;
            judged = record { ledgers = said.ledgers; assumed = said.assumed; not_judged = grind (arith, nat_tests, a.0) };
            entries = fine.entries;
            tails = fine.tails;
            ensembles = fine.ensembles;
            early = λ some. absurd cc;
          };
          words = ap (λ es. lines ++ (judged_words judged ∷ (map (entries_words d.names) es ++ (map (tail_words d.names) d.tails ++ map (ensemble_words d.names) d.ensembles)))) early.entries
              ∙ ap (λ ts. lines ++ (judged_words judged ∷ (map (tail_words d.names) ts ++ map (ensemble_words d.names) d.ensembles))) early.tails
              ∙ ap (λ es. lines ++ (judged_words judged ∷ map (ensemble_words d.names) es)) early.ensembles
              ∙ ap (λ w. lines ++ w ∷ []) (sym said.parts)
              ∙ ap (λ ls. ls ++ (codes "ledgers" ∷ words) ∷ []) (sym (early_words d none early));
        })

-- Entries

not_early : (d : Draft) → is_some d.judged ≡ true → d.judged ≡ None → AreEarly d
not_early d some none = absurd (false≢true (sym (ap is_some none) ∙ some))

both : (a b : Bool) → (a && b) ≡ true → (a ≡ true) × (b ≡ true)
both true true e = (refl, refl)
both true false e = absurd cc
both false b e = absurd cc

none_left : {X : Type 0} (xs : List X) → (length xs == 0) ≡ true → xs ≡ []
none_left xs e = nil_from_length xs (grind (arith, nat_tests))

within_more : {X : Type 0} (count : X → ℕ) (xs : List X) (x : X) → nat_lt (2 ^ 63) (sum_by count xs + count x) ≡ false → sum_by count (xs ++ x ∷ []) ≤ 2 ^ 63
within_more count xs x few = grind (arith, nat_tests, sum_by-append count xs (x ∷ []))

entries_tell : (d : Draft) (words : Line) (more : Draft) → IsFine d → entries_step d words ≡ Ok more → Tells d (codes "entries" ∷ words) more
unfolding entries_step add_entries
entries_tell d words more fine e =
    let a = passed (is_some d.judged && ((length d.tails == 0) && (length d.ensembles == 0))) (expected.Line (part_of d)) (entries_at d.names words >>= λ counted. add_entries d counted) more e in
    let h = both (is_some d.judged) ((length d.tails == 0) && (length d.ensembles == 0)) a.0 in
    let k = both (length d.tails == 0) (length d.ensembles == 0) h.1 in
    let b = bind_ok (entries_at d.names words) (λ counted. add_entries d counted) more a.1 in
    add b.0 h.0 (none_left d.tails k.0) (none_left d.ensembles k.1) (entries_take d.names words b.0 b.1) b.2
  where
    add : (counted : Counted) → is_some d.judged ≡ true → d.tails ≡ [] → d.ensembles ≡ [] → IsEntriesLine d.names counted words → add_entries d counted ≡ Ok more → Tells d (codes "entries" ∷ words) more
    add counted some no_tail no_ensemble said e =
        let made : Draft = record d { entries = d.entries ++ counted ∷ [] } in
        let last = cond (nat_lt (2 ^ 63) (entries_in d.entries + counted.count)) (Err expected.SmallerCounts) (Ok made) in
        let third = cond (not (is_later (on (λ c. c.class) class_cmp) d.entries counted)) (Err expected.LaterEntries) last in
        let a = stayed (not (are_quorums counted.class)) expected.Quorums (cond (not (are_copies d.bookies counted.class)) (Err expected.Copies) third) more e in
        let b = stayed (not (are_copies d.bookies counted.class)) expected.Copies third more a.1 in
        let c = stayed (not (is_later (on (λ c. c.class) class_cmp) d.entries counted)) expected.LaterEntries last more b.1 in
        let f = stayed (nat_lt (2 ^ 63) (entries_in d.entries + counted.count)) expected.SmallerCounts (Ok made) more c.1 in
        let lines = lines_by d.racks d.names d.bookies in
        let es = map (entries_words d.names) d.entries in
        subst (λ (m : Draft). Tells d (codes "entries" ∷ words) m) (ok_is made more f.1) (record {
          fine = record {
            bookies = fine.bookies;
            judged = fine.judged;
            entries = record {
              some = All-push (λ (x : Counted). 1 ≤ x.count) d.entries counted fine.entries.some said.some;
              quorums = All-push (λ (x : Counted). are_quorums x.class ≡ true) d.entries counted fine.entries.quorums (not_false _ a.0);
              copies = All-push (λ (x : Counted). are_copies d.bookies x.class ≡ true) d.entries counted fine.entries.copies (not_false _ b.0);
              order = InOrder-push (on (λ c. c.class) class_cmp) d.entries counted fine.entries.order (not_false _ c.0);
              within = within_more (λ c. c.count) d.entries counted f.0;
            };
            tails = fine.tails;
            ensembles = fine.ensembles;
            early = not_early made some;
          };
          words = ap (λ ls. lines ++ (judged_lines d.judged ++ (ls ++ (map (tail_words d.names) d.tails ++ map (ensemble_words d.names) d.ensembles)))) (pushed (entries_words d.names) d.entries counted)
              ∙ ap (λ ts. lines ++ (judged_lines d.judged ++ ((es ++ entries_words d.names counted ∷ []) ++ (map (tail_words d.names) ts ++ map (ensemble_words d.names) d.ensembles)))) no_tail
              ∙ ap (λ ts. lines ++ (judged_lines d.judged ++ ((es ++ entries_words d.names counted ∷ []) ++ map (ensemble_words d.names) ts))) no_ensemble
              ∙ ap (λ ls. lines ++ (judged_lines d.judged ++ ls)) (append-nil (es ++ entries_words d.names counted ∷ []))
              ∙ ap (λ w. lines ++ (judged_lines d.judged ++ (es ++ w ∷ []))) (sym said.parts)
              ∙ regroup_entries lines (judged_lines d.judged) es ((codes "entries" ∷ words) ∷ [])
              ∙ ap (λ ls. (lines ++ (judged_lines d.judged ++ ls)) ++ (codes "entries" ∷ words) ∷ []) (sym (append-nil es)
              ∙ ap (λ ts. es ++ map (ensemble_words d.names) ts) (sym no_ensemble) ∙ ap (λ ts. es ++ (map (tail_words d.names) ts ++ map (ensemble_words d.names) d.ensembles)) (sym no_tail));
        })

-- Tails

tail_tells : (d : Draft) (words : Line) (more : Draft) → IsFine d → tail_step d words ≡ Ok more → Tells d (codes "tail" ∷ words) more
unfolding tail_step add_tail
tail_tells d words more fine e =
    let a = passed (is_some d.judged && (length d.ensembles == 0)) (expected.Line (part_of d)) (tail_at d.names words >>= λ counted. add_tail d counted) more e in
    let h = both (is_some d.judged) (length d.ensembles == 0) a.0 in
    let b = bind_ok (tail_at d.names words) (λ counted. add_tail d counted) more a.1 in
    add b.0 h.0 (none_left d.ensembles h.1) (tail_takes d.names words b.0 b.1) b.2
  where
    add : (counted : CountedTail) → is_some d.judged ≡ true → d.ensembles ≡ [] → IsTailLine d.names counted words → add_tail d counted ≡ Ok more → Tells d (codes "tail" ∷ words) more
    add counted some no_ensemble said e =
        let made : Draft = record d { tails = d.tails ++ counted ∷ [] } in
        let last = cond (nat_lt (2 ^ 63) (tails_in d.tails + counted.count)) (Err expected.SmallerCounts) (Ok made) in
        let a = stayed (not (are_sizes counted.tail)) expected.Sizes (cond (not (is_later (on (λ t. t.tail) tail_cmp) d.tails counted)) (Err expected.LaterTail) last) more e in
        let c = stayed (not (is_later (on (λ t. t.tail) tail_cmp) d.tails counted)) expected.LaterTail last more a.1 in
        let f = stayed (nat_lt (2 ^ 63) (tails_in d.tails + counted.count)) expected.SmallerCounts (Ok made) more c.1 in
        let lines = lines_by d.racks d.names d.bookies in
        let es = map (entries_words d.names) d.entries in
        let ts = map (tail_words d.names) d.tails in
        subst (λ (m : Draft). Tells d (codes "tail" ∷ words) m) (ok_is made more f.1) (record {
          fine = record {
            bookies = fine.bookies;
            judged = fine.judged;
            entries = fine.entries;
            tails = record {
              some = All-push (λ (x : CountedTail). 1 ≤ x.count) d.tails counted fine.tails.some said.some;
              sizes = All-push (λ (x : CountedTail). are_sizes x.tail ≡ true) d.tails counted fine.tails.sizes (not_false _ a.0);
              whole = All-push (λ (x : CountedTail). length x.tail.ensemble ≡ x.tail.size) d.tails counted fine.tails.whole said.whole;
              named = All-push (λ (x : CountedTail). AllByRecursion (λ (b : ℕ). b < length d.names) x.tail.ensemble) d.tails counted fine.tails.named said.within;
              order = InOrder-push (on (λ t. t.tail) tail_cmp) d.tails counted fine.tails.order (not_false _ c.0);
              within = within_more (λ t. t.count) d.tails counted f.0;
            };
            ensembles = fine.ensembles;
            early = not_early made some;
          };
          words = ap (λ ls. lines ++ (judged_lines d.judged ++ (es ++ (ls ++ map (ensemble_words d.names) d.ensembles)))) (pushed (tail_words d.names) d.tails counted)
              ∙ ap (λ xs. lines ++ (judged_lines d.judged ++ (es ++ ((ts ++ tail_words d.names counted ∷ []) ++ map (ensemble_words d.names) xs)))) no_ensemble
              ∙ ap (λ ls. lines ++ (judged_lines d.judged ++ (es ++ ls))) (append-nil (ts ++ tail_words d.names counted ∷ []))
              ∙ ap (λ w. lines ++ (judged_lines d.judged ++ (es ++ (ts ++ w ∷ [])))) (sym said.parts)
              ∙ regroup_tails lines (judged_lines d.judged) es ts ((codes "tail" ∷ words) ∷ [])
              ∙ ap (λ ls. (lines ++ (judged_lines d.judged ++ (es ++ ls))) ++ (codes "tail" ∷ words) ∷ []) (sym (append-nil ts) ∙ ap (λ xs. ts ++ map (ensemble_words d.names) xs) (sym no_ensemble));
        })

-- Ensembles

ensemble_tells : (d : Draft) (words : Line) (more : Draft) → IsFine d → ensemble_step d words ≡ Ok more → Tells d (codes "ensemble" ∷ words) more
unfolding ensemble_step add_ensemble
ensemble_tells d words more fine e =
    let a = passed (is_some d.judged) (expected.Line (part_of d)) (ensemble_at d.names words >>= λ counted. add_ensemble d counted) more e in
    let b = bind_ok (ensemble_at d.names words) (λ counted. add_ensemble d counted) more a.1 in
    add b.0 a.0 (ensemble_takes d.names words b.0 b.1) b.2
  where
    add : (counted : CountedEnsemble) → is_some d.judged ≡ true → IsEnsembleLine d.names counted words → add_ensemble d counted ≡ Ok more → Tells d (codes "ensemble" ∷ words) more
    add counted some said e =
        let made : Draft = record d { ensembles = d.ensembles ++ counted ∷ [] } in
        let last = cond (nat_lt (2 ^ 63) (ensembles_in d.ensembles + counted.count)) (Err expected.SmallerCounts) (Ok made) in
        let a = stayed (not (are_members counted.members)) expected.Members (cond (not (is_later (on (λ e. e.members) names_cmp) d.ensembles counted)) (Err expected.LaterEnsemble) last) more e in
        let c = stayed (not (is_later (on (λ e. e.members) names_cmp) d.ensembles counted)) expected.LaterEnsemble last more a.1 in
        let f = stayed (nat_lt (2 ^ 63) (ensembles_in d.ensembles + counted.count)) expected.SmallerCounts (Ok made) more c.1 in
        let lines = lines_by d.racks d.names d.bookies in
        let es = map (entries_words d.names) d.entries in
        let ts = map (tail_words d.names) d.tails in
        let xs = map (ensemble_words d.names) d.ensembles in
        subst (λ (m : Draft). Tells d (codes "ensemble" ∷ words) m) (ok_is made more f.1) (record {
          fine = record {
            bookies = fine.bookies;
            judged = fine.judged;
            entries = fine.entries;
            tails = fine.tails;
            ensembles = record {
              some = All-push (λ (x : CountedEnsemble). 1 ≤ x.count) d.ensembles counted fine.ensembles.some said.some;
              members = All-push (λ (x : CountedEnsemble). are_members x.members ≡ true) d.ensembles counted fine.ensembles.members (not_false _ a.0);
              named = All-push (λ (x : CountedEnsemble). AllByRecursion (λ (b : ℕ). b < length d.names) x.members) d.ensembles counted fine.ensembles.named said.within;
              order = InOrder-push (on (λ e. e.members) names_cmp) d.ensembles counted fine.ensembles.order (not_false _ c.0);
              within = within_more (λ e. e.count) d.ensembles counted f.0;
            };
            early = not_early made some;
          };
          words = ap (λ ls. lines ++ (judged_lines d.judged ++ (es ++ (ts ++ ls)))) (pushed (ensemble_words d.names) d.ensembles counted)
              ∙ ap (λ w. lines ++ (judged_lines d.judged ++ (es ++ (ts ++ (xs ++ w ∷ []))))) (sym said.parts)
              ∙ regroup_ensembles lines (judged_lines d.judged) es ts xs ((codes "ensemble" ∷ words) ∷ []);
        })

-- All lines

pub step_tells : (d : Draft) (first : List ℕ) (words : Line) (more : Draft) → IsFine d → step d first words ≡ Ok more → Tells d (first ∷ words) more
unfolding step
step_tells d first words more fine e =
    go (bytes_eq first (codes "bookie")) (bytes_eq first (codes "ledgers")) (bytes_eq first (codes "entries")) (bytes_eq first (codes "tail")) (bytes_eq first (codes "ensemble")) refl refl refl refl refl e
  where
    at : (word : List ℕ) → bytes_eq first word ≡ true → Tells d (word ∷ words) more → Tells d (first ∷ words) more
    at word same tells = subst (λ (w : List ℕ). Tells d (w ∷ words) more) (sym ((bytes_eq-Decides first word).0 same)) tells

    go : (a b c f g : Bool) → bytes_eq first (codes "bookie") ≡ a → bytes_eq first (codes "ledgers") ≡ b → bytes_eq first (codes "entries") ≡ c → bytes_eq first (codes "tail") ≡ f → bytes_eq first (codes "ensemble") ≡ g
        → cond a (bookie_step d words) (cond b (judged_step d words) (cond c (entries_step d words) (cond f (tail_step d words) (cond g (ensemble_step d words) (other_line d))))) ≡ Ok more → Tells d (first ∷ words) more
    go true b c f g ea eb ec ef eg e = at (codes "bookie") ea (bookie_tells d words more fine e)
    go false true c f g ea eb ec ef eg e = at (codes "ledgers") eb (judged_tells d words more fine e)
    go false false true f g ea eb ec ef eg e = at (codes "entries") ec (entries_tell d words more fine e)
    go false false false true g ea eb ec ef eg e = at (codes "tail") ef (tail_tells d words more fine e)
    go false false false false true ea eb ec ef eg e = at (codes "ensemble") eg (ensemble_tells d words more fine e)
    go false false false false false ea eb ec ef eg e = absurd cc
