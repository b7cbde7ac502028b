-- Racks, by the order in which bookies first name them.
use Rattle.std.proofs.Common.{◌≡◌, ℕ, suc, ◌+◌, ◌<◌, ◌≤◌, Bool, true, false, cond, List, [], ◌∷◌, ◌++◌, length, map, Option, Some, None, position, unwrap_or, refl, sym, ap, subst, ◌∙◌, arith, length-append}
use Rattle.std.specs.Prelude.{codes, IfSome, not, ◌||◌}
use Rattle.std.specs.List.{list_any, position_or_len, zip}
use Rattle.std.specs.Option.{option_map}
use Rattle.std.specs.Str.{bytes_eq}
use Rattle.std.proofs.Math.Seq.{get_or-append_seam}
use Rattle.std.proofs.lemmas.List.{get_or_append_left, append-nil}
use Rattle.std.proofs.lemmas.List.Folds.{list_any_at}
use Rattle.std.proofs.lemmas.List.Quantifiers.{position-Some}
use Rattle.std.proofs.lemmas.Option.{unwrap_or-slice_get}
use Rattle.reh_census.specs.declared.bookies.Bookie.{Bookie}
use Rattle.reh_census_file.specs.Canonical.{AreNumbered, next_rack}
use Rattle.reh_census_file.specs.Drafts.{rack_number, racks_with}
use Rattle.reh_census_file.specs.Names.{with_name}
use Rattle.reh_census_file.specs.Texts.{name_of, rack_words, bookie_words, up_word, word_if}
use Rattle.reh_census_file.proofs.TokenLaws.{place_of}
use Rattle.reh_census_file.proofs.LineTakes.{racked}
use Rattle.reh_census_file.proofs.WordLaws.{none_found}

abbrev Names : Type 0
Names = List (List ℕ)

-- the rack that a bookie has, as an option of its number

pub numbered-up : (n : ℕ) (bookies : List Bookie) (m : ℕ) → AreNumbered n bookies m → (n ≤ m) × (m ≤ n + length bookies)
numbered-up n [] m is = (omega arith, omega arith)
numbered-up n (b ∷ bs) m is =
    let h = numbered-up (next_rack n b.rack) bs m is.1 in
    let k = step b.rack is.0 in
    (omega (arith, h.0, k.0), omega (arith, h.1, k.1))
  where
    step : (rack : Option ℕ) → IfSome rack (λ r. r ≤ n) → (n ≤ next_rack n rack) × (next_rack n rack ≤ n + 1)
    step None h = (omega arith, omega arith)
    step (Some r) h = (omega arith, omega arith)

pub numbered-push : (n : ℕ) (bookies : List Bookie) (m : ℕ) (b : Bookie) → AreNumbered n bookies m → IfSome b.rack (λ r. r ≤ m) → AreNumbered n (bookies ++ b ∷ []) (next_rack m b.rack)
numbered-push n [] m b is fits =
    (subst (λ (k : ℕ). IfSome b.rack (λ r. r ≤ k)) (sym is) fits, ap (λ k. next_rack k b.rack) is)
numbered-push n (first ∷ bs) m b is fits = (is.0, numbered-push (next_rack n first.rack) bs m b is.1 fits)

-- a bookie after others: its rack, and the racks of those before it
pub numbered-split : (n : ℕ) (bookies : List Bookie) (b : Bookie) (more : List Bookie) (m : ℕ) → AreNumbered n (bookies ++ b ∷ more) m
    → (k : ℕ) × AreNumbered n bookies k × IfSome b.rack (λ r. r ≤ k) × AreNumbered (next_rack k b.rack) more m
numbered-split n [] b more m is = (n, refl, is.0, is.1)
numbered-split n (first ∷ bs) b more m is =
    let h = numbered-split (next_rack n first.rack) bs b more m is.1 in
    (h.0, (is.0, h.1), h.2, h.3)

name_of-front : (names more : Names) (i : ℕ) → i < length names → name_of (names ++ more) i ≡ name_of names i
name_of-front names more i within =
    unwrap_or-slice_get (names ++ more) i [] ∙ get_or_append_left names more [] i within ∙ sym (unwrap_or-slice_get names i [])

name_of-seam : (names : Names) (name : List ℕ) (more : Names) → name_of (names ++ name ∷ more) (length names) ≡ name
name_of-seam names name more = unwrap_or-slice_get (names ++ name ∷ more) (length names) [] ∙ get_or-append_seam names name more []

-- racks that are named later change no line before
rack_words-more : (racks more : Names) (rack : Option ℕ) → IfSome rack (λ r. r < length racks) → rack_words (racks ++ more) rack ≡ rack_words racks rack
rack_words-more racks more None within = refl
rack_words-more racks more (Some r) within = ap (λ w. codes "rack" ∷ w ∷ []) (name_of-front racks more r within)

abbrev pub lines_by : Names → Names → List Bookie → List Names
lines_by racks names bookies = map (λ named. bookie_words racks named.0 named.1) (zip names bookies)

pub bookie_words-more : (racks more : Names) (name : List ℕ) (b : Bookie) → IfSome b.rack (λ r. r < length racks) → bookie_words (racks ++ more) name b ≡ bookie_words racks name b
bookie_words-more racks more name b within =
    ap (λ ws. codes "bookie" ∷ name ∷ up_word b.is_registered ∷ (word_if b.is_read_only (codes "read-only") ++ (word_if b.is_empty (codes "empty") ++ ws))) (rack_words-more racks more b.rack within)

pub lines_by-more : (racks more names : Names) (bookies : List Bookie) (n m : ℕ) → AreNumbered n bookies m → m ≤ length racks → lines_by (racks ++ more) names bookies ≡ lines_by racks names bookies
lines_by-more racks more [] bookies n m is few = refl
lines_by-more racks more (name ∷ names) [] n m is few = refl
lines_by-more racks more (name ∷ names) (b ∷ bs) n m is few =
    let up = numbered-up (next_rack n b.rack) bs m is.1 in
    λ i. bookie_words-more racks more name b (below b.rack is.0 up.0) i ∷ lines_by-more racks more names bs (next_rack n b.rack) m is.1 few i
  where
    below : (rack : Option ℕ) → IfSome rack (λ r. r ≤ n) → next_rack n rack ≤ m → IfSome rack (λ r. r < length racks)
    below None h up = tt
    below (Some r) h up = omega (arith, up, few)

pub lines_by-push : (racks names : Names) (bookies : List Bookie) (name : List ℕ) (b : Bookie) → length bookies ≡ length names → lines_by racks (names ++ name ∷ []) (bookies ++ b ∷ []) ≡ lines_by racks names bookies ++ bookie_words racks name b ∷ []
lines_by-push racks [] [] name b each = refl
lines_by-push racks [] (first ∷ bs) name b each = absurd (omega (arith, each))
lines_by-push racks (first ∷ names) [] name b each = absurd (omega (arith, each))
lines_by-push racks (first ∷ names) (c ∷ bs) name b each = ap (λ ls. bookie_words racks first c ∷ ls) (lines_by-push racks names bs name b (omega (arith, each)))

-- What a rack's name comes to

-- no name passes where none is found
none_passes : {X : Type 0} (p : X → Bool) (xs : List X) → position p xs ≡ None → list_any p xs ≡ false
none_passes {X = X} p xs none = go xs (none_found p xs none)
  where
    go : (xs : List X) → length xs ≡ position_or_len p xs → list_any p xs ≡ false
    go [] e = refl
    go (x ∷ xs) e =
        elim (p x) as (λ t. suc (length xs) ≡ cond (not t) (1 + position_or_len p xs) 0 → (t || list_any p xs) ≡ false) [
          | true ↦ λ e. absurd (omega arith)
          | false ↦ λ e. go xs (omega arith)
        ] e

-- the racks with a bookie's, and its number among them
pub record IsRacked (racks : Names) (rack : Option (List ℕ)) : Type 0 where
  pub more : Names
  pub goes_on : racks_with racks rack ≡ racks ++ more
  pub fits : IfSome (option_map (rack_number racks) rack) (λ r. r ≤ length racks)
  pub count : next_rack (length racks) (option_map (rack_number racks) rack) ≡ length (racks_with racks rack)
  pub within : IfSome (option_map (rack_number racks) rack) (λ r. r < length (racks_with racks rack))
  pub words : rack_words (racks_with racks rack) (option_map (rack_number racks) rack) ≡ racked rack

pub is_racked : (racks : Names) (rack : Option (List ℕ)) → IsRacked racks rack
is_racked racks None = record { more = []; goes_on = sym (append-nil racks); fits = tt; count = refl; within = tt; words = refl }
is_racked racks (Some name) = go (position (bytes_eq name) racks) refl
  where
    go : (o : Option ℕ) → position (bytes_eq name) racks ≡ o → IsRacked racks (Some name)
    go None is =
        let new : with_name racks name ≡ racks ++ name ∷ [] = ap (λ t. cond t racks (racks ++ name ∷ [])) (none_passes (bytes_eq name) racks is) in
        let number : rack_number racks name ≡ length racks = ap (λ o. unwrap_or o (length racks)) is in
        let longer : length (with_name racks name) ≡ length racks + 1 = ap length new ∙ length-append racks (name ∷ []) in
        record {
          more = name ∷ [];
          goes_on = new;
          fits = omega (arith, number);
          count = omega (arith, number, longer);
          within = omega (arith, number, longer);
          words = ap (λ w. codes "rack" ∷ w ∷ []) (ap (λ rs. name_of rs (rack_number racks name)) new ∙ ap (name_of (racks ++ name ∷ [])) number ∙ name_of-seam racks name []);
        }
    go (Some i) is =
        let h = position-Some (bytes_eq name) racks i [] is in
        let place = place_of racks name i is in
        let same : with_name racks name ≡ racks = ap (λ t. cond t racks (racks ++ name ∷ [])) (list_any_at (bytes_eq name) racks i [] h.0 h.1) in
        let number : rack_number racks name ≡ i = ap (λ o. unwrap_or o (length racks)) is in
        record {
          more = [];
          goes_on = same ∙ sym (append-nil racks);
          fits = omega (arith, number, h.0);
          count = omega (arith, number, h.0, ap length same);
          within = omega (arith, number, h.0, ap length same);
          words = ap (λ w. codes "rack" ∷ w ∷ []) (ap (λ rs. name_of rs (rack_number racks name)) same ∙ ap (name_of racks) number ∙ sym place.named);
        }
