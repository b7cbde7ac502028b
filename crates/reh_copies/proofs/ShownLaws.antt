-- What is read of a picture, as a state and as a list.
use Rattle.std.proofs.Common.{◌≡◌, ℕ, ◌+◌, Bool, true, false, not, ◌&&◌, List, [], ◌∷◌, ◌++◌, map, length, Option, None, Some, refl, sym, ap, ◌∙◌, subst, arith, nat_eq, append-nil, append_assoc}
use Rattle.std.specs.Prelude.{Result, Ok, Err}
use Rattle.std.specs.Cmp.{IsEquivalence}
use Rattle.std.specs.List.{IsDistinct, list_any}
use Rattle.std.specs.Result.{result_err, result_map_both}
use Rattle.std.specs.Str.{bytes_eq}
use Rattle.std.proofs.lemmas.Cmp.{nat_eq_equiv}
use Rattle.std.proofs.lemmas.List.{map-append}
use Rattle.std.proofs.lemmas.Map.Keys.{IsDistinct-push}
use Rattle.serde_json.specs.Data.{Data}
use Rattle.reh_model.specs.Cluster.{Cluster}
use Rattle.reh_model.specs.Checks.{first_reason, reason_unless}
use Rattle.reh_model.proofs.CheckLaws.{both-none, reason_unless-none}
use Rattle.reh_fields.specs.declared.faults.PictureFault.{PictureFault}
use Rattle.reh_fields.specs.declared.faults.PictureFault.TheVariants.{BadLedger, Twice, WrongKind}
use Rattle.reh_fields.specs.declared.fields.Field.TheVariants as field
use Rattle.reh_picture.specs.declared.listings.Listed.{Listed}
use Rattle.reh_picture.specs.Contents.{Holding, content_fault, each_content_fault, held_in, holding_in, is_pair, pair_fault, pair_of, pairs_in}
use Rattle.reh_picture.specs.declared.places.Place.{Place}
use Rattle.reh_picture.specs.Places.{fault_along}
use Rattle.reh_picture.specs.Listings.{ListsFields, ListsJson}
use Rattle.reh_fields.specs.Members.{is_object, list_of, number_in, number_of, text_in, text_of}
use Rattle.reh_fields.specs.Names.{known_fault}
use Rattle.reh_fields.specs.declared.faults.LedgerFlaw.TheVariants as flaw
use Rattle.reh_fields.specs.declared.faults.Repeated.TheVariants as repeated
use Rattle.reh_picture.specs.Pictures.{fields_fault, ids_of, json_in, names_of, pictured_cluster, shown_by, unless_fault}
use Rattle.reh_picture.proofs.Sound.{content_none, IsFaultless-none, IsWellFormed-pictured_cluster, parts_of-none, words_of-none}
use Rattle.reh_copies.specs.Alone.{IsRead}
use Rattle.reh_copies.proofs.CopyLaws.{pair}
use Rattle.reh_copies.proofs.ReadableLaws.{IsAlike}

-- Contents without a fault name no bookie and ledger twice

and-true : (a b : Bool) → (a && b) ≡ true → (a ≡ true) × (b ≡ true)
and-true true b is = (refl, is)
and-true false b is = cc

not_false : (b : Bool) → not b ≡ true → b ≡ false
not_false true is = cc
not_false false is = refl

is_pair_equiv : IsEquivalence is_pair
is_pair_equiv = record {
  refl = λ p. λ i. itself p.0 i && itself p.1 i;
  symm = λ p q. λ i. nat_eq_equiv.symm p.0 q.0 i && nat_eq_equiv.symm p.1 q.1 i;
  congr = λ p q r tie.
      let both = and-true (nat_eq p.0 q.0) (nat_eq p.1 q.1) tie in
      λ i. nat_eq_equiv.congr p.0 q.0 r.0 both.0 i && nat_eq_equiv.congr p.1 q.1 r.1 both.1 i;
} where
  itself : (n : ℕ) → nat_eq n n ≡ true
  itself n = nat_eq_equiv.refl n

-- where six checks give no fault, the last one gives none
sixth : {A : Type 0} (a b c d e f : Option A) → first_reason (a ∷ b ∷ c ∷ d ∷ e ∷ f ∷ []) ≡ None → f ≡ None
sixth None None None None None None none = refl
sixth None None None None None (Some x) none = cc
sixth None None None None (Some x) f none = cc
sixth None None None (Some x) e f none = cc
sixth None None (Some x) d e f none = cc
sixth None (Some x) c d e f none = cc
sixth (Some x) b c d e f none = cc

module _ (names : List (List ℕ)) (ids : List ℕ) where
  pair_differs : (pairs : List (ℕ × ℕ)) (d : Data) → pair_fault names ids pairs d ≡ None
      → list_any (is_pair (pair_of names d)) pairs ≡ false
  pair_differs pairs d none =
      let among = list_any (is_pair (pair_of names d)) pairs in
      let twice = Twice (repeated.Content (text_of d field.Bookie) (number_of d field.Ledger)) in
      not_false among
      (reason_unless-none (not among) twice
      (sixth (reason_unless (is_object d) (WrongKind field.Content)) (result_err (text_in d field.Bookie))
      (known_fault names (text_of d field.Bookie)) (result_err (number_in d field.Ledger))
      (reason_unless (list_any (nat_eq (number_of d field.Ledger)) ids)
      (BadLedger (number_of d field.Ledger) flaw.Unknown))
      (reason_unless (not among) twice) none))

  content_differs : (i : ℕ) (pairs : List (ℕ × ℕ)) (d : Data) → content_fault names ids i pairs d ≡ None
      → list_any (is_pair (pair_of names d)) pairs ≡ false
  content_differs i pairs d none = pair_differs pairs d (content_none names ids i pairs d none).0

  contents_differ : (i : ℕ) (before ds : List Data) → IsDistinct is_pair (pairs_in names before)
      → fault_along (λ i before d. content_fault names ids i (pairs_in names before) d) i before ds ≡ None
      → IsDistinct is_pair (pairs_in names (before ++ ds))
  contents_differ i before [] differ none =
      subst (λ (xs : List Data). IsDistinct is_pair (pairs_in names xs)) (sym (append-nil before)) differ
  contents_differ i before (d ∷ ds) differ none =
      let checks = both-none _ _ none in
      let more : IsDistinct is_pair (pairs_in names (before ++ d ∷ [])) =
      subst (λ (ps : List (ℕ × ℕ)). IsDistinct is_pair ps) (sym (map-append (pair_of names) before (d ∷ [])))
      (IsDistinct-push is_pair_equiv (pairs_in names before) (pair_of names d) differ
      (content_differs i (pairs_in names before) d checks.0)) in
      subst (λ (xs : List Data). IsDistinct is_pair (pairs_in names xs)) (append_assoc before (d ∷ []) ds)
      (contents_differ (i + 1) (before ++ d ∷ []) ds more checks.1)

  all_differ : (ds : List Data) → each_content_fault names ids ds ≡ None → IsDistinct is_pair (pairs_in names ds)
  unfolding each_content_fault IsDistinct
  all_differ ds none = contents_differ 0 [] ds tt none

pairs_made : (names : List (List ℕ)) (ds : List Data) → map pair (map (holding_in names) ds) ≡ pairs_in names ds
pairs_made names [] = refl
pairs_made names (d ∷ ds) = ap (λ (ps : List (ℕ × ℕ)). pair_of names d ∷ ps) (pairs_made names ds)

-- The picture

IsAlike-pictured : (d : Data) (l : Listed) → fields_fault d ≡ None → ListsFields d l → IsAlike (pictured_cluster d) l
IsAlike-pictured d l none lists =
    let good = IsFaultless-none d (parts_of-none d none) in
    let formed = IsWellFormed-pictured_cluster d good (words_of-none d none) in
    let is = lists.listing in
    record {
      different = subst (λ (names : List (List ℕ)). IsDistinct bytes_eq names) (sym is.names_are) formed.names.different;
      few = omega (arith, ap length is.names_are, formed.names.few);
      lost_at = sym is.lost_are;
      each = formed.registrations.each ∙ ap length (sym is.names_are);
      ledgers = sym is.ledgers_are;
      held = ap held_in (sym is.holdings_are);
      once = subst (λ (hs : List Holding). IsDistinct is_pair (map pair hs)) (sym is.holdings_are)
          (subst (λ (ps : List (ℕ × ℕ)). IsDistinct is_pair ps) (sym (pairs_made (names_of d) (list_of d field.Contents)))
          (all_differ (names_of d) (ids_of d) (list_of d field.Contents) good.each_content));
      formed = λ k g within. (formed.ledgers.each k g within).metadata;
    }

-- a result without the place of its fault
abbrev unplaced : Result Cluster (PictureFault × Place) → Result Cluster PictureFault
unplaced read = result_map_both (λ s. s) (λ found. found.0) read

module _ (s : Cluster) (l : Listed) where
  alike_fields : (d : Data) (fault : Option (PictureFault × Place)) → fields_fault d ≡ fault
      → unplaced (unless_fault fault (pictured_cluster d)) ≡ Ok s → ListsFields d l → IsAlike s l
  alike_fields d None none is lists =
      let same : pictured_cluster d ≡ s = cc in
      subst (λ (t : Cluster). IsAlike t l) same (IsAlike-pictured d l none lists)
  alike_fields d (Some found) some is lists = cc

  alike_shown : (json : Result Data (PictureFault × Place)) → unplaced (shown_by json) ≡ Ok s → ListsJson json l
      → IsAlike s l
  alike_shown (Ok d) is lists = alike_fields d (fields_fault d) refl is lists
  alike_shown (Err found) is lists = absurd lists

pub IsAlike-read : (bytes : List ℕ) (s : Cluster) (l : Listed) → IsRead bytes s l → IsAlike s l
IsAlike-read bytes s l read = alike_shown s l (json_in bytes) read.state read.listed
