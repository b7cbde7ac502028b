-- Racks that are written by their names get their numbers again.
use Rattle.std.proofs.Common.{◌≡◌, ℕ, ◌+◌, ◌<◌, ◌≤◌, Bool, false, cond, List, [], ◌∷◌, ◌++◌, length, take, drop, Option, Some, None, get_or, position, unwrap_or, refl, sym, ap, subst, ◌∙◌, arith, inl, inr}
use Rattle.std.specs.Prelude.{IfSome}
use Rattle.std.specs.List.{IsDistinct, AllByRecursion, list_any}
use Rattle.std.specs.Option.{option_map}
use Rattle.std.specs.Str.{bytes_eq}
use Rattle.std.proofs.lemmas.Bool.{cases_lt, false≢true}
use Rattle.std.proofs.lemmas.List.{length-take, take_more, get_or-take, take-append-drop, drop_more}
use Rattle.std.proofs.lemmas.List.Folds.{list_any_at}
use Rattle.std.proofs.lemmas.List.Quantifiers.{position-Some}
use Rattle.std.proofs.lemmas.Option.{unwrap_or-slice_get}
use Rattle.reh_census_file.specs.Canonical.{next_rack}
use Rattle.reh_census_file.specs.Drafts.{rack_number, racks_with}
use Rattle.reh_census_file.specs.Texts.{name_of}
use Rattle.reh_census_file.proofs.OrderLaws.{new-before}
use Rattle.reh_census_file.proofs.TokenAgain.{found_again}

abbrev Names : Type 0
Names = List (List ℕ)

pub All-front : (P : List ℕ → Type 0) (xs ys : Names) → AllByRecursion P (xs ++ ys) → AllByRecursion P xs
All-front P [] ys all = tt
All-front P (x ∷ xs) ys all = (all.0, All-front P xs ys all.1)

pub IsDistinct-front : (xs ys : Names) → IsDistinct bytes_eq (xs ++ ys) → IsDistinct bytes_eq xs
unfolding IsDistinct
IsDistinct-front [] ys distinct = tt
IsDistinct-front (x ∷ xs) ys distinct = (All-front (λ y. bytes_eq x y ≡ false) xs ys distinct.0, IsDistinct-front xs ys distinct.1)

-- where no name passes none is found
none_found_in : (p : List ℕ → Bool) (xs : Names) → list_any p xs ≡ false → position p xs ≡ None
none_found_in p xs none = go (position p xs) refl
  where
    go : (o : Option ℕ) → position p xs ≡ o → position p xs ≡ None
    go None e = e
    go (Some i) e = let h = position-Some p xs i [] e in absurd (false≢true (sym none ∙ list_any_at p xs i [] h.0 h.1))

-- the name of a rack
abbrev pub rack_told : Names → Option ℕ → Option (List ℕ)
rack_told racks rack = option_map (name_of racks) rack

pub record IsRackAgain (racks : Names) (k : ℕ) (rack : Option ℕ) : Type 0 where
  pub with : racks_with (take k racks) (rack_told racks rack) ≡ take (next_rack k rack) racks
  pub number : option_map (rack_number (take k racks)) (rack_told racks rack) ≡ rack

pub rack_again : (racks : Names) (k : ℕ) (rack : Option ℕ) → IsDistinct bytes_eq racks → IfSome rack (λ r. r ≤ k) → next_rack k rack ≤ length racks → k ≤ length racks → IsRackAgain racks k rack
rack_again racks k None distinct fits within few = record { with = refl; number = refl }
rack_again racks k (Some r) distinct fits within few =
    let front = take k racks in
    let name = name_of racks r in
    let long : length front ≡ k = omega (arith, length-take k racks) in
    let apart : IsDistinct bytes_eq front = IsDistinct-front front (drop k racks) (subst (λ (xs : Names). IsDistinct bytes_eq xs) (sym (take-append-drop k racks)) distinct) in
    elim (cases_lt r k) [
      | inl old ↦
          let same : name_of front r ≡ name = unwrap_or-slice_get front r [] ∙ get_or-take k racks r [] old ∙ sym (unwrap_or-slice_get racks r []) in
          let found : position (bytes_eq name) front ≡ Some r = ap (λ n. position (bytes_eq n) front) (sym same) ∙ found_again front r apart (omega (arith, long)) in
          let h = position-Some (bytes_eq name) front r [] found in
          record {
            with = ap (λ t. cond t front (front ++ name ∷ [])) (list_any_at (bytes_eq name) front r [] h.0 h.1) ∙ ap (λ n. take n racks) (omega arith);
            number = ap (λ o. Some (unwrap_or o (length front))) found;
          }
      | inr new ↦
          let is-k : r ≡ k = omega arith in
          let inside : k < length racks = omega arith in
          let name-is : name ≡ get_or racks k [] = ap (name_of racks) is-k ∙ unwrap_or-slice_get racks k [] in
          let whole : racks ≡ front ++ (get_or racks k [] ∷ drop (k + 1) racks) = sym (take-append-drop k racks) ∙ ap (λ t. front ++ t) (drop_more racks k [] inside) in
          let none : list_any (bytes_eq name) front ≡ false = ap (λ n. list_any (bytes_eq n) front) name-is ∙ new-before front (get_or racks k []) (drop (k + 1) racks) (subst (λ (xs : Names). IsDistinct bytes_eq xs) whole distinct) in
          record {
            with = ap (λ t. cond t front (front ++ name ∷ [])) none ∙ ap (λ n. front ++ n ∷ []) name-is ∙ sym (take_more racks k [] inside) ∙ ap (λ n. take n racks) (omega arith);
            number = ap (λ o. Some (unwrap_or o (length front))) (none_found_in (bytes_eq name) front none) ∙ ap (λ n. Some n) (omega (arith, long, is-k));
          }
    ]
