-- One bookie more that has a name.
use Rattle.std.proofs.Common.{◌≡◌, ◌∙◌, ◌≤◌, ◌<◌, ◌+◌, ℕ, List, Option, Some, None, false, take, take_all, get_or, length, inl, inr, sym, arith}
use Rattle.std.specs.List.{zip}
use Rattle.std.specs.Prelude.{flat_map, slice_get}
use Rattle.std.proofs.lemmas.List.{get_or_default}
use Rattle.std.proofs.lemmas.Option.{get_or_from_slice_get, slice_get_cases, slice_get_within}
use Rattle.std.proofs.lemmas.Slice.Zip.{get_or-zip, length-zip}
use Rattle.json.specs.Tree.{json_tokens}
use Rattle.json.specs.Written.{Written}
use Rattle.reh_census.specs.declared.bookies.Bookie.{Bookie}
use Rattle.reh_answer.specs.Objects.{Adds}
use Rattle.reh_answer.proofs.ObjectLaws.{adds-more}
use Rattle.reh_census_json.specs.Objects.{bookie_json, named_json}

abbrev pub no_bookie : Bookie
no_bookie = record { is_registered = false; is_read_only = false; is_empty = false; rack = None }

module _ (names : List (List ℕ)) (bookies : List Bookie) where
  pub named-more : (racks : List (List ℕ)) (i : ℕ) (name : List ℕ) (d : Bookie) (first mid next : Written) → i < length bookies
      → slice_get names i ≡ Some name
      → Adds (flat_map (λ b. json_tokens (named_json racks b)) (take i (zip names bookies))) first mid
      → Adds (json_tokens (bookie_json racks name (get_or bookies i d))) mid next
      → Adds (flat_map (λ b. json_tokens (named_json racks b)) (take (i + 1) (zip names bookies))) first next
  named-more racks i name d first mid next below named adds more =
      let one : List ℕ × Bookie = (name, get_or bookies i d) in
      let within : i < length names = slice_get_within names i name named in
      let is : get_or (zip names bookies) i one ≡ one =
      get_or-zip names bookies i one within below
      ∙ (λ j. (get_or_from_slice_get names i name name named j, get_or_default bookies i (get_or bookies i d) d below j)) in
      adds-more (λ b. json_tokens (named_json racks b)) (zip names bookies) i one first mid next
      (omega (arith, length-zip names bookies, within, below)) (sym is) adds more

  pub named-all : (i : ℕ) → length bookies ≤ i → take i (zip names bookies) ≡ zip names bookies
  named-all i past = take_all i (zip names bookies) (omega (arith, length-zip names bookies, past))

  pub named-none : (i : ℕ) → slice_get names i ≡ None → take i (zip names bookies) ≡ zip names bookies
  named-none i none = take_all i (zip names bookies) (omega (arith, length-zip names bookies, past)) where
    none≢some : {x : List ℕ} → ◌≡◌ {A = Option (List ℕ)} None (Some x) → ⊥
    none≢some e = cc

    past : length names ≤ i
    past =
        elim ((slice_get_cases names i).1) [
          | inl some ↦ absurd (none≢some (sym none ∙ some.2))
          | inr all ↦ all.0
        ]
