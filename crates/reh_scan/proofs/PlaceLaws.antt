-- The places of a survey's lines.
use Rattle.std.proofs.Common.{◌≡◌, ◌∙◌, ◌+◌, ◌-◌, ◌++◌, ◌<◌, ◌∷◌, [], ℕ, zero, suc, List, Option, Some, refl, ap, sym}
use Rattle.std.proofs.Common.{arith, map, length, get_or, length-append}
use Rattle.std.specs.Prelude.{slice_get}
use Rattle.std.specs.List.{enumerate_from, flat_map, range_with_len}
use Rattle.std.specs.Option.{option_and_then, option_map}
use Rattle.std.proofs.lemmas.List.{get_or-map, length-map, map-append, same_lists}
use Rattle.std.proofs.lemmas.List.FromFn.{get_or-enumerate_from, get_or-range_with_len, length-enumerate_from}
use Rattle.std.proofs.lemmas.List.FromFn.{length-range_with_len}
use Rattle.std.proofs.lemmas.Option.{slice_get-get_or}
use Rattle.reh_types.specs.declared.surveys.SurveyLine.{SurveyLine}
use Rattle.reh_model.specs.Metadata.{Fragment}
use Rattle.reh_model.specs.Cluster.{Cluster, Ledger, ledger_at}
use Rattle.reh_model.specs.Survey.{line_at, line_of, lines_of, survey}
use Rattle.reh_model.specs.WellFormed.{IsWellFormed}
use Rattle.reh_model.proofs.LedgerLaws.{found_itself}
use Rattle.reh_scan.specs.Costs.{cost_of, costs_of}
use Rattle.reh_scan.specs.Surveys.{Place, places, places_of}
use Rattle.reh_scan.proofs.SurveyLaws.{length-numbered}

-- there is something to read for each line
pub length-costs : (s : Cluster) (gs : List Ledger)
    → length (flat_map (λ g. costs_of g.metadata) gs) ≡ length (flat_map (lines_of s) gs)
length-costs s [] = refl
length-costs s (g ∷ gs) =
    let own : length (costs_of g.metadata) ≡ length (lines_of s g) =
    length-numbered (λ p. cost_of g.metadata p.0 p.1) g.metadata.fragments
    ∙ sym (length-numbered (λ p. line_of s g p.0 p.1) g.metadata.fragments) in
    length-append (costs_of g.metadata) (flat_map (λ h. costs_of h.metadata) gs)
    ∙ (λ j. own j + length-costs s gs j)
    ∙ sym (length-append (lines_of s g) (flat_map (lines_of s) gs))

-- the line of a place
abbrev line_there : Cluster → Place → Option SurveyLine
line_there s p = line_at s p.0 p.1

-- the lines of a ledger that is found by its id are those of its places
lines-places_of : (s : Cluster) (g : Ledger) → ledger_at s g.id ≡ Some g
    → map Some (lines_of s g) ≡ map (line_there s) (places_of g)
lines-places_of s g found =
    let fragments : List Fragment = g.metadata.fragments in
    let n : ℕ = length fragments in
    let line : ℕ × Fragment → SurveyLine = λ p. line_of s g p.0 p.1 in
    let numbers : List ℕ = range_with_len 0 (n - 0) in
    let whole : n - 0 ≡ n = omega arith in
    let many : length (lines_of s g) ≡ n = length-numbered line fragments in
    let few : length (places_of g) ≡ n =
    length-map numbers (λ f. (g.id, f)) ∙ length-range_with_len 0 (n - 0) ∙ whole in
    same_lists (map Some (lines_of s g)) (map (line_there s) (places_of g))
    (length-map (lines_of s g) Some ∙ many ∙ sym few ∙ sym (length-map (places_of g) (line_there s)))
    (λ k d within.
    let inside : k < n = omega (arith, length-map (lines_of s g) Some, many) in
    let fragment : Fragment = get_or fragments k (record { first = 0; ensemble = [] }) in
    let number : 0 + k ≡ k = omega arith in
    let numbered : k < length (enumerate_from 0 fragments) = omega (arith, length-enumerate_from 0 fragments) in
    let place : get_or (places_of g) k (g.id, k) ≡ (g.id, k) =
    get_or-map (λ f. (g.id, f)) numbers k k (g.id, k) (omega (arith, length-range_with_len 0 (n - 0)))
    ∙ ap (λ f. (g.id, f)) (get_or-range_with_len 0 (n - 0) k k (omega (arith, whole)) ∙ number) in
    get_or-map Some (lines_of s g) k (line (k, fragment)) d (omega (arith, many))
    ∙ ap Some
    (get_or-map line (enumerate_from 0 fragments) k (k, fragment) (line (k, fragment)) numbered
    ∙ ap line
    (get_or-enumerate_from 0 fragments k (k, fragment) inside
    ∙ (λ j. (number j, get_or-get_or fragments k (record { first = 0; ensemble = [] }) inside j))))
    ∙ ap (λ (o : Option Fragment). option_map (line_of s g k) o)
    (sym (slice_get-get_or fragments k (record { first = 0; ensemble = [] }) inside))
    ∙ ap (λ (o : Option Ledger). option_and_then (λ h. option_map (line_of s h k) (slice_get h.metadata.fragments k)) o)
    (sym found)
    ∙ ap (line_there s) (sym place)
    ∙ sym (get_or-map (line_there s) (places_of g) k (g.id, k) d (omega (arith, few)))) where
      get_or-get_or : {X : Type 0} (xs : List X) (k : ℕ) (d : X) → k < length xs → get_or xs k (get_or xs k d) ≡ get_or xs k d
      get_or-get_or [] k d within = refl
      get_or-get_or (x ∷ xs) zero d within = refl
      get_or-get_or (x ∷ xs) (suc k) d within = get_or-get_or xs k d (omega arith)

-- the lines of ledgers that are found by their ids
lines-places : (s : Cluster) (gs : List Ledger)
    → ((k : ℕ) (d : Ledger) → k < length gs → ledger_at s (get_or gs k d).id ≡ Some (get_or gs k d))
    → map Some (flat_map (lines_of s) gs) ≡ map (line_there s) (flat_map places_of gs)
lines-places s [] found = refl
lines-places s (g ∷ gs) found =
    map-append Some (lines_of s g) (flat_map (lines_of s) gs)
    ∙ (λ j.
    lines-places_of s g (found 0 g (omega arith)) j
    ++ lines-places s gs (λ k d within. found (suc k) d (omega arith)) j)
    ∙ sym (map-append (line_there s) (places_of g) (flat_map places_of gs))

-- the lines of all places
pub survey-places : (s : Cluster) → IsWellFormed s → map Some (survey s) ≡ map (line_there s) (places s)
survey-places s rules =
    lines-places s s.parts.ledgers (λ k d within. found_itself s.parts.ledgers rules.ledgers.different k d within)
