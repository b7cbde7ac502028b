-- What bookies are given, one after another; and that a survey has few lines.
use Rattle.std.proofs.Common.{◌≡◌, ℕ, ◌+◌, ◌-◌, ◌*◌, ◌<◌, ◌≤◌, List, [], ◌∷◌, ◌++◌, length, map, get_or, ◌∙◌, ap, sym, arith, length-append}
use Rattle.std.proofs.lemmas.List.{length-map}
use Rattle.std.specs.Prelude.{All}
use Rattle.std.specs.List.{enumerate_from, flat_map, range_with_len}
use Rattle.std.proofs.lemmas.List.Elements.{All-head, All-tail}
use Rattle.std.proofs.lemmas.List.FromFn.{length-enumerate_from, length-map-range_with_len, get_or-map-range_with_len, map-range_with_len_more}
use Rattle.reh_types.specs.declared.limits.TheConstants.{MAX_FRAGMENTS, MAX_LEDGERS}
use Rattle.reh_model.specs.Cluster.{Cluster, Ledger}
use Rattle.reh_model.specs.Contents.{count_held}
use Rattle.reh_model.specs.Survey.{line_of, lines_of, survey}
use Rattle.reh_model.specs.WellFormed.{IsLedger, IsWellFormed}
use Rattle.reh_plan.specs.Plans.{Draft}
use Rattle.reh_plan.specs.Summaries.{holdings_of, places_of, share_of}
use Rattle.reh_plan.specs.declared.summaries.Share.{Share}

-- one bookie more is counted
pub held_more : (s : Cluster) (n count : ℕ) (held more : List ℕ) → count ≡ count_held s.parts.held n
    → held ≡ map (λ bookie. count_held s.parts.held bookie) (range_with_len 0 n) → more ≡ held ++ count ∷ []
    → more ≡ map (λ bookie. count_held s.parts.held bookie) (range_with_len 0 (n + 1))
held_more s n count held more counted so_far grown =
    grown ∙ (λ i. so_far i ++ counted i ∷ [])
    ∙ sym (map-range_with_len_more (λ bookie. count_held s.parts.held bookie) 0 n n (omega arith))

-- what a bookie held before
pub held_before : (s : Cluster) (held : List ℕ) (n d : ℕ) → held ≡ holdings_of s → n < length held
    → get_or held n d ≡ count_held s.parts.held n
held_before s held n d is within =
    let size : length held ≡ length s.names =
    ap length is ∙ length-map-range_with_len (λ bookie. count_held s.parts.held bookie) 0 (length s.names) in
    ap (λ (xs : List ℕ). get_or xs n d) is
    ∙ get_or-map-range_with_len (λ bookie. count_held s.parts.held bookie) 0 (length s.names) n n d
    (omega (arith, within, size)) (omega arith)

-- what one bookie more is given
pub share_more : (d : Draft) (n places count before entries : ℕ) (shares more : List Share) → places ≡ places_of d.events n
    → count ≡ count_held d.state.parts.held n → before ≡ count_held d.opening.parts.held n → entries ≡ count - before
    → shares ≡ map (share_of d) (range_with_len 0 n)
    → more ≡ shares ++ (record { bookie = n; places = places; entries = entries }) ∷ []
    → more ≡ map (share_of d) (range_with_len 0 (n + 1))
share_more d n places count before entries shares more taken now then less so_far grown =
    grown
    ∙ (λ i. so_far i ++ (record { bookie = n; places = taken i; entries = (less ∙ (λ j. now j - then j)) i }) ∷ [])
    ∙ sym (map-range_with_len_more (share_of d) 0 n n (omega arith))

one_ledger : (s : Cluster) (g : Ledger) → length (lines_of s g) ≡ length g.metadata.fragments
one_ledger s g =
    length-map (enumerate_from 0 g.metadata.fragments) (λ p. line_of s g p.0 p.1)
    ∙ length-enumerate_from 0 g.metadata.fragments

few_lines : (s : Cluster) (bookies latest : ℕ) (ledgers : List Ledger) → All (IsLedger bookies latest) ledgers
    → length (flat_map (lines_of s) ledgers) ≤ MAX_FRAGMENTS * length ledgers
few_lines s bookies latest [] all = omega arith
few_lines s bookies latest (g ∷ ledgers) all =
    let rest : length (flat_map (lines_of s) ledgers) ≤ MAX_FRAGMENTS * length ledgers =
    few_lines s bookies latest ledgers (All-tail (IsLedger bookies latest) g ledgers all) in
    let first : length g.metadata.fragments ≤ MAX_FRAGMENTS =
    (All-head (IsLedger bookies latest) g ledgers all).metadata.fragments in
    let sum : length (lines_of s g ++ flat_map (lines_of s) ledgers)
    ≡ length (lines_of s g) + length (flat_map (lines_of s) ledgers) =
    length-append (lines_of s g) (flat_map (lines_of s) ledgers) in
    omega (arith, rest, first, sum, one_ledger s g)

pub survey_few : (s : Cluster) → IsWellFormed s → length (survey s) ≤ MAX_FRAGMENTS * MAX_LEDGERS
survey_few s well =
    let lines : length (survey s) ≤ MAX_FRAGMENTS * length s.parts.ledgers =
    few_lines s (length s.names) _ s.parts.ledgers well.ledgers.each in
    let few : length s.parts.ledgers ≤ MAX_LEDGERS = well.ledgers.few in
    omega (arith, lines, few)
