-- The bookies of a state, and the fragments of a ledger, by their numbers.
use Rattle.std.proofs.Common.{◌≡◌, ◌∙◌, ◌+◌, ◌<◌, ◌≤◌, ℕ, List, [], ◌++◌, ap, sym, length, drop, slice_get}
use Rattle.std.specs.Prelude.{flat_map}
use Rattle.std.specs.List.{enumerate_from}
use Rattle.std.proofs.lemmas.List.{drop_all, drop_more}
use Rattle.std.proofs.lemmas.Option.{slice_get-get_or}
use Rattle.json.specs.Token.{Token}
use Rattle.json.specs.Tree.{json_tokens}
use Rattle.reh_model.specs.Cluster.{Cluster}
use Rattle.reh_model.specs.Metadata.{Metadata, Fragment}
use Rattle.reh_run_json.specs.Reports.{bookie_at, bookie_json, fragment_at, fragment_json}

abbrev pub bookies_from : Cluster → ℕ → List (List ℕ) → List Token
bookies_from s i names = flat_map (λ place. json_tokens (bookie_json s place.0 place.1)) (enumerate_from i names)

pub bookie-more : (s : Cluster) (i : ℕ) (names : List (List ℕ)) → i < length names
    → bookies_from s i (drop i names) ≡ bookie_at s i (slice_get names i) ++ bookies_from s (i + 1) (drop (i + 1) names)
bookie-more s i names within =
    ap (bookies_from s i) (drop_more names i [] within)
    ∙ ap (λ o. bookie_at s i o ++ bookies_from s (i + 1) (drop (i + 1) names)) (sym (slice_get-get_or names i [] within))

pub bookies-end : (s : Cluster) (i : ℕ) (names : List (List ℕ)) → length names ≤ i → bookies_from s i (drop i names) ≡ []
bookies-end s i names past = ap (bookies_from s i) (drop_all i names past)

abbrev pub fragments_from : List (List ℕ) → Metadata → ℕ → List Fragment → List Token
fragments_from names m f fragments =
    flat_map (λ place. json_tokens (fragment_json names m place.0 place.1)) (enumerate_from f fragments)

abbrev no_fragment : Fragment
no_fragment = record { first = 0; ensemble = [] }

pub fragment-more : (names : List (List ℕ)) (m : Metadata) (f : ℕ) (fragments : List Fragment) → f < length fragments
    → fragments_from names m f (drop f fragments)
    ≡ fragment_at names m f (slice_get fragments f) ++ fragments_from names m (f + 1) (drop (f + 1) fragments)
fragment-more names m f fragments within =
    ap (fragments_from names m f) (drop_more fragments f no_fragment within)
    ∙ ap (λ o. fragment_at names m f o ++ fragments_from names m (f + 1) (drop (f + 1) fragments))
    (sym (slice_get-get_or fragments f no_fragment within))

pub fragments-end : (names : List (List ℕ)) (m : Metadata) (f : ℕ) (fragments : List Fragment) → length fragments ≤ f
    → fragments_from names m f (drop f fragments) ≡ []
fragments-end names m f fragments past = ap (fragments_from names m f) (drop_all f fragments past)
