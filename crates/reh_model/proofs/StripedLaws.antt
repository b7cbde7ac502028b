-- Striped entries: they rise, which ones they are, and the stripe of a fragment.
use Rattle.std.proofs.Common.{◌≡◌, ℕ, ◌+◌, ◌-◌, ◌<◌, ◌≤◌, true, ◌&&◌, nat_eq, nat_lt, nat_le, [], Option, Some, sym, ap, ◌∙◌, arith}
use Rattle.std.specs.Prelude.{slice_get}
use Rattle.std.specs.Option.{option_map_or}
use Rattle.std.specs.List.{list_any}
use Rattle.std.specs.List.Sorted.{IsStrictlyIncreasing}
use Rattle.std.specs.Ordering.{nat_cmp, eq_by_cmp}
use Rattle.std.specs.Cmp.{unsigned_tied}
use Rattle.std.proofs.lemmas.Bool.Decides.{nat_tests}
use Rattle.std.proofs.lemmas.List.FromFn.{length-range_with_len, get_or-range_with_len}
use Rattle.std.proofs.lemmas.List.Kept.{IsStrictlyIncreasing-filter}
use Rattle.reh_types.proofs.BitLaws.{any_filtered}
use Rattle.reh_model.specs.Striping.{range, is_striped, striped_entries}
use Rattle.reh_model.specs.Metadata.{Metadata, Fragment, stop_of, stripe_of}
use Rattle.reh_model.proofs.Ranges.{passes_any, any_passes, same_answer, list_any-same}

-- the entries that an index carries rise
pub IsStrictlyIncreasing-striped_entries : (a b i n q : ℕ) → IsStrictlyIncreasing (striped_entries a b i n q)
IsStrictlyIncreasing-striped_entries a b i n q = IsStrictlyIncreasing-filter (λ e. is_striped e i n q) (range a b) (λ k inside.
    omega (arith, length-range_with_len a (b - a), get_or-range_with_len a (b - a) k 0, get_or-range_with_len a (b - a) (k + 1) 0))

within : (e a b : ℕ) → a ≤ e → e < b → (nat_le a e && nat_lt e b) ≡ true
within e a b from below = grind (arith, nat_tests)

from_within : (e a b : ℕ) → (nat_le a e && nat_lt e b) ≡ true → (a ≤ e) × (e < b)
from_within e a b inside = (grind (arith, nat_tests, inside), grind (arith, nat_tests, inside))

list_any-range : (e a b : ℕ) → list_any (nat_eq e) (range a b) ≡ (nat_le a e && nat_lt e b)
list_any-range e a b = same_answer _ _
    (λ any.
    let w = any_passes (nat_eq e) a (b - a) any in
    let same : e ≡ w.at = grind (arith, nat_tests, w.passes) in within e a b (omega arith) (omega arith))
    (λ inside.
    let both = from_within e a b inside in
    let itself : nat_eq e e ≡ true = grind (arith, nat_tests) in
    passes_any (nat_eq e) a (b - a) e both.0 (omega arith) itself)

-- they are the entries of the range that it carries, and no others
pub list_any-striped_entries : (e a b i n q : ℕ) → list_any (nat_eq e) (striped_entries a b i n q) ≡ (is_striped e i n q && (nat_le a e && nat_lt e b))
list_any-striped_entries e a b i n q =
    list_any-same (nat_eq e) (eq_by_cmp nat_cmp e) (λ x. sym (unsigned_tied e x)) (striped_entries a b i n q)
    ∙ any_filtered (λ x. is_striped x i n q) e a (b - a)
    ∙ ap (λ inside. is_striped e i n q && inside) (list_any-same (eq_by_cmp nat_cmp e) (nat_eq e) (λ x. unsigned_tied e x) (range a b) ∙ list_any-range e a b)

-- what a fragment that is there stripes onto an index up to its stop
pub stripe_of-found : (m : Metadata) (f i stop : ℕ) (fragment : Fragment) → slice_get m.fragments f ≡ Some fragment → stop_of m f ≡ Some stop → stripe_of m f i ≡ striped_entries fragment.first stop i m.size m.write_quorum
stripe_of-found m f i stop fragment found ends =
    let up_to = λ (x : Fragment) (stop : Option ℕ). option_map_or (λ stop. striped_entries x.first stop i m.size m.write_quorum) stop [] in
    ap (λ (o : Option Fragment). option_map_or (λ x. up_to x (stop_of m f)) o []) found ∙ ap (up_to fragment) ends
