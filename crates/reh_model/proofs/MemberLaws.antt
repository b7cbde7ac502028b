-- Metadata with another member in a fragment.
use Rattle.std.proofs.Common.{◌≡◌, ℕ, zero, suc, ◌+◌, ◌-◌, ◌<◌, ◌≤◌, Bool, true, false, ◌||◌, List, [], ◌∷◌, map, length, get_or, set, Option, Some, refl, sym, ap, ◌∙◌, subst, arith, nat_eq}
use Rattle.std.specs.Prelude.{◌==◌, slice_get, unwrap_or}
use Rattle.std.specs.List.{list_any, IsDistinct, AllByRecursion}
use Rattle.std.specs.List.Sorted.{IsStrictlyIncreasing}
use Rattle.std.specs.Option.{ForSome, option_map_or}
use Rattle.std.proofs.Math.Seq.{map-set_same}
use Rattle.std.proofs.lemmas.Bool.Decides.{nat_tests}
use Rattle.std.proofs.lemmas.List.{get_or_default, length-set}
use Rattle.std.proofs.lemmas.Option.{slice_get-get_or}
use Rattle.std.proofs.lemmas.List.Elements.{All-set}
use Rattle.reh_types.specs.declared.limits.TheConstants.{ENTRY_END, MAX_VERSION}
use Rattle.reh_model.specs.Metadata.{Metadata, Fragment, IsEnsemble, IsMetadata, last_fragment, with_member, with_member_at, next_version}

or-none : (a b : Bool) → (a || b) ≡ false → (a ≡ false) × (b ≡ false)
or-none true b none = cc
or-none false b none = (refl, none)

none_is : (b : ℕ) (members : List ℕ) → list_any (λ m. m == b) members ≡ false → AllByRecursion (λ m. nat_eq b m ≡ false) members
none_is b [] none = tt
none_is b (m ∷ members) none =
    let both : ((m == b) ≡ false) × (list_any (λ m. m == b) members ≡ false) = or-none _ _ none in
    (grind (arith, nat_tests, both.0), none_is b members both.1)

AllByRecursion-set : (P : ℕ → Type 0) (xs : List ℕ) (i b : ℕ) → P b → AllByRecursion P xs → AllByRecursion P (set xs i b)
AllByRecursion-set P [] i b here all = tt
AllByRecursion-set P (x ∷ xs) zero b here all = (here, all.1)
AllByRecursion-set P (x ∷ xs) (suc i) b here all = (all.0, AllByRecursion-set P xs i b here all.1)

-- different bookies stay so where a new one takes a place
pub IsDistinct-set : (members : List ℕ) (i b : ℕ) → list_any (λ m. m == b) members ≡ false → IsDistinct nat_eq members → IsDistinct nat_eq (set members i b)
unfolding IsDistinct
IsDistinct-set [] i b new different = tt
IsDistinct-set (m ∷ members) zero b new different = (none_is b members (or-none (m == b) _ new).1, different.1)
IsDistinct-set (m ∷ members) (suc i) b new different =
    let both : ((m == b) ≡ false) × (list_any (λ m. m == b) members ≡ false) = or-none _ _ new in
    (AllByRecursion-set (λ y. nat_eq m y ≡ false) members i b (grind (arith, nat_tests, both.0)) different.0, IsDistinct-set members i b both.1 different.1)

from_zero-set : (fragments : List Fragment) (f : ℕ) (changed d : Fragment) → changed.first ≡ (get_or fragments f d).first → ForSome (slice_get fragments 0) (λ fragment. fragment.first ≡ 0) → ForSome (slice_get (set fragments f changed) 0) (λ fragment. fragment.first ≡ 0)
from_zero-set [] f changed d same zero_first = zero_first
from_zero-set (x ∷ xs) zero changed d same zero_first = λ y is. let e : changed ≡ y = cc in ap (λ (z : Fragment). z.first) (sym e) ∙ same ∙ zero_first x refl
from_zero-set (x ∷ xs) (suc f) changed d same zero_first = zero_first

-- a fragment's first entry, by the list of all
pub first-slice_get : (fragments : List Fragment) (k : ℕ) → (unwrap_or (slice_get fragments k) (record { first = 0; ensemble = [] })).first ≡ get_or (map (λ fragment. fragment.first) fragments) k 0
first-slice_get [] k = refl
first-slice_get (x ∷ xs) zero = refl
first-slice_get (x ∷ xs) (suc k) = first-slice_get xs k

-- another bookie that is no member yet: the metadata stays well-formed
pub IsMetadata-set : (m : Metadata) (f i b : ℕ) (fragment : Fragment) → fragment ≡ get_or m.fragments f fragment → f < length m.fragments → list_any (λ member. member == b) fragment.ensemble ≡ false → m.version + 1 ≤ MAX_VERSION
    → IsMetadata m → IsMetadata (record m { version = m.version + 1; fragments = set m.fragments f (with_member fragment i b) })
IsMetadata-set m f i b fragment at within new version was =
    let changed = with_member fragment i b in
    let same_first : changed.first ≡ (get_or m.fragments f fragment).first = ap (λ (x : Fragment). x.first) at in
    let same : map (λ (x : Fragment). x.first) (set m.fragments f changed) ≡ map (λ x. x.first) m.fragments = map-set_same (λ (x : Fragment). x.first) m.fragments f changed fragment same_first in
    let size : length (set m.fragments f changed) ≡ length m.fragments = length-set m.fragments f changed in
    let ensemble : IsEnsemble m.size fragment.ensemble = subst (λ (x : Fragment). IsEnsemble m.size x.ensemble) (sym at) (was.ensembles f fragment within) in
    let last : (last_fragment (record m { fragments = set m.fragments f changed })).first ≡ (last_fragment m).first =
    first-slice_get (set m.fragments f changed) (length (set m.fragments f changed) - 1) ∙ (λ j. get_or (same j) (size j - 1) 0) ∙ sym (first-slice_get m.fragments (length m.fragments - 1)) in
    record {
      some_acks = was.some_acks;
      acks_within = was.acks_within;
      writes_within = was.writes_within;
      small = was.small;
      version = version;
      some_fragment = omega (arith, size, was.some_fragment);
      fragments = omega (arith, size, was.fragments);
      from_zero = from_zero-set m.fragments f changed fragment same_first was.from_zero;
      rising = subst (λ (ns : List ℕ). IsStrictlyIncreasing ns) (sym same) was.rising;
      firsts = All-set (λ x. x.first < ENTRY_END) m.fragments f changed (subst (λ (x : Fragment). x.first < ENTRY_END) (sym at) (was.firsts f fragment within)) was.firsts;
      ensembles = All-set (λ x. IsEnsemble m.size x.ensemble) m.fragments f changed
          (record { whole = length-set fragment.ensemble i b ∙ ensemble.whole; different = IsDistinct-set fragment.ensemble i b new ensemble.different }) was.ensembles;
      end = λ end is. let kept = was.end end is in (omega (arith, kept.0, last), kept.1);
    }

-- a change of a fragment that is there
pub with_member_at-found : (m : Metadata) (f i b : ℕ) (fragment : Fragment) → f < length m.fragments → fragment ≡ get_or m.fragments f fragment → with_member_at m f i b ≡ record m { fragments = set m.fragments f (with_member fragment i b) }
with_member_at-found m f i b fragment within at =
    ap (λ (o : Option Fragment). record m { fragments = option_map_or (λ x. set m.fragments f (with_member x i b)) o m.fragments }) (slice_get-get_or m.fragments f fragment within ∙ ap Some (sym at))

-- the same, of the fragment at an index
pub IsMetadata-member : (m : Metadata) (f i b : ℕ) → f < length m.fragments → ForSome (slice_get m.fragments f) (λ old. list_any (λ member. member == b) old.ensemble ≡ false) → m.version < MAX_VERSION → IsMetadata m → IsMetadata (next_version (with_member_at m f i b))
IsMetadata-member m f i b within new version was =
    let none : Fragment = record { first = 0; ensemble = [] } in
    let old = get_or m.fragments f none in
    let at : old ≡ get_or m.fragments f old = get_or_default m.fragments f none old within in
    subst IsMetadata (sym (ap next_version (with_member_at-found m f i b old within at)))
    (IsMetadata-set m f i b old at within (new old (slice_get-get_or m.fragments f none within)) (omega (arith, version)) was)
