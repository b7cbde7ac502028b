-- What a post asks of the fragment and of the sources.
use Rattle.std.proofs.Common.{◌≡◌, ◌∙◌, ℕ, ◌-◌, ◌≤◌, ◌<◌, ◌&&◌, ◌||◌, Bool, true, false, not, List, [], ◌∷◌, map}
use Rattle.std.proofs.Common.{length, Option, None, Some, All, Bor, refl, ap, sym, slice_index, nat_lt, arith}
use Rattle.std.specs.Prelude.{◌==◌, ◌+◌, ◌%◌, bit_or, bit_xor, max}
use Rattle.std.specs.Int.{bit_at}
use Rattle.std.specs.List.{list_any, zip}
use Rattle.std.specs.Option.{option_or}
use Rattle.std.proofs.lemmas.Bool.Decides.{nat_tests}
use Rattle.std.proofs.lemmas.List.Elements.{All-head, All-tail}
use Rattle.std.proofs.lemmas.List.FromFn.{length-range_with_len}
use Rattle.std.proofs.lemmas.List.Sums.{count_by-le-length, length-filter}
use Rattle.std.proofs.lemmas.Nat.Bits.{bit_at-lt, bit_at-zero, bit_at_or, bit_at_xor, same_from_bits}
use Rattle.reh_types.specs.declared.contents.Content.{Content}
use Rattle.reh_types.specs.declared.refusals.Refusal.{Refusal}
use Rattle.reh_types.specs.declared.refusals.Refusal.TheVariants.{NoIndex, SourceGone, Stale}
use Rattle.reh_model.specs.Checks.{reason_if, first_reason}
use Rattle.reh_model.specs.Striping.{range, is_striped, striped_entries, write_set}
use Rattle.reh_model.specs.Metadata.{Fragment, Metadata, IsMetadata}
use Rattle.reh_model.specs.Cluster.{Cluster, Ledger, is_source, ledger_at}
use Rattle.reh_model.specs.Refusals.{at_fragment, at_ledger, with_fragment, with_ledger, no_bookie, no_index, not_owner}
use Rattle.reh_model.specs.Refusals.{member_up, target_down, target_is_member}
use Rattle.reh_model.specs.Scan.{lost_source, lost_sources, not_as_seen, post_checks, post_refusal, source_checks}
use Rattle.reh_model.proofs.CheckLaws.{first_reason-found, first_reason-only, first_reason-passed}
use Rattle.reh_scan.specs.Posts.{IsSeen, is_copy_at, lost_copy}
use Rattle.reh_scan.specs.Sources.{is_set_at, is_source_at}
use Rattle.reh_scan.proofs.ReadingLaws.{write_set_within}

-- there are no more striped entries than entries
pub striped_entries-few : (a b i n q : ℕ) → length (striped_entries a b i n q) ≤ b - a
striped_entries-few a b i n q =
    omega (
      arith,
      length-filter (λ e. is_striped e i n q) (range a b),
      count_by-le-length (λ e. is_striped e i n q) (range a b),
      length-range_with_len a (b - a),
    )

any_both : (c any q : Bool) → q ≡ c → (q || (any && c)) ≡ c
any_both true any q is = ap (λ b. b || (any && true)) is
any_both false any q is = ap (λ b. b || (any && false)) is ∙ no_more any where
  no_more : (any : Bool) → (any && false) ≡ false
  no_more true = refl
  no_more false = refl

-- a value is in a list and passes a test if it is at some place at which the test is passed
any_where : (f : ℕ → ℕ) (b : ℕ) (q t : ℕ → Bool) (size : ℕ) → ((i : ℕ) → i < size → q i ≡ t (f i)) → (is : List ℕ)
    → All (λ i. i < size) is
    → list_any (λ i. (f i == b) && q i) is ≡ (list_any (λ x. x == b) (map f is) && t b)
any_where f b q t size same [] within = refl
any_where f b q t size same (i ∷ is) within =
    let later = any_where f b q t size same is (All-tail (λ j. j < size) i is within) in
    let here : q i ≡ t (f i) = same i (All-head (λ j. j < size) i is within) in
    ap (λ rest. (f i == b && q i) || rest) later
    ∙ elim (f i == b) as (λ e. (f i == b) ≡ e
    → ((e && q i) || (list_any (λ x. x == b) (map f is) && t b)) ≡ ((e || list_any (λ x. x == b) (map f is)) && t b)) [
      | true ↦ λ yes. let at : f i ≡ b = grind (arith, nat_tests, yes) in
          any_both (t b) (list_any (λ x. x == b) (map f is)) (q i) (here ∙ ap t at)
      | false ↦ λ _. refl
    ] refl

-- an entry's source is lost if no row of its write set at which it stands has the entry, where the rows are those of
-- the registered members
pub lost_source-rows : (s : Cluster) (g : Ledger) (fragment : Fragment) (rows : List (Bor (List ℕ))) (m : Metadata)
    → m ≡ g.metadata → IsMetadata g.metadata
    → ((index entry : ℕ) → index < g.metadata.size → is_set_at rows entry index ≡ is_source_at s g fragment entry index)
    → (entry : ℕ) (source : Option ℕ)
    → lost_source s g fragment (entry, source) ≡ lost_copy rows m fragment (entry, source)
lost_source-rows s g fragment rows m same_metadata rules_of same entry None = refl
lost_source-rows s g fragment rows m same_metadata rules_of same entry (Some b) =
    ap (λ found. reason_if (not found) (SourceGone entry)) (sym (
    ap (λ (m : Metadata). list_any (is_copy_at rows fragment entry b) (write_set entry m.size m.write_quorum))
    same_metadata
    ∙ any_where (λ i. slice_index fragment.ensemble i) b (is_set_at rows entry) (is_source s g.id entry) g.metadata.size
    (λ i inside. same i entry inside)
    (write_set entry g.metadata.size g.metadata.write_quorum) (write_set_within g.metadata entry rules_of)))

-- Sources that are left

-- the first of them comes before the others
pub lost-next : (lost : ℕ × Option ℕ → Option Refusal) (entries rest : List ℕ) (sources others : List (Option ℕ))
    (entry : ℕ) (source : Option ℕ) → entries ≡ entry ∷ rest → sources ≡ source ∷ others
    → first_reason (map lost (zip entries sources))
    ≡ option_or (lost (entry, source)) (first_reason (map lost (zip rest others)))
lost-next lost entries rest sources others entry source is also =
    ap (λ (es : List ℕ). first_reason (map lost (zip es sources))) is
    ∙ ap (λ (ss : List (Option ℕ)). first_reason (map lost (zip (entry ∷ rest) ss))) also

-- none is lost where no entry is left,
pub lost-no_entry : (lost : ℕ × Option ℕ → Option Refusal) (entries : List ℕ) (sources : List (Option ℕ)) → entries ≡ []
    → first_reason (map lost (zip entries sources)) ≡ None
lost-no_entry lost entries sources is = ap (λ (es : List ℕ). first_reason (map lost (zip es sources))) is

-- or no source
pub lost-no_source : (lost : ℕ × Option ℕ → Option Refusal) (entries : List ℕ) (sources : List (Option ℕ))
    → length sources ≡ 0 → first_reason (map lost (zip entries sources)) ≡ None
lost-no_source lost [] sources is = refl
lost-no_source lost (entry ∷ entries) [] is = refl
lost-no_source lost (entry ∷ entries) (source ∷ sources) is = absurd (omega arith)

-- Refusals

-- where the lock is held and the fragment is as it was seen, what is asked of the member, the bookie and the sources is
-- left
pub post_refusal-seen : (s : Cluster) (content : Content) (g : Ledger) (fragment : Fragment)
    → no_bookie s content.aim.worker ≡ None → ledger_at s content.aim.ledger ≡ Some g
    → not_owner content.aim.worker g ≡ None → IsSeen g.metadata content fragment
    → post_refusal s content ≡ first_reason (source_checks s content g fragment)
post_refusal-seen s content g fragment named there owner is =
    let checks : Fragment → List (Option Refusal) = source_checks s content g in
    let seen : not_as_seen g content ≡ None = ap (λ t. reason_if (not t) (Stale g.metadata.version)) is.seen in
    ap (λ reason. option_or reason (option_or (at_ledger s content.aim.ledger (post_checks s content)) None)) named
    ∙ ap (λ found. option_or (with_ledger found (post_checks s content)) None) there
    ∙ ap (λ reason.
    option_or
    (option_or reason (option_or (not_as_seen g content) (option_or (at_fragment g content.aim.fragment checks) None)))
    None)
    owner
    ∙ ap (λ reason. option_or (option_or reason (option_or (at_fragment g content.aim.fragment checks) None)) None) seen
    ∙ ap (λ found. option_or (option_or (with_fragment found checks) None) None) is.there
    ∙ first_reason-only (option_or (first_reason (checks fragment)) None)
    ∙ first_reason-only (first_reason (checks fragment))

-- the checks of the member and the bookie, where the index is in the ensemble
member_checks : (s : Cluster) (content : Content) (g : Ledger) (fragment : Fragment)
    → content.aim.index < g.metadata.size
    → first_reason
    (no_index g content.aim.index ∷ member_up s fragment content.aim.index ∷ target_down s content.aim.worker
    ∷ target_is_member fragment content.aim.worker ∷ [])
    ≡ first_reason
    (member_up s fragment content.aim.index ∷ target_down s content.aim.worker
    ∷ target_is_member fragment content.aim.worker ∷ [])
member_checks s content g fragment inside =
    let there : nat_lt content.aim.index g.metadata.size ≡ true = grind (arith, nat_tests, inside) in
    ap (λ t.
    option_or (reason_if (not t) NoIndex)
    (first_reason
    (member_up s fragment content.aim.index ∷ target_down s content.aim.worker
    ∷ target_is_member fragment content.aim.worker ∷ [])))
    there

-- what they refuse is refused
pub source_checks-found : (s : Cluster) (content : Content) (g : Ledger) (fragment : Fragment) (reason : Refusal)
    → content.aim.index < g.metadata.size
    → first_reason
    (no_index g content.aim.index ∷ member_up s fragment content.aim.index ∷ target_down s content.aim.worker
    ∷ target_is_member fragment content.aim.worker ∷ [])
    ≡ Some reason
    → first_reason (source_checks s content g fragment) ≡ Some reason
source_checks-found s content g fragment reason inside is =
    first_reason-found
    (member_up s fragment content.aim.index ∷ target_down s content.aim.worker
    ∷ target_is_member fragment content.aim.worker ∷ [])
    (lost_sources s content g fragment ∷ []) reason
    (sym (member_checks s content g fragment inside) ∙ is)

-- and where they refuse nothing, the sources are left
pub source_checks-passed : (s : Cluster) (content : Content) (g : Ledger) (fragment : Fragment)
    → content.aim.index < g.metadata.size
    → first_reason
    (no_index g content.aim.index ∷ member_up s fragment content.aim.index ∷ target_down s content.aim.worker
    ∷ target_is_member fragment content.aim.worker ∷ [])
    ≡ None
    → first_reason (source_checks s content g fragment) ≡ lost_sources s content g fragment
source_checks-passed s content g fragment inside none =
    first_reason-passed
    (member_up s fragment content.aim.index ∷ target_down s content.aim.worker
    ∷ target_is_member fragment content.aim.worker ∷ [])
    (lost_sources s content g fragment ∷ [])
    (sym (member_checks s content g fragment inside) ∙ none)
    ∙ first_reason-only (lost_sources s content g fragment)

-- the bits in which two numbers differ, and others: there is none where there is no other and the numbers are the same
pub none_differing : (others a b : ℕ) → bit_or others (bit_xor a b) ≡ 0 → (others ≡ 0) × (a ≡ b)
none_differing others a b none =
    let clear : (i : ℕ) → max (bit_at others i) ((bit_at a i + bit_at b i) % 2) ≡ 0 =
    λ i. ap (max (bit_at others i)) (sym (bit_at_xor a b i)) ∙ sym (bit_at_or others (bit_xor a b) i)
    ∙ ap (λ n. bit_at n i) none ∙ bit_at-zero i in (
      same_from_bits others 0 (λ i. omega (arith, clear i, bit_at-zero i)),
      same_from_bits a b (λ i. omega (arith, clear i, bit_at-lt a i, bit_at-lt b i)),
    )
