-- What a test of equality tells: whether two values are equal.
--     Tells test      the test is true exactly of equal values
--     tells_laws      such a test has the laws of `==`
--     told_both, told_by      a test of two parts, and of what follows from parts
--     tells_numbers, tells_lists, tells_options, tells_sets      of numbers, lists, options and sets
use Rattle.std.specs.Prelude.{◌≡◌, ◌↔◌, Bool, true, false, ◌&&◌, Option, None, Some, IsTrue, nat_eq, refl}
use Rattle.std.specs.Prelude.{is_some, unwrap_or}
use Rattle.std.specs.Cmp.{IsPartialEquivalence, partial_equiv_from_equiv, decided, unsigned_Decides, first_so, second_so}
use Rattle.std.specs.Cmp.Lexicographic.{pointwise, pointwise_decides}
use Rattle.std.specs.Option.{option_eq}
use mathlib.Core.Path.{sym, ap, subst}
use mathlib.Core.Bool.{true≢false}
use Rattle.reh_types.specs.Sets.{Order, Set, contains, is_subset, same_set, is_subset-contains, contains-is_subset}

-- the test is true exactly of equal values
abbrev pub Tells : {A : Type 0} → (A → A → Bool) → Type 0
Tells {A} test = (a b : A) → IsTrue (test a b) ↔ (a ≡ b)

-- such a test has the laws of `==`
pub tells_laws : {A : Type 0} {test : A → A → Bool} → Tells test → IsPartialEquivalence test
tells_laws {test = test} tells = partial_equiv_from_equiv (decided test tells)

-- Parts

-- two tests, one of each of two facts
pub told_both : {P Q : Type 0} {a b : Bool} → IsTrue a ↔ P → IsTrue b ↔ Q → IsTrue (a && b) ↔ (P × Q)
told_both {a = a} {b} p q = (λ e. (p.0 (first_so a b e), q.0 (second_so a b e)), λ h i. p.1 (h.0) i && q.1 (h.1) i)

-- a test of a fact is one of any fact that is as good
pub told_by : {P Q : Type 0} {a : Bool} → IsTrue a ↔ P → (P → Q) → (Q → P) → IsTrue a ↔ Q
told_by p there back = (λ e. there (p.0 e), λ h. p.1 (back h))

-- Values

pub tells_numbers : Tells nat_eq
tells_numbers = unsigned_Decides

pub tells_lists : {A : Type 0} {test : A → A → Bool} → Tells test → Tells (pointwise test)
tells_lists tells = pointwise_decides tells

pub tells_options : {A : Type 0} {test : A → A → Bool} → Tells test → Tells (option_eq test)
tells_options tells None None = (λ e. refl, λ e. refl)
tells_options tells None (Some b) = (λ e. absurd (true≢false (sym e)), λ e. absurd (true≢false (sym (ap is_some e))))
tells_options tells (Some a) None = (λ e. absurd (true≢false (sym e)), λ e. absurd (true≢false (ap is_some e)))
tells_options tells (Some a) (Some b) =
    told_by (tells a b) (λ e. ap Some e) (λ e. ap (λ (x : Option _). unwrap_or x a) e)

-- whether two sets have the same members
abbrev pub same_members : {K : Type 0} {o : Order K} → Set o → Set o → Bool
same_members s t = is_subset s t && is_subset t s

-- tests that imply each other
pub two_ways : (a b : Bool) → (a ≡ true → b ≡ true) → (b ≡ true → a ≡ true) → a ≡ b
two_ways true b there back = sym (there refl)
two_ways false true there back = back refl
two_ways false false there back = refl

subset_itself : {K : Type 0} {o : Order K} (s : Set o) → is_subset s s ≡ true
subset_itself s = contains-is_subset s s (λ q one. one)

pub tells_sets : {K : Type 0} {o : Order K} → Tells (same_members {o = o})
tells_sets s t = (
  λ e. same_set s t (λ q. two_ways (contains s q) (contains t q)
      (is_subset-contains s t (first_so (is_subset s t) (is_subset t s) e) q)
      (is_subset-contains t s (second_so (is_subset s t) (is_subset t s) e) q)),
  λ e. subst (λ u. same_members s u ≡ true) e (λ i. subset_itself s i && subset_itself s i),
)
