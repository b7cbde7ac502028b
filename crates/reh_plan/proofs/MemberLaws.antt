-- The members of ensembles, one after another.
use Rattle.std.proofs.Common.{◌≡◌, ◌∙◌, ◌+◌, ◌<◌, ◌||◌, ℕ, Bool, true, false, List, [], ◌∷◌, ◌++◌, ap, append-nil, arith, get_or, length, nat_eq, refl, sym, take}
use Rattle.std.specs.Prelude.{◌==◌}
use Rattle.std.specs.Cmp.{unsigned_tied}
use Rattle.std.specs.List.{flat_map, list_any}
use Rattle.std.specs.Ordering.{eq_by_cmp, nat_cmp}
use Rattle.std.proofs.Math.Bool.{or-false}
use Rattle.std.proofs.lemmas.Bool.Decides.{nat_tests}
use Rattle.std.proofs.lemmas.List.{take_more}
use Rattle.std.proofs.lemmas.List.Concat.{flat_map-append}
use Rattle.std.proofs.lemmas.List.Folds.{list_any-append}
use Rattle.reh_types.specs.Sets as set
use Rattle.reh_types.specs.Sets.{Set, contains-empty, contains-insert, numbers}
use Rattle.reh_model.specs.Metadata.{Fragment}

-- whether a bookie is one of these
abbrev pub is_one_of : List ℕ → ℕ → Bool
is_one_of members b = list_any (λ member. member == b) members

itself : (k q : ℕ) → eq_by_cmp nat_cmp q k ≡ (k == q)
itself k q = unsigned_tied q k ∙ turned where
  turned : nat_eq q k ≡ nat_eq k q
  turned = grind (arith, nat_tests)

or_turned : (a b c : Bool) → (a || (b || c)) ≡ (b || (c || a))
or_turned true true c = refl
or_turned true false true = refl
or_turned true false false = refl
or_turned false true c = refl
or_turned false false true = refl
or_turned false false false = refl

-- one member more, that is put into the set
pub member_put : (was now : Set numbers) (members : List ℕ) (i k b : ℕ) (start : Bool) → i < length members
    → k ≡ get_or members i k → now ≡ set.insert was k
    → set.contains was b ≡ (start || is_one_of (take i members) b)
    → set.contains now b ≡ (start || is_one_of (take (i + 1) members) b)
member_put was now members i k b start within is put so_far =
    ap (λ (s : Set numbers). set.contains s b) put
    ∙ contains-insert was k b
    ∙ (λ j. itself k b j || so_far j)
    ∙ or_turned (k == b) start (is_one_of (take i members) b)
    ∙ ap (λ t. start || (is_one_of (take i members) b || t)) (sym (or-false (k == b)))
    ∙ ap (λ t. start || t) (sym (list_any-append (λ member. member == b) (take i members) (k ∷ [])))
    ∙ ap (λ (x : ℕ). start || is_one_of (take i members ++ x ∷ []) b) is
    ∙ ap (λ (xs : List ℕ). start || is_one_of xs b) (sym (take_more members i k within))

-- or isn't, as there is no such bookie
pub member_past : (was : Set numbers) (members : List ℕ) (i k b : ℕ) (start : Bool) → i < length members
    → k ≡ get_or members i k → b < k
    → set.contains was b ≡ (start || is_one_of (take i members) b)
    → set.contains was b ≡ (start || is_one_of (take (i + 1) members) b)
member_past was members i k b start within is past so_far =
    let other : (k == b) ≡ false = grind (arith, nat_tests) in
    so_far
    ∙ ap (λ t. start || t) (sym (or-false (is_one_of (take i members) b)))
    ∙ ap (λ t. start || (is_one_of (take i members) b || (t || false))) (sym other)
    ∙ ap (λ t. start || t) (sym (list_any-append (λ member. member == b) (take i members) (k ∷ [])))
    ∙ ap (λ (x : ℕ). start || is_one_of (take i members ++ x ∷ []) b) is
    ∙ ap (λ (xs : List ℕ). start || is_one_of xs b) (sym (take_more members i k within))

-- those of one ensemble more
pub ensemble_more : (was now : Set numbers) (fs : List Fragment) (i b : ℕ) (f : Fragment) → i < length fs → f ≡ get_or fs i f
    → set.contains now b ≡ (set.contains was b || is_one_of f.ensemble b)
    → set.contains was b ≡ is_one_of (flat_map (λ x. x.ensemble) (take i fs)) b
    → set.contains now b ≡ is_one_of (flat_map (λ x. x.ensemble) (take (i + 1) fs)) b
ensemble_more was now fs i b f within is added so_far =
    let before : List ℕ = flat_map (λ (x : Fragment). x.ensemble) (take i fs) in
    added
    ∙ ap (λ t. t || is_one_of f.ensemble b) so_far
    ∙ sym (list_any-append (λ member. member == b) before f.ensemble)
    ∙ ap (λ (ms : List ℕ). is_one_of (before ++ ms) b) (sym (append-nil f.ensemble))
    ∙ ap (λ (ms : List ℕ). is_one_of ms b) (sym (flat_map-append (λ (x : Fragment). x.ensemble) (take i fs) (f ∷ [])))
    ∙ ap (λ (x : Fragment). is_one_of (flat_map (λ (y : Fragment). y.ensemble) (take i fs ++ x ∷ [])) b) is
    ∙ ap (λ (xs : List Fragment). is_one_of (flat_map (λ (y : Fragment). y.ensemble) xs) b) (sym (take_more fs i f within))

-- none yet
pub none_put : (start : Bool) (members : List ℕ) (b : ℕ) → start ≡ (start || is_one_of (take 0 members) b)
none_put start members b = sym (or-false start)

pub no_ensemble : (new : Set numbers) (fs : List Fragment) (b : ℕ) → new ≡ set.empty
    → set.contains new b ≡ is_one_of (flat_map (λ x. x.ensemble) (take 0 fs)) b
no_ensemble new fs b is = ap (λ (s : Set numbers). set.contains s b) is ∙ contains-empty numbers b
