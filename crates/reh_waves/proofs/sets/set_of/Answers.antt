use Rattle.std.proofs.Common.{◌≡◌, ◌∙◌, ◌<◌, ◌+◌, ◌∷◌, [], ◌||◌, ℕ, Bool, true, false, List, ap, sym, refl, arith, inl, inr, length, replicate, set, take, get_or}
use Rattle.std.specs.Prelude.{◌==◌}
use Rattle.std.proofs.Math.ListN.{get_or-eq_default}
use Rattle.std.proofs.lemmas.Bool.{cases_lt}
use Rattle.std.proofs.lemmas.Bool.Decides.{eqb_tells}
use Rattle.std.proofs.lemmas.Grind.{get_or-set_at}
use Rattle.std.proofs.lemmas.List.{get_or-replicate, get_or-set_other, length-replicate, length-set, take_more}
use Rattle.std.proofs.lemmas.List.Folds.{list_any-append}
use Rattle.reh_census.specs.Bookies.{is_flagged}
use Rattle.reh_census.specs.Copies.{is_in}
use Rattle.reh_waves.proofs.sets.set_of.Goals as goal

set-flag : (flags : List Bool) (m b : ℕ) → m < length flags → is_flagged (set flags m true) b ≡ (m == b || is_flagged flags b)
set-flag flags m b below =
    elim (eqb_tells m b) [
      | inl same ↦ get_or-set_at flags m b true false (sym same.1) below ∙ ap (λ (f : Bool). f || is_flagged flags b) (sym same.0)
      | inr apart ↦
          get_or-set_other flags m b true false (λ same. apart.1 (sym same)) ∙ ap (λ (f : Bool). f || is_flagged flags b) (sym apart.0)
    ]

unset : (n b : ℕ) → is_flagged (replicate n false) b ≡ false
unset n b =
    elim (cases_lt b n) [
      | inl below ↦ get_or-replicate n b false false below
      | inr past ↦ get_or-eq_default (replicate n false) false (omega (arith, past, length-replicate n false))
    ]

-- of no member but the bookie
one-set : (flags : List Bool) (count bookie b : ℕ) → bookie < count → flags ≡ replicate count false
    → is_flagged (set flags bookie true) b ≡ (bookie == b || false)
one-set flags count bookie b below none =
    let long : length flags ≡ count = ap (λ (fs : List Bool). length fs) none ∙ length-replicate count false in
    set-flag flags bookie b (omega (arith, below, long))
    ∙ ap (λ (f : Bool). bookie == b || f) (ap (λ (fs : List Bool). is_flagged fs b) none ∙ unset count b)

moved : (m k l : Bool) → (m || (k || l)) ≡ (k || (l || (m || false)))
moved true true l = refl
moved true false true = refl
moved true false false = refl
moved false true l = refl
moved false false true = refl
moved false false false = refl

-- of one member more
more-set : (flags : List Bool) (members : List ℕ) (count bookie i b : ℕ) → i < length members → get_or members i 0 < count
    → length flags ≡ count → is_flagged flags b ≡ is_in (bookie ∷ take i members) b
    → is_flagged (set flags (get_or members i 0) true) b ≡ is_in (bookie ∷ take (i + 1) members) b
more-set flags members count bookie i b here below long were =
    let m : ℕ = get_or members i 0 in
    set-flag flags m b (omega (arith, below, long))
    ∙ ap (λ (f : Bool). m == b || f) were
    ∙ moved (m == b) (bookie == b) (is_in (take i members) b)
    ∙ ap (λ (f : Bool). bookie == b || f)
    (sym
    (ap (λ (ms : List ℕ). is_in ms b) (take_more members i 0 here)
    ∙ list_any-append (λ (name : ℕ). name == b) (take i members) (m ∷ [])))

pub loop-member-init : goal.loop-member-init
loop-member-init c =
    let none : c.in_ok-flags.flags.items ≡ replicate c.args.count false = c.in_ok-flags.ensures.items_if_clones_equal (λ y same. same) in
    record {
      long =
          length-set c.in_ok-flags.flags.items c.args.bookie true
          ∙ ap (λ (fs : List Bool). length fs) none
          ∙ length-replicate c.args.count false;
      flagged = λ b. one-set c.in_ok-flags.flags.items c.args.count c.args.bookie b c.requires.bookie none;
    }

pub loop-member-preserved : goal.loop-member-preserved
loop-member-preserved c =
    let i : ℕ = c.loop-member.member-index in
    record {
      long = length-set c.loop-member.flags.items (get_or c.args.members.now i 0) true ∙ c.loop-member.invariant.long;
      flagged =
          λ b. more-set c.loop-member.flags.items c.args.members.now c.args.count c.args.bookie i b c.loop-member-test.true
          (c.requires.members i 0 c.loop-member-test.true) c.loop-member.invariant.long (c.loop-member.invariant.flagged b);
    }
