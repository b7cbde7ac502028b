-- Why something can't be counted, seen by what has it.
use Rattle.std.proofs.Common.{◌≡◌, ◌∙◌, ◌<◌, ◌≤◌, ◌+◌, ◌^◌, inl, inr, ℕ, zero, suc, Bool, true, false, true≢false, not, if◌then◌else◌, List, [], ◌∷◌, ◌++◌, Option, Some, None, Vec}
use Rattle.std.proofs.Common.{length, map, get_or, take, refl, ap, sym, subst, arith, nat_eq}
use Rattle.std.specs.Prelude.{IfNone, IsErrAnd, IsSome, MatchResult, Result, slice_get}
use Rattle.std.specs.List.{Contains, IsDistinct, flat_map, list_any}
use Rattle.std.specs.Option.{IsSomeAnd}
use Rattle.std.specs.declared.alloc.Global.{Global}
use Rattle.std.proofs.lemmas.Bool.{cases_lt}
use Rattle.std.proofs.lemmas.Bool.Decides.{nat_tests}
use Rattle.std.proofs.lemmas.Map.Views.{Contains-from_any}
use Rattle.std.proofs.lemmas.Result.{err_from_is_err_and}
use Rattle.indexmap.specs.IndexSet.{insert_key}
use Rattle.reh_census.specs.declared.censuses.CountedEnsemble.{CountedEnsemble}
use Rattle.reh_census.specs.declared.censuses.CountedTail.{CountedTail}
use Rattle.reh_census.specs.declared.classes.Counted.{Counted}
use Rattle.reh_census.specs.Counting.{ensembles_in, entries_in, tails_in}
use Rattle.reh_census.specs.Ledgers.{IsLedger}
use Rattle.reh_model.specs.Cluster.{Ledger as PicturedLedger}
use Rattle.reh_model.proofs.ListLaws.{slice_get-there}
use Rattle.reh_picture.specs.declared.listings.Listed.{Listed}
use Rattle.reh_tally.specs.Few.{AreFewCounts}
use Rattle.reh_tally.specs.declared.census.TallyFault.{TallyFault}
use Rattle.reh_tally.specs.declared.census.TallyFault.TheVariants.{TooMany, NoMemory}
use Rattle.reh_inputs.specs.declared.gathered.GatherFault.{GatherFault}
use Rattle.reh_inputs.specs.declared.gathered.GatherFault.TheVariants as gather
use Rattle.reh_inputs.specs.declared.inputs.Input.{Input}
use Rattle.reh_inputs.specs.declared.inputs.Input.TheVariants.{Picture, Census}
use Rattle.reh_inputs.specs.declared.ledgers.Reading.{Reading}
use Rattle.reh_inputs.specs.Faults.{IsGatherFault}
use Rattle.reh_inputs.specs.Gathered.{fault_of_tally, ids_in, ledger_in}
use Rattle.reh_inputs.specs.Inputs.{of_picture}
use Rattle.reh_inputs.specs.Uncounted.{ComesAgain, HasUnfit, InputHasUnfit, IsCountFault, IsIdFault, IsListFault, IsUnfitAt, IsUnfitFault}
use Rattle.reh_inputs.specs.United.{number_of}

-- what is no more than that is no more than this, and who has such a ledger there has it here
pub IsCountFault-weaker : (few more : Type 0) (unfit known : ℕ → ℕ → Type 0) → (more → few)
    → ((input id : ℕ) → unfit input id → known input id)
    → (fault : GatherFault) → IsCountFault few unfit fault → IsCountFault more known fault
IsCountFault-weaker few more unfit known fewer has gather.TooMany is = λ are. is (fewer are)
IsCountFault-weaker few more unfit known fewer has (gather.Unfit input id) is = has input id is
IsCountFault-weaker few more unfit known fewer has gather.NoMemory is = tt
IsCountFault-weaker few more unfit known fewer has other is = absurd is

-- what a census says is too much is too much
pub IsCountFault-tally : (few : Type 0) (unfit : ℕ → ℕ → Type 0) (tally : TallyFault) → (tally ≡ TooMany → few → ⊥)
    → IsCountFault few unfit (fault_of_tally tally)
IsCountFault-tally few unfit TooMany too_many = too_many refl
IsCountFault-tally few unfit NoMemory too_many = tt

pub none_unless : {A : Type 0} (o : Option A) (P : Type 0) → (o ≡ None → P) → IfNone o P
none_unless None P none = none refl
none_unless (Some x) P none = tt

pub not_some : {A : Type 0} (o : Option A) → o ≡ None → IsSome o → ⊥
not_some None is some = cc
not_some (Some x) is some = cc

pub none_then : {A P Q : Type 0} (o : Option A) → IfNone o P → (P → Q) → IfNone o Q
none_then None is implies = implies is
none_then (Some x) is implies = tt

-- a fault that is passed on
pub passed_on : {T : Type 0} (P : T → Type 0) (Q : GatherFault → Type 0) (r : Result T GatherFault) (fault : GatherFault)
    → IsErrAnd r (λ passed. passed ≡ fault) → Q fault → MatchResult r P Q
passed_on {T} P Q r fault is here =
    let p = err_from_is_err_and r is in
    subst (λ (s : Result T GatherFault). MatchResult s P Q) (sym p.1) (subst Q (sym p.2) here)

-- what isn't too much is few
at_most : (m n : ℕ) → ((m ≤ n → ⊥) → ⊥) → m ≤ n
at_most m n not_more = elim (cases_lt n m) [
  | inl more ↦ absurd (not_more (λ few. omega (arith, more, few)))
  | inr few ↦ few
]

pub not_too_many : (classes : List Counted) (kinds : List CountedTail) (members : List CountedEnsemble)
    → ((AreFewCounts classes kinds members → ⊥) → ⊥) → AreFewCounts classes kinds members
not_too_many classes kinds members not_more = record {
  entries = at_most (entries_in classes) (2 ^ 63) (λ more. not_more (λ few. more few.entries));
  tails = at_most (tails_in kinds) (2 ^ 63) (λ more. not_more (λ few. more few.tails));
  ensembles = at_most (ensembles_in members) (2 ^ 63) (λ more. not_more (λ few. more few.ensembles));
}

-- Ids

same_number : (x y : ℕ) → nat_eq x y ≡ true → x ≡ y
same_number x y same = grind (arith, nat_tests)

-- an id that is there already, once those before it are each once
pub comes_again : (before ids : List ℕ) (k id : ℕ) (held after : List ℕ)
    → k < length ids → id ≡ get_or ids k id → held ≡ before ++ take k ids
    → list_any (nat_eq id) held ≡ true → after ≡ insert_key nat_eq held id → IsDistinct nat_eq after
    → ComesAgain before ids id
comes_again before ids k id held after within is taken found added distinct =
    let kept : after ≡ held = added ∙ ap (λ (b : Bool). if b then held else held ++ id ∷ []) found in
    record {
      place = k;
      is_there = slice_get-there ids k id within is;
      each_once = subst (λ (ids : List ℕ). IsDistinct nat_eq ids) (kept ∙ taken) distinct;
      is_before = subst (λ (ids : List ℕ). Contains ids id) taken (Contains-from_any same_number id held found);
    }

-- what didn't join was there
pub was_there : (joined there : Bool) → joined ≡ false → joined ≡ not there → there ≡ true
was_there joined true fails is = refl
was_there joined false fails is = absurd (true≢false (sym is ∙ fails))

-- after the ids of the inputs before
pub ids_fault : (inputs : List Input) (strict : Bool) (k : ℕ) (one : Input) (before : List ℕ)
    → slice_get inputs k ≡ Some one → before ≡ flat_map (of_picture ids_in) (take k inputs)
    → (fault : GatherFault) → IsIdFault k before (of_picture ids_in one) fault → IsGatherFault inputs strict fault
ids_fault inputs strict k one before there same (gather.Twice number id) is =
    subst (λ (n : ℕ).
    IsSomeAnd (slice_get inputs n)
    (λ one. ComesAgain (flat_map (of_picture ids_in) (take n inputs)) (of_picture ids_in one) id))
    (sym is.0)
    (subst (λ (o : Option Input).
    IsSomeAnd o (λ one. ComesAgain (flat_map (of_picture ids_in) (take k inputs)) (of_picture ids_in one) id))
    (sym there)
    (subst (λ (ids : List ℕ). ComesAgain ids (of_picture ids_in one) id) same is.1))
ids_fault inputs strict k one before there same gather.NoMemory is = tt
ids_fault inputs strict k one before there same other is = absurd is

-- the same of lists of ids
pub list_fault : (lists : List (Vec ℕ Global)) (k : ℕ) (ids : Vec ℕ Global) (before : List ℕ)
    → slice_get lists k ≡ Some ids → before ≡ flat_map (λ list. list.items) (take k lists)
    → (fault : GatherFault) → IsIdFault k before ids.items fault → IsListFault lists fault
list_fault lists k ids before there same (gather.Twice number id) is =
    subst (λ (n : ℕ).
    IsSomeAnd (slice_get lists n)
    (λ list. ComesAgain (flat_map (λ (l : Vec ℕ Global). l.items) (take n lists)) list.items id))
    (sym is.0)
    (subst (λ (o : Option (Vec ℕ Global)).
    IsSomeAnd o (λ list. ComesAgain (flat_map (λ (l : Vec ℕ Global). l.items) (take k lists)) list.items id))
    (sym there)
    (subst (λ (ids_before : List ℕ). ComesAgain ids_before ids.items id) same is.1))
list_fault lists k ids before there same gather.NoMemory is = tt
list_fault lists k ids before there same other is = absurd is

-- Ledgers that can't be counted

-- one is among the ledgers of its picture
pub ledger_unfit : (numbers : List ℕ) (reading : Reading) (l : Listed) (input k : ℕ) (g : PicturedLedger)
    → (gs : List PicturedLedger) → gs ≡ l.listing.ledgers.items → k < length gs → g ≡ get_or gs k g
    → (fault : GatherFault)
    → IsUnfitFault (λ number id. (number ≡ input) × (id ≡ g.id) × (IsLedger (ledger_in numbers reading l g) → ⊥)) fault
    → IsUnfitFault (λ number id. (number ≡ input) × HasUnfit numbers reading l id) fault
ledger_unfit numbers reading l input k g gs same within is =
    IsCountFault-weaker (Unit {0}) (Unit {0})
    (λ number id. (number ≡ input) × (id ≡ g.id) × (IsLedger (ledger_in numbers reading l g) → ⊥))
    (λ number id. (number ≡ input) × HasUnfit numbers reading l id) (λ one. one)
    (λ number id has. (
      has.0,
      record {
        ledger = g;
        is_there = subst (λ (gs : List PicturedLedger). Contains gs g) same (k, within, sym is);
        id_is = sym has.1;
        unfit = has.2;
      },
    ))

-- and that picture is among the inputs
pub input_unfit : (names : List (List ℕ)) (reading : Reading) (first : ℕ) (inputs : List Input) (k : ℕ) (one : Input)
    → slice_get inputs k ≡ Some one → (fault : GatherFault)
    → IsUnfitFault (λ number id. (number ≡ first + k) × InputHasUnfit names reading one id) fault
    → IsUnfitFault (IsUnfitAt names reading first inputs) fault
input_unfit names reading first inputs k one there =
    IsCountFault-weaker (Unit {0}) (Unit {0}) (λ number id. (number ≡ first + k) × InputHasUnfit names reading one id)
    (IsUnfitAt names reading first inputs) (λ one. one)
    (λ number id has. (
      k,
      has.0,
      subst (λ (o : Option Input). IsSomeAnd o (λ one. InputHasUnfit names reading one id)) (sym there) has.1,
    ))

-- a ledger that can't be counted can't, however it is read
fits : (numbers : List ℕ) (reading other : Reading) (l : Listed) (g : PicturedLedger)
    → IsLedger (ledger_in numbers reading l g) → IsLedger (ledger_in numbers other l g)
fits numbers reading other l g is = record {
  some_acks = is.some_acks;
  acks_within = is.acks_within;
  writes_within = is.writes_within;
  small = is.small;
  fragments = is.fragments;
  in_turn = is.in_turn;
}

unfit_as : (names : List (List ℕ)) (reading other : Reading) (one : Input) (id : ℕ)
    → InputHasUnfit names reading one id → InputHasUnfit names other one id
unfit_as names reading other (Picture l) id has = record {
  ledger = has.ledger;
  is_there = has.is_there;
  id_is = has.id_is;
  unfit = λ is. has.unfit (fits (map (number_of names) l.listing.names) other reading l has.ledger is);
}
unfit_as names reading other (Census c) id has = has

there_as : (names : List (List ℕ)) (reading other : Reading) (o : Option Input) (id : ℕ)
    → IsSomeAnd o (λ one. InputHasUnfit names reading one id) → IsSomeAnd o (λ one. InputHasUnfit names other one id)
there_as names reading other None id is = is
there_as names reading other (Some one) id is = unfit_as names reading other one id is

pub unfit_at_as : (names : List (List ℕ)) (reading other : Reading) (first : ℕ) (inputs : List Input) (input id : ℕ)
    → IsUnfitAt names reading first inputs input id → IsUnfitAt names other first inputs input id
unfit_at_as names reading other first inputs input id is =
    (is.0, is.1, there_as names reading other (slice_get inputs is.0) id is.2)

-- Elements of two lists

pub in_front : {A : Type 0} (P : A → Type 0) (xs ys : List A) (k : ℕ) → IsSomeAnd (slice_get xs k) P
    → IsSomeAnd (slice_get (xs ++ ys) k) P
in_front P [] ys k is = absurd is
in_front P (x ∷ xs) ys zero is = is
in_front P (x ∷ xs) ys (suc k) is = in_front P xs ys k is

pub in_back : {A : Type 0} (P : A → Type 0) (xs ys : List A) (k m : ℕ) → m ≡ length xs + k → IsSomeAnd (slice_get ys k) P
    → IsSomeAnd (slice_get (xs ++ ys) m) P
in_back {A} P [] ys k m same is =
    let here : k ≡ m = omega (arith, same) in
    subst (λ (n : ℕ). IsSomeAnd {T = A} (slice_get ys n) P) here is
in_back P (x ∷ xs) ys k zero same is = absurd (omega (arith, same))
in_back P (x ∷ xs) ys k (suc m) same is = in_back P xs ys k m (omega (arith, same)) is
