-- However ledgers are read, there are as many entries, ledgers that aren't closed and fragments of them.
use Rattle.std.proofs.Common.{◌≡◌, ◌∙◌, ◌≤◌, ◌+◌, ◌^◌, ℕ, Bool, true, false, List, [], ◌∷◌, map, refl, ap, sym, subst}
use Rattle.std.specs.Prelude.{count_by, sum_by}
use Rattle.std.proofs.lemmas.List.Sums.{sum_by-append, sum_by-cons}
use Rattle.reh_census.specs.declared.ledgers.Fragment.{Fragment}
use Rattle.reh_census.specs.declared.ledgers.LedgerState.{LedgerState}
use Rattle.reh_census.specs.declared.ledgers.LedgerState.TheVariants.{Open, InRecovery, Closed}
use Rattle.reh_census.specs.Counting.{count_ledger, tail_in, tail_of, tail_with}
use Rattle.reh_census.specs.Ledgers.{Ledger}
use Rattle.reh_model.specs.Cluster.{Ledger as PicturedLedger}
use Rattle.reh_picture.specs.declared.listings.Listed.{Listed}
use Rattle.reh_tally.specs.Few.{AreFew}
use Rattle.reh_inputs.specs.declared.inputs.Input.{Input}
use Rattle.reh_inputs.specs.declared.inputs.Input.TheVariants.{Picture, Census}
use Rattle.reh_inputs.specs.declared.ledgers.Reading.{Reading}
use Rattle.reh_inputs.specs.Gathered.{ledger_in, ledgers_among, ledgers_in}
use Rattle.reh_inputs.specs.Ledgers.{state_of}
use Rattle.reh_inputs.specs.United.{number_of}

-- what is the same of each ledger is the same of all
module _ (names : List (List ℕ)) (reading other : Reading) (f : Ledger → ℕ)
    (same : (numbers : List ℕ) (l : Listed) (g : PicturedLedger)
    → f (ledger_in numbers reading l g) ≡ f (ledger_in numbers other l g)) where
  in_picture : (numbers : List ℕ) (l : Listed) (gs : List PicturedLedger)
      → sum_by f (map (ledger_in numbers reading l) gs) ≡ sum_by f (map (ledger_in numbers other l) gs)
  in_picture numbers l [] = refl
  in_picture numbers l (g ∷ gs) =
      sum_by-cons f (ledger_in numbers reading l g) (map (ledger_in numbers reading l) gs)
      ∙ (λ i. same numbers l g i + in_picture numbers l gs i)
      ∙ sym (sum_by-cons f (ledger_in numbers other l g) (map (ledger_in numbers other l) gs))

  in_inputs : (inputs : List Input)
      → sum_by f (ledgers_among names reading inputs) ≡ sum_by f (ledgers_among names other inputs)
  in_inputs [] = refl
  in_inputs (Picture l ∷ inputs) =
      sum_by-append f (ledgers_in names reading l) (ledgers_among names reading inputs)
      ∙ (λ i. in_picture (map (number_of names) l.listing.names) l l.listing.ledgers.items i + in_inputs inputs i)
      ∙ sym (sum_by-append f (ledgers_in names other l) (ledgers_among names other inputs))
  in_inputs (Census c ∷ inputs) = in_inputs inputs

-- how many tails a ledger has, its fragments tell
tails_with : (g h : Ledger) (is_open : Bool) (fragments : List Fragment)
    → count_by (λ tail. true) (tail_with g is_open fragments) ≡ count_by (λ tail. true) (tail_with h is_open fragments)
tails_with g h is_open [] = refl
tails_with g h is_open (fragment ∷ []) = refl
tails_with g h is_open (fragment ∷ next ∷ fragments) = tails_with g h is_open (next ∷ fragments)

tails_in : (g h : Ledger) (state : LedgerState) → g.fragments ≡ h.fragments
    → count_by (λ tail. true) (tail_in g state) ≡ count_by (λ tail. true) (tail_in h state)
tails_in g h Open same =
    tails_with g h true g.fragments
    ∙ ap (λ (fragments : List Fragment). count_by (λ tail. true) (tail_with h true fragments)) same
tails_in g h InRecovery same =
    tails_with g h false g.fragments
    ∙ ap (λ (fragments : List Fragment). count_by (λ tail. true) (tail_with h false fragments)) same
tails_in g h Closed same = refl

pub few_as : (holders : List ℕ) (names : List (List ℕ)) (reading other : Reading) (inputs : List Input)
    → AreFew holders (ledgers_among names reading inputs) → AreFew holders (ledgers_among names other inputs)
few_as holders names reading other inputs are = record {
  entries =
      subst (λ (n : ℕ). n ≤ 2 ^ 63)
      (in_inputs names reading other (count_ledger holders (λ class. true)) (λ numbers l g. refl) inputs) are.entries;
  tails =
      subst (λ (n : ℕ). n ≤ 2 ^ 63)
      (in_inputs names reading other (λ g. count_by (λ tail. true) (tail_of g))
      (λ numbers l g.
      tails_in (ledger_in numbers reading l g) (ledger_in numbers other l g) (state_of g.metadata.state) refl)
      inputs) are.tails;
  ensembles =
      subst (λ (n : ℕ). n ≤ 2 ^ 63)
      (in_inputs names reading other (λ g. count_by (λ fragment. true) g.fragments) (λ numbers l g. refl) inputs) are.ensembles;
}
