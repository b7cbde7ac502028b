-- Where nothing is assumed no entry rests on an assumption.
use Rattle.std.proofs.Common.{◌≡◌, ◌∙◌, ◌+◌, ◌==◌, ◌&&◌, ◌||◌, refl, ap, ℕ, Bool, true, false, cond, if◌then◌else◌, nat_lt, List, [], ◌∷◌, length, map}
use Rattle.std.proofs.lemmas.List.Folds.{fold-map, fold_stays}
use Rattle.std.proofs.lemmas.List.Sums.{sum_by-append}
use Rattle.std.specs.List.{filter, list_any, sum_by}
use Rattle.reh_census.specs.declared.ledgers.Fragment.{Fragment}
use Rattle.reh_census.specs.declared.ledgers.Told.{Told as ToldOf}
use Rattle.reh_census.specs.declared.ledgers.Told.TheVariants.{Holds}
use Rattle.reh_census.specs.Counting.{count_entries, count_fragment, count_ledger}
use Rattle.reh_census.specs.Ledgers.{Ledger, carries, class_of, is_held as is_told, known, told_in, told_of}
use Rattle.reh_census.specs.Striping.{range}
use Rattle.reh_model.specs.Cluster.{Ledger as PicturedLedger}
use Rattle.reh_picture.specs.Contents.{Holding}
use Rattle.reh_picture.specs.declared.listings.Listed.{Listed}
use Rattle.reh_types.specs.declared.names.LedgerState.{LedgerState as State}
use Rattle.reh_types.specs.declared.names.LedgerState.TheVariants.{Open, InRecovery, Closed}
use Rattle.reh_inputs.specs.declared.ledgers.Reading.TheVariants.{Assumed}
use Rattle.reh_inputs.specs.declared.inputs.Input.{Input}
use Rattle.reh_inputs.specs.declared.inputs.Input.TheVariants.{Picture, Census}
use Rattle.reh_inputs.specs.Gathered.{is_assumed_in, is_held, ledger_in, ledgers_among, ledgers_in}
use Rattle.reh_inputs.specs.Ledgers.{content_by, contents_of, number_in, range_of, reading_in, rest_of, told_by}
use Rattle.reh_inputs.specs.United.{number_of}

either : {A : Type 0} (is : Bool) (x y z : A) → x ≡ z → y ≡ z → (if is then x else y) ≡ z
either true x y z one other = one
either false x y z one other = other

and_not : (a : Bool) → a && false ≡ false
and_not true = refl
and_not false = refl

neither_first : (a b : Bool) → a || b ≡ false → a ≡ false
neither_first true b fails = fails
neither_first false b fails = refl

neither_second : (a b : Bool) → a || b ≡ false → b ≡ false
neither_second true true fails = fails
neither_second true false fails = refl
neither_second false true fails = fails
neither_second false false fails = refl

-- a holding that isn't assumed tells nothing then, and neither does what no content tells
told_alone : (s : State) (h : Holding) → h.is_assumed ≡ false → told_by (reading_in s Assumed) h ≡ Holds []
told_alone Open h fails = refl
told_alone InRecovery h fails = refl
told_alone (Closed end) h fails = ap (λ (is : Bool). if is then Holds (map range_of h.ranges) else Holds []) fails

rest_alone : (s : State) → rest_of (reading_in s Assumed) ≡ Holds []
rest_alone Open = refl
rest_alone InRecovery = refl
rest_alone (Closed end) = refl

module _ (numbers : List ℕ) (s : State) (ledger : ℕ) (b : ℕ) where
  told_more : (is : Bool) (h : Holding) (hs : List Holding) → told_by (reading_in s Assumed) h ≡ Holds []
      → told_in (map (content_by numbers (reading_in s Assumed)) hs) (Holds []) b ≡ Holds []
      → told_in (map (content_by numbers (reading_in s Assumed)) (cond is (h ∷ hs) hs)) (Holds []) b ≡ Holds []
  told_more true h hs one rest =
      either (number_in numbers h.bookie == b) (told_by (reading_in s Assumed) h)
      (told_in (map (content_by numbers (reading_in s Assumed)) hs) (Holds []) b) (Holds []) one rest
  told_more false h hs one rest = rest

  told_none : (hs : List Holding) → list_any (λ h. h.is_assumed) hs ≡ false
      → told_in (contents_of numbers (reading_in s Assumed) ledger hs) (Holds []) b ≡ Holds []
  told_none [] fails = refl
  told_none (h ∷ hs) fails =
      let rest = list_any (λ h. h.is_assumed) hs in
      told_more (h.ledger == ledger) h (filter (λ h. h.ledger == ledger) hs)
      (told_alone s h (neither_first h.is_assumed rest fails)) (told_none hs (neither_second h.is_assumed rest fails))

-- a ledger of which each bookie is told to hold nothing has no known copy
module _ (g : Ledger) (nothing : (b : ℕ) → told_of g b ≡ Holds []) where
  known_none : (fragment : Fragment) (entry : ℕ) (holders : List ℕ) → known holders g fragment entry ≡ []
  known_none fragment entry [] = refl
  known_none fragment entry (b ∷ bs) =
      let carried = carries g fragment entry b in
      let fails : carried && is_told entry (told_of g b) ≡ false =
      ap (λ (told : ToldOf). carried && is_told entry told) (nothing b) ∙ and_not carried in
      let rest = known bs g fragment entry in
      ap (λ (is : Bool). cond is (b ∷ rest) rest) fails ∙ known_none fragment entry bs

  none_in_fragment : (holders : List ℕ) (fragment : Fragment) → count_fragment holders g is_held fragment ≡ 0
  none_in_fragment holders fragment =
      fold_stays (λ n entry. n + cond (is_held (class_of holders g fragment entry)) 1 0) 0
      (λ entry. ap (λ (bs : List ℕ). 0 + cond (nat_lt 0 (length bs)) 1 0) (known_none fragment entry holders))
      (range fragment.first fragment.stop)

  none_in_ledger : (holders : List ℕ) → count_ledger holders is_held g ≡ 0
  none_in_ledger holders =
      fold_stays (λ n fragment. n + count_fragment holders g is_held fragment) 0
      (λ fragment. ap (λ (n : ℕ). 0 + n) (none_in_fragment holders fragment)) g.fragments

module _ (holders : List ℕ) (names : List (List ℕ)) where
  -- no entry of an input rests on an assumption
  none_in_input : (l : Listed) → list_any (λ h. h.is_assumed) l.listing.holdings.items ≡ false
      → sum_by (count_ledger holders is_held) (ledgers_in names Assumed l) ≡ 0
  none_in_input l fails =
      let numbers = map (number_of names) l.listing.names in
      let made = ledger_in numbers Assumed l in
      let nothing : (g : PicturedLedger) (b : ℕ) → told_of (made g) b ≡ Holds [] =
      λ g b.
      (λ i. told_in
      (contents_of numbers (reading_in g.metadata.state Assumed) g.id l.listing.holdings.items)
      (rest_alone g.metadata.state i) b)
      ∙ told_none numbers g.metadata.state g.id b l.listing.holdings.items fails in
      fold-map (λ n g. n + count_ledger holders is_held g) made 0 l.listing.ledgers.items
      ∙ fold_stays (λ n g. n + count_ledger holders is_held (made g)) 0
      (λ g. ap (λ (n : ℕ). 0 + n) (none_in_ledger (made g) (nothing g) holders)) l.listing.ledgers.items

  -- and none of any input
  pub none_assumed : (inputs : List Input) → list_any is_assumed_in inputs ≡ false
      → count_entries holders (ledgers_among names Assumed inputs) is_held ≡ 0
  none_assumed [] fails = refl
  none_assumed (Picture l ∷ ls) fails =
      let first = list_any (λ h. h.is_assumed) l.listing.holdings.items in
      let rest = list_any is_assumed_in ls in
      sum_by-append (count_ledger holders is_held) (ledgers_in names Assumed l) (ledgers_among names Assumed ls)
      ∙ (λ i. none_in_input l (neither_first first rest fails) i + none_assumed ls (neither_second first rest fails) i)
  none_assumed (Census c ∷ ls) fails = none_assumed ls fails
