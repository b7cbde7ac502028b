-- The bookies of a cluster stand in the order of their names, each with what is shown of it, whatever inputs show them.
use Rattle.std.proofs.Common.{◌≡◌, ◌≤◌, ℕ, Bool, true, false, List, [], ◌∷◌, length, fold, Option, None, Some, refl, arith}
use Rattle.std.specs.Prelude.{slice_get, if◌then◌else◌}
use Rattle.std.specs.Option.{option_map_or}
use Rattle.std.proofs.lemmas.List.Edits.{length-insert}
use Rattle.std.proofs.lemmas.List.Sums.{prefix_len-le-length}
use Rattle.reh_census.specs.Order.{InOrder, names_cmp}
use Rattle.reh_census.specs.Striping.{range}
use Rattle.reh_inputs.specs.declared.inputs.Input.{Input}
use Rattle.reh_inputs.specs.declared.inputs.Input.TheVariants.{Picture, Census}
use Rattle.reh_inputs.specs.Cluster.{Cluster, has_bookie, no_bookies, with_bookie, with_new}
use Rattle.reh_inputs.specs.Names.{place_of}
use Rattle.reh_inputs.specs.Shown.{Shown}
use Rattle.reh_inputs.specs.United.{counted_at, shown_at, united, with_counted, with_input, with_listed}
use Rattle.reh_inputs.proofs.NameOrder.{InOrder-insert}

fold_keeps : {A B : Type 0} (P : B → Type 0) (f : B → A → B) → ((b : B) (a : A) → P b → P (f b a)) → (b : B) (xs : List A) → P b → P (fold f b xs)
fold_keeps P f keeps b [] holds = holds
fold_keeps P f keeps b (x ∷ xs) holds = fold_keeps P f keeps (f b x) xs (keeps b x holds)

-- what holds without bookies, and is kept by each that is new
module _ (P : Cluster → Type 0)
    (keeps : (cluster : Cluster) (name : List ℕ) (shown : Shown) → P cluster → has_bookie cluster name ≡ false → P (with_new cluster name shown)) where
  bookie_by : (cluster : Cluster) (name : List ℕ) (shown : Shown) → P cluster → (there : Bool) → has_bookie cluster name ≡ there
      → P (if there then cluster else with_new cluster name shown)
  bookie_by cluster name shown holds true is = holds
  bookie_by cluster name shown holds false is = keeps cluster name shown holds is

  option_by : (cluster : Cluster) (shown : Shown) (name : Option (List ℕ)) → P cluster
      → P (option_map_or (λ name. with_bookie cluster name shown) name cluster)
  option_by cluster shown None holds = holds
  option_by cluster shown (Some name) holds = bookie_by cluster name shown holds (has_bookie cluster name) refl

  input_by : (cluster : Cluster) (input : Input) → P cluster → P (with_input cluster input)
  input_by cluster (Picture l) holds =
      fold_keeps P (with_listed l) (λ k n kept. option_by k (shown_at l n) (slice_get l.listing.names n) kept) cluster
      (range 0 (length l.listing.names)) holds
  input_by cluster (Census c) holds =
      fold_keeps P (with_counted c) (λ k n kept. option_by k (counted_at c n) (slice_get c.names n) kept) cluster
      (range 0 (length c.names)) holds

  united_keeps : P no_bookies → (inputs : List Input) → P (united inputs)
  united_keeps none inputs = fold_keeps P with_input input_by no_bookies inputs none

pub InOrder-united : (inputs : List Input) → InOrder names_cmp (united inputs).names
InOrder-united inputs =
    united_keeps (λ cluster. InOrder names_cmp cluster.names)
    (λ cluster name shown order new. InOrder-insert name cluster.names order new) (λ k d below. absurd (omega (arith, below)))
    inputs

abbrev pub Matched : Cluster → Type 0
Matched cluster = length cluster.names ≡ length cluster.shown

pub Matched-new : (cluster : Cluster) (name : List ℕ) (shown : Shown) → Matched cluster → Matched (with_new cluster name shown)
Matched-new cluster name shown matched =
    let place = place_of cluster.names name in
    let within : place ≤ length cluster.names = prefix_len-le-length _ cluster.names in
    omega (
      arith,
      length-insert cluster.names place name within,
      length-insert cluster.shown place shown (omega (arith, within, matched)),
      matched,
    )

pub Matched-united : (inputs : List Input) → Matched (united inputs)
Matched-united inputs =
    united_keeps Matched (λ cluster name shown matched new. Matched-new cluster name shown matched) refl inputs
