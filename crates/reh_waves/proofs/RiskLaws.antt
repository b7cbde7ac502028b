-- Losses of bookies, racks and pairs.
use Rattle.std.proofs.Common.{◌≡◌, ◌∙◌, ◌<◌, ◌+◌, ◌&&◌, cond, ℕ, Bool, true, false, All, List, [], ◌∷◌, map, length, refl, ap, sym}
use Rattle.std.specs.Prelude.{count_by, ◌==◌}
use Rattle.std.specs.List.{filter}
use Rattle.std.specs.List.Sorted.{IsPermutation}
use Rattle.std.proofs.lemmas.List.Elements.{All-append, All-cons, All-map, All-nil, All-weaker, All-head, All-tail}
use Rattle.std.proofs.lemmas.List.Sorted.{sum_by-IsPermutation}
use Rattle.std.proofs.lemmas.List.Sums.{sum_by-cons}
use Rattle.reh_census.specs.Bookies.{bookies_of}
use Rattle.reh_census.specs.Counting.{Census, Counting, IsCensus, counting_in, counting_of}
use Rattle.reh_census.specs.Ledgers.{Ledger}
use Rattle.reh_census.specs.Striping.{range}
use Rattle.reh_census.specs.declared.bookies.Bookie.{Bookie as BookieRecord}
use Rattle.reh_census.specs.declared.questions.Question.{Question}
use Rattle.reh_census.proofs.CountLaws.{count-filter}
use Rattle.reh_waves.specs.Losses.{IsWithin, loss_on, pairs_of}
use Rattle.reh_waves.specs.Risk.{is_loss_of, pairs_if}
use Rattle.reh_waves.specs.declared.losses.Loss.{Loss}
use Rattle.reh_waves.specs.declared.losses.Lost.{Lost}
use Rattle.reh_waves.specs.declared.losses.Lost.TheVariants.{Bookie, Rack, Pair}
use Rattle.reh_waves.proofs.SetLaws.{registered-within}
use Rattle.reh_waves.proofs.WaveLaws.{order-counts}

kept : (p : ℕ → Bool) (P : ℕ → Type 0) (x : ℕ) (xs : List ℕ) (b : Bool) → p x ≡ b → ((y : ℕ) → p y ≡ true → P y) → All P (filter p xs)
    → All P (cond b (x ∷ filter p xs) (filter p xs))
kept p P x xs true is holds rest = All-cons P x (filter p xs) (holds x is) rest
kept p P x xs false is holds rest = rest

-- what a filter keeps
filtered : (p : ℕ → Bool) (P : ℕ → Type 0) (xs : List ℕ) → ((y : ℕ) → p y ≡ true → P y) → All P (filter p xs)
filtered p P [] holds = All-nil P
filtered p P (x ∷ xs) holds = kept p P x xs (p x) refl holds (filtered p P xs holds)

within : (bookies : List BookieRecord) (order : List ℕ) → All (λ b. b < length bookies) (filter (bookies_of bookies).is_registered order)
within bookies order =
    filtered (bookies_of bookies).is_registered (λ b. b < length bookies) order (registered-within bookies)

pub bookies-within : (bookies : List BookieRecord) (order : List ℕ)
    → All (IsWithin (length bookies)) (map (λ b. Bookie b) (filter (bookies_of bookies).is_registered order))
bookies-within bookies order =
    All-map (IsWithin (length bookies)) (λ b. Bookie b) (filter (bookies_of bookies).is_registered order) (within bookies order)

pub racks-within : (n : ℕ) (racks : List ℕ) → All (IsWithin n) (map (λ rack. Rack rack) racks)
racks-within n racks = All-map (IsWithin n) (λ rack. Rack rack) racks (λ k d below. tt)

pairs : (n : ℕ) (names : List ℕ) → All (λ b. b < n) names → All (IsWithin n) (pairs_of names)
pairs n [] each = All-nil (IsWithin n)
pairs n (b ∷ names) each =
    All-append (IsWithin n) (map (λ other. Pair b other) names) (pairs_of names)
    (All-map (IsWithin n) (λ other. Pair b other) names
    (All-weaker (λ other. other < n) (λ other. (b < n) × (other < n)) (λ other is. (All-head (λ x. x < n) b names each, is)) names
    (All-tail (λ x. x < n) b names each)))
    (pairs n names (All-tail (λ x. x < n) b names each))

pub pairs-within : (bookies : List BookieRecord) (order : List ℕ) (asked : Bool)
    → All (IsWithin (length bookies)) (pairs_if asked (filter (bookies_of bookies).is_registered order))
pairs-within bookies order true = pairs (length bookies) (filter (bookies_of bookies).is_registered order) (within bookies order)
pairs-within bookies order false = All-nil (IsWithin (length bookies))

-- by a census, and by the ledgers that it counts
pub counting-same : (census : Census) (holders : List ℕ) (ledgers : List Ledger) → IsCensus census holders ledgers
    → counting_in census ≡ counting_of holders ledgers
counting-same census holders ledgers counts = λ i. record {
  entries = λ test. counts.entries test i;
  tails = λ test. counts.tails test i;
  ensembles = λ test. counts.ensembles test i;
}

pub count-mapped : {X Y : Type 0} (p : Y → Bool) (f : X → Y) (xs : List X) → count_by p (map f xs) ≡ count_by (λ x. p (f x)) xs
count-mapped p f [] = refl
count-mapped p f (x ∷ xs) =
    sum_by-cons (λ y. cond (p y) 1 0) (f x) (map f xs)
    ∙ ap (λ n. cond (p (f x)) 1 0 + n) (count-mapped p f xs)
    ∙ sym (sum_by-cons (λ y. cond (p (f y)) 1 0) x xs)

turned : (a b : Bool) → (a && b) ≡ (b && a)
turned true true = refl
turned true false = refl
turned false true = refl
turned false false = refl

-- each registered bookie has one line
pub loss-once : (counting : Counting) (bookies : List BookieRecord) (question : Question) (not_judged : ℕ) (order : List ℕ) (ranked : List Loss)
    → IsPermutation (range 0 (length bookies)) order
    → IsPermutation
    (map (loss_on counting (bookies_of bookies) question not_judged) (map (λ b. Bookie b) (filter (bookies_of bookies).is_registered order)))
    ranked
    → (b : ℕ) → count_by (is_loss_of b) ranked ≡ cond ((bookies_of bookies).is_registered b) 1 0
loss-once counting bookies question not_judged order ranked whole moved b =
    let f : Lost → Loss = loss_on counting (bookies_of bookies) question not_judged in
    let registered : ℕ → Bool = (bookies_of bookies).is_registered in
    sum_by-IsPermutation (λ (loss : Loss). cond {A = ℕ} (is_loss_of b loss) 1 0) (map f (map (λ x. Bookie x) (filter registered order))) ranked moved
    ∙ count-mapped (is_loss_of b) f (map (λ x. Bookie x) (filter registered order))
    ∙ count-mapped (λ lost. is_loss_of b (f lost)) (λ x. Bookie x) (filter registered order)
    ∙ count-filter (λ x. x == b) registered order
    ∙ (λ i. count_by (λ x. turned (registered x) (x == b) i) order)
    ∙ order-counts bookies order whole b
