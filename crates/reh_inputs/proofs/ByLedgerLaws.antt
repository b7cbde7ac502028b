-- What is said of a ledger is said by its own holdings.
use Rattle.std.proofs.Common.{◌≡◌, ◌∙◌, ◌+◌, ◌<◌, ◌≤◌, ◌==◌, ◌++◌, ℕ, zero, suc, All, arith, drop, get_or, length, take, take-take, length-drop, refl, sym, append-nil, Option, Some, None, Vec, Bool, true, false, cond, if◌then◌else◌, List, [], ◌∷◌, ap, fold, map}
use Rattle.std.proofs.lemmas.List.{get_or-drop, get_or-take, length-take, take-append-drop}
use Rattle.std.proofs.lemmas.List.Elements.{All-head, All-tail, filter-append}
use Rattle.std.specs.Borrow.{Bor}
use Rattle.std.specs.List.{filter}
use Rattle.reh_picture.specs.Contents.{Holding}
use Rattle.reh_inputs.specs.ByLedger.{held_in}

-- one element more, which a test passes or not
fold_one : {A B : Type 0} (is : Bool) (f : B → A → B) (go : B → B) (b : B) (x : A) (xs : List A)
    → ((b : B) → go b ≡ fold f b xs) → go (if is then f b x else b) ≡ fold f b (cond is (x ∷ xs) xs)
fold_one true f go b x xs rest = rest (f b x)
fold_one false f go b x xs rest = rest b

-- a fold over those alone that pass a test
pub fold_filter : {A B : Type 0} (test : A → Bool) (f : B → A → B) (b : B) (xs : List A)
    → fold (λ b x. if test x then f b x else b) b xs ≡ fold f b (filter test xs)
fold_filter test f b [] = refl
fold_filter test f b (x ∷ xs) =
    fold_one (test x) f (λ b. fold (λ b x. if test x then f b x else b) b xs) b x (filter test xs)
    (λ b. fold_filter test f b xs)

-- a map of a map
pub map_then : {A B C : Type 0} (f : B → C) (h : A → B) (xs : List A) → map f (map h xs) ≡ map (λ x. f (h x)) xs
map_then f h [] = refl
map_then f h (x ∷ xs) = ap (λ ys. f (h x) ∷ ys) (map_then f h xs)

-- holdings of a ledger that has none yet
pub first_held : {A : Type 0} (is : Bool) (before : Option (Vec (Bor Holding) A)) (held : Vec (Bor Holding) A)
    (hs : List Holding) → (is ≡ true → before ≡ None) → map (λ h. h.now) held.items ≡ hs
    → held_in (cond is (Some held) before) ≡ held_in before ++ cond is hs []
first_held {A} true before held hs none items =
    items ∙ sym (ap (λ (v : Option (Vec (Bor Holding) A)). held_in v ++ hs) (none refl))
first_held false before held hs none items = sym (append-nil (held_in before))

same_either : (is : Bool) (hs : List Holding) → cond is hs hs ≡ hs
same_either true hs = refl
same_either false hs = refl

-- the default of an element that there is does not matter
pub get_any : (hs : List Holding) (k : ℕ) (d e : Holding) → k < length hs → get_or hs k d ≡ get_or hs k e
get_any [] k d e within = absurd (omega arith)
get_any (h ∷ hs) zero d e within = refl
get_any (h ∷ hs) (suc k) d e within = get_any hs k d e (omega arith)

-- of a run of holdings of one ledger all are its own, or none is another's
own_run : (own ledger : ℕ) (hs : List Holding) → All (λ h. h.ledger ≡ ledger) hs
    → cond (ledger == own) hs [] ≡ filter (λ h. h.ledger == own) hs
own_run own ledger [] all = same_either (ledger == own) []
own_run own ledger (h ∷ hs) all =
    let rest = filter (λ (h : Holding). h.ledger == own) hs in
    step (ledger == own) rest (own_run own ledger hs (All-tail (λ h. h.ledger ≡ ledger) h hs all))
    ∙ (λ i. cond (sym (All-head (λ h. h.ledger ≡ ledger) h hs all) i == own) (h ∷ rest) rest) where
      step : (is : Bool) (rest : List Holding) → cond is hs [] ≡ rest → cond is (h ∷ hs) [] ≡ cond is (h ∷ rest) rest
      step true rest same = ap (λ (xs : List Holding). h ∷ xs) same
      step false rest same = same

-- one run more
pub run-more : (own ledger at end : ℕ) (all passed run : List Holding) → at ≤ end → end ≤ length all
    → passed ≡ take end all → run ≡ drop at passed
    → ((k : ℕ) (d : Holding) → at ≤ k → k < end → (get_or all k d).ledger ≡ ledger)
    → filter (λ h. h.ledger == own) (take at all) ++ cond (ledger == own) run [] ≡ filter (λ h. h.ledger == own) (take end all)
run-more own ledger at end all passed run before within first rest alike =
    let test : Holding → Bool = λ h. h.ledger == own in
    let is : run ≡ drop at (take end all) = rest ∙ ap (drop at) first in
    let each : All (λ (h : Holding). h.ledger ≡ ledger) (drop at (take end all)) =
    λ k d below.
    let inside : at + k < end = omega (arith, below, length-drop at (take end all), length-take end all, before, within) in
    ap (λ (h : Holding). h.ledger) (get_or-drop at (take end all) k d ∙ get_or-take end all (at + k) d inside)
    ∙ alike (at + k) d (omega arith) inside in
    (λ i. filter test (sym (take-take at end all before) i) ++ cond (ledger == own) (is i) [])
    ∙ ap (λ (hs : List Holding). filter test (take at (take end all)) ++ hs) (own_run own ledger (drop at (take end all)) each)
    ∙ sym (filter-append test (take at (take end all)) (drop at (take end all)))
    ∙ ap (filter test) (take-append-drop at (take end all))
