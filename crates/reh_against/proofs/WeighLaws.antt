-- One more ledger is weighed; and what is said of those that are kept.
use Rattle.std.proofs.Common.{◌≡◌, ◌∙◌, ◌+◌, ◌<◌, ◌++◌, ◌∷◌, [], ℕ, zero, suc, Bool, List, Some, ap, refl, sym, subst, length, get_or, take, map, arith, append_assoc, append-nil, length-append}
use Rattle.std.specs.Prelude.{All, Contains, Vec, slice_get}
use Rattle.std.specs.declared.alloc.Global.{Global}
use Rattle.std.proofs.lemmas.List.{length_push, map-append, take_more}
use Rattle.std.proofs.lemmas.List.Elements.{All-append, All-contains, All-cons, All-head, All-nil, All-tail}
use Rattle.reh_census.specs.declared.answers.Answer.{Answer}
use Rattle.reh_census.specs.declared.questions.Question.{Question}
use Rattle.reh_census.specs.Bookies.{Bookies}
use Rattle.reh_census.specs.Ledgers.{Ledger}
use Rattle.reh_against.specs.declared.found.Found.{Found}
use Rattle.reh_against.specs.declared.kept.Kept.{Kept}
use Rattle.reh_against.specs.declared.worst.Worst.{Worst}
use Rattle.reh_against.specs.Weighed.{IsAmong, Weighs, found_of, kept_by}
use Rattle.reh_against.specs.Weights.{weight_of}
use Rattle.reh_against.specs.Worst.{AreWorst, Each, alone, found_from, found_if}

-- Ledgers, and one more

pub found-last : {X : Type 0} (weight : X → ℕ) (ids : List ℕ) (ledgers : List X) (place id : ℕ) (g : X)
    → length ids ≡ length ledgers
    → found_from weight place (ids ++ id ∷ []) (ledgers ++ g ∷ [])
    ≡ found_from weight place ids ledgers ++ found_if (weight g) id (place + length ledgers)
found-last weight [] [] place id g same =
    let here : place ≡ place + 0 = omega arith in
    append-nil (found_if (weight g) id place) ∙ ap (λ (p : ℕ). found_if (weight g) id p) here
found-last weight [] (h ∷ ledgers) place id g same = absurd (omega (arith, same))
found-last weight (one ∷ ids) [] place id g same = absurd (omega (arith, same))
found-last weight (one ∷ ids) (h ∷ ledgers) place id g same =
    let fewer : length ids ≡ length ledgers = omega (arith, same) in
    let here : place + 1 + length ledgers ≡ place + suc (length ledgers) = omega arith in
    let first : List Found = found_if (weight h) one place in
    ap (λ (fs : List Found). first ++ fs)
    (found-last weight ids ledgers (place + 1) id g fewer
    ∙ ap (λ (p : ℕ). found_from weight (place + 1) ids ledgers ++ found_if (weight g) id p) here)
    ∙ sym (append_assoc first (found_from weight (place + 1) ids ledgers) (found_if (weight g) id (place + suc (length ledgers))))

still-there : {X : Type 0} (xs ys : List X) (k : ℕ) (x : X) → slice_get xs k ≡ Some x → slice_get (xs ++ ys) k ≡ Some x
still-there [] ys k x there = cc
still-there (y ∷ xs) ys zero x there = there
still-there (y ∷ xs) ys (suc k) x there = still-there xs ys k x there

at-last : {X : Type 0} (xs : List X) (x : X) → slice_get (xs ++ x ∷ []) (length xs) ≡ Some x
at-last [] x = refl
at-last (y ∷ xs) x = at-last xs x

pub among-more : (ledgers : List (List Ledger)) (parts : Vec Ledger Global) (weight id : ℕ) (kept now : List Kept)
    → All (IsAmong ledgers) kept
    → All (Contains (kept ++ kept_by weight id (length ledgers) parts ∷ [])) now
    → All (IsAmong (ledgers ++ parts.items ∷ [])) now
among-more ledgers parts weight id kept now among are = λ k d within.
    let more : Kept = kept_by weight id (length ledgers) parts in
    let gs : List (List Ledger) = ledgers ++ parts.items ∷ [] in
    All-contains (IsAmong gs) (kept ++ more ∷ []) (get_or now k d)
    (All-append (IsAmong gs) kept (more ∷ [])
    (λ j e inside.
    still-there ledgers (parts.items ∷ []) (get_or kept j e).found.place (get_or kept j e).parts.items (among j e inside))
    (All-cons (IsAmong gs) more [] (at-last ledgers parts.items) (All-nil (IsAmong gs))))
    (are k d within)

pub weighs-more : (bookies : Bookies) (question : Question) (stopped : ℕ → Bool) (answer : Answer) (old : Worst) (kept : List Kept)
    (w id : ℕ) (parts : Vec Ledger Global) → w ≡ weight_of bookies question stopped answer parts.items
    → ((found : List Found) → AreWorst found (map found_of old.kept.items)
    → AreWorst (found ++ found_if w id old.added) (map found_of kept))
    → All (Contains (old.kept.items ++ kept_by w id old.added parts ∷ [])) kept
    → (ids : List ℕ) (ledgers : List (List Ledger)) → Weighs bookies question stopped answer ids ledgers old
    → (worst : Worst) → worst.kept.items ≡ kept → worst.added ≡ old.added + 1
    → Weighs bookies question stopped answer (ids ++ id ∷ []) (ledgers ++ parts.items ∷ []) worst
weighs-more bookies question stopped answer old kept w id parts is more are ids ledgers was worst has counts =
    let of : List Ledger → ℕ = weight_of bookies question stopped answer in
    let gs : List (List Ledger) = ledgers ++ parts.items ∷ [] in
    let found : List Found = found_from of 0 ids ledgers in
    let place : old.added ≡ 0 + length ledgers = was.added ∙ omega arith in
    let next : found ++ found_if w id old.added ≡ found_from of 0 (ids ++ id ∷ []) gs =
    (λ i. found ++ found_if (is i) id (place i)) ∙ sym (found-last of ids ledgers 0 id parts.items was.each) in
    record {
      each = omega (arith, was.each, length-append ids (id ∷ []), length-append ledgers (parts.items ∷ []));
      added = omega (arith, counts, was.added, length-append ledgers (parts.items ∷ []));
      chosen =
          subst (λ (ks : List Kept). AreWorst (found_from of 0 (ids ++ id ∷ []) gs) (map found_of ks)) (sym has)
          (subst (λ (fs : List Found). AreWorst fs (map found_of kept)) next (more found was.chosen));
      among =
          subst (λ (ks : List Kept). All (IsAmong gs) ks) (sym has)
          (among-more ledgers parts w id old.kept.items kept was.among
          (subst (λ (n : ℕ). All (Contains (old.kept.items ++ kept_by w id n parts ∷ [])) kept) was.added are));
    }

-- of the next id, where the ledgers before it and it are each counted as one
pub weighs-each : (bookies : Bookies) (question : Question) (stopped : ℕ → Bool) (answer : Answer) (ids : List ℕ)
    (ledgers : List Ledger) (place : ℕ) (g : Ledger) (parts : List Ledger) (worst : Worst) → length ledgers < length ids
    → place ≡ length ledgers → parts ≡ alone g
    → Weighs bookies question stopped answer (take (length ledgers) ids ++ get_or ids place 0 ∷ [])
    (map alone ledgers ++ parts ∷ []) worst
    → Weighs bookies question stopped answer (take (length (ledgers ++ g ∷ [])) ids) (map alone (ledgers ++ g ∷ [])) worst
weighs-each bookies question stopped answer ids ledgers place g parts worst within at is was =
    subst (λ (gs : List (List Ledger)).
    Weighs bookies question stopped answer (take (length (ledgers ++ g ∷ [])) ids) gs worst)
    (ap (λ (last : List Ledger). map alone ledgers ++ last ∷ []) is ∙ sym (map-append alone ledgers (g ∷ [])))
    (subst (λ (xs : List ℕ). Weighs bookies question stopped answer xs (map alone ledgers ++ parts ∷ []) worst)
    (ap (λ (k : ℕ). take (length ledgers) ids ++ get_or ids k 0 ∷ []) at
    ∙ sym (take_more ids (length ledgers) 0 within)
    ∙ ap (λ (k : ℕ). take k ids) (sym (length_push ledgers g)))
    was)

-- What is said

-- what is said of each, of what holds of each
pub each-of : {K X Y : Type 0} (f : K → X) (P : K → Type 0) (S : X → Y → Type 0) (ks : List K) (ys : List Y) → All P ks
    → Each (λ k y. P k → S (f k) y) ks ys → Each S (map f ks) ys
each-of f P S [] [] all each = tt
each-of f P S [] (y ∷ ys) all each = absurd each
each-of f P S (k ∷ ks) [] all each = absurd each
each-of f P S (k ∷ ks) (y ∷ ys) all each =
    (each.0 (All-head P k ks all), each-of f P S ks ys (All-tail P k ks all) each.1)

-- of ledgers, where it is said whatever they are
pub each-at : {K Y : Type 0} (S : List (List Ledger) → K → Y → Type 0) (ks : List K) (ys : List Y)
    → Each (λ k y. (ledgers : List (List Ledger)) → S ledgers k y) ks ys
    → (ledgers : List (List Ledger)) → Each (S ledgers) ks ys
each-at S [] [] each ledgers = tt
each-at S [] (y ∷ ys) each ledgers = absurd each
each-at S (k ∷ ks) [] each ledgers = absurd each
each-at S (k ∷ ks) (y ∷ ys) each ledgers = (each.0 ledgers, each-at S ks ys each.1 ledgers)
