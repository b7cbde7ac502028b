-- Ledgers in picture order: finding the ledger of an id, and changing it.
use Rattle.std.proofs.Common.{◌≡◌, ℕ, zero, suc, true, false, cond, List, [], ◌∷◌, map, Option, None, Some, refl, sym, ap, ◌∙◌, arith, nat_eq, is_some, get_or, set, ◌<◌, nat_lt}
use Rattle.std.specs.Prelude.{◌==◌, ◌+◌, if◌then◌else◌, sum_by, length, position, slice_get}
use Rattle.std.specs.List.{IsDistinct, AllByRecursion, find, position_or_len}
use Rattle.std.specs.Option.{option_map, option_map_or, option_and_then}
use Rattle.std.proofs.lemmas.Bool.Decides.{nat_tests}
use Rattle.std.proofs.lemmas.List.Sums.{sum_by-cons}
use Rattle.std.proofs.lemmas.List.Folds.{find_at}
use Rattle.std.proofs.lemmas.List.Quantifiers.{position-Some}
use Rattle.reh_model.specs.Metadata.{stop_of, stripe_of}
use Rattle.reh_model.specs.Cluster.{Cluster, Ledger, ledger_among, ledger_at, words_among, stop_at, stripe_at, change_ledger, with_ledgers}

-- Changes that keep every id

abbrev pub KeepsId : (Ledger → Ledger) → Type 0
KeepsId change = (g : Ledger) → (change g).id ≡ g.id

pub ids-map : (change : Ledger → Ledger) → KeepsId change → (gs : List Ledger) → map (λ g. g.id) (map change gs) ≡ map (λ g. g.id) gs
ids-map change keeps [] = refl
ids-map change keeps (g ∷ gs) = λ i. keeps g i ∷ ids-map change keeps gs i

-- what is found by an id after a change is what was found before, changed
pub find-map : (l : ℕ) (change : Ledger → Ledger) → KeepsId change → (gs : List Ledger) → find (λ g. g.id == l) (map change gs) ≡ option_map change (find (λ g. g.id == l) gs)
find-map l change keeps [] = refl
find-map l change keeps (g ∷ gs) =
    ap (λ (k : ℕ). cond (k == l) (Some (change g)) (find (λ g. g.id == l) (map change gs))) (keeps g)
    ∙ elim (g.id == l) as (λ b. cond b (Some (change g)) (find (λ g. g.id == l) (map change gs)) ≡ option_map change (cond b (Some g) (find (λ g. g.id == l) gs))) [
      | true ↦ refl
      | false ↦ find-map l change keeps gs
    ]

-- so the same ids are found
pub is_found-map : (l : ℕ) (change : Ledger → Ledger) → KeepsId change → (gs : List Ledger) → is_some (find (λ g. g.id == l) (map change gs)) ≡ is_some (find (λ g. g.id == l) gs)
is_found-map l change keeps gs = ap is_some (find-map l change keeps gs) ∙ same (find (λ g. g.id == l) gs) where
  same : (o : Option Ledger) → is_some (option_map change o) ≡ is_some o
  same None = refl
  same (Some g) = refl

-- Changes that keep every ledger's words

abbrev pub KeepsWords : (Ledger → Ledger) → Type 0
KeepsWords change = (g : Ledger) → (change g).words ≡ g.words

-- the words of all ledgers
pub sum_by-words : (change : Ledger → Ledger) → KeepsWords change → (gs : List Ledger) → sum_by (λ g. g.words) (map change gs) ≡ sum_by (λ g. g.words) gs
sum_by-words change keeps [] = refl
sum_by-words change keeps (g ∷ gs) =
    sum_by-cons (λ g. g.words) (change g) (map change gs)
    ∙ (λ i. keeps g i + sum_by-words change keeps gs i)
    ∙ sym (sum_by-cons (λ g. g.words) g gs)

-- those of one, where its id is kept too
pub words_among-map : (l : ℕ) (change : Ledger → Ledger) → KeepsId change → KeepsWords change → (gs : List Ledger) → words_among (map change gs) l ≡ words_among gs l
words_among-map l change keeps_id keeps gs = ap (λ (o : Option Ledger). option_map_or (λ g. g.words) o 0) (find-map l change keeps_id gs) ∙ same (ledger_among gs l) where
  same : (o : Option Ledger) → option_map_or (λ g. g.words) (option_map change o) 0 ≡ option_map_or (λ g. g.words) o 0
  same None = refl
  same (Some g) = keeps g

-- a ledger that is found has the id
pub id_found : (l : ℕ) (gs : List Ledger) (g : Ledger) → find (λ g. g.id == l) gs ≡ Some g → g.id ≡ l
id_found l [] g found = cc
id_found l (h ∷ gs) g found =
    elim (h.id == l) as (λ b. (h.id == l) ≡ b → cond b (Some h) (find (λ g. g.id == l) gs) ≡ Some g → g.id ≡ l) [
      | true ↦ λ here is. let same : h ≡ g = cc in let id : h.id ≡ l = grind (arith, nat_tests) in ap (λ (x : Ledger). x.id) (sym same) ∙ id
      | false ↦ λ _ later. id_found l gs g later
    ] refl found

-- the striped entries of a ledger that is found
pub stripe_at-found : (s : Cluster) (l f i : ℕ) (g : Ledger) → ledger_at s l ≡ Some g → stripe_at s l f i ≡ stripe_of g.metadata f i
stripe_at-found s l f i g found = ap (λ (o : Option Ledger). option_map_or (λ g. stripe_of g.metadata f i) o []) found

-- its stop
pub stop_at-found : (s : Cluster) (l f : ℕ) (g : Ledger) → ledger_at s l ≡ Some g → stop_at s l f ≡ stop_of g.metadata f
stop_at-found s l f g found = ap (λ (o : Option Ledger). option_and_then (λ g. stop_of g.metadata f) o) found

-- a change of the ledger of one id, and of no other
abbrev pub changed_ledger : ℕ → (Ledger → Ledger) → Ledger → Ledger
changed_ledger l change g = if g.id == l then change g else g

pub KeepsId-changed_ledger : (l : ℕ) (change : Ledger → Ledger) → KeepsId change → KeepsId (changed_ledger l change)
KeepsId-changed_ledger l change keeps g = elim (g.id == l) as (λ b. (cond b (change g) g).id ≡ g.id) [ true ↦ keeps g | false ↦ refl ]

pub KeepsWords-changed_ledger : (l : ℕ) (change : Ledger → Ledger) → KeepsWords change → KeepsWords (changed_ledger l change)
KeepsWords-changed_ledger l change keeps g = elim (g.id == l) as (λ b. (cond b (change g) g).words ≡ g.words) [ true ↦ keeps g | false ↦ refl ]

-- Where ids differ

-- a ledger that stands among others with other ids
abbrev pub IsApart : ℕ → List Ledger → Type 0
IsApart l gs = AllByRecursion (λ k. nat_eq l k ≡ false) (map (λ g. g.id) gs)

pub apart_at : (l : ℕ) (gs : List Ledger) (k : ℕ) (d : Ledger) → k < length gs → IsApart l gs → nat_eq l (get_or gs k d).id ≡ false
apart_at l [] k d within apart = absurd (omega arith)
apart_at l (g ∷ gs) zero d within apart = apart.0
apart_at l (g ∷ gs) (suc k) d within apart = apart_at l gs k d (omega arith) apart.1

-- each ledger is the one that is found by its id
pub found_itself : (gs : List Ledger) → IsDistinct nat_eq (map (λ g. g.id) gs) → (k : ℕ) (d : Ledger) → k < length gs → find (λ g. g.id == (get_or gs k d).id) gs ≡ Some (get_or gs k d)
unfolding IsDistinct
found_itself [] distinct k d within = absurd (omega arith)
found_itself (g ∷ gs) distinct zero d within =
    let here : (g.id == g.id) ≡ true = grind (arith, nat_tests) in
    ap (λ b. cond b (Some g) (find (λ h. h.id == g.id) gs)) here
found_itself (g ∷ gs) distinct (suc k) d within =
    let h : Ledger = get_or gs k d in
    ap (λ b. cond b (Some g) (find (λ j. j.id == h.id) gs)) (apart_at g.id gs k d (omega arith) distinct.0)
    ∙ found_itself gs distinct.1 k d (omega arith)

-- a change of a ledger that is not there changes nothing
kept_absent : (l : ℕ) (change : Ledger → Ledger) (gs : List Ledger) → ((k : ℕ) (d : Ledger) → k < length gs → ((get_or gs k d).id == l) ≡ false) → map (changed_ledger l change) gs ≡ gs
kept_absent l change [] others = refl
kept_absent l change (g ∷ gs) others = λ i. cond (others 0 g (omega arith) i) (change g) g ∷ kept_absent l change gs (λ k d within. others (suc k) d (omega arith)) i

-- to change the ledger of an id that stands at a place is to change what stands there
map-changed_ledger-set : (l : ℕ) (change : Ledger → Ledger) (gs : List Ledger) → IsDistinct nat_eq (map (λ g. g.id) gs) → (k : ℕ) (d : Ledger) → k < length gs → (get_or gs k d).id ≡ l
    → map (changed_ledger l change) gs ≡ set gs k (change (get_or gs k d))
unfolding IsDistinct
map-changed_ledger-set l change [] distinct k d within is = absurd (omega arith)
map-changed_ledger-set l change (g ∷ gs) distinct zero d within is =
    let here : (g.id == l) ≡ true = grind (arith, nat_tests) in
    let others : (j : ℕ) (e : Ledger) → j < length gs → ((get_or gs j e).id == l) ≡ false = λ j e inside. (let apart = apart_at g.id gs j e inside distinct.0 in grind (arith, nat_tests)) in
    λ i. cond (here i) (change g) g ∷ kept_absent l change gs others i
map-changed_ledger-set l change (g ∷ gs) distinct (suc k) d within is =
    let other : (g.id == l) ≡ false = ap (λ (j : ℕ). nat_eq g.id j) (sym is) ∙ apart_at g.id gs k d (omega arith) distinct.0 in
    λ i. cond (other i) (change g) g ∷ map-changed_ledger-set l change gs distinct.1 k d (omega arith) is i

-- to change the ledger of an id is to change what stands at its place
pub change_ledger-set : (s : Cluster) (l : ℕ) (change : Ledger → Ledger) (k : ℕ) (old new : Ledger) → IsDistinct nat_eq (map (λ g. g.id) s.parts.ledgers) → position (λ g. g.id == l) s.parts.ledgers ≡ Some k
    → old ≡ get_or s.parts.ledgers k old → new ≡ change old → with_ledgers s (set s.parts.ledgers k new) ≡ change_ledger s l change
change_ledger-set s l change k old new distinct is stood made =
    let at : (k < length s.parts.ledgers) × (((get_or s.parts.ledgers k old).id == l) ≡ true) × ((j : ℕ) → j < k → ((get_or s.parts.ledgers j old).id == l) ≡ false) = position-Some (λ g. g.id == l) s.parts.ledgers k old is in
    let id : (get_or s.parts.ledgers k old).id ≡ l = grind (arith, nat_tests, at.1) in
    ap (λ (gs : List Ledger). with_ledgers s gs) (ap (λ (g : Ledger). set s.parts.ledgers k g) (made ∙ ap change stood) ∙ sym (map-changed_ledger-set l change s.parts.ledgers distinct k old at.0 id))

-- what stands at the place of an id is the ledger that is found
pub ledger_at-position : (s : Cluster) (l k : ℕ) (g : Ledger) → IsDistinct nat_eq (map (λ g. g.id) s.parts.ledgers) → position (λ g. g.id == l) s.parts.ledgers ≡ Some k → g ≡ get_or s.parts.ledgers k g → ledger_at s l ≡ Some g
ledger_at-position s l k g distinct is stood =
    let at : (k < length s.parts.ledgers) × (((get_or s.parts.ledgers k g).id == l) ≡ true) × ((j : ℕ) → j < k → ((get_or s.parts.ledgers j g).id == l) ≡ false) = position-Some (λ g. g.id == l) s.parts.ledgers k g is in
    let id : (get_or s.parts.ledgers k g).id ≡ l = grind (arith, nat_tests, at.1) in
    ap (λ (j : ℕ). find (λ g. g.id == j) s.parts.ledgers) (sym id) ∙ found_itself s.parts.ledgers distinct k g at.0 ∙ ap Some (sym stood)

-- The place of an id

-- where the ledger of an id that is found stands
pub found_there : (l k : ℕ) (gs : List Ledger) (g : Ledger) → position (λ g. g.id == l) gs ≡ Some k → find (λ g. g.id == l) gs ≡ Some g → slice_get gs k ≡ Some g
found_there l k gs g is found =
    let first : ℕ = position_or_len (λ g. g.id == l) gs in
    let same : first ≡ k =
    elim (nat_lt first (length gs)) as (λ b. cond b (Some first) None ≡ Some k → first ≡ k) [ true ↦ λ is. cc | false ↦ λ none. cc ] is in
    ap (λ n. slice_get gs n) (sym same) ∙ sym (find_at (λ g. g.id == l) gs) ∙ found
