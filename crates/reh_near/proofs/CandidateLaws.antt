-- Names by their ranks.
use Rattle.std.proofs.Common.{◌≡◌, ◌∙◌, ℕ, zero, suc, ◌+◌, ◌<◌, ◌==◌, Bool, true, false, cond, List, [], ◌∷◌, ◌++◌, All, map, arith, refl, sym, ap, append_assoc}
use Rattle.std.proofs.Common.{subst, length, get_or, drop, Option, Some, None, Bor}
use Rattle.std.proofs.lemmas.Bool.Decides.{nat_tests}
use Rattle.std.proofs.lemmas.List.{append-nil, at_drop_more, map-append}
use Rattle.std.proofs.lemmas.List.Elements.{All-push}
use Rattle.std.specs.List.{filter, flat_map, range_with_len}
use Rattle.reh_near.specs.Near.{is_near, rank_of}
use Rattle.reh_near.specs.declared.near.Candidate.{Candidate}

-- the name of a candidate before others, if it is taken
name_if : (b : Bool) (c : Candidate) (cs : List Candidate) (names : List (List ℕ)) → map (λ c. c.name.now) cs ≡ names
    → map (λ c. c.name.now) (cond b (c ∷ cs) cs) ≡ cond b (c.name.now ∷ names) names
name_if true c cs names same = ap (λ zs. c.name.now ∷ zs) same
name_if false c cs names same = same

-- the names of the candidates of a rank are those names that have it
pub names_of_those : (far : List ℕ → ℕ) (d : ℕ) (cs : List Candidate) → All (λ c. c.rank ≡ far c.name.now) cs
    → map (λ c. c.name.now) (filter (λ c. c.rank == d) cs) ≡ filter (λ name. far name == d) (map (λ c. c.name.now) cs)
names_of_those far d [] all = refl
names_of_those far d (c ∷ cs) all =
    let others : List (List ℕ) = filter (λ name. far name == d) (map (λ c. c.name.now) cs) in
    let later : All (λ c. c.rank ≡ far c.name.now) cs = λ k e within. all (suc k) e (omega arith) in
    name_if (c.rank == d) c (filter (λ c. c.rank == d) cs) others (names_of_those far d cs later)
    ∙ ap (λ n. cond (n == d) (c.name.now ∷ others) others) (all 0 c (omega arith))

-- one rank more
pub one_more : {T : Type 0} (f : ℕ → List T) (a n : ℕ)
    → flat_map f (range_with_len a (suc n)) ≡ flat_map f (range_with_len a n) ++ f (a + n)
one_more {T} f a zero =
    let same : a ≡ a + 0 = omega arith in
    append-nil (f a) ∙ ap f same
one_more {T} f a (suc n) =
    let same : a + 1 + n ≡ a + suc n = omega arith in
    let later : List T = flat_map f (range_with_len (a + 1) n) in
    ap (λ zs. f a ++ zs) (one_more f (a + 1) n)
    ∙ sym (append_assoc (f a) later (f (a + 1 + n)))
    ∙ ap (λ k. (f a ++ later) ++ f k) same

-- Steps of the loops

-- one that was pushed stands before those that are left
pushed_first : {A : Type 0} (f : A → List ℕ) (old new : List A) (x : A) (rest : List (List ℕ)) → new ≡ old ++ x ∷ []
    → map f new ++ rest ≡ map f old ++ f x ∷ rest
pushed_first f old new x rest is =
    ap (λ xs. map f xs ++ rest) is ∙ ap (λ ys. ys ++ rest) (map-append f old (x ∷ []))
    ∙ append_assoc (map f old) (f x ∷ []) rest

-- the name of a candidate of the rank is pushed
pub push_name : (d : ℕ) (cs : List Candidate) (i : ℕ) (c : Candidate) (old new : List (Bor (List ℕ)))
    (all : List (List ℕ)) → i < length cs → (get_or cs i c).rank ≡ d → new ≡ old ++ (get_or cs i c).name ∷ []
    → map (λ name. name.now) old ++ map (λ c. c.name.now) (filter (λ c. c.rank == d) (drop i cs)) ≡ all
    → map (λ name. name.now) new ++ map (λ c. c.name.now) (filter (λ c. c.rank == d) (drop (i + 1) cs)) ≡ all
push_name d cs i c old new all within at is before =
    let later : List Candidate = filter (λ c. c.rank == d) (drop (i + 1) cs) in
    let here : ((get_or cs i c).rank == d) ≡ true = grind (arith, nat_tests) in
    let next : map (λ c. c.name.now) (filter (λ c. c.rank == d) (drop i cs)) ≡ (get_or cs i c).name.now ∷ map (λ c. c.name.now) later =
    at_drop_more (λ cs. map (λ c. c.name.now) (filter (λ c. c.rank == d) cs)) cs i c within
    ∙ ap (λ t. map (λ c. c.name.now) (cond t (get_or cs i c ∷ later) later)) here in
    pushed_first (λ name. name.now) old new (get_or cs i c).name (map (λ c. c.name.now) later) is
    ∙ ap (λ names. map (λ name. name.now) old ++ names) (sym next) ∙ before

-- another one is passed
pub pass_name : (d : ℕ) (cs : List Candidate) (i : ℕ) (c : Candidate) (old new : List (Bor (List ℕ)))
    (all : List (List ℕ)) → i < length cs → ((get_or cs i c).rank ≡ d → ⊥) → new ≡ old
    → map (λ name. name.now) old ++ map (λ c. c.name.now) (filter (λ c. c.rank == d) (drop i cs)) ≡ all
    → map (λ name. name.now) new ++ map (λ c. c.name.now) (filter (λ c. c.rank == d) (drop (i + 1) cs)) ≡ all
pass_name d cs i c old new all within other same before =
    let later : List Candidate = filter (λ c. c.rank == d) (drop (i + 1) cs) in
    let there : ((get_or cs i c).rank == d) ≡ false = grind (arith, nat_tests) in
    let next : map (λ c. c.name.now) (filter (λ c. c.rank == d) (drop i cs)) ≡ map (λ c. c.name.now) later =
    at_drop_more (λ cs. map (λ c. c.name.now) (filter (λ c. c.rank == d) cs)) cs i c within
    ∙ ap (λ t. map (λ c. c.name.now) (cond t (get_or cs i c ∷ later) later)) there in
    ap (λ names. map (λ name. name.now) names ++ map (λ c. c.name.now) later) same
    ∙ ap (λ names. map (λ name. name.now) old ++ names) (sym next) ∙ before

is_told : (near : Bool) (far d : ℕ) → Some d ≡ cond near (Some far) None → (near ≡ true) × (d ≡ far)
is_told true far d is = (refl, cc)
is_told false far d is = (cc, cc)

is_far : (near : Bool) (far : ℕ) (told : Option ℕ) → told ≡ cond near (Some far) None → ((d : ℕ) → told ≡ Some d → ⊥)
    → near ≡ false
is_far true far told is none = absurd (none far is)
is_far false far told is none = refl

-- the names of these candidates, and those that are near among the names from a place on, are these; and each is at its
-- rank
abbrev pub AreNear : List ℕ → List (Bor (List ℕ)) → ℕ → List Candidate → List (List ℕ) → Type 0
AreNear word names i near all =
    (map (λ c. c.name.now) near ++ filter (is_near word) (map (λ name. name.now) (drop i names)) ≡ all)
    × All (λ c. c.rank ≡ rank_of word c.name.now) near

-- a near name is pushed
pub push_near : (word : List ℕ) (names : List (Bor (List ℕ))) (i : ℕ) (n : Bor (List ℕ)) (d : ℕ)
    (old new : List Candidate) (all : List (List ℕ)) → i < length names
    → Some d ≡ cond (is_near word (get_or names i n).now) (Some (rank_of word (get_or names i n).now)) None
    → new ≡ old ++ record { name = get_or names i n; rank = d } ∷ []
    → AreNear word names i old all → AreNear word names (i + 1) new all
push_near word names i n d old new all within told is before =
    let name : Bor (List ℕ) = get_or names i n in
    let pushed : Candidate = record { name = name; rank = d } in
    let later : List (List ℕ) = filter (is_near word) (map (λ name. name.now) (drop (i + 1) names)) in
    let known = is_told (is_near word name.now) (rank_of word name.now) d told in
    let next : filter (is_near word) (map (λ name. name.now) (drop i names)) ≡ name.now ∷ later =
    at_drop_more (λ names. filter (is_near word) (map (λ name. name.now) names)) names i n within
    ∙ ap (λ t. cond t (name.now ∷ later) later) known.0 in (
      pushed_first (λ c. c.name.now) old new pushed later is
          ∙ ap (λ names. map (λ c. c.name.now) old ++ names) (sym next) ∙ before.0,
      subst (λ cs. All (λ c. c.rank ≡ rank_of word c.name.now) cs) (sym is)
          (All-push (λ c. c.rank ≡ rank_of word c.name.now) old pushed before.1 known.1),
    )

-- another one is passed
pub pass_far : (word : List ℕ) (names : List (Bor (List ℕ))) (i : ℕ) (n : Bor (List ℕ)) (told : Option ℕ)
    (old new : List Candidate) (all : List (List ℕ)) → i < length names
    → told ≡ cond (is_near word (get_or names i n).now) (Some (rank_of word (get_or names i n).now)) None
    → ((d : ℕ) → told ≡ Some d → ⊥) → new ≡ old
    → AreNear word names i old all → AreNear word names (i + 1) new all
pass_far word names i n told old new all within is none still before =
    let name : Bor (List ℕ) = get_or names i n in
    let later : List (List ℕ) = filter (is_near word) (map (λ name. name.now) (drop (i + 1) names)) in
    let far : is_near word name.now ≡ false =
    is_far (is_near word name.now) (rank_of word name.now) told is none in
    let next : filter (is_near word) (map (λ name. name.now) (drop i names)) ≡ later =
    at_drop_more (λ names. filter (is_near word) (map (λ name. name.now) names)) names i n within
    ∙ ap (λ t. cond t (name.now ∷ later) later) far in
    subst (λ cs. AreNear word names (i + 1) cs all) (sym still)
    (ap (λ names. map (λ c. c.name.now) old ++ names) (sym next) ∙ before.0, before.1)
