-- Records: an exchange of what an exchange left gives back cluster and record.
use Rattle.std.proofs.Common.{◌≡◌, ◌≢◌, ℕ, List, [], ◌∷◌, ◌++◌, map, length, refl, sym, ap, subst, ◌∙◌}
use Rattle.std.specs.Prelude.{All}
use Rattle.std.proofs.lemmas.List.Elements.{All-nil, All-cons, All-head, All-tail}
use Rattle.reh_model.specs.Cluster.{Parts, Cluster, words_among}
use Rattle.reh_model.specs.WellFormed.{IsWellFormed}
use Rattle.reh_model.specs.Places.{Change, Place, place_of, put, back, put_all, back_all, exchanged, left, AreRising, IsPlaced, IsThere, Fits, SameAt, IsDelta}
use Rattle.reh_model.proofs.PlaceLaws.{IsBefore-different, words_among-put, IsPlaced-put, IsPlaced-back, place_of-back, put-back, back-back, put-comm, back-put, SameAt-refl, SameAt-sym, SameAt-trans, SameAt-put}

-- no change of the record is at that place
abbrev pub IsBeside : Place → List Change → Type 0
IsBeside p cs = All (λ q. p ≢ q) (map place_of cs)

first_beside : (p : Place) (c : Change) (cs : List Change) → IsBeside p (c ∷ cs) → p ≢ place_of c
first_beside p c cs h = All-head (λ q. p ≢ q) (place_of c) (map place_of cs) h

rest_beside : (p : Place) (c : Change) (cs : List Change) → IsBeside p (c ∷ cs) → IsBeside p cs
rest_beside p c cs h = All-tail (λ q. p ≢ q) (place_of c) (map place_of cs) h

-- the first change of a record whose places rise is beside the others
pub beside_rest : (c : Change) (cs : List Change) → AreRising (map place_of (c ∷ cs)) → IsBeside (place_of c) cs
beside_rest c cs h k d within = IsBefore-different (place_of c) _ (h.0 k d within)

-- a change beside a record can be made before it or after it
put_all-put : (s : Parts) (c : Change) (cs : List Change) → IsBeside (place_of c) cs → put (put_all s cs) c ≡ put_all (put s c) cs
put_all-put s c [] h = refl
put_all-put s c (d ∷ cs) h =
    put_all-put (put s d) c cs (rest_beside _ d cs h) ∙ ap (λ t. put_all t cs) (sym (put-comm s c d (first_beside _ d cs h)))

-- and the record leaves the same
back_all-put : (s : Parts) (c : Change) (cs : List Change) → IsBeside (place_of c) cs → back_all (put s c) cs ≡ back_all s cs
back_all-put s c [] h = refl
back_all-put s c (d ∷ cs) h =
    ap (λ e. e ∷ back_all (put (put s c) d) cs) (back-put s c d (first_beside _ d cs h))
    ∙ ap (λ t. back s d ∷ back_all t cs) (put-comm s c d (first_beside _ d cs h))
    ∙ ap (λ ds. back s d ∷ ds) (back_all-put (put s d) c cs (rest_beside _ d cs h))

-- the change leaves the same after the record as before
back-put_all : (s : Parts) (c : Change) (cs : List Change) → IsBeside (place_of c) cs → back (put_all s cs) c ≡ back s c
back-put_all s c [] h = refl
back-put_all s c (d ∷ cs) h =
    back-put_all (put s d) c cs (rest_beside _ d cs h) ∙ back-put s d c (λ e. first_beside _ d cs h (sym e))

-- what is left has the record's places
pub places-back_all : (s : Parts) (cs : List Change) → map place_of (back_all s cs) ≡ map place_of cs
places-back_all s [] = refl
places-back_all s (c ∷ cs) = ap (λ p. p ∷ map place_of (back_all (put s c) cs)) (place_of-back s c) ∙ ap (λ ps. place_of c ∷ ps) (places-back_all (put s c) cs)

-- what the first change leaves is made before or after the others, and takes the change back
back_first : (s : Parts) (c : Change) (cs : List Change) → IsBeside (place_of (back s c)) cs → put (put_all (put s c) cs) (back s c) ≡ put_all s cs
back_first s c cs beside = put_all-put (put s c) (back s c) cs beside ∙ ap (λ t. put_all t cs) (put-back s c)

-- the parts come back
pub put_all-back_all : (s : Parts) (cs : List Change) → AreRising (map place_of cs) → put_all (put_all s cs) (back_all s cs) ≡ s
put_all-back_all s [] h = refl
put_all-back_all s (c ∷ cs) h =
    let beside : IsBeside (place_of c) cs = beside_rest c cs h in
    ap (λ t. put_all t (back_all (put s c) cs)) (back_first s c cs (subst (λ p. IsBeside p cs) (sym (place_of-back s c)) beside))
    ∙ ap (λ ds. put_all (put_all s cs) ds) (back_all-put s c cs beside)
    ∙ put_all-back_all s cs h.1

-- and so does the record
pub back_all-back_all : (s : Parts) (cs : List Change) → AreRising (map place_of cs) → back_all (put_all s cs) (back_all s cs) ≡ cs
back_all-back_all s [] h = refl
back_all-back_all s (c ∷ cs) h =
    let beside : IsBeside (place_of c) cs = beside_rest c cs h in
    let beside_back : IsBeside (place_of (back s c)) cs = subst (λ p. IsBeside p cs) (sym (place_of-back s c)) beside in
    ap (λ d. d ∷ back_all (put (put_all (put s c) cs) (back s c)) (back_all (put s c) cs)) (back-put_all (put s c) (back s c) cs beside_back ∙ back-back s c)
    ∙ ap (λ t. c ∷ back_all t (back_all (put s c) cs)) (back_first s c cs beside_back)
    ∙ ap (λ ds. c ∷ back_all (put_all s cs) ds) (back_all-put s c cs beside)
    ∙ ap (λ ds. c ∷ ds) (back_all-back_all s cs h.1)

-- so does the cluster, and as many words of each ledger are kept
pub exchanged-left : (s : Cluster) (cs : List Change) → AreRising (map place_of cs) → exchanged (exchanged s cs) (left s cs) ≡ s
exchanged-left s cs h = ap (λ (p : Parts). record s { parts = p }) (put_all-back_all s.parts cs h)

pub words_among-put_all : (s : Parts) (cs : List Change) (l : ℕ) → words_among (put_all s cs).ledgers l ≡ words_among s.ledgers l
words_among-put_all s [] l = refl
words_among-put_all s (c ∷ cs) l = words_among-put_all (put s c) cs l ∙ words_among-put s c l

-- a record in two parts
pub put_all-append : (s : Parts) (cs ds : List Change) → put_all s (cs ++ ds) ≡ put_all (put_all s cs) ds
put_all-append s [] ds = refl
put_all-append s (c ∷ cs) ds = put_all-append (put s c) cs ds

pub back_all-append : (s : Parts) (cs ds : List Change)
    → back_all s (cs ++ ds) ≡ back_all s cs ++ back_all (put_all s cs) ds
back_all-append s [] ds = refl
back_all-append s (c ∷ cs) ds = ap (λ es. back s c ∷ es) (back_all-append (put s c) cs ds)

-- so the places stay that there are
pub IsPlaced-put_all : (n : ℕ) (s : Parts) (cs : List Change) (d : Change) → IsPlaced n s d → IsPlaced n (put_all s cs) d
IsPlaced-put_all n s [] d h = h
IsPlaced-put_all n s (c ∷ cs) d h = IsPlaced-put_all n (put s c) cs d (IsPlaced-put n s c d h)

placed-back_all : (n : ℕ) (t s : Parts) (cs : List Change) → All (IsPlaced n t) cs → All (IsPlaced n t) (back_all s cs)
placed-back_all n t s [] h = All-nil (IsPlaced n t)
placed-back_all n t s (c ∷ cs) h =
    All-cons (IsPlaced n t) (back s c) (back_all (put s c) cs) (IsPlaced-back n t s c (All-head (IsPlaced n t) c cs h))
    (placed-back_all n t (put s c) cs (All-tail (IsPlaced n t) c cs h))

-- what is left fits, and leads back
pub Fits-left : (s : Cluster) (cs : List Change) → IsWellFormed s → AreRising (map place_of cs) → Fits s cs → Fits (exchanged s cs) (left s cs)
Fits-left s cs well rising h = record {
  there = placed-back_all (length s.names) (put_all s.parts cs) s.parts cs
      (λ k d within. IsPlaced-put_all (length s.names) s.parts cs _ (h.there k d within));
  well_formed = subst IsWellFormed (sym (exchanged-left s cs rising)) well;
}

-- Differences

-- an exchange leaves what stands beside its places
pub SameAt-put_all : (s : Parts) (cs : List Change) (p : Place) → IsBeside p cs → SameAt s (put_all s cs) p
SameAt-put_all s [] p h = SameAt-refl s p
SameAt-put_all s (c ∷ cs) p h =
    SameAt-trans s (put s c) (put_all (put s c) cs) p (SameAt-put s c p (λ e. first_beside p c cs h (sym e))) (SameAt-put_all (put s c) cs p (rest_beside p c cs h))

-- the change makes a difference alone
abbrev pub Differs : Parts → Change → Type 0
Differs s c = ¬ SameAt s (put s c) (place_of c)

-- then it also makes one after a change of another place
Differs-put : (s : Parts) (c d : Change) → place_of c ≢ place_of d → Differs s d → Differs (put s c) d
Differs-put s c d apart differs same =
    let later : SameAt (put s c) (put (put s d) c) (place_of d) = subst (λ t. SameAt (put s c) t (place_of d)) (put-comm s c d apart) same in
    let first : SameAt s (put (put s d) c) (place_of d) = SameAt-trans s (put s c) (put (put s d) c) (place_of d) (SameAt-put s c (place_of d) apart) later in
    differs (SameAt-trans s (put (put s d) c) (put s d) (place_of d) first (SameAt-sym (put s d) (put (put s d) c) (place_of d) (SameAt-put (put s d) c (place_of d) apart)))

all_differ-put : (s : Parts) (c : Change) (cs : List Change) → IsBeside (place_of c) cs → All (Differs s) cs → All (Differs (put s c)) cs
all_differ-put s c [] beside h = All-nil (Differs (put s c))
all_differ-put s c (d ∷ cs) beside h =
    All-cons (Differs (put s c)) d cs (Differs-put s c d (first_beside _ d cs beside) (All-head (Differs s) d cs h)) (all_differ-put s c cs (rest_beside _ d cs beside) (All-tail (Differs s) d cs h))

-- and at the end of the record
differ-put_all : (s : Parts) (cs : List Change) → AreRising (map place_of cs) → All (Differs s) cs → All (λ p. ¬ SameAt s (put_all s cs) p) (map place_of cs)
differ-put_all s [] rising h = All-nil (λ p. ¬ SameAt s s p)
differ-put_all s (c ∷ cs) rising h =
    let t : Parts = put_all (put s c) cs in
    let beside : IsBeside (place_of c) cs = beside_rest c cs rising in
    let here : ¬ SameAt s t (place_of c) = λ same. All-head (Differs s) c cs h (SameAt-trans s t (put s c) (place_of c) same (SameAt-sym (put s c) t (place_of c) (SameAt-put_all (put s c) cs (place_of c) beside))) in
    let others = differ-put_all (put s c) cs rising.1 (all_differ-put s c cs beside (All-tail (Differs s) c cs h)) in
    All-cons (λ p. ¬ SameAt s t p) (place_of c) (map place_of cs) here (λ k d within same.
    others k d within (SameAt-trans (put s c) s t _ (SameAt-sym s (put s c) _ (SameAt-put s c _ (beside k d within))) same))

-- a record that makes t of s, each of whose changes makes a difference alone, is their difference
pub delta_of_changes : (s t : Cluster) (cs : List Change) → IsWellFormed t → AreRising (map place_of cs) → All (IsThere s) cs
    → exchanged s cs ≡ t → All (Differs s.parts) cs → IsDelta s t cs
delta_of_changes s t cs well rising there makes differ = record {
  rising = rising;
  fits = record { there = there; well_formed = subst IsWellFormed (sym makes) well };
  makes = makes;
  differ = subst (λ (u : Cluster). All (λ p. ¬ SameAt s.parts u.parts p) (map place_of cs)) makes (differ-put_all s.parts cs rising differ);
  elsewhere = λ p beside. subst (λ (u : Cluster). SameAt s.parts u.parts p) makes (SameAt-put_all s.parts cs p beside);
}

-- and what it leaves is the difference the other way
pub IsDelta-left : (s t : Cluster) (cs : List Change) → IsWellFormed s → IsDelta s t cs → IsDelta t s (left s cs)
IsDelta-left s t cs well h = record {
  rising = subst AreRising (sym (places-back_all s.parts cs)) h.rising;
  fits = subst (λ u. Fits u (left s cs)) h.makes (Fits-left s cs well h.rising h.fits);
  makes = ap (λ u. exchanged u (left s cs)) (sym h.makes) ∙ exchanged-left s cs h.rising;
  differ = subst (λ ps. All (λ p. ¬ SameAt t.parts s.parts p) ps) (sym (places-back_all s.parts cs))
      (λ k d within same. h.differ k d within (SameAt-sym t.parts s.parts _ same));
  elsewhere = λ p beside. SameAt-sym s.parts t.parts p
      (h.elsewhere p (subst (λ ps. All (λ q. p ≢ q) ps) (places-back_all s.parts cs) beside));
}
