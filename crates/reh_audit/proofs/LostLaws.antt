-- The members that pass a test among one member more, and of one ensemble more.
use Rattle.std.proofs.Common.{◌≡◌, ℕ, ◌+◌, ◌<◌, Bool, true, false, cond, List, [], ◌∷◌, ◌++◌, length, get_or, take, ap, ◌∙◌, append-nil}
use Rattle.std.specs.List.{filter, flat_map}
use Rattle.std.proofs.lemmas.List.{take_more}
use Rattle.std.proofs.lemmas.List.Concat.{flat_map-append}
use Rattle.std.proofs.lemmas.List.Elements.{filter-append, filter_more}
use Rattle.reh_types.specs.Sets.{numbers, insert, from_list, union}
use Rattle.reh_types.proofs.SetLaws.{from_list-append, from_list-push}
use Rattle.reh_model.specs.Metadata.{Fragment}

-- a member that fails adds nothing
pub more-fails : (p : ℕ → Bool) (bs : List ℕ) (i d : ℕ) → i < length bs → p (get_or bs i d) ≡ false → from_list {o = numbers} (filter p (take (i + 1) bs)) ≡ from_list (filter p (take i bs))
more-fails p bs i d within is = ap (λ (ks : List ℕ). from_list {o = numbers} ks)
    (filter_more p bs i d within ∙ ap (λ (c : Bool). filter p (take i bs) ++ cond c (get_or bs i d ∷ []) []) is ∙ append-nil (filter p (take i bs)))

-- one that passes joins them
pub more-passes : (p : ℕ → Bool) (bs : List ℕ) (i d : ℕ) → i < length bs → p (get_or bs i d) ≡ true → from_list {o = numbers} (filter p (take (i + 1) bs)) ≡ insert (from_list (filter p (take i bs))) (get_or bs i d)
more-passes p bs i d within is =
    ap (λ (ks : List ℕ). from_list {o = numbers} ks)
    (filter_more p bs i d within ∙ ap (λ (c : Bool). filter p (take i bs) ++ cond c (get_or bs i d ∷ []) []) is)
    ∙ from_list-push numbers (filter p (take i bs)) (get_or bs i d)

-- those of one ensemble more
pub more-ensemble : (p : ℕ → Bool) (fs : List Fragment) (i : ℕ) (d : Fragment) → i < length fs
    → from_list {o = numbers} (filter p (flat_map (λ f. f.ensemble) (take (i + 1) fs))) ≡ union (from_list (filter p (flat_map (λ f. f.ensemble) (take i fs)))) (from_list (filter p (get_or fs i d).ensemble))
more-ensemble p fs i d within =
    ap (λ (ks : List ℕ). from_list {o = numbers} (filter p ks))
    (ap (λ (xs : List Fragment). flat_map (λ f. f.ensemble) xs) (take_more fs i d within)
    ∙ flat_map-append (λ (f : Fragment). f.ensemble) (take i fs) (get_or fs i d ∷ [])
    ∙ ap (λ (ks : List ℕ). flat_map (λ f. f.ensemble) (take i fs) ++ ks) (append-nil (get_or fs i d).ensemble))
    ∙ ap (λ (ks : List ℕ). from_list {o = numbers} ks) (filter-append p (flat_map (λ f. f.ensemble) (take i fs)) (get_or fs i d).ensemble)
    ∙ from_list-append numbers (filter p (flat_map (λ f. f.ensemble) (take i fs))) (filter p (get_or fs i d).ensemble)
