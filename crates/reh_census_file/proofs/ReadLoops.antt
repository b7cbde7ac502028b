-- Reading bookies one after the other, as a loop does.
use Rattle.std.proofs.Common.{◌≡◌, ℕ, suc, ◌-◌, ◌+◌, ◌≤◌, ◌<◌, List, [], ◌∷◌, ◌++◌, Result, Ok, Err, refl, sym, ap, ◌∙◌, append_assoc, arith}
use Rattle.std.proofs.lemmas.List.{append-nil}
use Rattle.reh_census_file.specs.declared.faults.Expected.{Expected}
use Rattle.reh_census_file.specs.declared.faults.LineFault.{LineFault}
use Rattle.reh_census_file.specs.declared.faults.LineFault.TheVariants as stop
use Rattle.reh_census_file.specs.Reading.{◌>>=◌, Fails, bookie_at, bookies_at}

abbrev Words : Type 0
Words = List (List ℕ)

-- what was read before, and what is still read
abbrev pub with_front : List ℕ → Result (List ℕ × Words) Expected → Result (List ℕ × Words) Expected
with_front front read = read >>= λ x. Ok (front ++ x.0, x.1)

regroup : (front : List ℕ) (n : ℕ) (read : Result (List ℕ × Words) Expected) → with_front front (read >>= λ x. Ok (n ∷ x.0, x.1)) ≡ with_front (front ++ n ∷ []) read
regroup front n (Ok x) = ap (λ (ns : List ℕ). Ok (ns, x.1)) (simp append_assoc)
regroup front n (Err f) = refl

pub goes_on : (names : Words) (front : List ℕ) (count i : ℕ) (words : Words) (n : ℕ) (after : Words) (total : Result (List ℕ × Words) Expected) → i < count → bookie_at names words ≡ Ok (n, after)
    → with_front front (bookies_at names (count - i) words) ≡ total → with_front (front ++ n ∷ []) (bookies_at names (count - (i + 1)) after) ≡ total
unfolding bookies_at
goes_on names front count i words n after total lt h so_far =
    let k : count - i ≡ suc (count - (i + 1)) = omega arith in
    let one : with_front front (bookies_at names (count - i) words) ≡ with_front (front ++ n ∷ []) (bookies_at names (count - (i + 1)) after) = rw (k, h) (regroup front n (bookies_at names (count - (i + 1)) after)) in
    sym one ∙ so_far

pub ends : (names : Words) (e : LineFault) (front : List ℕ) (count i : ℕ) (words : Words) (total : Result (List ℕ × Words) Expected) → i < count → Fails e (bookie_at names words)
    → with_front front (bookies_at names (count - i) words) ≡ total → Fails e total
unfolding bookies_at
ends names stop.NoMemory front count i words total lt h so_far = tt
ends names (stop.At f) front count i words total lt h so_far =
    let k : count - i ≡ suc (count - (i + 1)) = omega arith in
    let one : with_front front (bookies_at names (count - i) words) ≡ Err f = rw (k, h) refl in
    sym so_far ∙ one

pub is_done : (names : Words) (front : List ℕ) (count i : ℕ) (words : Words) (total : Result (List ℕ × Words) Expected) → count ≤ i → with_front front (bookies_at names (count - i) words) ≡ total → total ≡ Ok (front, words)
unfolding bookies_at
is_done names front count i words total le so_far =
    let k : count - i ≡ 0 = omega arith in
    let one : with_front front (bookies_at names (count - i) words) ≡ Ok (front, words) = rw k (ap (λ (ns : List ℕ). Ok (ns, words)) (append-nil front)) in
    sym so_far ∙ one
