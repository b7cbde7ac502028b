-- The parts of a ledger that isn't closed.
use Rattle.std.proofs.Common.{◌≡◌, ◌<◌, ◌≤◌, ◌+◌, ◌-◌, ◌∙◌, ℕ, suc, Bool, true, false, ◌&&◌, nat_lt, List, [], ◌∷◌, length, take, drop, get_or}
use Rattle.std.proofs.Common.{Option, None, Some, unwrap_or, sym, ap, arith, true≢false, if◌then◌else◌}
use Rattle.std.specs.Prelude.{slice_get}
use Rattle.std.specs.Option.{is_some, option_map_or}
use Rattle.std.proofs.Math.ListN.{drop_of_length-le}
use Rattle.std.proofs.Math.Seq.{drop-cons}
use Rattle.std.proofs.lemmas.Bool.Decides.{nat_tests}
use Rattle.std.proofs.lemmas.Option.{slice_get-get_or}
use Rattle.reh_inventory.specs.declared.ledgers.Fragment.{Fragment}
use Rattle.reh_inventory.specs.declared.ledgers.LedgerLine.{LedgerLine}
use Rattle.reh_inventory.specs.declared.ledgers.LedgerState.TheVariants.{Closed}
use Rattle.reh_inventory_census.specs.Parts.{has_parts, last_part, parts_of, stopped_part}

and_second : (a b : Bool) → (a && b) ≡ true → b ≡ true
and_second true b e = e
and_second false b e = absurd (true≢false (sym e))

-- a ledger with parts has more than one fragment
several : (g : LedgerLine) → has_parts g ≡ true → 1 < length g.fragments
several g parted =
    let more : nat_lt 1 (length g.fragments) ≡ true = and_second _ _ parted in grind (arith, nat_tests)

before-end : (g : LedgerLine) → has_parts g ≡ true → length g.fragments - 1 < length g.fragments
before-end g parted = let many : 1 < length g.fragments = several g parted in omega arith

fallback : Fragment
fallback = record { first = 0; ensemble = [] }

pub has-last : (g : LedgerLine) → has_parts g ≡ true → None ≡ slice_get g.fragments (length g.fragments - 1) → ⊥
has-last g parted none =
    true≢false
    (sym
    (ap is_some (none ∙ slice_get-get_or g.fragments (length g.fragments - 1) fallback (before-end g parted))))

-- the last of some
last-alone : (xs : List Fragment) (k : ℕ) (last : Fragment) → k < length xs → length xs ≡ k + 1 → Some last ≡ slice_get xs k
    → last ∷ [] ≡ drop k xs
last-alone xs k last within long is =
    let same : last ≡ get_or xs k last =
    ap (λ (o : Option Fragment). unwrap_or o last) (is ∙ slice_get-get_or xs k last within) in
    let past : length xs ≤ suc k = omega (arith, long) in
    let none : drop (suc k) xs ≡ [] = drop_of_length-le xs past in
    (λ i. same i ∷ sym none i) ∙ sym (drop-cons xs k last within)

pub parts-are : (g : LedgerLine) (last : Fragment) (rest alone : List Fragment) → has_parts g ≡ true
    → Some last ≡ slice_get g.fragments (length g.fragments - 1) → rest ≡ take (length g.fragments - 1) g.fragments
    → alone ≡ last ∷ []
    → (record g { state = Closed last.first; fragments = rest }) ∷ (record g { fragments = alone }) ∷ [] ≡ parts_of g
parts-are g last rest alone parted is before after =
    let k = length g.fragments - 1 in
    let many : 1 < length g.fragments = several g parted in
    let first = ap (λ (o : Option Fragment). option_map_or (λ fragment. fragment.first) o 0) is in
    let after-all = after ∙ last-alone g.fragments k last (before-end g parted) (omega arith) is in
    (λ i. (record g { state = Closed (first i); fragments = before i }) ∷ (record g { fragments = after-all i }) ∷ [])
    ∙ sym (ap (λ (b : Bool). if b then stopped_part g ∷ last_part g ∷ [] else g ∷ []) parted)
