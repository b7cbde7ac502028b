-- The first bookie of the name is told, if there is one.
use Rattle.std.proofs.Common.{◌≡◌, ◌<◌, ℕ, Bool, List, [], ◌∷◌, None, Some, arith, false, get_or, length, position, refl, sym, true, ◌∙◌, ap}
use Rattle.std.proofs.lemmas.List.Sums.{position_or_len_is}
use Rattle.std.specs.List.{position_or_len}
use Rattle.std.specs.Option.{option_and_then, option_map_or}
use Rattle.std.specs.Prelude.{Option, slice_get}
use Rattle.std.specs.Str.{bytes_eq}
use Rattle.std.proofs.lemmas.Option.{slice_get_read}
use Rattle.reh_inventory.specs.declared.heads.Bookie.{Bookie}
use Rattle.reh_inventory_census.specs.Bookies.{as_counted, place_of, unregistered}
use Rattle.reh_inventory_census.proofs.bookies.bookie_of.Goals as goal

-- the first element that passes a test
position_is : {X : Type 0} (p : X → Bool) (xs : List X) (i : ℕ) (x : X)
    → ((k : ℕ) (d : X) → k < i → p (get_or xs k d) ≡ false) → i < length xs → x ≡ get_or xs i x → p x ≡ true
    → position p xs ≡ Some i
position_is p xs i x before within is here =
    let first : position_or_len p xs ≡ i =
    position_or_len_is p xs i x (omega (arith, within)) (λ k less. before k x less) (λ _. sym (ap p is) ∙ here) in
    grind (arith, first, within)

-- none passes it
no_position : {X : Type 0} (p : X → Bool) (xs : List X)
    → ((k : ℕ) (d : X) → k < length xs → p (get_or xs k d) ≡ false) → position p xs ≡ None
no_position p [] none = refl
no_position {X = X} p (y ∷ ys) none =
    let xs : List X = y ∷ ys in
    let past : position_or_len p xs ≡ length xs =
    position_or_len_is p xs (length xs) y (omega arith) (λ k less. none k y less) (λ within. absurd (omega (arith, within))) in
    grind (arith, past)

pub returns-then-eq : goal.returns-then-eq
returns-then-eq c =
    let racks = c.args.racks.now in
    let bookies = c.args.bookies.now in
    let bookie = c.bookie-item.result in
    let here : bytes_eq bookie.name c.args.name.now ≡ true = grind (arith, c.if-eq.true, c.eq.ensures, c.as_str.ensures) in
    let found : place_of bookies c.args.name.now ≡ Some c.loop-bookie.bookie-index =
    position_is _ bookies c.loop-bookie.bookie-index bookie c.loop-bookie.invariant c.loop-bookie-test.true c.bookie-item.is here in
    let there : slice_get bookies c.loop-bookie.bookie-index ≡ Some bookie =
    slice_get_read bookies (length bookies) c.loop-bookie.bookie-index bookie refl c.loop-bookie-test.true c.bookie-item.is in
    c.counted.ensures
    ∙ sym
    (ap (λ (place : Option ℕ). option_map_or (as_counted racks) (option_and_then (slice_get bookies) place) unregistered) found
    ∙ ap (λ (b : Option Bookie). option_map_or (as_counted racks) b unregistered) there)

pub returns : goal.returns
returns c =
    let racks = c.args.racks.now in
    let bookies = c.args.bookies.now in
    let none : place_of bookies c.args.name.now ≡ None =
    no_position _ bookies (λ k d less. c.loop-bookie.invariant k d (omega (arith, less, c.loop-bookie-test.false))) in
    sym
    (ap (λ (place : Option ℕ). option_map_or (as_counted racks) (option_and_then (slice_get bookies) place) unregistered) none)
