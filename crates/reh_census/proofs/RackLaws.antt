-- Racks are below the one past the greatest.
use Rattle.std.proofs.Common.{◌≡◌, ◌∙◌, ◌+◌, ◌<◌, ◌≤◌, ℕ, All, List, [], ◌∷◌, ◌++◌, Option, None, Some, length, get_or, take, max, ap, arith}
use Rattle.std.specs.Option.{IfSome, option_map_or}
use Rattle.std.proofs.lemmas.List.{take_more}
use Rattle.std.proofs.lemmas.List.Elements.{All-cons, All-nil}
use Rattle.reh_census.specs.declared.bookies.Bookie.{Bookie}
use Rattle.reh_census.specs.Bookies.{rack_stop, racks_stop}

stop-push : (bookies : List Bookie) (bookie : Bookie) → racks_stop (bookies ++ bookie ∷ []) ≡ max (racks_stop bookies) (rack_stop bookie)
stop-push [] bookie = single (rack_stop bookie) where
  single : (n : ℕ) → max n 0 ≡ max 0 n
  single n = omega arith
stop-push (first ∷ bookies) bookie =
    ap (λ n. max (rack_stop first) n) (stop-push bookies bookie) ∙ grouped (rack_stop first) (racks_stop bookies) (rack_stop bookie) where
      grouped : (a b c : ℕ) → max a (max b c) ≡ max (max a b) c
      grouped a b c = omega arith

pub stop-more : (bookies : List Bookie) (i : ℕ) (d : Bookie) → i < length bookies
    → racks_stop (take (i + 1) bookies) ≡ max (racks_stop (take i bookies)) (rack_stop (get_or bookies i d))
stop-more bookies i d within = ap racks_stop (take_more bookies i d within) ∙ stop-push (take i bookies) (get_or bookies i d)

below : (rack : Option ℕ) (n : ℕ) → option_map_or (λ r. r + 1) rack 0 ≤ n → IfSome rack (λ r. r < n)
below None n within = tt
below (Some rack) n within = omega (arith, within)

pub each-below : (bookies : List Bookie) (n : ℕ) → racks_stop bookies ≤ n → All (λ bookie. IfSome bookie.rack (λ rack. rack < n)) bookies
each-below [] n within = All-nil (λ (bookie : Bookie). IfSome bookie.rack (λ rack. rack < n))
each-below (bookie ∷ bookies) n within =
    All-cons (λ (bookie : Bookie). IfSome bookie.rack (λ rack. rack < n)) bookie bookies (below bookie.rack n (omega (arith, within)))
    (each-below bookies n (omega (arith, within)))
