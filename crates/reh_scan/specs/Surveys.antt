-- What a survey tells of.
use Rattle.std.specs.Prelude.{ℕ, List, length, map}
use Rattle.std.specs.List.{flat_map}
use Rattle.reh_model.specs.Striping.{range}
use Rattle.reh_model.specs.Cluster.{Cluster, Ledger}

-- a fragment, by its ledger's id and its number
abbrev pub Place : Type 0
Place = ℕ × ℕ

abbrev pub places_of : Ledger → List Place
places_of g = map (λ f. (g.id, f)) (range 0 (length g.metadata.fragments))

-- all fragments, in picture order
abbrev pub places : Cluster → List Place
places s = flat_map places_of s.parts.ledgers
