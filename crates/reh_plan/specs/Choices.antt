-- Which of the bookies that could take a place takes it.
use Rattle.std.specs.Prelude.{◌≡◌, ℕ, ◌==◌, ◌&&◌, ◌||◌, nat_lt, Bool, false, IsTrue, List, [], ◌∷◌, Option, MatchOption, if◌then◌else◌, slice_get, slice_index}
use Rattle.std.specs.List.{list_any}
use Rattle.std.specs.Option.{option_map_or}
use Rattle.reh_model.specs.Audit.{members_of}
use Rattle.reh_model.specs.Cluster.{Cluster, Ledger, is_locked_by}
use Rattle.reh_plan.specs.Racks.{lacking_at}
use Rattle.reh_plan.specs.Takers.{could_take}
use Rattle.reh_plan.specs.Workers.{Workers, may_work}

-- whether the bookie could take a place of the ledger's fragment of that number
abbrev pub could_join : Workers → Cluster → Ledger → ℕ → ℕ → Bool
could_join workers s g f bookie =
    option_map_or (λ fragment. could_take (may_work workers.rules) s fragment bookie) (slice_get g.metadata.fragments f) false

-- what is compared of a bookie for the place at that index, in this order: how many write sets would lack racks, 0 if it has the
-- ledger's lock or else 1, 1 if it is in an ensemble of the ledger or else 0, how many entries it holds, and its number
abbrev pub ranks_of : Workers → Ledger → ℕ → ℕ → ℕ → List ℕ
ranks_of workers g f i bookie =
    lacking_at workers.racks g.metadata f i bookie
    ∷ (if is_locked_by bookie g then 0 else 1)
    ∷ (if list_any (λ member. member == bookie) (members_of g.metadata) then 1 else 0)
    ∷ slice_index workers.loads bookie
    ∷ bookie ∷ []

-- whether, of the first two numbers that differ, the first is less
abbrev pub is_less : List ℕ → List ℕ → Bool
is_less (m ∷ ms) (n ∷ ns) = nat_lt m n || ((m == n) && is_less ms ns)
is_less ms ns = false

-- the bookie could take the place, and no other that could comes before it
pub record IsFirst (workers : Workers) (s : Cluster) (g : Ledger) (f i bookie : ℕ) : Type 0 where
  pub could : IsTrue (could_join workers s g f bookie)
  pub first : (other : ℕ) → IsTrue (could_join workers s g f other)
      → is_less (ranks_of workers g f i other) (ranks_of workers g f i bookie) ≡ false

-- who is chosen is the first, and nobody is only where nobody could take the place
abbrev pub IsChoice : Workers → Cluster → Ledger → ℕ → ℕ → Option ℕ → Type 0
IsChoice workers s g f i choice =
    MatchOption choice ((other : ℕ) → could_join workers s g f other ≡ false) (IsFirst workers s g f i)
