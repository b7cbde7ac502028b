-- What BookKeeper's auditor finds: which members of a ledger's ensembles are not registered, and which of them it
-- publishes.
use Rattle.std.specs.Prelude.{ℕ, ◌+◌, Bool, false, not, nat_le, if◌then◌else◌, List, map, Option, Some, position}
use Rattle.std.specs.List.{filter, flat_map, list_any}
use Rattle.std.specs.Option.{option_map_or}
use Rattle.reh_types.specs.Sets as set
use Rattle.reh_types.specs.Sets.{Set, numbers}
use Rattle.reh_model.specs.Metadata.{Fragment, Metadata, last_fragment}
use Rattle.reh_model.specs.Cluster.{Cluster, Ledger, is_up, lost_tick, task_set}

-- the bookies of all ensembles
abbrev pub members_of : Metadata → List ℕ
members_of m = flat_map (λ fragment. fragment.ensemble) m.fragments

-- the members of the ledger's ensembles that are not registered
abbrev pub missing_members : Cluster → Ledger → Set numbers
missing_members s g = set.from_list (filter (λ b. not (is_up s b)) (members_of g.metadata))

-- whether the bookie is not registered, and the delay after its loss is over
abbrev pub is_long_lost : Cluster → ℕ → Bool
is_long_lost s b = option_map_or (λ tick. nat_le (tick + s.delay) s.parts.scalars.clock) (lost_tick s b) false

-- those of the missing members after whose loss the delay is over
abbrev pub long_lost_members : Cluster → Ledger → Set numbers
long_lost_members s g = set.from_list (filter (is_long_lost s) (members_of g.metadata))

-- whether some member of the fragment is not registered
abbrev pub is_under : Cluster → Fragment → Bool
is_under s fragment = list_any (λ b. not (is_up s b)) fragment.ensemble

-- the least fragment with a member that is not registered
abbrev pub first_under : Cluster → Ledger → Option ℕ
first_under s g = position (is_under s) g.metadata.fragments

-- whether some member of the last fragment, to which a writer appends, is not registered
abbrev pub is_needed : Cluster → Ledger → Bool
is_needed s g = is_under s (last_fragment g.metadata)

-- whether an audit changes the ledger's task: not all long-lost members are in it
abbrev pub is_news : Cluster → Ledger → Bool
is_news s g = not (set.is_subset (long_lost_members s g) (task_set g))

-- the bookies that the ledger's task names after an audit
abbrev pub published_members : Cluster → Ledger → Set numbers
published_members s g = set.union (task_set g) (long_lost_members s g)

-- a ledger after an audit: its task united with the long-lost members, where there are any
abbrev pub audited_ledger : Cluster → Ledger → Ledger
audited_ledger s g =
    if set.is_empty (long_lost_members s g) then g else record g { task = Some (published_members s g) }

-- the ledgers whose tasks an audit changes, in picture order, each with the bookies that its task names then
abbrev pub published_tasks : Cluster → List (ℕ × Set numbers)
published_tasks s = map (λ g. (g.id, published_members s g)) (filter (is_news s) s.parts.ledgers)
