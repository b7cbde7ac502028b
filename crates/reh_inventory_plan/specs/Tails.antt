-- Ledgers that a plan closes so that entries may be missing.
use Rattle.std.specs.Prelude.{ℕ, Bool, false, nat_le, List, [], ◌∷◌, if◌then◌else◌}
use Rattle.std.specs.List.{flat_map}
use Rattle.std.specs.Option.{is_some, option_map_or}
use Rattle.reh_model.specs.Cluster.{Cluster, Ledger, ledger_at}
use Rattle.reh_model.specs.Contents.{greatest_held}
use Rattle.reh_model.specs.Metadata.{end_of_state, last_fragment}

-- the ledgers that aren't closed, in picture order
abbrev pub unclosed_one : Ledger → List ℕ
unclosed_one g = if is_some (end_of_state g.metadata.state) then [] else g.id ∷ []

abbrev pub unclosed : List Ledger → List ℕ
unclosed ledgers = flat_map unclosed_one ledgers

-- whether the ledger is closed without an entry of its last fragment
abbrev pub is_closed_empty : Ledger → Bool
is_closed_empty g =
    option_map_or (λ end. nat_le end (last_fragment g.metadata).first) (end_of_state g.metadata.state) false

-- whether it is closed before an entry that some bookie holds, registered or not
abbrev pub is_closed_short : Cluster → Ledger → Bool
is_closed_short s g =
    option_map_or (λ end. option_map_or (nat_le end) (greatest_held s.parts.held g.id) false)
    (end_of_state g.metadata.state) false

-- the ledger, if this is so
abbrev pub one_if : ℕ → Bool → List ℕ
one_if id is_so = if is_so then id ∷ [] else []

-- those of these ledgers that are closed so
abbrev pub closed_empty : Cluster → List ℕ → List ℕ
closed_empty s ids = flat_map (λ id. one_if id (option_map_or is_closed_empty (ledger_at s id) false)) ids

abbrev pub closed_short : Cluster → List ℕ → List ℕ
closed_short s ids = flat_map (λ id. one_if id (option_map_or (is_closed_short s) (ledger_at s id) false)) ids
