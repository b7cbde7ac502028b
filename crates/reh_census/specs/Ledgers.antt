-- Ledgers, and what is told of the entries that their members hold.
use Rattle.std.specs.Prelude.{◌≡◌, ℕ, ◌^◌, ◌≤◌, All, length, Bool, true, false, not, ◌&&◌, ◌==◌, nat_le, List, [], ◌∷◌, map, slice_index, if◌then◌else◌}
use Rattle.std.specs.List.{AllAdjacentBelow, filter, list_any}
use Rattle.reh_census.specs.declared.ledgers.Content.{Content}
use Rattle.reh_census.specs.declared.ledgers.Fragment.{Fragment}
use Rattle.reh_census.specs.declared.ledgers.LedgerState.{LedgerState}
use Rattle.reh_census.specs.declared.ledgers.Range.{Range}
use Rattle.reh_census.specs.declared.ledgers.Told.{Told}
use Rattle.reh_census.specs.declared.ledgers.Told.TheVariants.{Holds, Lacks, Untold}
use Rattle.reh_census.specs.declared.classes.Class.{Class}
use Rattle.reh_census.specs.Copies.{EachOnce}
use Rattle.reh_census.specs.Striping.{write_set}

-- a ledger's state, sizes and fragments, what is told of its members, and what holds of those of which no content tells
pub record Ledger : Type 0 where
  pub state : LedgerState
  pub size : ℕ
  pub write_quorum : ℕ
  pub ack_quorum : ℕ
  pub fragments : List Fragment
  pub contents : List Content
  pub rest : Told

abbrev pub ledger_by : LedgerState → ℕ → ℕ → ℕ → List Fragment → List Content → Told → Ledger
ledger_by state size write_quorum ack_quorum fragments contents rest = record {
  state = state;
  size = size;
  write_quorum = write_quorum;
  ack_quorum = ack_quorum;
  fragments = fragments;
  contents = contents;
  rest = rest;
}

abbrev pub told_in : List Content → Told → ℕ → Told
told_in [] rest b = rest
told_in (content ∷ contents) rest b = if content.bookie == b then content.told else told_in contents rest b

-- what is told of a bookie
abbrev pub told_of : Ledger → ℕ → Told
told_of g b = told_in g.contents g.rest b

abbrev pub is_within : ℕ → Range → Bool
is_within entry r = nat_le r.first entry && nat_le entry r.last

-- whether a bookie of which this is told, and onto which the entry is striped, holds it
abbrev pub is_held : ℕ → Told → Bool
is_held entry (Holds ranges) = list_any (is_within entry) ranges
is_held entry (Lacks ranges) = not (list_any (is_within entry) ranges)
is_held entry Untold = false

abbrev pub is_untold : Told → Bool
is_untold (Holds ranges) = false
is_untold (Lacks ranges) = false
is_untold Untold = true

-- the members that the entry was written to
abbrev pub writes : Ledger → Fragment → ℕ → List ℕ
writes g fragment entry =
    map (λ i. slice_index fragment.ensemble i) (write_set entry g.size g.write_quorum)

-- whether the entry is striped onto the bookie
abbrev pub carries : Ledger → Fragment → ℕ → ℕ → Bool
carries g fragment entry b = list_any (λ member. member == b) (writes g fragment entry)

-- of the bookies that may hold copies, in their order, those that are told to hold the entry
abbrev pub known : List ℕ → Ledger → Fragment → ℕ → List ℕ
known holders g fragment entry =
    filter (λ b. carries g fragment entry b && is_held entry (told_of g b)) holders

-- and those onto which it is striped, and of which nobody told
abbrev pub untold : List ℕ → Ledger → Fragment → ℕ → List ℕ
untold holders g fragment entry =
    filter (λ b. carries g fragment entry b && is_untold (told_of g b)) holders

-- the entry, as a census sees it
abbrev pub class_of : List ℕ → Ledger → Fragment → ℕ → Class
class_of holders g fragment entry = record {
  known = known holders g fragment entry;
  untold = untold holders g fragment entry;
  ack_quorum = g.ack_quorum;
  write_quorum = g.write_quorum;
}

-- Well-formed ledgers

-- a fragment of a ledger with ensembles of this size, with entries of up to 2^63, on different bookies
pub record IsFragment (size : ℕ) (fragment : Fragment) : Type 0 where
  pub some : 1 ≤ size
  pub order : fragment.first ≤ fragment.stop
  pub stop : fragment.stop ≤ 2 ^ 63
  pub whole : length fragment.ensemble ≡ size
  pub once : EachOnce fragment.ensemble

-- each fragment stops where the next one begins, or before, so no entry is in two of them
abbrev pub InTurn : List Fragment → Type 0
InTurn fragments = AllAdjacentBelow (λ one next. one.stop ≤ next.first) fragments (length fragments)

pub record IsLedger (g : Ledger) : Type 0 where
  pub some_acks : 1 ≤ g.ack_quorum
  pub acks_within : g.ack_quorum ≤ g.write_quorum
  pub writes_within : g.write_quorum ≤ g.size
  pub small : g.size ≤ 64
  pub fragments : All (IsFragment g.size) g.fragments
  pub in_turn : InTurn g.fragments
