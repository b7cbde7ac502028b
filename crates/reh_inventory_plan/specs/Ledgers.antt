-- What a plan for one ledger of an inventory comes to.
use Rattle.std.specs.Prelude.{◌≡◌, ℕ, Bool, true, false, ◌==◌, ◌&&◌, not, List, [], ◌∷◌, Option, None, Some, length, map, slice_get, string_bytes, unwrap_or}
use Rattle.std.specs.List.{filter}
use Rattle.std.specs.Option.{option_map_or}
use Rattle.reh_model.specs.Cluster.{ledger_at}
use Rattle.reh_cut.specs.Cuts.{IsCut}
use Rattle.reh_inventory.specs.declared.heads.Head.{Head}
use Rattle.reh_inventory.specs.declared.ledgers.LedgerLine.{LedgerLine}
use Rattle.reh_inventory.specs.declared.ledgers.LedgerState.{LedgerState}
use Rattle.reh_inventory.specs.declared.ledgers.LedgerState.TheVariants as state
use Rattle.reh_lines.specs.Lines.{lines_of}
use Rattle.reh_plan.specs.declared.planning.Planned.{Planned}
use Rattle.reh_plan.specs.declared.summaries.Share.{Share}
use Rattle.reh_inventory_plan.specs.Parts.{IsPart}
use Rattle.reh_inventory_plan.specs.Pictures.{IsPicturePlan}
use Rattle.reh_inventory_plan.specs.Tails.{is_closed_empty, is_closed_short}
use Rattle.reh_inventory_plan.specs.declared.asked.Asked.{Asked}
use Rattle.reh_inventory_plan.specs.declared.ledgers.LedgerFiles.{LedgerFiles}
use Rattle.reh_inventory_plan.specs.declared.ledgers.NamedShare.{NamedShare}
use Rattle.reh_inventory_plan.specs.declared.ledgers.PlannedLedger.{PlannedLedger}
use Rattle.reh_inventory_plan.specs.declared.ledgers.Size.{Size}

-- whether the bookie is given something
abbrev pub is_given : Share → Bool
is_given share = not ((share.places == 0) && (share.entries == 0))

-- what a bookie is given, by its name
abbrev pub named_share : List (List ℕ) → Share → NamedShare
named_share names share = record {
  bookie = unwrap_or (slice_get names share.bookie) [];
  places = share.places;
  entries = share.entries;
}

-- how many bytes and entries a ledger has that stands so, if it is closed and that is told
abbrev pub size_at : LedgerState → Option ℕ → Option Size
size_at (state.Closed end) (Some bytes) = Some (record { bytes = bytes; entries = end })
size_at (state.Closed end) None = None
size_at state.Open bytes = None
size_at state.InRecovery bytes = None

abbrev pub size_of : LedgerLine → Option Size
size_of line = size_at line.state line.length

abbrev pub is_closed : LedgerState → Bool
is_closed (state.Closed end) = true
is_closed state.Open = false
is_closed state.InRecovery = false

-- this is what the plan for the ledger of this line comes to
pub record AreSums (line : LedgerLine) (p : Planned) (sums : PlannedLedger) : Type 0 where
  pub ledger : sums.ledger ≡ line.id
  pub size : sums.size ≡ size_of line
  pub shares : sums.shares.items ≡ map (named_share p.plan.state.names) (filter is_given p.summary.shares.items)
  pub left : sums.left.items ≡ p.left.items
  pub unreadable : sums.unreadable ≡ p.summary.unreadable
  pub is_full : sums.is_full ≡ p.summary.is_full
  pub fewer : sums.fewer ≡ length p.fewer.items
  pub empty : sums.is_closed_empty
      ≡ (not (is_closed line.state) && option_map_or is_closed_empty (ledger_at p.plan.state line.id) false)
  pub short : sums.is_closed_short
      ≡ (not (is_closed line.state) && option_map_or (is_closed_short p.plan.state) (ledger_at p.plan.state line.id) false)

-- the picture and the lines of the script, if they are kept
abbrev pub AreFiles : Bool → List ℕ → List (List ℕ) → Option LedgerFiles → Type 0
AreFiles true text lines (Some files) = (string_bytes files.picture ≡ text) × (lines_of files.script.items ≡ lines)
AreFiles false text lines None = Unit {0}
AreFiles keeps text lines other = ⊥

-- The plan is for a picture that shows the ledger as its line does, with the bookies that the line names and some others of the
-- first line; and this is what it comes to.
pub record IsLedgerPlan (head : Head) (asked : Asked) (line : LedgerLine) (planned : PlannedLedger) : Type 0 where
  pub part : Head
  pub is_part : IsPart head line part
  pub text : List ℕ
  pub cut : IsCut part (line ∷ []) asked.assume text
  pub plan : Planned
  pub is_plan : IsPicturePlan asked text plan
  pub sums : AreSums line plan planned
  pub files : AreFiles asked.keeps_files text plan.plan.lines planned.files
