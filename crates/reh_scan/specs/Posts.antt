-- When the sources that a content names can still be used.
use Rattle.std.specs.Prelude.{◌≡◌, ℕ, ◌%◌, ◌<◌, Bool, true, not, ◌&&◌, ◌==◌, List, length, Option, None, Some, slice_get}
use Rattle.std.specs.Prelude.{slice_index, nat_lt, if◌then◌else◌}
use Rattle.std.specs.Borrow.{Bor}
use Rattle.std.specs.List.{list_any}
use Rattle.reh_types.specs.declared.contents.Content.{Content}
use Rattle.reh_types.specs.declared.refusals.Refusal.{Refusal}
use Rattle.reh_types.specs.declared.refusals.Refusal.TheVariants.{NoSource, SourceGone}
use Rattle.reh_model.specs.Checks.{reason_if}
use Rattle.reh_model.specs.Metadata.{Fragment, Metadata, stripe_of}
use Rattle.reh_model.specs.Scan.{is_as_seen}
use Rattle.reh_model.specs.Striping.{write_set, striped_entries}
use Rattle.reh_stripe.specs.Words.{has_bit}
use Rattle.reh_scan.specs.Sources.{is_set_at}

-- the metadata is as the content saw it, and this is its fragment
pub record IsSeen (m : Metadata) (content : Content) (fragment : Fragment) : Type 0 where
  pub seen : is_as_seen m content ≡ true
  pub there : slice_get m.fragments content.aim.fragment ≡ Some fragment
  pub whole : length fragment.ensemble ≡ m.size
  pub index : content.aim.index < m.size
  pub entries : stripe_of m content.aim.fragment content.aim.index
      ≡ striped_entries content.first content.stop content.aim.index m.size m.write_quorum

-- whether the bookie stands at the index, and the row there has the entry
abbrev pub is_copy_at : List (Bor (List ℕ)) → Fragment → ℕ → ℕ → ℕ → Bool
is_copy_at rows fragment entry bookie index =
    (slice_index fragment.ensemble index == bookie) && is_set_at rows entry index

-- why an entry can't be copied from the source that is named for it, by the rows of the fragment's members
abbrev pub lost_copy : List (Bor (List ℕ)) → Metadata → Fragment → ℕ × Option ℕ → Option Refusal
lost_copy rows m fragment (entry, None) = Some (NoSource entry)
lost_copy rows m fragment (entry, Some bookie) =
    reason_if (not (list_any (is_copy_at rows fragment entry bookie) (write_set entry m.size m.write_quorum)))
    (SourceGone entry)

-- the same, by the bits of the bookies' words, of which each has those entries of one word that can be copied from it
abbrev pub lost_bit : List ℕ → ℕ × Option ℕ → Option Refusal
lost_bit copies (entry, None) = Some (NoSource entry)
lost_bit copies (entry, Some bookie) =
    reason_if (not (has_bit (slice_index copies bookie) (entry % 64))) (SourceGone entry)

-- the source that a number stands for: a bookie is its own number, none is one past a byte
abbrev pub source_of : ℕ → Option ℕ
source_of number = if nat_lt number 256 then Some number else None
