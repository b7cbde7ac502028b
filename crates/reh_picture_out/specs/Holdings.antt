-- What is added to the contents of a picture.
use Rattle.std.specs.Prelude.{◌≡◌, ℕ, ◌*◌, ◌<◌, ◌≤◌, All, Bool, true, ◌&&◌, ◌||◌, List, map}
use Rattle.serde_json.specs.Data.{Data, items_depth}
use Rattle.serde_json.specs.View.{items_of}
use Rattle.reh_types.specs.declared.limits.TheConstants.{ENTRIES_IN_WORD}
use Rattle.reh_model.specs.Contents.{Contents, has}
use Rattle.reh_model.specs.Cluster.{Ledger}
use Rattle.reh_picture.specs.Contents.{Holding, holding_in, held_in}
use Rattle.reh_picture_out.specs.Marks.{is_told}
use Rattle.reh_picture_out.specs.Written.{IsMarked, IsNeeded}

-- what these contents say is held, in a picture whose bookies have these names
abbrev pub held_by : List (List ℕ) → List Data → Contents
held_by names contents = held_in (map (holding_in names) contents)

-- whether the contents have one of the bookie for the ledger, in a picture whose bookies have these names
abbrev pub tells : List (List ℕ) → List Data → ℕ → ℕ → Bool
tells names contents b l = is_told (map (holding_in names) contents) b l

-- The contents say what they said, and what is held by the bookies and of the ledgers that pass the test. What is added
-- has the marks that stay; there is a content for what was told, and any other has an entry.
pub record Adds (names : List (List ℕ)) (held : Contents) (told : List Holding) (test : ℕ → ℕ → Bool) (old new : List Data)
    : Type 0 where
  pub more : (b l e : ℕ) → has (held_by names new) b l e ≡ (has (held_by names old) b l e || (test b l && has held b l e))
  pub stays : (b l : ℕ) → tells names old b l ≡ true → tells names new b l ≡ true
  pub again : (b l : ℕ) → test b l ≡ true → is_told told b l ≡ true → tells names new b l ≡ true
  pub needed : All (IsNeeded names told) old → All (IsNeeded names told) new
  pub marked : All (IsMarked told) old → All (IsMarked told) new
  pub flat : items_depth (items_of old) ≤ 3 → items_depth (items_of new) ≤ 3

-- whatever is held of the ledger lies within its words
abbrev pub LiesWithin : Contents → Ledger → Type 0
LiesWithin held g = (b e : ℕ) → has held b g.id e ≡ true → e < ENTRIES_IN_WORD * g.words
