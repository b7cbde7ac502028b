-- What the next failures cost.
use Rattle.std.specs.Prelude.{◌≡◌, ℕ, Bool, false, ◌==◌, if◌then◌else◌, List, [], filter, map}
use Rattle.reh_census.specs.Bookies.{Bookies}
use Rattle.reh_census.specs.Counting.{Counting}
use Rattle.reh_census.specs.declared.questions.Question.{Question}
use Rattle.reh_waves.specs.Fewest.{AreFewest, AreLeastSpare}
use Rattle.reh_waves.specs.Losses.{AreRanked, loss_on, pairs_of}
use Rattle.reh_waves.specs.declared.losses.Loss.{Loss}
use Rattle.reh_waves.specs.declared.losses.Lost.{Lost}
use Rattle.reh_waves.specs.declared.losses.Lost.TheVariants.{Bookie, Rack, Pair}
use Rattle.reh_waves.specs.declared.risk.Risk.{Risk}

-- each two bookies, if pairs are asked for
abbrev pub pairs_if : Bool → List ℕ → List Lost
pairs_if asked bookies = if asked then pairs_of bookies else []

-- by a count of entries and ledgers: the fewest copies, and the losses of each registered bookie, each rack and each two
-- bookies, worst first, and in these orders where they are alike
pub record IsRisk (counting : Counting) (bookies : Bookies) (question : Question) (not_judged : ℕ) (order racks : List ℕ) (with_pairs : Bool) (risk : Risk) : Type 0 where
  pub fewest : AreFewest counting.entries risk.fewest_copies
  pub fewest_tails : AreLeastSpare counting.tails bookies risk.fewest_in_tails
  pub each_bookie :
      AreRanked (map (loss_on counting bookies question not_judged) (map (λ b. Bookie b) (filter bookies.is_registered order)))
      risk.bookies.items
  pub each_rack : AreRanked (map (loss_on counting bookies question not_judged) (map (λ rack. Rack rack) racks)) risk.racks.items
  pub each_pair :
      AreRanked (map (loss_on counting bookies question not_judged) (pairs_if with_pairs (filter bookies.is_registered order)))
      risk.pairs.items
  pub unjudged : risk.not_judged ≡ not_judged

-- whether just this bookie is lost
abbrev pub is_bookie : ℕ → Lost → Bool
is_bookie b (Bookie lost) = lost == b
is_bookie b (Rack rack) = false
is_bookie b (Pair one other) = false

-- whether the loss is this bookie's
abbrev pub is_loss_of : ℕ → Loss → Bool
is_loss_of b loss = is_bookie b loss.lost
